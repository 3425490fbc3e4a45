-- Goals of `put_store`.
use Rattle.std.proofs.Common.{◌≡◌, ◌+◌, Ok, refl, ◌++◌, rules}
use Rattle.cb_shelf.specs.Statements.{page_statements}
use Rattle.cb_shelf.specs.declared.rows.PageRows.TheVariants.{Absent}
use Rattle.cb_shelf.specs.Opening.{first_pages, stored_statements}
use Rattle.cb_shelf.proofs.Stepping.{stays, makes_next, flat_more, range_more}
use Rattle.cb_shelf.proofs.opening.put_store.Goals as goal

pub loop-place-init : goal.loop-place-init
loop-place-init g c = record { same_reference = refl; inside = stays g.S.Store _ tt }

pub loop-place-preserved : goal.loop-place-preserved
loop-place-preserved g c =
    let store = c.args.store.now in
    let place = c.loop-place.place in
    let all : first_pages store (place + 1) ≡ first_pages store place ++ page_statements Absent c.new-page.result c.version.result c.bytes.result.now =
    rw (c.version.ensures.value, c.bytes.ensures.value, c.new-page.ensures) (flat_more (stored_statements store) _ _ place (range_more place)) in
    record {
      same_reference = search rules;
      inside = makes_next g.S.Store _ (page_statements Absent c.new-page.result c.version.result c.bytes.result.now) _ _ _ _ tt (Ok tt) all c.loop-place.invariant.inside c.in_ok-put_page.ensures.inside;
    }
