-- Goals of `put_pages`.
use Rattle.std.proofs.Common.{◌≡◌, ◌+◌, ◌∙◌, refl, [], ◌∷◌, ◌++◌, take, Ok, rules}
use Rattle.std.proofs.lemmas.List.{take_more}
use Rattle.cb_shelf.specs.Statements.{page_statements, pages_statements, statements_of}
use Rattle.cb_shelf.specs.declared.rows.PageRows.TheVariants.{Present}
use Rattle.cb_shelf.proofs.Stepping.{makes_next, flat_more}
use Rattle.cb_shelf.proofs.rows.put_pages.Goals as goal

pub loop-page-preserved : goal.loop-page-preserved
loop-page-preserved g c =
    let pages = c.args.pages.now in
    let page = c.page-item.result in
    let more : take (c.loop-page.page-index + 1) pages ≡ take c.loop-page.page-index pages ++ page ∷ [] = take_more pages c.loop-page.page-index page c.loop-page-test.true ∙ rw (← c.page-item.is) refl in
    let all : pages_statements (take (c.loop-page.page-index + 1) pages) ≡ pages_statements (take c.loop-page.page-index pages) ++ page_statements Present page.page page.version c.as_slice.result.now =
    rw c.as_slice.ensures (flat_more statements_of _ _ page more) in
    record {
      same_reference = search rules;
      inside = makes_next g.S.Store _ (page_statements Present page.page page.version c.as_slice.result.now) _ _ _ _ tt (Ok tt) all c.loop-page.invariant.inside c.in_ok-put_page.ensures.inside;
    }
