-- Goals of `read_bytes`.
use Rattle.std.proofs.Common.{◌≡◌, ◌<◌, ◌+◌, Ok, Err, refl, sym, subst, ◌∙◌, ℕ, rules, arith}
use Rattle.cb_shelf.specs.Statements.{part_count}
use Rattle.cb_shelf.specs.Asking.{RepliesElse}
use Rattle.cb_shelf.specs.Inside.{IsNever}
use Rattle.cb_shelf.proofs.Stepping.{stays_any, asks_then}
use Rattle.cb_shelf.proofs.Asking.{tells_nothing, tells_then, tells_stops, tells_judged}
use Rattle.cb_shelf.specs.Reading.{part_of, IsBytes, HasParts}
use Rattle.cb_shelf.proofs.Answering.{not_refused, wanting, within_page, parts_more, all_parts}
use Rattle.cb_shelf.proofs.reading.read_bytes.Goals as goal

pub returns-in_err-bytes-clause-tells : goal.returns-in_err-bytes-clause-tells
returns-in_err-bytes-clause-tells g c = wanting g.S.Store _ _ _ c.from_residual.result c.from_residual.ensures.1

pub loop-place-init : goal.loop-place-init
loop-place-init g c = record {
  same_reference = refl;
  inside = stays_any g.S.Store _ (Ok tt);
  full = search rules;
  tells = tells_nothing g.S.Store _ _ _ IsNever (Ok tt) refl (λ db at low. absurd (omega arith)) (λ db wrong. not_refused wrong);
}

pub loop-place-preserved : goal.loop-place-preserved
loop-place-preserved g c =
    let tables = c.args.tables in
    let place = c.loop-place.place in
    let low : place < part_count c.args.size = search rules in
    let inner = within_page c.args.size place low in
    record {
      same_reference = search rules;
      inside = asks_then g.S.Store _ _ _ tt (Ok tt) c.loop-place.invariant.inside c.in_ok-read_part.ensures.inside;
      full = omega (arith, c.in_ok-read_part.ensures.grown, c.part_length-count.ensures, inner);
      tells = tells_then g.S.Store _ _ _ _ _ _ _ _ IsNever tt tt (Ok tt)
          (λ db before next. subst (HasParts tables db c.args.page (place + 1)) (sym next.1) (parts_more tables db c.args.page place c.args.size _ next.0 low c.loop-place.invariant.full (next.2 ∙ c.part_length-count.ensures) before next.3))
          (λ db before next wrong. not_refused wrong) c.loop-place.invariant.tells c.in_ok-read_part.ensures.tells c.in_ok-read_part.ensures.inside.survives;
    }

pub returns-in_err-read_part-clause-tells : goal.returns-in_err-read_part-clause-tells
returns-in_err-read_part-clause-tells g c =
    let place = c.loop-place.place in
    let low : place < part_count c.args.size = search rules in
    let same : c.from_residual-in_err-read_part.result ≡ Err c.in_err-read_part.field-0.0 = search rules in
    tells_stops g.S.Store _ _ _ _ _ _ _ _ _ _ _ _ same
    (λ db before h. (place, low, subst (λ (count : ℕ). RepliesElse db (part_of c.args.tables c.args.page place) (IsBytes count)) c.part_length-count.ensures h))
    c.loop-place.invariant.tells c.in_err-read_part.ensures.tells c.in_err-read_part.ensures.inside.survives

pub returns-clause-size : goal.returns-clause-size
returns-clause-size g c =
    let end : c.loop-place.place ≡ part_count c.args.size = search rules in
    c.loop-place.invariant.full ∙ rw end (all_parts c.args.size)

pub returns-clause-tells : goal.returns-clause-tells
returns-clause-tells g c =
    let end : c.loop-place.place ≡ part_count c.args.size = search rules in
    tells_judged g.S.Store _ _ _ _ _ _ tt (Ok c.loop-place.bytes) (λ db known. subst (λ (count : ℕ). HasParts c.args.tables db c.args.page count c.loop-place.bytes.items) end known) (λ db known wrong. not_refused wrong) c.loop-place.invariant.tells
