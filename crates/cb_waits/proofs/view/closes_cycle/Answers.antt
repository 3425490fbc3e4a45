-- Goals of `closes_cycle`.
use Rattle.std.proofs.Common.{◌≡◌, ℕ, Bool, true, false, arith, refl, sym, ◌∙◌, inl, inr}
use Rattle.std.proofs.lemmas.Bool.{cases_eq}
use Rattle.cb_page.specs.Clients.{has}
use Rattle.cb_waits.specs.Graph.{Path, OneEdge, Waits}
use Rattle.cb_waits.proofs.Paths.{along, closed_holds}
use Rattle.cb_waits.proofs.view.closes_cycle.Goals as goal

pub loop-next-init : goal.loop-next-init
loop-next-init c = record {
  paths = λ other is. OneEdge (sym (c.row-reached.ensures other) ∙ is);
  direct = λ other edge. c.row-reached.ensures other ∙ edge;
  closed = λ next other is edge. grind (arith, c.empty-followed.ensures next);
}

pub loop-next-preserved : goal.loop-next-preserved
loop-next-preserved c = record {
  paths = λ other is. by_part other (has c.loop-next.reached other) refl is;
  direct = λ other edge. grind (arith, c.union-reached.ensures other, c.loop-next.invariant.direct other);
  closed = λ next other is edge. elim (cases_eq next c.in-Some.next) [
    | inl here ↦ grind (arith, c.union-reached.ensures other, c.row.ensures other)
    | inr apart ↦ grind (arith, c.union-reached.ensures other, c.insert.ensures.members next, c.loop-next.invariant.closed next other)
  ];
}
  where
    next_reached : has c.loop-next.reached c.in-Some.next ≡ true
    next_reached = grind (arith, c.in-Some.ensures, c.difference.ensures c.in-Some.next)

    by_part : (other : ℕ) → (before : Bool) → has c.loop-next.reached other ≡ before → has c.union-reached.result other ≡ true → Path (Waits c.args.view.now) c.args.client other
    by_part other true was is = c.loop-next.invariant.paths other was
    by_part other false was is = along (c.loop-next.invariant.paths c.in-Some.next next_reached) (grind (arith, c.union-reached.ensures other, c.row.ensures other))

pub returns : goal.returns
returns c = (
  (λ is. c.loop-next.invariant.paths c.args.client (grind (arith, c.contains.ensures))),
  (λ cycle. let held : has c.loop-next.reached c.args.client ≡ true = closed_holds c.loop-next.reached all_followed c.args.client c.args.client c.loop-next.invariant.direct cycle in grind (arith, c.contains.ensures)),
)
  where
    all_followed : (client other : ℕ) → has c.loop-next.reached client ≡ true → Waits c.args.view.now client other → has c.loop-next.reached other ≡ true
    all_followed client other is edge = c.loop-next.invariant.closed client other (grind (arith, c.difference.ensures client, c.in_default.ensures client)) edge
