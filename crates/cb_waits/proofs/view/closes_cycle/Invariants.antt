-- What holds at each turn of the loops of `closes_cycle`.
use Rattle.std.proofs.Common.{◌≡◌, ℕ, true}
use Rattle.cb_page.specs.Clients.{has, left_out}
use Rattle.cb_waits.specs.Graph.{Path, Waits, waits}
use Rattle.cb_waits.proofs.view.closes_cycle.Given as goal

abbrev pub invariant-loop-next : goal.invariant-loop-next
invariant-loop-next l = record {
  paths : (other : ℕ) → has l.reached other ≡ true → Path (Waits l.view) l.client other;
  direct : (other : ℕ) → waits l.view l.client other ≡ true → has l.reached other ≡ true;
  closed : (next other : ℕ) → has l.followed next ≡ true → waits l.view next other ≡ true → has l.reached other ≡ true;
}

abbrev pub decreases-loop-next : goal.decreases-loop-next
decreases-loop-next l = left_out l.followed
