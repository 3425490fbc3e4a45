-- What holds at each turn of the loops of `unmark`.
use Rattle.std.proofs.Common.{◌≡◌, ℕ, ◌+◌, ◌-◌, ◌<◌, ◌≤◌, ◌&&◌, nat_lt, length}
use Rattle.cb_page.specs.Flags.{has}
use Rattle.cb_commit.specs.Stores.{version_at}
use Rattle.cb_commit.proofs.commits.unmark.Given as goal

-- the pages below are settled, the others as they were
abbrev pub invariant-loop-page : goal.invariant-loop-page
invariant-loop-page l = record {
  size : length l.changed ≡ length l.initial.changed;
  below : (p : ℕ) → p < l.from → has l.changed p ≡ (has l.initial.changed p && nat_lt l.number (version_at l.store p));
  above : (p : ℕ) → l.from ≤ p → has l.changed p ≡ has l.initial.changed p;
}

abbrev pub decreases-loop-page : goal.decreases-loop-page
decreases-loop-page l = length l.changed + 1 - l.from
