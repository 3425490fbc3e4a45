-- What holds at each turn of the loops of `Commits::changed_pages`.
use Rattle.std.proofs.Common.{◌≡◌, ◌-◌, ◌≤◌, length}
use Rattle.cb_commit.specs.Batches.{changed_below}
use Rattle.cb_commit.proofs.commits.Commits.changed_pages.Given as goal

-- the changed pages below are taken
abbrev pub invariant-loop-page : goal.invariant-loop-page
invariant-loop-page l = record {
  taken : l.pages.items ≡ changed_below l.self.flushed l.self.store.pages l.from;
  within : l.from ≤ length l.self.store.pages;
}

abbrev pub decreases-loop-page : goal.decreases-loop-page
decreases-loop-page l = length l.self.store.pages - l.from
