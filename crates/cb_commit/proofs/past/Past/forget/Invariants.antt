-- What holds at each turn of the loop of `Past::forget`.
use Rattle.std.proofs.Common.{◌≡◌, ◌+◌}
use Rattle.cb_commit.proofs.past.Past.forget.Given as goal

-- as many as turns are forgotten
abbrev pub invariant-loop : goal.invariant-loop
invariant-loop g l = record {
  items : l.self.items ≡ l.initial.self.items;
  so_far : l.self.forgotten ≡ l.initial.self.forgotten + l.counter;
}
