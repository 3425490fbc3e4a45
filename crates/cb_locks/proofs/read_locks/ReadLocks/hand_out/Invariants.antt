-- What holds at each turn of the loops of `ReadLocks::hand_out`.
use Rattle.std.proofs.Common.{◌≡◌, ◌-◌, ◌≤◌, length}
use Rattle.std.specs.Vec.{vec_capacity}
use Rattle.cb_locks.specs.Locks.{owed_below}
use Rattle.cb_locks.proofs.read_locks.ReadLocks.hand_out.Given as goal

-- the pages before this place are handed out
abbrev pub invariant-loop-page : goal.invariant-loop-page
invariant-loop-page l = record {
  handed : l.handed.items ≡ owed_below l.self l.from;
  within : l.from ≤ length l.self.dues;
  capacity : vec_capacity l.handed ≡ vec_capacity l.initial.handed;
}

abbrev pub decreases-loop-page : goal.decreases-loop-page
decreases-loop-page l = length l.self.dues - l.from
