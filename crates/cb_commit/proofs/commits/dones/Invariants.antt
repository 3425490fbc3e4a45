-- What holds at each turn of the loops of `dones`.
use Rattle.std.proofs.Common.{◌≡◌, length, take, map}
use Rattle.std.specs.Vec.{vec_capacity, vec_len}
use Rattle.cb_commit.specs.History.{done_of}
use Rattle.cb_commit.proofs.commits.dones.Given as goal

abbrev pub invariant-loop-commit : goal.invariant-loop-commit
invariant-loop-commit l = (l.frames.items ≡ map done_of (take l.commit-index l.commits))
    × (vec_len l.frames ≡ l.commit-index)
    × (vec_capacity l.frames ≡ length l.commits)
