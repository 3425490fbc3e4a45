-- What holds at each turn of the loops of `Writes::copy_of`.
use Rattle.std.proofs.Common.{◌≡◌, take}
use Rattle.cb_frame.proofs.writes.Writes.copy_of.Given as goal

abbrev pub invariant-loop-write : goal.invariant-loop-write
invariant-loop-write l = l.items.items ≡ take l.write-index l.writes
