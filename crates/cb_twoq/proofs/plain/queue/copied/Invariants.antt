-- What holds at each turn of the loops of `copied`.
use Rattle.std.proofs.Common.{◌≡◌, ◌≤◌, length, take}
use Rattle.std.specs.Vec.{vec_capacity}
use Rattle.cb_twoq.proofs.plain.queue.copied.Given as goal

abbrev pub invariant-loop-i : goal.invariant-loop-i
invariant-loop-i l = (l.copy.items ≡ take l.i l.pages.items) × (length l.pages.items ≤ vec_capacity l.copy)
