-- What holds at each turn of the loops of `oldest_unfixed`.
use Rattle.std.proofs.Common.{◌≡◌, ◌≤◌, length, take}
use Rattle.cb_twoq.specs.Queues.{oldest_unfixed}
use Rattle.cb_twoq.proofs.plain.queue.oldest_unfixed.Given as goal

abbrev pub invariant-loop-i : goal.invariant-loop-i
invariant-loop-i l = (l.i ≤ length l.pages.items) × (oldest_unfixed l.fixed (take l.i l.pages.items) ≡ oldest_unfixed l.fixed l.pages.items)

abbrev pub decreases-loop-i : goal.decreases-loop-i
decreases-loop-i l = l.i
