-- What holds at each turn of the loops of `first_unfixed`.
use Rattle.std.proofs.Common.{◌≡◌, drop, reverse}
use Rattle.cb_twoq.specs.Queues.{oldest_unfixed}
use Rattle.cb_twoq.proofs.twoq.steps.first_unfixed.Given as goal

abbrev pub invariant-loop-i : goal.invariant-loop-i
invariant-loop-i l = oldest_unfixed l.fixed (reverse (drop l.i l.pages)) ≡ oldest_unfixed l.fixed (reverse l.pages)
