-- What holds at each turn of the loops of `last_unfixed`.
use Rattle.std.proofs.Common.{◌≡◌, length}
use Rattle.std.specs.Map.{keys_of}
use Rattle.cb_twoq.specs.Queues.{oldest_unfixed}
use Rattle.cb_twoq.proofs.twoq.steps.last_unfixed.Given as goal

abbrev pub invariant-loop-page : goal.invariant-loop-page
invariant-loop-page l = oldest_unfixed l.fixed (keys_of l.rest) ≡ oldest_unfixed l.fixed (keys_of l.cache.entries)

abbrev pub decreases-loop-page : goal.decreases-loop-page
decreases-loop-page l = length l.rest
