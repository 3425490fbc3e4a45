-- What holds at each turn of the loops of `copied`.
use Rattle.std.proofs.Common.{◌≡◌, ◌++◌, length}
use Rattle.std.specs.Map.{keys_of}
use Rattle.cb_twoq.proofs.twoq.steps.copied.Given as goal

abbrev pub invariant-loop-page : goal.invariant-loop-page
invariant-loop-page l = l.copy.items ++ keys_of l.rest ≡ keys_of l.cache.entries

abbrev pub decreases-loop-page : goal.decreases-loop-page
decreases-loop-page l = length l.rest
