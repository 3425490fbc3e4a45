-- What holds at each turn of the loops of `no_grants`.
use Rattle.std.proofs.Common.{◌≡◌, replicate, None}
use Rattle.cb_hands.proofs.grants.no_grants.Given as goal

abbrev pub invariant-loop-made : goal.invariant-loop-made
invariant-loop-made l = l.grants.items ≡ replicate l._made None
