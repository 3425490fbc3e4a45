-- What holds at each turn of the loops of `spend_all`.
use Rattle.std.proofs.Common.{vec_len}
use Rattle.cb_hands.proofs.grants.spend_all.Given as goal

abbrev pub decreases-loop-grant : goal.decreases-loop-grant
decreases-loop-grant l = vec_len l.grants
