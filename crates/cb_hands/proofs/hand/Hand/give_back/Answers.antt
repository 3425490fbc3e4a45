-- Goals of `Hand::give_back`.
use Rattle.std.proofs.Common.{rules}
use Rattle.cb_hands.proofs.hand.Hand.give_back.Goals as goal

pub returns : goal.returns
returns c = search rules
