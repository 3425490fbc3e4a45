-- Goals of `Hand::receive`.
use Rattle.std.proofs.Common.{rules}
use Rattle.cb_hands.proofs.hand.Hand.receive.Goals as goal

pub returns : goal.returns
returns c = search rules
