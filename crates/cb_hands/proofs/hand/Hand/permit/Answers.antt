-- Goals of `Hand::permit`.
use Rattle.std.proofs.Common.{rules}
use Rattle.cb_hands.proofs.hand.Hand.permit.Goals as goal

pub returns : goal.returns
returns c = search rules
