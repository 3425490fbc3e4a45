-- Goals of `Hand::end_permissions`.
use Rattle.std.proofs.Common.{rules}
use Rattle.cb_hands.proofs.hand.Hand.end_permissions.Goals as goal

pub returns : goal.returns
returns c = search rules
