-- Goals of `Hand::renew`.
use Rattle.std.proofs.Common.{rules}
use Rattle.cb_hands.proofs.hand.Hand.renew.Goals as goal

pub returns : goal.returns
returns c = search rules
