-- Goals of `Hand::shows`.
use Rattle.std.proofs.Common.{rules}
use Rattle.cb_hands.proofs.hand.Hand.shows.Goals as goal

pub returns-in-Some : goal.returns-in-Some
returns-in-Some c = search rules
