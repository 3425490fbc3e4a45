-- Goals of `StoredHand::restamp`.
use Rattle.std.proofs.Common.{rules}
use Rattle.cb_hands.proofs.stored_hand.StoredHand.restamp.Goals as goal

pub returns-in-Some : goal.returns-in-Some
returns-in-Some c = search rules
