-- Goals of `StoredHand::give_back`.
use Rattle.std.proofs.Common.{rules}
use Rattle.cb_hands.proofs.stored_hand.StoredHand.give_back.Goals as goal

pub returns : goal.returns
returns c = search rules
