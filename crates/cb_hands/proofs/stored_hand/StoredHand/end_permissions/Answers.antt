-- Goals of `StoredHand::end_permissions`.
use Rattle.std.proofs.Common.{rules}
use Rattle.cb_hands.proofs.stored_hand.StoredHand.end_permissions.Goals as goal

pub returns : goal.returns
returns c = search rules
