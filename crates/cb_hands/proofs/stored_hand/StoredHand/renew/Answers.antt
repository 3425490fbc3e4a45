-- Goals of `StoredHand::renew`.
use Rattle.std.proofs.Common.{rules}
use Rattle.cb_hands.proofs.stored_hand.StoredHand.renew.Goals as goal

pub returns : goal.returns
returns c = search rules
