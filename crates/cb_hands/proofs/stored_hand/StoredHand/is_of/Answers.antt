-- Goals of `StoredHand::is_of`.
use Rattle.std.proofs.Common.{rules}
use Rattle.cb_hands.proofs.stored_hand.StoredHand.is_of.Goals as goal

pub returns-then-same_pages : goal.returns-then-same_pages
returns-then-same_pages c = search rules
