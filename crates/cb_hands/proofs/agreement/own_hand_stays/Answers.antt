-- Goals of `own_hand_stays`.
use Rattle.cb_hands.proofs.OwnHand.{own_commit, own_message}
use Rattle.cb_hands.proofs.agreement.own_hand_stays.Goals as goal

pub returns : goal.returns
returns c = record { message = own_message; commit = own_commit }
