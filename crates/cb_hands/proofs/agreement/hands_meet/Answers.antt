-- Goals of `hands_meet`.
use Rattle.cb_hands.proofs.Agreeing.{hands_meet}
use Rattle.cb_hands.proofs.agreement.hands_meet.Goals as goal

pub returns : goal.returns
returns c = record { law = hands_meet }
