-- Goals of `own_stays`.
use Rattle.cb_hands.proofs.Own.{own_stays}
use Rattle.cb_hands.proofs.agreement.own_stays.Goals as goal

pub returns : goal.returns
returns c = record { law = own_stays }
