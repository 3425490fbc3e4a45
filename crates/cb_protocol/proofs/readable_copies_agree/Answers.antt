-- Goals of `readable_copies_agree`.
use Rattle.cb_protocol.proofs.Laws.{copies_agree}
use Rattle.cb_protocol.proofs.readable_copies_agree.Goals as goal

pub returns : goal.returns
returns c = record { law = copies_agree }
