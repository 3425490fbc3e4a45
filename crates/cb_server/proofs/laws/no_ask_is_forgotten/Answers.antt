-- Goals of `no_ask_is_forgotten`.
use Rattle.cb_server.proofs.LawsKept.{none_forgotten}
use Rattle.cb_server.proofs.laws.no_ask_is_forgotten.Goals as goal

pub returns : goal.returns
returns c = record { law = none_forgotten }
