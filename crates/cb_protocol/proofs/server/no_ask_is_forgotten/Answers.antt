-- Goals of `no_ask_is_forgotten`.
use Rattle.cb_protocol.proofs.AsksAnswered.{asks_answered}
use Rattle.cb_protocol.proofs.server.no_ask_is_forgotten.Goals as goal

pub returns : goal.returns
returns c = record { law = asks_answered }
