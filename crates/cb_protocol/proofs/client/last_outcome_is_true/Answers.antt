-- Goals of `last_outcome_is_true`.
use Rattle.cb_protocol.proofs.PagesStay.{last_outcome_is_true}
use Rattle.cb_protocol.proofs.client.last_outcome_is_true.Goals as goal

pub returns : goal.returns
returns c = record { law = last_outcome_is_true }
