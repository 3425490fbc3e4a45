-- Goals of `callback_answered_at_once`.
use Rattle.cb_protocol.proofs.DuePages.{callback_answered_at_once}
use Rattle.cb_protocol.proofs.alone.callback_answered_at_once.Goals as goal

pub returns : goal.returns
returns c = record { law = callback_answered_at_once }
