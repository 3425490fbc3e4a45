-- Goals of `downgrade_answered_at_once`.
use Rattle.cb_protocol.proofs.DuePages.{downgrade_answered_at_once}
use Rattle.cb_protocol.proofs.alone.downgrade_answered_at_once.Goals as goal

pub returns : goal.returns
returns c = record { law = downgrade_answered_at_once }
