-- Goals of `committed_transactions_are_serial`.
use Rattle.cb_protocol.proofs.Laws.{committed_serial}
use Rattle.cb_protocol.proofs.committed_transactions_are_serial.Goals as goal

pub returns : goal.returns
returns c = record { law = committed_serial }
