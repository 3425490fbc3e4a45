-- Goals of `dropped_hold_nothing`.
use Rattle.cb_protocol.proofs.Permissions.{dropped_hold_nothing}
use Rattle.cb_protocol.proofs.marks.dropped_hold_nothing.Goals as goal

pub returns : goal.returns
returns c = record { law = dropped_hold_nothing }
