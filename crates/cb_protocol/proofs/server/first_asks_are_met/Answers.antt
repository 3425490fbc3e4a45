-- Goals of `first_asks_are_met`.
use Rattle.cb_protocol.proofs.NoneWaits.{none_waits}
use Rattle.cb_protocol.proofs.ServedSteps.{first_asks_met}
use Rattle.cb_protocol.proofs.server.first_asks_are_met.Goals as goal

pub returns : goal.returns
returns c = record { in_order = first_asks_met; in_time = none_waits }
