-- Goals of `done_comes_from_disk_alone`.
use Rattle.cb_protocol.proofs.ServedSteps.{done_from_disk}
use Rattle.cb_protocol.proofs.server.done_comes_from_disk_alone.Goals as goal

pub returns : goal.returns
returns c = record { law = done_from_disk }
