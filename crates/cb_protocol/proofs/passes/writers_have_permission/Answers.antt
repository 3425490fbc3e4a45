-- Goals of `writers_have_permission`.
use Rattle.cb_protocol.proofs.Backed.{writers_have_permission}
use Rattle.cb_protocol.proofs.passes.writers_have_permission.Goals as goal

pub returns : goal.returns
returns c = record { law = writers_have_permission }
