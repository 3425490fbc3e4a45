-- Goals of `commit_applied_where_it_may_be`.
use Rattle.cb_protocol.proofs.CommitsApplied.{applied_where_it_may}
use Rattle.cb_protocol.proofs.ServedSteps.{no_other_applies}
use Rattle.cb_protocol.proofs.server.commit_applied_where_it_may_be.Goals as goal

pub returns : goal.returns
returns c = record { exact = applied_where_it_may; no_other = no_other_applies }
