-- Goals of `again`.
use Rattle.cb_protocol.proofs.Cases.{fault_of_again}
use Rattle.cb_schedule.proofs.calling.again.Goals as goal

pub returns-in-Err-clause-fails : goal.returns-in-Err-clause-fails
returns-in-Err-clause-fails g c = λ operations. fault_of_again _ _
