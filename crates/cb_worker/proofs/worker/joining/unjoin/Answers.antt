-- Goals of `unjoin`.
use Rattle.cb_worker.proofs.Leaving.{tries}
use Rattle.cb_worker.proofs.worker.joining.unjoin.Goals as goal

pub returns-in-Err : goal.returns-in-Err
returns-in-Err g c = tries c.args.hand c.leave.result c.leave.ensures.left c.leave.ensures.refused

pub returns-in_default : goal.returns-in_default
returns-in_default g c = tries c.args.hand c.leave.result c.leave.ensures.left c.leave.ensures.refused
