-- Goals of `Worker::take_leave`.
use Rattle.std.proofs.Common.{rules}
use Rattle.cb_worker.proofs.worker.Worker.take_leave.Goals as goal

pub returns-in-Err-clause-refused : goal.returns-in-Err-clause-refused
returns-in-Err-clause-refused g c = search rules
