-- Goals of `Worker::write`.
use Rattle.std.proofs.Common.{rules}
use Rattle.cb_worker.proofs.worker.Worker.write.Goals as goal

pub returns-clause-writes : goal.returns-clause-writes
returns-clause-writes g c = search rules
