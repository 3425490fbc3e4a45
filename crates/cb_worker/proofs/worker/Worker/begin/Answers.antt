-- Goals of `Worker::begin`.
use Rattle.std.proofs.Common.{rules}
use Rattle.cb_worker.proofs.worker.Worker.begin.Goals as goal

pub returns-clause-rest : goal.returns-clause-rest
returns-clause-rest g c = search rules
