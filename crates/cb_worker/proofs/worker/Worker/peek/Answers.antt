-- Goals of `Worker::peek`.
use Rattle.std.proofs.Common.{rules}
use Rattle.cb_worker.proofs.worker.Worker.peek.Goals as goal

pub returns : goal.returns
returns g c = search rules
