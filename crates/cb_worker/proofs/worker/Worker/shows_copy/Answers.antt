-- Goals of `Worker::shows_copy`.
use Rattle.std.proofs.Common.{rules}
use Rattle.cb_worker.proofs.worker.Worker.shows_copy.Goals as goal

pub returns-then-eq : goal.returns-then-eq
returns-then-eq g c = search rules
