-- Goals of `Worker::go_on`.
use Rattle.cb_worker.proofs.Staying.{after}
use Rattle.cb_worker.proofs.worker.Worker.go_on.Goals as goal

pub returns-clause-still : goal.returns-clause-still
returns-clause-still g c = after c.args.self.now c.serve_knowing.new.self c.come.new.self c.serve_knowing.ensures.still c.come.ensures.still
