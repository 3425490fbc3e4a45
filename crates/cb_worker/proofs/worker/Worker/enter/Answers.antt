-- Goals of `Worker::enter`.
use Rattle.cb_worker.proofs.Staying.{after}
use Rattle.cb_worker.proofs.worker.Worker.enter.Goals as goal

pub returns-clause-still : goal.returns-clause-still
returns-clause-still g c = after c.args.self.now c.enter_at-first.new.self c.wait_to_enter.new.self c.enter_at-first.ensures.still c.wait_to_enter.ensures.still
