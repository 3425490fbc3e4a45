-- Goals of `Worker::want`.
use Rattle.cb_worker.proofs.Staying.{after}
use Rattle.cb_worker.proofs.worker.Worker.want.Goals as goal

pub returns-in_err-wait_on-clause-still : goal.returns-in_err-wait_on-clause-still
returns-in_err-wait_on-clause-still g c = after c.args.self.now c.begin_want-first.new.self c.wait_on.new.self c.begin_want-first.ensures.still c.wait_on.ensures.still

pub returns-in-There-clause-still : goal.returns-in-There-clause-still
returns-in-There-clause-still g c = after c.args.self.now c.begin_want-first.new.self c.wait_on.new.self c.begin_want-first.ensures.still c.wait_on.ensures.still

pub returns-in-Ended-clause-still : goal.returns-in-Ended-clause-still
returns-in-Ended-clause-still g c = after c.args.self.now c.begin_want-first.new.self c.wait_on.new.self c.begin_want-first.ensures.still c.wait_on.ensures.still
