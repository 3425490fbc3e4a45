-- Goals of `Worker::welcomed`.
use Rattle.cb_worker.proofs.Staying.{after}
use Rattle.cb_worker.proofs.Steps.{only_serving}
use Rattle.cb_worker.proofs.worker.Worker.welcomed.Goals as goal

pub returns-in-Err-clause-why : goal.returns-in-Err-clause-why
returns-in-Err-clause-why g c = only_serving _ c.in-Err.fault c.in-Err.ensures.refused

pub returns-in-Ok-clause-still : goal.returns-in-Ok-clause-still
returns-in-Ok-clause-still g c = after c.args.self c.go_on-first.new.self c.wait_on.new.self c.go_on-first.ensures.still c.wait_on.ensures.still

pub returns-in-Err-clause-refused : goal.returns-in-Err-clause-refused
returns-in-Err-clause-refused g c = after c.args.self c.go_on-first.new.self c.wait_on.new.self c.go_on-first.ensures.still c.wait_on.ensures.still
