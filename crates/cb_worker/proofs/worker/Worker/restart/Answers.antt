-- Goals of `Worker::restart`.
use Rattle.std.proofs.Common.{Ok, rules, subst}
use Rattle.cb_worker.proofs.Entering.{restarted_err, restarted_ok}
use Rattle.cb_worker.specs.Entering.{RestartsSome}
use Rattle.cb_worker.specs.Workers.{WorkerState}
use Rattle.cb_worker.proofs.worker.Worker.restart.Goals as goal

pub returns-in-Ok-restart-clause-welcomed : goal.returns-in-Ok-restart-clause-welcomed
returns-in-Ok-restart-clause-welcomed g c = search rules

pub returns-in-Ok-restart-clause-restarts : goal.returns-in-Ok-restart-clause-restarts
returns-in-Ok-restart-clause-restarts g c =
    let began : RestartsSome c.args.self.hand c.args.incarnation (Ok c.in-Ok-restart.hand) = subst (λ (w : WorkerState). RestartsSome w.hand c.args.incarnation (Ok c.in-Ok-restart.hand)) c.self.view_is c.in-Ok-restart.ensures in
    restarted_ok c.args.self c.args.incarnation c.in-Ok-restart.hand c.in-Ok.renewed c.new.result began c.in-Ok.ensures.made c.new.ensures c.welcomed.result c.welcomed.ensures.still

pub returns-in-Ok-restart-clause-refused : goal.returns-in-Ok-restart-clause-refused
returns-in-Ok-restart-clause-refused g c =
    let began : RestartsSome c.args.self.hand c.args.incarnation (Ok c.in-Ok-restart.hand) = subst (λ (w : WorkerState). RestartsSome w.hand c.args.incarnation (Ok c.in-Ok-restart.hand)) c.self.view_is c.in-Ok-restart.ensures in
    restarted_err c.args.self c.args.incarnation c.in-Ok-restart.hand c.in-Ok.renewed c.new.result began c.in-Ok.ensures.made c.new.ensures c.welcomed.result c.welcomed.ensures.refused
