-- Goals of `Worker::enter_again_at`.
use Rattle.std.proofs.Common.{◌≡◌, Result, Ok, rules, subst}
use Rattle.std.specs.Prelude.{⊤}
use Rattle.cb_worker.proofs.Admitting.{asked_again, by_asking_again}
use Rattle.cb_worker.specs.Serving.{ServesAndTells}
use Rattle.cb_worker.specs.declared.worker_fault.WorkerFault.{WorkerFault}
use Rattle.cb_worker.proofs.worker.Worker.enter_again_at.Goals as goal

pub returns-in-Err-clause-enters : goal.returns-in-Err-clause-enters
returns-in-Err-clause-enters g c = (
  c.serve_at.new.station,
  subst (λ (r : Result ⊤ WorkerFault). ServesAndTells c.args.self.now c.args.station.now r c.serve_at.new.self c.serve_at.new.station) c.in-Err.is c.serve_at.ensures.serves,
  c.end_try_at.ensures,
)

pub returns-clause-enters : goal.returns-clause-enters
returns-clause-enters g c =
    let own : c.client-client.result ≡ c.args.self.now.hand.client = search rules in
    asked_again c.args.self.now c.serve_at.new.self c.args.station.now c.serve_at.new.station c.ask_again_at.new.station c.client-client.result c.args.ended c.ask_again_at.result own c.in_default.ensures.serves c.ask_again_at.ensures

pub returns-clause-let_in : goal.returns-clause-let_in
returns-clause-let_in g c =
    let own : c.client-client.result ≡ c.args.self.now.hand.client = search rules in
    by_asking_again c.args.self.now c.serve_at.new.self c.args.station.now c.ask_again_at.new.station c.serve_at.ensures.sound c.args.ended (Ok c.ask_again_at.result)
    (asked_again c.args.self.now c.serve_at.new.self c.args.station.now c.serve_at.new.station c.ask_again_at.new.station c.client-client.result c.args.ended c.ask_again_at.result own c.in_default.ensures.serves c.ask_again_at.ensures)
