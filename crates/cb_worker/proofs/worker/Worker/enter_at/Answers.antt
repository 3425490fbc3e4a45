-- Goals of `Worker::enter_at`.
use Rattle.std.proofs.Common.{◌≡◌, ℕ, Result, Ok, rules, subst}
use Rattle.std.specs.Prelude.{⊤}
use Rattle.cb_worker.proofs.Admitting.{asked, by_asking}
use Rattle.cb_worker.specs.Admitting.{StopsAndTells}
use Rattle.cb_worker.specs.Serving.{ServesAndTells}
use Rattle.cb_worker.specs.declared.worker_fault.WorkerFault.{WorkerFault}
use Rattle.cb_worker.proofs.worker.Worker.enter_at.Goals as goal

pub returns-in-Err-clause-enters : goal.returns-in-Err-clause-enters
returns-in-Err-clause-enters g c =
    let own : c.client-client.result ≡ c.args.self.now.hand.client = search rules in (
      c.serve_at.new.station,
      subst (λ (r : Result ⊤ WorkerFault). ServesAndTells c.args.self.now c.args.station.now r c.serve_at.new.self c.serve_at.new.station) c.in-Err.is c.serve_at.ensures.serves,
      subst (λ (n : ℕ). StopsAndTells c.serve_at.new.station n c.stop_at.new.station) own c.stop_at.ensures,
    )

pub returns-clause-enters : goal.returns-clause-enters
returns-clause-enters g c =
    let own : c.client-client.result ≡ c.args.self.now.hand.client = search rules in
    asked c.args.self.now c.serve_at.new.self c.args.station.now c.serve_at.new.station c.ask_at.new.station c.client-client.result c.ask_at.result own c.in_default.ensures.serves c.ask_at.ensures

pub returns-clause-let_in : goal.returns-clause-let_in
returns-clause-let_in g c =
    let own : c.client-client.result ≡ c.args.self.now.hand.client = search rules in
    by_asking c.args.self.now c.serve_at.new.self c.args.station.now c.ask_at.new.station c.serve_at.ensures.sound (Ok c.ask_at.result)
    (asked c.args.self.now c.serve_at.new.self c.args.station.now c.serve_at.new.station c.ask_at.new.station c.client-client.result c.ask_at.result own c.in_default.ensures.serves c.ask_at.ensures)
