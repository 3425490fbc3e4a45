-- Goals of `Worker::ended`.
use Rattle.std.proofs.Common.{◌≡◌, ◌≢◌, List, Some, None}
use Rattle.cb_client_core.specs.ClientState.{client_of, outcome_of, status_of}
use Rattle.cb_client_core.specs.declared.stage.ClientStatus.TheVariants as statuses
use Rattle.cb_protocol.specs.Client.{client_status}
use Rattle.cb_protocol.specs.Serial.{Operation}
use Rattle.cb_worker.proofs.Standing.{ended_else, finished_so, going_on, idle_so, welcomed_so}
use Rattle.cb_worker.specs.Workers.{IsIdle}
use Rattle.cb_worker.proofs.worker.Worker.ended.Goals as goal

pub returns-in_default-clause-none : goal.returns-in_default-clause-none
returns-in_default-clause-none g c =
    let standing : (ops : List Operation) → status_of c.status.result ≡ client_status (client_of c.args.self.now.client ops) = λ ops. rw (← c.self.view_is) (c.status.ensures ops) in
    λ _. going_on c.args.self.now c.status.result standing c.in_default.not-Idle

pub returns-in_err-last-clause-none : goal.returns-in_err-last-clause-none
returns-in_err-last-clause-none g c =
    let told : (ops : List Operation) → outcome_of None ≡ (client_of c.args.self.now.client ops).last_outcome = λ ops. rw (← c.self.view_is) (c.in_err-last.ensures ops) in
    λ _. ended_else c.args.self.now None told (λ e. absurd cc)

pub returns-clause-so : goal.returns-clause-so
returns-clause-so g c =
    let standing : (ops : List Operation) → status_of c.status.result ≡ client_status (client_of c.args.self.now.client ops) = λ ops. rw (← c.self.view_is) (c.status.ensures ops) in
    let idle : IsIdle c.args.self.now = idle_so c.args.self.now c.status.result standing c.in-Idle.is in
    let told : (ops : List Operation) → outcome_of (Some c.in_ok-last.field-0) ≡ (client_of c.args.self.now.client ops).last_outcome = λ ops. rw (← c.self.view_is) (c.in_ok-last.ensures ops) in
    finished_so c.args.self.now c.in_ok-last.field-0 c.finished_by.result idle told c.finished_by.ensures.so

pub returns-clause-welcomed : goal.returns-clause-welcomed
returns-clause-welcomed g c =
    let standing : (ops : List Operation) → status_of c.status.result ≡ client_status (client_of c.args.self.now.client ops) = λ ops. rw (← c.self.view_is) (c.status.ensures ops) in
    let other : c.status.result ≢ statuses.NotWelcome = rw c.in-Idle.is (λ e. absurd cc) in
    λ _. welcomed_so c.args.self.now.client c.status.result standing other

pub returns-clause-none : goal.returns-clause-none
returns-clause-none g c =
    let told : (ops : List Operation) → outcome_of (Some c.in_ok-last.field-0) ≡ (client_of c.args.self.now.client ops).last_outcome = λ ops. rw (← c.self.view_is) (c.in_ok-last.ensures ops) in
    λ e. ended_else c.args.self.now (Some c.in_ok-last.field-0) told (c.finished_by.ensures.none e)
