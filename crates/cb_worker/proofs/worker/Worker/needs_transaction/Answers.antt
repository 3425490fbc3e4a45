-- Goals of `Worker::needs_transaction`.
use Rattle.std.proofs.Common.{◌≡◌, ◌≢◌, List, refl}
use Rattle.cb_client_core.specs.ClientState.{client_of, status_of}
use Rattle.cb_client_core.specs.declared.stage.ClientStatus.TheVariants as statuses
use Rattle.cb_protocol.specs.Client.{client_status}
use Rattle.cb_protocol.specs.Serial.{Operation}
use Rattle.cb_worker.proofs.Standing.{busy_so, idle_so, none_idle, none_unwelcomed, unwelcomed_so, welcomed_so}
use Rattle.cb_worker.proofs.worker.Worker.needs_transaction.Goals as goal

pub returns-in-NotWelcome-clause-has : goal.returns-in-NotWelcome-clause-has
returns-in-NotWelcome-clause-has g c =
    let standing : (ops : List Operation) → status_of c.status.result ≡ client_status (client_of c.args.self.now.client ops) = λ ops. rw (← c.self.view_is) (c.status.ensures ops) in
    none_unwelcomed c.args.self.now (unwelcomed_so c.args.self.now.client c.status.result standing c.in-NotWelcome.is)

pub returns-in-NotWelcome-clause-lacks : goal.returns-in-NotWelcome-clause-lacks
returns-in-NotWelcome-clause-lacks g c =
    let standing : (ops : List Operation) → status_of c.status.result ≡ client_status (client_of c.args.self.now.client ops) = λ ops. rw (← c.self.view_is) (c.status.ensures ops) in
    unwelcomed_so c.args.self.now.client c.status.result standing c.in-NotWelcome.is

pub returns-in-Idle-clause-has : goal.returns-in-Idle-clause-has
returns-in-Idle-clause-has g c =
    let standing : (ops : List Operation) → status_of c.status.result ≡ client_status (client_of c.args.self.now.client ops) = λ ops. rw (← c.self.view_is) (c.status.ensures ops) in
    none_idle c.args.self.now (idle_so c.args.self.now c.status.result standing c.in-Idle.is)

pub returns-in-Idle-clause-lacks : goal.returns-in-Idle-clause-lacks
returns-in-Idle-clause-lacks g c =
    let standing : (ops : List Operation) → status_of c.status.result ≡ client_status (client_of c.args.self.now.client ops) = λ ops. rw (← c.self.view_is) (c.status.ensures ops) in
    let other : c.status.result ≢ statuses.NotWelcome = rw c.in-Idle.is (λ e. absurd cc) in
    (welcomed_so c.args.self.now.client c.status.result standing other, idle_so c.args.self.now c.status.result standing c.in-Idle.is)

pub returns-in_default : goal.returns-in_default
returns-in_default g c =
    let standing : (ops : List Operation) → status_of c.status.result ≡ client_status (client_of c.args.self.now.client ops) = λ ops. rw (← c.self.view_is) (c.status.ensures ops) in
    record { has = (busy_so c.args.self.now c.status.result standing c.in_default.not-NotWelcome c.in_default.not-Idle, refl); lacks = tt }
