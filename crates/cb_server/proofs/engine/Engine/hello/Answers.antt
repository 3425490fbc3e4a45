-- Goals of `Engine::hello`.
use Rattle.std.proofs.Common.{rules, ◌≡◌, [], ◌∷◌, arith}
use Rattle.cb_server_state.specs.Questions.{admission_in}
use Rattle.cb_links.specs.declared.sessions.Admission.TheVariants as admission
use Rattle.cb_protocol.specs.Messages.{Hello, Welcome}
use Rattle.cb_protocol.specs.Server.{Send}
use Rattle.cb_protocol.specs.ServerMessages.{admit_incarnation, server_take}
use Rattle.cb_protocol.specs.WaitsFor.{on_cycle}
use Rattle.cb_server.specs.Answering.{server_in}
use Rattle.cb_server.proofs.Greeting.{current_hello, is_current, is_unknown, stale_hello, unknown_hello}
use Rattle.cb_server.proofs.Making.{if_err, on_ok, serves_as, serves_nothing}
use Rattle.cb_server.proofs.engine.Engine.hello.Goals as goal

pub returns-in-Stale-clause-ok : goal.returns-in-Stale-clause-ok
returns-in-Stale-clause-ok c =
    let is : admission.Stale ≡ admission_in (server_in c.args.self.now) c.args.client c.args.incarnation = search rules in
    serves_as c.args.self.now c.args.self.now (λ s. server_take on_cycle s c.args.client c.args.incarnation Hello) (λ s. [])
    (stale_hello (server_in c.args.self.now) c.args.client c.args.incarnation is) (serves_nothing c.args.self.now)

pub returns-in-Current-clause-ok : goal.returns-in-Current-clause-ok
returns-in-Current-clause-ok c =
    let is : admission.Current ≡ admission_in (server_in c.args.self.now) c.args.client c.args.incarnation = search rules in
    on_ok c.welcome.result
    (serves_as c.args.self.now c.welcome.new.self (λ s. server_take on_cycle s c.args.client c.args.incarnation Hello) (λ s. Send c.args.client c.args.incarnation Welcome ∷ [])
    (current_hello (server_in c.args.self.now) c.args.client c.args.incarnation is)) c.welcome.ensures.ok

pub returns-in-Unknown-clause-ok : goal.returns-in-Unknown-clause-ok
returns-in-Unknown-clause-ok c =
    let is : admission.Unknown ≡ admission_in (server_in c.args.self.now) c.args.client c.args.incarnation = search rules in
    on_ok c.admit.result
    (serves_as c.args.self.now c.admit.new.self (λ s. server_take on_cycle s c.args.client c.args.incarnation Hello) (λ s. admit_incarnation on_cycle s c.args.client c.args.incarnation)
    (unknown_hello (server_in c.args.self.now) c.args.client c.args.incarnation is)) c.admit.ensures.ok

pub returns-in-Current-clause-needed : goal.returns-in-Current-clause-needed
returns-in-Current-clause-needed c =
    let is : admission.Current ≡ admission_in (server_in c.args.self.now) c.args.client c.args.incarnation = search rules in
    let same = is_current (server_in c.args.self.now) c.args.client c.args.incarnation is in
    if_err c.welcome.result (omega (arith, same))

pub returns-in-Unknown-clause-needed : goal.returns-in-Unknown-clause-needed
returns-in-Unknown-clause-needed c =
    let is : admission.Unknown ≡ admission_in (server_in c.args.self.now) c.args.client c.args.incarnation = search rules in
    let newer = is_unknown (server_in c.args.self.now) c.args.client c.args.incarnation is in
    if_err c.admit.result (omega (arith, newer))
