-- Goals of `Engine::meet`.
use Rattle.std.proofs.Common.{rules, ◌≡◌, ◌≢◌, ◌∙◌, [], false, sym}
use Rattle.cb_outbox.specs.Messages.{body_of}
use Rattle.cb_protocol.specs.ServerMessages.{server_take, take_current}
use Rattle.cb_protocol.specs.WaitsFor.{on_cycle}
use Rattle.cb_server.specs.Answering.{is_hello, server_in}
use Rattle.cb_server.proofs.Greeting.{current_may_want, current_taken, hello_may_want, one_number, other_ignored, two_numbers}
use Rattle.cb_server.proofs.Making.{if_err, on_err, serves_as, serves_nothing}
use Rattle.cb_server.proofs.PuttingOff.{meets_as}
use Rattle.cb_server.proofs.engine.Engine.meet.Goals as goal

pub returns-then-not-is_current-clause-ok : goal.returns-then-not-is_current-clause-ok
returns-then-not-is_current-clause-ok c =
    let other : c.args.incarnation ≢ ((server_in c.args.self.now).session c.args.client).current = two_numbers c.args.incarnation _ (sym c.is_current.ensures ∙ c.if-not-is_current.true) in
    let not_hello : is_hello (body_of c.args.body.now) ≡ false = search rules in
    serves_as c.args.self.now c.args.self.now (λ s. server_take on_cycle s c.args.client c.args.incarnation (body_of c.args.body.now)) (λ s. [])
    (other_ignored (server_in c.args.self.now) c.args.client c.args.incarnation (body_of c.args.body.now) not_hello other) (serves_nothing c.args.self.now)

pub meet_current-requires-clause-current : goal.meet_current-requires-clause-current
meet_current-requires-clause-current c = one_number c.args.incarnation ((server_in c.args.self.now).session c.args.client).current (sym c.is_current.ensures ∙ c.if-not-is_current.false)

pub returns-clause-ok : goal.returns-clause-ok
returns-clause-ok c =
    let is : c.args.incarnation ≡ ((server_in c.args.self.now).session c.args.client).current = one_number c.args.incarnation _ (sym c.is_current.ensures ∙ c.if-not-is_current.false) in
    let not_hello : is_hello (body_of c.args.body.now) ≡ false = search rules in
    meets_as c.meet_current.result c.args.self.now c.meet_current.new.self (λ s. server_take on_cycle s c.args.client c.args.incarnation (body_of c.args.body.now)) (λ s. take_current on_cycle s c.args.client (body_of c.args.body.now))
    c.args.client c.args.incarnation (body_of c.args.body.now)
    (current_taken (server_in c.args.self.now) c.args.client c.args.incarnation (body_of c.args.body.now) not_hello is) c.meet_current.ensures.ok

pub returns-in_err-hello-clause-needed : goal.returns-in_err-hello-clause-needed
returns-in_err-hello-clause-needed c =
    if_err c.from_residual.result
    (hello_may_want (server_in c.args.self.now) c.args.client c.args.incarnation (body_of c.args.body.now) (search rules) c.in_err-hello.ensures.needed)

pub returns-clause-needed : goal.returns-clause-needed
returns-clause-needed c =
    let is : c.args.incarnation ≡ ((server_in c.args.self.now).session c.args.client).current = one_number c.args.incarnation _ (sym c.is_current.ensures ∙ c.if-not-is_current.false) in
    let not_hello : is_hello (body_of c.args.body.now) ≡ false = search rules in
    on_err c.meet_current.result (current_may_want (server_in c.args.self.now) c.args.client c.args.incarnation (body_of c.args.body.now) not_hello is) c.meet_current.ensures.needed
