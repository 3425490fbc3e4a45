-- Goals of `Engine::take_owned`.
use Rattle.std.proofs.Common.{subst}
use Rattle.cb_outbox.specs.Messages.{body_of}
use Rattle.cb_protocol.specs.ServerMessages.{server_take}
use Rattle.cb_protocol.specs.WaitsFor.{on_cycle}
use Rattle.cb_server.specs.Answering.{Meets}
use Rattle.cb_server.specs.declared.engine.Headway.{Headway}
use Rattle.cb_server.proofs.Making.{on_ok}
use Rattle.cb_server.proofs.PuttingOff.{applied}
use Rattle.cb_server.proofs.engine.Engine.take_owned.Goals as goal

pub returns-in-Ok-Applies-clause-ok : goal.returns-in-Ok-Applies-clause-ok
returns-in-Ok-Applies-clause-ok c =
    let put = subst (λ (m : Headway). Meets c.args.self.now (λ s. server_take on_cycle s c.args.client c.args.incarnation (body_of c.args.body)) c.args.client c.args.incarnation (body_of c.args.body) m c.meet.new.self)
    c.in-Ok-Applies.field-0-is c.in-Ok-Applies.ensures.ok in
    on_ok c.apply_body.result (applied c.args.self.now c.meet.new.self c.apply_body.new.self c.args.client c.args.incarnation (body_of c.args.body) c.in-Ok-Applies.standing put) c.apply_body.ensures.ok
