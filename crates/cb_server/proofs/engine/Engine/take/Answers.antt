-- Goals of `Engine::take`.
use Rattle.std.proofs.Common.{subst}
use Rattle.cb_outbox.specs.Messages.{body_of}
use Rattle.cb_protocol.specs.ServerMessages.{server_take}
use Rattle.cb_protocol.specs.WaitsFor.{on_cycle}
use Rattle.cb_server.specs.Answering.{Meets}
use Rattle.cb_server.specs.declared.engine.Headway.{Headway}
use Rattle.cb_server.proofs.PuttingOff.{applied}
use Rattle.cb_server.proofs.engine.Engine.take.Goals as goal

pub returns-in_ok-apply_copy-in-Applies-clause-ok : goal.returns-in_ok-apply_copy-in-Applies-clause-ok
returns-in_ok-apply_copy-in-Applies-clause-ok c =
    let put = subst (λ (m : Headway). Meets c.args.self.now (λ s. server_take on_cycle s c.args.client c.args.incarnation (body_of c.args.body.now)) c.args.client c.args.incarnation (body_of c.args.body.now) m c.meet.new.self)
    c.in-Applies.is c.in_ok-headway.ensures.ok in
    applied c.args.self.now c.meet.new.self c.apply_copy.new.self c.args.client c.args.incarnation (body_of c.args.body.now) c.in-Applies.standing put c.in_ok-apply_copy-in-Applies.ensures.ok
