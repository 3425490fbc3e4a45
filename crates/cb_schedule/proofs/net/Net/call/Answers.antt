-- Goals of `Net::call`.
use Rattle.std.proofs.Common.{subst, IfOk, List, length, ◌<◌}
use Rattle.std.specs.Prelude.{OnErr}
use Rattle.std.proofs.lemmas.Result.{on_err_weaker}
use Rattle.cb_frame.specs.declared.frame.Frame.{Frame}
use Rattle.cb_protocol.specs.World.{ClientCalls}
use Rattle.cb_transcript.specs.ProtocolEvents.{call_of, word_of}
use Rattle.cb_schedule.specs.NetMoves.{IsAccepted, NetBecomes}
use Rattle.cb_schedule.specs.NetState.{NetState}
use Rattle.cb_schedule.proofs.Nets.{accepts_call, said_by_accepted, world_clients_become, with_sends}
use Rattle.cb_schedule.proofs.Replying.{on_any_err}
use Rattle.cb_schedule.proofs.net.Net.call.Goals as goal

pub returns-clause-ok : goal.returns-clause-ok
returns-clause-ok g c =
    let net : NetState = record { server = c.self.inside.server; world_clients = c.self.inside.world_clients; packets = c.self.inside.packets } in
    let frames = c.in_ok-reply.reply.said.items in
    let said = c.in_ok-reply.reply.word in
    let event = ClientCalls c.args.client (call_of c.args.call.now) in
    subst (λ (n : NetState). IfOk c.answer.result (λ a. NetBecomes n event a c.answer.new.self)) c.self.view_is
    (with_sends (record net { world_clients = c.call.new.self }) said c.as_slice.result.now frames c.answer.result c.answer.new.self (λ a m. NetBecomes net event a m) c.as_slice.ensures.value
    (λ a is sent. world_clients_become net c.call.new.self event (word_of said) frames a c.self.invariant c.in_ok-reply.ensures.ok (λ w. tt) c.in_ok-reply.ensures.fits is sent) c.answer.ensures.ok)

pub returns-in_err-reply-clause-fails : goal.returns-in_err-reply-clause-fails
returns-in_err-reply-clause-fails g c =
    let net : NetState = record { server = c.self.inside.server; world_clients = c.self.inside.world_clients; packets = c.self.inside.packets } in
    let call = call_of c.args.call.now in
    let has = c.in_err-reply.ensures.fails.0 in
    subst (λ (n : NetState). OnErr c.from_residual.result (IsAccepted n (ClientCalls c.args.client call))) c.self.view_is
    (on_any_err c.from_residual.result (accepts_call net c.args.client call _ _ c.in_err-reply.ensures.fails.1 (c.limits-known.ensures.arose.each c.args.client has).limits (λ w sh. sh.world_clients.clients c.args.client has) has))

pub returns-clause-fails : goal.returns-clause-fails
returns-clause-fails g c =
    let net : NetState = record { server = c.self.inside.server; world_clients = c.self.inside.world_clients; packets = c.self.inside.packets } in
    let frames = c.in_ok-reply.reply.said.items in
    let call = call_of c.args.call.now in
    subst (λ (n : NetState). OnErr c.answer.result (IsAccepted n (ClientCalls c.args.client call))) c.self.view_is
    (on_err_weaker c.answer.result (λ some. said_by_accepted net c.args.client call (word_of c.in_ok-reply.reply.word) frames c.call.new.self c.in_ok-reply.ensures.ok
    (subst (λ (fs : List Frame). 0 < length fs) c.as_slice.ensures.value some)) c.answer.ensures.fails)
