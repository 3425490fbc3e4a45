-- Goals of `Net::take`.
use Rattle.std.proofs.Common.{subst, ap}
use Rattle.std.specs.Prelude.{OnErr, Option}
use Rattle.cb_frame.specs.declared.frame.Frame.{Frame}
use Rattle.cb_schedule.specs.Packets.{IsAt}
use Rattle.cb_protocol.specs.World.{TakePacket}
use Rattle.cb_transcript.specs.ProtocolEvents.{word_of}
use Rattle.cb_transcript.specs.declared.answer.Answer.{Answer}
use Rattle.cb_schedule.specs.NetMoves.{IsAccepted, NetBecomes}
use Rattle.cb_schedule.specs.NetState.{NetState}
use Rattle.cb_schedule.proofs.Nets.{accepts_frame, accepts_take, no_packet_becomes}
use Rattle.cb_schedule.proofs.Replying.{on_any_err}
use Rattle.cb_schedule.proofs.net.Net.take.Goals as goal

pub returns-in-None-clause-ok : goal.returns-in-None-clause-ok
returns-in-None-clause-ok g c =
    let net : NetState = record { server = c.self.inside.server; world_clients = c.self.inside.world_clients; packets = c.self.inside.packets } in
    let none = subst (λ (o : Option Frame). IsAt net.packets c.args.packet o) c.in-None.is c.in_ok-frame.ensures.ok in
    subst (λ (n : NetState). NetBecomes n (TakePacket c.args.packet) c.silent.result n) c.self.view_is
    (no_packet_becomes net c.args.packet c.silent.result none (ap (λ (a : Answer). word_of a.word) c.silent.ensures) (ap (λ (a : Answer). a.sent) c.silent.ensures))

pub returns-in_err-frame-clause-fails : goal.returns-in_err-frame-clause-fails
returns-in_err-frame-clause-fails g c =
    let net : NetState = record { server = c.self.inside.server; world_clients = c.self.inside.world_clients; packets = c.self.inside.packets } in
    subst (λ (n : NetState). OnErr c.from_residual.result (IsAccepted n (TakePacket c.args.packet))) c.self.view_is
    (on_any_err c.from_residual.result (accepts_take net c.args.packet c.in_err-frame.ensures.fails))

pub returns-then-goes_to_server-clause-fails : goal.returns-then-goes_to_server-clause-fails
returns-then-goes_to_server-clause-fails g c =
    let net : NetState = record { server = c.self.inside.server; world_clients = c.self.inside.world_clients; packets = c.self.inside.packets } in
    let at = subst (λ (o : Option Frame). IsAt net.packets c.args.packet o) c.in-Some.is c.in_ok-frame.ensures.ok in
    subst (λ (n : NetState). OnErr c.take_by_server.result (IsAccepted n (TakePacket c.args.packet))) c.self.view_is
    (on_any_err c.take_by_server.result (accepts_frame net c.args.packet c.in-Some.frame at))

pub returns-else-goes_to_server-clause-fails : goal.returns-else-goes_to_server-clause-fails
returns-else-goes_to_server-clause-fails g c =
    let net : NetState = record { server = c.self.inside.server; world_clients = c.self.inside.world_clients; packets = c.self.inside.packets } in
    let at = subst (λ (o : Option Frame). IsAt net.packets c.args.packet o) c.in-Some.is c.in_ok-frame.ensures.ok in
    subst (λ (n : NetState). OnErr c.take_by_client.result (IsAccepted n (TakePacket c.args.packet))) c.self.view_is
    (on_any_err c.take_by_client.result (accepts_frame net c.args.packet c.in-Some.frame at))
