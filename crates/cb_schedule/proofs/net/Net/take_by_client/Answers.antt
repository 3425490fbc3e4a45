-- Goals of `Net::take_by_client`.
use Rattle.std.proofs.Common.{subst, sym, ◌∙◌, IfOk}
use Rattle.cb_schedule.specs.Packets.{IsFrameAt}
use Rattle.cb_protocol.specs.World.{TakePacket}
use Rattle.cb_transcript.specs.declared.answer.AnswerWord.TheVariants as word
use Rattle.cb_schedule.specs.NetMoves.{NetBecomes}
use Rattle.cb_schedule.specs.NetState.{NetState}
use Rattle.cb_schedule.proofs.Nets.{client_becomes, way, with_sends}
use Rattle.cb_schedule.proofs.net.Net.take_by_client.Goals as goal

pub returns-clause-ok : goal.returns-clause-ok
returns-clause-ok g c =
    let net : NetState = record { server = c.self.inside.server; world_clients = c.self.inside.world_clients; packets = c.self.inside.packets } in
    let frames = c.in_ok-said.said.items in
    let event = TakePacket c.args.packet in
    let at = subst (λ (n : NetState). IsFrameAt n.packets c.args.packet c.args.frame) (sym c.self.view_is) c.requires.packet in
    subst (λ (n : NetState). IfOk c.answer.result (λ a. NetBecomes n event a c.answer.new.self)) c.self.view_is
    (with_sends (record net { world_clients = c.take.new.self }) word.Taken c.as_slice.result.now frames c.answer.result c.answer.new.self (λ a m. NetBecomes net event a m) c.as_slice.ensures.value
    (λ a said sent. client_becomes net c.args.packet c.args.frame c.take.new.self frames a c.self.invariant at (sym (way c.args.frame.body) ∙ c.requires.way) c.in_ok-said.ensures.ok c.in_ok-said.ensures.fits said sent) c.answer.ensures.ok)
