-- Goals of `Net::take_by_server`.
use Rattle.std.proofs.Common.{subst, sym, ap, ◌∙◌, IfOk}
use Rattle.std.specs.List.{AllByRecursion}
use Rattle.cb_frame.specs.Grammar.{Fits}
use Rattle.cb_page.specs.Bounds.{Bounds}
use Rattle.cb_schedule.specs.Packets.{IsFrameAt}
use Rattle.cb_protocol.specs.World.{TakePacket}
use Rattle.cb_transcript.specs.ProtocolEvents.{word_of}
use Rattle.cb_transcript.specs.declared.answer.AnswerWord.TheVariants as word
use Rattle.cb_transcript.specs.declared.answer.Answer.{Answer}
use Rattle.cb_schedule.specs.NetMoves.{NetBecomes}
use Rattle.cb_schedule.specs.NetState.{NetState}
use Rattle.cb_server.specs.Taking.{is_exhaustion}
use Rattle.cb_schedule.proofs.Nets.{exhausted_becomes, server_becomes, unchanged_becomes, way, with_sends}
use Rattle.cb_schedule.proofs.net.Net.take_by_server.Goals as goal

pub returns-in-Ok-clause-ok : goal.returns-in-Ok-clause-ok
returns-in-Ok-clause-ok g c =
    let net : NetState = record { server = c.self.inside.server; world_clients = c.self.inside.world_clients; packets = c.self.inside.packets } in
    let frames = c.in-Ok.said.items in
    let event = TakePacket c.args.packet in
    let at = subst (λ (n : NetState). IsFrameAt n.packets c.args.packet c.args.frame) (sym c.self.view_is) c.requires.packet in
    let fits = subst (λ (limits : Bounds). AllByRecursion (Fits limits) frames) c.self.invariant.server c.in-Ok.ensures.fits in
    subst (λ (n : NetState). IfOk c.answer.result (λ a. NetBecomes n event a c.answer.new.self)) c.self.view_is
    (with_sends (record net { server = c.take_decoded.new.server }) word.Taken c.as_slice.result.now frames c.answer.result c.answer.new.self (λ a m. NetBecomes net event a m) c.as_slice.ensures.value
    (λ a said sent. server_becomes net c.args.packet c.args.frame c.take_decoded.new.server frames a c.self.invariant at (sym (way c.args.frame.body) ∙ c.requires.way) c.in-Ok.ensures.ok fits said sent) c.answer.ensures.ok)

pub returns-in-Err-Exhausted-clause-ok : goal.returns-in-Err-Exhausted-clause-ok
returns-in-Err-Exhausted-clause-ok g c =
    let net : NetState = record { server = c.self.inside.server; world_clients = c.self.inside.world_clients; packets = c.self.inside.packets } in
    let event = TakePacket c.args.packet in
    let at = subst (λ (n : NetState). IsFrameAt n.packets c.args.packet c.args.frame) (sym c.self.view_is) c.requires.packet in
    subst (λ (n : NetState). NetBecomes n event c.silent.result (record { server = c.take_decoded.new.server; world_clients = c.self.inside.world_clients; packets = c.self.inside.packets })) c.self.view_is
    (unchanged_becomes net c.take_decoded.new.server event c.silent.result c.in-Err-Exhausted.ensures.unchanged
    (exhausted_becomes net c.args.packet c.args.frame c.silent.result c.self.invariant at (sym (way c.args.frame.body) ∙ c.requires.way) (c.in-Err-Exhausted.ensures.err ∙ ap is_exhaustion c.in-Err-Exhausted.field-0-is)
    (ap (λ (a : Answer). word_of a.word) c.silent.ensures) (ap (λ (a : Answer). a.sent) c.silent.ensures)))
