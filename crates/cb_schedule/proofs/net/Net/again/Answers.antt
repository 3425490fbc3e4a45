-- Goals of `Net::again`.
use Rattle.std.proofs.Common.{subst, IfOk}
use Rattle.std.specs.List.{AllByRecursion}
use Rattle.cb_frame.specs.Grammar.{Fits}
use Rattle.cb_page.specs.Bounds.{Bounds}
use Rattle.cb_protocol.specs.World.{ServerAgain}
use Rattle.cb_transcript.specs.declared.answer.AnswerWord.TheVariants as word
use Rattle.cb_schedule.specs.NetMoves.{NetBecomes}
use Rattle.cb_schedule.specs.NetState.{NetState}
use Rattle.cb_schedule.proofs.Nets.{again_becomes, with_sends}
use Rattle.cb_schedule.proofs.net.Net.again.Goals as goal

pub returns-clause-ok : goal.returns-clause-ok
returns-clause-ok g c =
    let net : NetState = record { server = c.self.inside.server; world_clients = c.self.inside.world_clients; packets = c.self.inside.packets } in
    let frames = c.in_ok-said.said.items in
    let fits = subst (λ (limits : Bounds). AllByRecursion (Fits limits) frames) c.self.invariant.server c.in_ok-said.ensures.fits in
    subst (λ (n : NetState). IfOk c.answer.result (λ a. NetBecomes n ServerAgain a c.answer.new.self)) c.self.view_is
    (with_sends (record net { server = c.again.new.self }) word.Ok c.as_slice.result.now frames c.answer.result c.answer.new.self (λ a m. NetBecomes net ServerAgain a m) c.as_slice.ensures.value
    (λ a said sent. again_becomes net c.again.new.self frames a c.self.invariant c.in_ok-said.ensures.ok fits said sent) c.answer.ensures.ok)
