-- Goals of `Net::flush_to`.
use Rattle.std.proofs.Common.{◌≡◌, subst, sym, ap, IfOk}
use Rattle.std.specs.List.{AllByRecursion}
use Rattle.cb_frame.specs.Grammar.{Fits}
use Rattle.cb_page.specs.Bounds.{Bounds}
use Rattle.std.specs.Prelude.{ℕ, true, false}
use Rattle.cb_protocol.specs.Flush.{can_flush}
use Rattle.cb_server.specs.ServerValue.{server_of}
use Rattle.cb_protocol.specs.World.{Event}
use Rattle.cb_transcript.specs.ProtocolEvents.{word_of}
use Rattle.cb_transcript.specs.declared.answer.AnswerWord.TheVariants as word
use Rattle.cb_transcript.specs.declared.answer.Answer.{Answer}
use Rattle.cb_schedule.specs.NetMoves.{FlushesTo, NetBecomes}
use Rattle.cb_schedule.specs.NetState.{NetState}
use Rattle.cb_schedule.proofs.Nets.{flushed_becomes, nothing_to_flush, with_sends}
use Rattle.cb_schedule.proofs.net.Net.flush_to.Goals as goal

pub returns-in-None-clause-ok : goal.returns-in-None-clause-ok
returns-in-None-clause-ok g c =
    let net : NetState = record { server = c.self.inside.server; world_clients = c.self.inside.world_clients; packets = c.self.inside.packets } in
    let not_so = subst (λ (n : NetState). can_flush (server_of n.server) c.args.number ≡ false) (sym c.self.view_is) c.in-None.ensures in
    subst (λ (n : NetState). (event : Event) → FlushesTo n event c.args.number → NetBecomes n event c.silent.result n) c.self.view_is
    (λ event up_to. nothing_to_flush net event c.args.number c.silent.result up_to not_so (ap (λ (a : Answer). word_of a.word) c.silent.ensures) (ap (λ (a : Answer). a.sent) c.silent.ensures))

pub returns-in_ok-said-in-Some-clause-ok : goal.returns-in_ok-said-in-Some-clause-ok
returns-in_ok-said-in-Some-clause-ok g c =
    let net : NetState = record { server = c.self.inside.server; world_clients = c.self.inside.world_clients; packets = c.self.inside.packets } in
    let frames = c.in_ok-said-in-Some.said.items in
    let commit = c.in-Some.commit in
    let can = subst (λ (n : NetState). can_flush (server_of n.server) c.args.number ≡ true) (sym c.self.view_is) c.in-Some.ensures.1 in
    let can_commit = subst (λ (number : ℕ). can_flush (server_of net.server) number ≡ true) (sym c.in-Some.ensures.0) can in
    let fits = subst (λ (limits : Bounds). AllByRecursion (Fits limits) frames) c.self.invariant.server c.in_ok-said-in-Some.ensures.fits in
    subst (λ (n : NetState). IfOk c.answer.result (λ a. (event : Event) → FlushesTo n event c.args.number → NetBecomes n event a c.answer.new.self)) c.self.view_is
    (with_sends (record net { server = c.flushed.new.self }) (word.Flushed commit) c.as_slice.result.now frames c.answer.result c.answer.new.self (λ a m. (event : Event) → FlushesTo net event c.args.number → NetBecomes net event a m) c.as_slice.ensures.value
    (λ a said sent event up_to. flushed_becomes net c.flushed.new.self event commit frames a c.self.invariant (subst (λ (number : ℕ). FlushesTo net event number) (sym c.in-Some.ensures.0) up_to) can_commit c.in_ok-said-in-Some.ensures.ok fits said sent) c.answer.ensures.ok)
