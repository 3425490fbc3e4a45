-- Goals of `Net::restart`.
use Rattle.std.proofs.Common.{subst, ap}
use Rattle.std.specs.Prelude.{OnErr}
use Rattle.cb_protocol.specs.World.{Restart}
use Rattle.cb_transcript.specs.ProtocolEvents.{word_of}
use Rattle.cb_transcript.specs.declared.answer.Answer.{Answer}
use Rattle.cb_schedule.specs.NetMoves.{IsAccepted, NetBecomes}
use Rattle.cb_schedule.specs.NetState.{NetState}
use Rattle.cb_schedule.proofs.Nets.{accepts_restart, silent_world_clients_become}
use Rattle.cb_schedule.proofs.Replying.{on_any_err}
use Rattle.cb_schedule.proofs.net.Net.restart.Goals as goal

pub returns-clause-ok : goal.returns-clause-ok
returns-clause-ok g c =
    let net : NetState = record { server = c.self.inside.server; world_clients = c.self.inside.world_clients; packets = c.self.inside.packets } in
    let event = Restart c.args.client in
    subst (λ (n : NetState). NetBecomes n event c.silent.result (record { server = c.self.inside.server; world_clients = c.restart.new.self; packets = c.self.inside.packets })) c.self.view_is
    (silent_world_clients_become net c.restart.new.self event (word_of c.in_ok-word.word) c.silent.result c.self.invariant c.in_ok-word.ensures.ok (λ w. tt)
    (ap (λ (a : Answer). word_of a.word) c.silent.ensures) (ap (λ (a : Answer). a.sent) c.silent.ensures))

pub returns-in_err-word-clause-fails : goal.returns-in_err-word-clause-fails
returns-in_err-word-clause-fails g c =
    let net : NetState = record { server = c.self.inside.server; world_clients = c.self.inside.world_clients; packets = c.self.inside.packets } in
    subst (λ (n : NetState). OnErr c.from_residual.result (IsAccepted n (Restart c.args.client))) c.self.view_is
    (on_any_err c.from_residual.result (accepts_restart net c.args.client c.in_err-word.ensures.fails.0 c.in_err-word.ensures.fails.1))
