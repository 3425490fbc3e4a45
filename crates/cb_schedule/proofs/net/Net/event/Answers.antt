-- Goals of `Net::event`.
use Rattle.std.proofs.Common.{subst, sym, IfOk, rules}
use Rattle.std.specs.Prelude.{OnErr}
use Rattle.std.proofs.lemmas.Result.{IfOk-weaker}
use Rattle.cb_transcript.specs.declared.event.Event.{Event as Happening}
use Rattle.cb_protocol.specs.World.{Event, FlushTo}
use Rattle.cb_transcript.specs.ProtocolEvents.{event_of}
use Rattle.cb_schedule.specs.NetMoves.{FlushesTo, IsAccepted, NetBecomes}
use Rattle.cb_schedule.proofs.Nets.{accepts_again, accepts_flush, accepts_flush_to, flushes_to}
use Rattle.cb_schedule.proofs.Replying.{on_any_err}
use Rattle.cb_schedule.proofs.net.Net.event.Goals as goal

pub returns-in-Take-clause-ok : goal.returns-in-Take-clause-ok
returns-in-Take-clause-ok g c = search rules

pub returns-in-FlushTo-clause-ok : goal.returns-in-FlushTo-clause-ok
returns-in-FlushTo-clause-ok g c =
    let net = c.args.self.now in
    let number = c.in-FlushTo.number in
    subst (λ (e : Happening). IfOk c.flush_to.result (λ a. NetBecomes net (event_of e) a c.flush_to.new.self)) (sym c.in-FlushTo.is)
    (IfOk-weaker c.flush_to.result (λ a. (event : Event) → FlushesTo net event number → NetBecomes net event a c.flush_to.new.self) (λ a. NetBecomes net (FlushTo number) a c.flush_to.new.self)
    (λ a becomes. becomes (FlushTo number) (flushes_to net number)) c.flush_to.ensures.ok)

pub returns-in-AgainServer-clause-fails : goal.returns-in-AgainServer-clause-fails
returns-in-AgainServer-clause-fails g c =
    subst (λ (e : Happening). OnErr c.again.result (IsAccepted c.args.self.now (event_of e))) (sym c.in-AgainServer.is) (on_any_err c.again.result (accepts_again c.args.self.now))

pub returns-in-Flush-clause-fails : goal.returns-in-Flush-clause-fails
returns-in-Flush-clause-fails g c =
    subst (λ (e : Happening). OnErr c.flush.result (IsAccepted c.args.self.now (event_of e))) (sym c.in-Flush.is) (on_any_err c.flush.result (accepts_flush c.args.self.now))

pub returns-in-FlushTo-clause-fails : goal.returns-in-FlushTo-clause-fails
returns-in-FlushTo-clause-fails g c =
    subst (λ (e : Happening). OnErr c.flush_to.result (IsAccepted c.args.self.now (event_of e))) (sym c.in-FlushTo.is) (on_any_err c.flush_to.result (accepts_flush_to c.args.self.now c.in-FlushTo.number))
