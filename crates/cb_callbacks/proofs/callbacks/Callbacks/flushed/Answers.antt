-- Goals of `Callbacks::flushed`.
use Rattle.std.proofs.Common.{◌≡◌, ◌∙◌, true, ap, subst, sym}
use Rattle.cb_callbacks.specs.Callbacks.{CallbacksState}
use Rattle.cb_callbacks.proofs.Flushing.{kept_flushed}
use Rattle.cb_outbox.specs.Messages.{messages_of}
use Rattle.cb_protocol.specs.Flush.{can_flush, server_flush}
use Rattle.cb_protocol.specs.World.{messages_sent}
use Rattle.cb_server_state.specs.States.{Does, server_of}
use Rattle.cb_server_state.proofs.Committed.{flush_frames, flushed_does, may_flush}
use Rattle.cb_callbacks.proofs.callbacks.Callbacks.flushed.Goals as goal

pub flushed-requires : goal.flushed-requires
flushed-requires c =
    may_flush c.self.inside.state c.args.number (subst (λ (v : CallbacksState). can_flush (server_of v.state) c.args.number ≡ true) (sym c.self.view_is) c.requires)

pub invariant_of-self : goal.invariant_of-self
invariant_of-self c = rw c.in_err-dones.ensures.err c.self.invariant

pub invariant_of-self-2 : goal.invariant_of-self-2
invariant_of-self-2 c = rw c.in_ok-dones.ensures.ok (kept_flushed c.self.inside.state c.self.inside.view c.args.number c.self.invariant)

pub returns-clause-ok : goal.returns-clause-ok
returns-clause-ok c =
    subst (λ (v : CallbacksState). Does v.state (server_flush (server_of v.state) c.args.number) (record c.self.inside.state { commits = c.flushed.new.self })) c.self.view_is
    (rw c.in_ok-dones.ensures.ok (flushed_does c.self.inside.state c.args.number))

pub returns-clause-dones : goal.returns-clause-dones
returns-clause-dones c =
    subst (λ (v : CallbacksState). messages_of c.in_ok-dones.dones.items ≡ messages_sent (server_flush (server_of v.state) c.args.number)) c.self.view_is
    (ap messages_of c.in_ok-dones.ensures.dones ∙ flush_frames c.self.inside.state c.args.number)
