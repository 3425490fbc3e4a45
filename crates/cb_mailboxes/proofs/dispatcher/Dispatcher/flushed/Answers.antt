-- Goals of `Dispatcher::flushed`.
use Rattle.std.proofs.Common.{subst}
use Rattle.cb_mailboxes.proofs.Dispatching.{by_server, on_err, posts, unchanged, unchanged_too}
use Rattle.cb_mailboxes.specs.Dispatching.{DispatcherState, Everybody, IsUnchanged, Posts, mailbox_of}
use Rattle.cb_protocol.specs.AnyMessages.{ReachesDisk}
use Rattle.cb_mailboxes.proofs.Keeping.{kept_posted, kept_ready, kept_refused}
use Rattle.cb_mailboxes.proofs.dispatcher.Dispatcher.flushed.Goals as goal

pub returns-in_err-make_ready-clause-unchanged : goal.returns-in_err-make_ready-clause-unchanged
returns-in_err-make_ready-clause-unchanged c =
    let d : DispatcherState = record { server = c.self.inside.server; mailboxes = c.self.inside.mailboxes } in
    let ready = by_server c.self.inside.server c.state.result.now c.self.inside.mailboxes c.make_ready.new.self c.state.ensures.value c.make_ready.ensures.as_before in
    on_err c.from_residual.result _ (subst (λ (v : DispatcherState). IsUnchanged v (record { server = c.self.inside.server; mailboxes = c.make_ready.new.self })) c.self.view_is (unchanged d c.make_ready.new.self ready))

pub returns-in_err-said-clause-unchanged : goal.returns-in_err-said-clause-unchanged
returns-in_err-said-clause-unchanged c =
    let d : DispatcherState = record { server = c.self.inside.server; mailboxes = c.self.inside.mailboxes } in
    let ready = by_server c.self.inside.server c.state.result.now c.self.inside.mailboxes c.make_ready.new.self c.state.ensures.value c.make_ready.ensures.as_before in
    on_err c.from_residual-in_err-said.result _ (subst (λ (v : DispatcherState). IsUnchanged v (record { server = c.flushed.new.self; mailboxes = c.make_ready.new.self })) c.self.view_is
    (unchanged_too d c.make_ready.new.self c.flushed.new.self ready c.in_err-said.ensures.unchanged))

pub returns-clause-ok : goal.returns-clause-ok
returns-clause-ok c =
    let d : DispatcherState = record { server = c.self.inside.server; mailboxes = c.self.inside.mailboxes } in
    let ready = by_server c.self.inside.server c.state.result.now c.self.inside.mailboxes c.make_ready.new.self c.state.ensures.value c.make_ready.ensures.as_before in
    subst (λ (v : DispatcherState). Posts v (ReachesDisk c.args.number) (mailbox_of v) Everybody (record { server = c.flushed.new.self; mailboxes = c.put.new.self })) c.self.view_is
    (posts d (ReachesDisk c.args.number) c.make_ready.new.self c.flushed.new.self c.in_ok-said.said.items ready c.in_ok-make_ready.ensures.ready c.in_ok-said.ensures.ok c.put.new.self c.put.ensures.boxes c.put.ensures.late c.put.ensures.untold)

pub invariant_of-self : goal.invariant_of-self
invariant_of-self c = kept_ready c.self.inside.server c.state.result.now c.self.inside.mailboxes c.make_ready.new.self c.state.ensures.value c.make_ready.ensures.as_before c.self.invariant

pub invariant_of-self-in_err-said : goal.invariant_of-self-in_err-said
invariant_of-self-in_err-said c = kept_refused c.self.inside.server c.state.result.now c.self.inside.mailboxes c.make_ready.new.self c.flushed.new.self c.state.ensures.value c.make_ready.ensures.as_before c.in_err-said.ensures.unchanged c.self.invariant

pub invariant_of-self-2 : goal.invariant_of-self-2
invariant_of-self-2 c = kept_posted c.self.inside.server c.state.result.now c.self.inside.mailboxes c.make_ready.new.self c.flushed.new.self (ReachesDisk c.args.number) c.in_ok-said.said.items c.state.ensures.value c.make_ready.ensures.as_before c.in_ok-make_ready.ensures.ready c.in_ok-said.ensures.ok tt c.self.invariant c.put.new.self c.put.ensures.boxes c.put.ensures.late c.put.ensures.untold
