-- Goals of `Dispatcher::dismiss`.
use Rattle.std.proofs.Common.{◌≡◌, ◌<◌, ℕ, [], length, ◌∙◌, ap, sym, subst}
use Rattle.std.proofs.lemmas.List.{length-set}
use Rattle.cb_mailboxes.proofs.Dispatching.{by_server, dismisses, kept_have_boxes, on_err, silences, unchanged, unchanged_too}
use Rattle.cb_mailboxes.specs.Dispatching.{DispatcherState, IsUnchanged, Others, Posts, mailbox_of}
use Rattle.cb_mailboxes.specs.Mailboxes.{MailboxesState}
use Rattle.cb_protocol.specs.AnyMessages.{MessageComes}
use Rattle.cb_protocol.specs.Messages.{Hello}
use Rattle.cb_mailboxes.proofs.Keeping.{kept_dismissed, kept_ready, kept_refused}
use Rattle.cb_mailboxes.proofs.dispatcher.Dispatcher.dismiss.Goals as goal

pub returns-in_err-make_ready-clause-unchanged : goal.returns-in_err-make_ready-clause-unchanged
returns-in_err-make_ready-clause-unchanged c =
    let d : DispatcherState = record { server = c.self.inside.server; mailboxes = c.self.inside.mailboxes } in
    let ready = by_server c.self.inside.server c.state.result.now c.self.inside.mailboxes c.make_ready.new.self c.state.ensures.value c.make_ready.ensures.as_before in
    on_err c.from_residual.result _ (subst (λ (v : DispatcherState). IsUnchanged v (record { server = c.self.inside.server; mailboxes = c.make_ready.new.self })) c.self.view_is (unchanged d c.make_ready.new.self ready))

pub returns-in_err-said-clause-unchanged : goal.returns-in_err-said-clause-unchanged
returns-in_err-said-clause-unchanged c =
    let d : DispatcherState = record { server = c.self.inside.server; mailboxes = c.self.inside.mailboxes } in
    let ready = by_server c.self.inside.server c.state.result.now c.self.inside.mailboxes c.make_ready.new.self c.state.ensures.value c.make_ready.ensures.as_before in
    on_err c.from_residual-in_err-said.result _ (subst (λ (v : DispatcherState). IsUnchanged v (record { server = c.hello.new.server; mailboxes = c.make_ready.new.self })) c.self.view_is
    (unchanged_too d c.make_ready.new.self c.hello.new.server ready c.in_err-said.ensures.unchanged))

pub put-requires-clause-clients : goal.put-requires-clause-clients
put-requires-clause-clients c =
    let sizes : length c.clear.new.self.boxes ≡ c.self.inside.server.limits.clients = ap (λ (o : MailboxesState). length o.boxes) c.clear.ensures ∙ length-set c.make_ready.new.self.boxes c.args.client []
    ∙ c.make_ready.ensures.as_before.clients ∙ c.self.invariant.0 in
    kept_have_boxes c.self.inside.server.limits c.clear.new.self.boxes c.args.client c.in_ok-said.said.items c.keep_others.new.said.items c.in_ok-said.ensures.fits sizes c.keep_others.ensures

pub returns-clause-ok : goal.returns-clause-ok
returns-clause-ok c =
    let d : DispatcherState = record { server = c.self.inside.server; mailboxes = c.self.inside.mailboxes } in
    let ready = by_server c.self.inside.server c.state.result.now c.self.inside.mailboxes c.make_ready.new.self c.state.ensures.value c.make_ready.ensures.as_before in
    let sizes : length c.make_ready.new.self.boxes ≡ c.self.inside.server.limits.clients = c.make_ready.ensures.as_before.clients ∙ c.self.invariant.0 in
    let there : c.args.client < c.self.inside.server.limits.clients = subst (λ (v : DispatcherState). c.args.client < v.server.limits.clients) (sym c.self.view_is) c.requires in
    let lt : c.args.client < length c.make_ready.new.self.boxes = subst (λ (n : ℕ). c.args.client < n) (sym sizes) there in
    subst (λ (v : DispatcherState). Posts v (MessageComes c.args.client c.args.incarnation Hello) (mailbox_of v) (Others c.args.client) (record { server = c.hello.new.server; mailboxes = c.put.new.self })) c.self.view_is
    (dismisses d (MessageComes c.args.client c.args.incarnation Hello) c.make_ready.new.self c.hello.new.server c.in_ok-said.said.items ready c.in_ok-make_ready.ensures.ready c.in_ok-said.ensures.ok c.args.client c.keep_others.new.said.items c.clear.new.self
    c.put.new.self lt c.keep_others.ensures c.clear.ensures c.put.ensures.boxes c.put.ensures.late c.put.ensures.untold)

pub returns-clause-silent : goal.returns-clause-silent
returns-clause-silent c =
    let d : DispatcherState = record { server = c.self.inside.server; mailboxes = c.self.inside.mailboxes } in
    let ready = by_server c.self.inside.server c.state.result.now c.self.inside.mailboxes c.make_ready.new.self c.state.ensures.value c.make_ready.ensures.as_before in
    let sizes : length c.make_ready.new.self.boxes ≡ c.self.inside.server.limits.clients = c.make_ready.ensures.as_before.clients ∙ c.self.invariant.0 in
    let there : c.args.client < c.self.inside.server.limits.clients = subst (λ (v : DispatcherState). c.args.client < v.server.limits.clients) (sym c.self.view_is) c.requires in
    let lt : c.args.client < length c.make_ready.new.self.boxes = subst (λ (n : ℕ). c.args.client < n) (sym sizes) there in
    silences d (MessageComes c.args.client c.args.incarnation Hello) c.make_ready.new.self c.hello.new.server c.in_ok-said.said.items ready c.in_ok-make_ready.ensures.ready c.in_ok-said.ensures.ok c.args.client c.keep_others.new.said.items c.clear.new.self
    c.put.new.self lt c.keep_others.ensures c.clear.ensures c.put.ensures.boxes c.put.ensures.late

pub invariant_of-self : goal.invariant_of-self
invariant_of-self c = kept_ready c.self.inside.server c.state.result.now c.self.inside.mailboxes c.make_ready.new.self c.state.ensures.value c.make_ready.ensures.as_before c.self.invariant

pub invariant_of-self-in_err-said : goal.invariant_of-self-in_err-said
invariant_of-self-in_err-said c = kept_refused c.self.inside.server c.state.result.now c.self.inside.mailboxes c.make_ready.new.self c.hello.new.server c.state.ensures.value c.make_ready.ensures.as_before c.in_err-said.ensures.unchanged c.self.invariant

pub invariant_of-self-2 : goal.invariant_of-self-2
invariant_of-self-2 c =
    let sizes : length c.make_ready.new.self.boxes ≡ c.self.inside.server.limits.clients = c.make_ready.ensures.as_before.clients ∙ c.self.invariant.0 in
    let there : c.args.client < c.self.inside.server.limits.clients = subst (λ (v : DispatcherState). c.args.client < v.server.limits.clients) (sym c.self.view_is) c.requires in
    let lt : c.args.client < length c.make_ready.new.self.boxes = subst (λ (n : ℕ). c.args.client < n) (sym sizes) there in
    kept_dismissed c.self.inside.server c.state.result.now c.self.inside.mailboxes c.make_ready.new.self c.hello.new.server (MessageComes c.args.client c.args.incarnation Hello) c.in_ok-said.said.items c.state.ensures.value c.make_ready.ensures.as_before c.in_ok-make_ready.ensures.ready c.in_ok-said.ensures.ok there c.self.invariant c.args.client c.keep_others.new.said.items c.clear.new.self c.put.new.self lt c.keep_others.ensures c.clear.ensures c.put.ensures.boxes c.put.ensures.late c.put.ensures.untold
