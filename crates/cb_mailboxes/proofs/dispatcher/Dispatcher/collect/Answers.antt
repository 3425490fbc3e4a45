-- Goals of `Dispatcher::collect`.
use Rattle.std.proofs.Common.{◌≡◌, ◌<◌, ℕ, length, ◌∙◌, ap, slice_get, List, sym, subst}
use Rattle.std.specs.Prelude.{IfSome}
use Rattle.cb_frame.specs.declared.frame.Frame.{Frame}
use Rattle.cb_mailboxes.proofs.Dispatching.{by_server, on_err, unchanged}
use Rattle.cb_mailboxes.specs.Dispatching.{DispatcherState, IsUnchanged, mailbox_of, server_of, without_oldest}
use Rattle.cb_mailboxes.specs.Mailboxes.{current_in}
use Rattle.cb_mailboxes.proofs.Posting.{collected_one, oldest_one}
use Rattle.cb_mailboxes.proofs.Keeping.{kept_collected, kept_ready}
use Rattle.cb_mailboxes.proofs.Mail.{oldest_mail}
use Rattle.cb_mailboxes.specs.Mail.{IsMailFor}
use Rattle.cb_mailboxes.proofs.dispatcher.Dispatcher.collect.Goals as goal

pub returns-in_err-make_ready-clause-unchanged : goal.returns-in_err-make_ready-clause-unchanged
returns-in_err-make_ready-clause-unchanged c =
    let d : DispatcherState = record { server = c.self.inside.server; mailboxes = c.self.inside.mailboxes } in
    let ready = by_server c.self.inside.server c.state.result.now c.self.inside.mailboxes c.make_ready.new.self c.state.ensures.value c.make_ready.ensures.as_before in
    on_err c.from_residual.result _ (subst (λ (v : DispatcherState). IsUnchanged v (record { server = c.self.inside.server; mailboxes = c.make_ready.new.self })) c.self.view_is (unchanged d c.make_ready.new.self ready))

pub returns-clause-rest : goal.returns-clause-rest
returns-clause-rest c =
    let d : DispatcherState = record { server = c.self.inside.server; mailboxes = c.self.inside.mailboxes } in
    let ready = by_server c.self.inside.server c.state.result.now c.self.inside.mailboxes c.make_ready.new.self c.state.ensures.value c.make_ready.ensures.as_before in
    let sizes : length c.make_ready.new.self.boxes ≡ c.self.inside.server.limits.clients = c.make_ready.ensures.as_before.clients ∙ c.self.invariant.0 in
    let there : c.args.client < c.self.inside.server.limits.clients = subst (λ (v : DispatcherState). c.args.client < v.server.limits.clients) (sym c.self.view_is) c.requires in
    let lt : c.args.client < length c.make_ready.new.self.boxes = subst (λ (n : ℕ). c.args.client < n) (sym sizes) there in
    subst (λ (v : DispatcherState). (other : ℕ) → mailbox_of (record { server = c.self.inside.server; mailboxes = c.collect.new.self }) other ≡ without_oldest (mailbox_of v) c.args.client other) c.self.view_is
    (collected_one (current_in (server_of d)) c.self.inside.mailboxes c.make_ready.new.self c.collect.new.self c.args.client lt ready c.in_ok-make_ready.ensures.ready c.collect.ensures.rest)

pub invariant_of-self : goal.invariant_of-self
invariant_of-self c = kept_ready c.self.inside.server c.state.result.now c.self.inside.mailboxes c.make_ready.new.self c.state.ensures.value c.make_ready.ensures.as_before c.self.invariant

pub invariant_of-self-2 : goal.invariant_of-self-2
invariant_of-self-2 c =
    let sizes : length c.make_ready.new.self.boxes ≡ c.self.inside.server.limits.clients = c.make_ready.ensures.as_before.clients ∙ c.self.invariant.0 in
    let there : c.args.client < c.self.inside.server.limits.clients = subst (λ (v : DispatcherState). c.args.client < v.server.limits.clients) (sym c.self.view_is) c.requires in
    let lt : c.args.client < length c.make_ready.new.self.boxes = subst (λ (n : ℕ). c.args.client < n) (sym sizes) there in
    kept_collected c.self.inside.server c.state.result.now c.self.inside.mailboxes c.make_ready.new.self c.collect.new.self c.args.client c.state.ensures.value c.make_ready.ensures.as_before c.in_ok-make_ready.ensures.ready c.collect.ensures.rest lt c.self.invariant

pub returns-clause-sent : goal.returns-clause-sent
returns-clause-sent c =
    let d : DispatcherState = record { server = c.self.inside.server; mailboxes = c.self.inside.mailboxes } in
    let ready = by_server c.self.inside.server c.state.result.now c.self.inside.mailboxes c.make_ready.new.self c.state.ensures.value c.make_ready.ensures.as_before in
    subst (λ (v : DispatcherState). IfSome c.collect.result (IsMailFor (server_of v) c.args.client)) c.self.view_is (oldest_mail d c.args.client c.collect.result c.self.invariant.1
    (c.collect.ensures.oldest ∙ ap (λ (l : List Frame). slice_get l 0) (oldest_one (current_in (server_of d)) c.self.inside.mailboxes c.make_ready.new.self c.args.client ready c.in_ok-make_ready.ensures.ready)))
