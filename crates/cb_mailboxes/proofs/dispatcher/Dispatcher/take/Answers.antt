-- Goals of `Dispatcher::take`.
use Rattle.std.proofs.Common.{◌≡◌, [], refl, subst, sym}
use Rattle.cb_mailboxes.proofs.Keeping.{comes_from, kept_posted, kept_refused, same_before}
use Rattle.cb_mailboxes.specs.Dispatching.{DispatcherState, server_of}
use Rattle.cb_mailboxes.specs.Mailboxes.{current_in}
use Rattle.cb_outbox.specs.Messages.{body_of}
use Rattle.cb_server.specs.Taking.{input_of}
use Rattle.cb_mailboxes.proofs.dispatcher.Dispatcher.take.Goals as goal

pub invariant_of-self : goal.invariant_of-self
invariant_of-self c =
    let d : DispatcherState = record { server = c.self.inside.server; mailboxes = c.self.inside.mailboxes } in
    kept_refused d.server d.server.state d.mailboxes d.mailboxes c.take.new.self refl (same_before (current_in (server_of d)) d.mailboxes) c.in_err-said.ensures.unchanged c.self.invariant

pub invariant_of-self-2 : goal.invariant_of-self-2
invariant_of-self-2 c =
    let d : DispatcherState = record { server = c.self.inside.server; mailboxes = c.self.inside.mailboxes } in
    let none : d.mailboxes.late ≡ [] = subst (λ (v : DispatcherState). v.mailboxes.late ≡ []) (sym c.self.view_is) c.in-Ok.ensures.ready in
    let same : d.server ≡ c.args.self.now.server = subst (λ (v : DispatcherState). v.server ≡ c.args.self.now.server) (sym c.self.view_is) c.make_ready.ensures.server in
    let comes = comes_from c.args.self.now d c.args.frame.now.client c.args.frame.now.incarnation (body_of c.args.frame.now.body) same c.requires.client in
    kept_posted d.server d.server.state d.mailboxes d.mailboxes c.take.new.self (input_of c.args.frame.now) c.in_ok-said.said.items refl (same_before (current_in (server_of d)) d.mailboxes) none c.in_ok-said.ensures.ok.does comes c.self.invariant c.put.new.self c.put.ensures.boxes c.put.ensures.late c.put.ensures.untold
