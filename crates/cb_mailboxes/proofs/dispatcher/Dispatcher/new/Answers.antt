-- Goals of `Dispatcher::new`.
use Rattle.cb_mailboxes.proofs.Keeping.{kept_new}
use Rattle.cb_mailboxes.proofs.dispatcher.Dispatcher.new.Goals as goal

pub invariant_of-result : goal.invariant_of-result
invariant_of-result c = kept_new c.args.limits.now c.args.store _ c.in_ok-server.server c.in_ok-mailboxes.mailboxes c.number-known.ensures.sound c.in_ok-server.ensures c.clients.ensures.value c.in_ok-mailboxes.ensures.empty
