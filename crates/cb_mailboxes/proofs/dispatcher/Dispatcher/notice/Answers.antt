-- Goals of `Dispatcher::notice`.
use Rattle.cb_mailboxes.proofs.Keeping.{kept_told}
use Rattle.cb_mailboxes.proofs.dispatcher.Dispatcher.notice.Goals as goal

pub invariant_of-self : goal.invariant_of-self
invariant_of-self c = kept_told c.self.inside.server c.self.inside.mailboxes c.notice.new.self c.notice.ensures.rest c.self.invariant
