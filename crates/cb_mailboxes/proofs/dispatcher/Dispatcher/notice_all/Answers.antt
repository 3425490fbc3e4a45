-- Goals of `Dispatcher::notice_all`.
use Rattle.cb_mailboxes.proofs.Keeping.{kept_told}
use Rattle.cb_mailboxes.proofs.dispatcher.Dispatcher.notice_all.Goals as goal

pub invariant_of-self : goal.invariant_of-self
invariant_of-self c = kept_told c.self.inside.server c.self.inside.mailboxes c.notice_all.new.self c.notice_all.ensures.rest c.self.invariant
