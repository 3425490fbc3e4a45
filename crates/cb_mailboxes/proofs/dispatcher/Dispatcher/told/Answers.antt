-- Goals of `Dispatcher::told`.
use Rattle.cb_mailboxes.proofs.Keeping.{kept_told}
use Rattle.cb_mailboxes.proofs.dispatcher.Dispatcher.told.Goals as goal

pub invariant_of-self : goal.invariant_of-self
invariant_of-self c = kept_told c.self.inside.server c.self.inside.mailboxes c.told.new.self c.told.ensures.rest c.self.invariant
