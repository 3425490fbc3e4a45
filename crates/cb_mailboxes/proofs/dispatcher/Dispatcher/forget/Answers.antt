-- Goals of `Dispatcher::forget`.
use Rattle.cb_mailboxes.proofs.Keeping.{kept_forgot}
use Rattle.cb_mailboxes.proofs.dispatcher.Dispatcher.forget.Goals as goal

pub invariant_of-self : goal.invariant_of-self
invariant_of-self c = kept_forgot c.self.inside.server c.forget.new.self c.args.number c.self.inside.mailboxes c.forget.ensures c.self.invariant
