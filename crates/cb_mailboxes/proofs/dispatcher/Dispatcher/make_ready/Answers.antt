-- Goals of `Dispatcher::make_ready`.
use Rattle.cb_mailboxes.proofs.Keeping.{kept_ready}
use Rattle.cb_mailboxes.proofs.dispatcher.Dispatcher.make_ready.Goals as goal

pub invariant_of-self : goal.invariant_of-self
invariant_of-self c = kept_ready c.self.inside.server c.state.result.now c.self.inside.mailboxes c.make_ready.new.self c.state.ensures.value c.make_ready.ensures.as_before c.self.invariant

pub invariant_of-self-2 : goal.invariant_of-self-2
invariant_of-self-2 c = kept_ready c.self.inside.server c.state.result.now c.self.inside.mailboxes c.make_ready.new.self c.state.ensures.value c.make_ready.ensures.as_before c.self.invariant
