-- Goals of `pages_are_settled_by_decisions`.
use Rattle.cb_outbox.proofs.Saying.{settle_more, settle_stop, then_wait}
use Rattle.cb_outbox.proofs.laws.pages_are_settled_by_decisions.Goals as goal

pub returns : goal.returns
returns c = record { tested = then_wait; stops = settle_stop; goes_on = settle_more }
