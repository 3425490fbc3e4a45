-- Goals of `TwoQ::new`.
use Rattle.std.proofs.Common.{sym, subst, rules}
use Rattle.cb_twoq.specs.Queues.{TwoQState, AreQueues}
use Rattle.cb_twoq.specs.Places.{ArePlaces}
use Rattle.cb_twoq.proofs.Referred.{none_queued}
use Rattle.cb_twoq.proofs.Placing.{none_placed}
use Rattle.cb_twoq.proofs.twoq.TwoQ.new.Goals as goal

pub invariant_of-result : goal.invariant_of-result
invariant_of-result c = (subst AreQueues (sym c.in_ok-new.ensures.queues) (none_queued _ _ _), search rules, subst (λ (q : TwoQState). ArePlaces c.in_ok-new.field-0.places.items q) (sym c.in_ok-new.ensures.queues) (none_placed _ _ _ _ c.in_ok-new.ensures.places))
