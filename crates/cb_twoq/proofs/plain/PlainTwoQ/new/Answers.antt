-- Goals of `PlainTwoQ::new`.
use Rattle.cb_twoq.proofs.Referred.{none_queued}
use Rattle.cb_twoq.proofs.plain.PlainTwoQ.new.Goals as goal

pub invariant_of-result : goal.invariant_of-result
invariant_of-result c = rw c.in_ok-new.ensures (none_queued _ _ _)
