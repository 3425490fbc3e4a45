-- Goals of `Copies::clear`.
use Rattle.cb_pool.proofs.Counted.{counted_empty}
use Rattle.cb_pool.proofs.copies.Copies.clear.Goals as goal

pub invariant_of-self : goal.invariant_of-self
invariant_of-self c = rw c.take_away.ensures (counted_empty _ _ c.self.invariant.flags)
