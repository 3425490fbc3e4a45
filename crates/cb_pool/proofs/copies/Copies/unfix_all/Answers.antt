-- Goals of `Copies::unfix_all`.
use Rattle.cb_pool.proofs.Counted.{counted_unfix}
use Rattle.cb_pool.proofs.copies.Copies.unfix_all.Goals as goal

pub invariant_of-self : goal.invariant_of-self
invariant_of-self c = rw c.clear.ensures (counted_unfix _ _ _ _ c.self.invariant)
