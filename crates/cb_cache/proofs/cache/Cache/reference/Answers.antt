-- Goals of `Cache::reference`.
use Rattle.cb_cache.proofs.Keeping.{keeps_called}
use Rattle.cb_cache.proofs.cache.Cache.reference.Goals as goal

pub invariant_of-self : goal.invariant_of-self
invariant_of-self g c = rw c.reference.ensures.same (keeps_called _ _ c.self.invariant)

pub returns-clause-sound : goal.returns-clause-sound
returns-clause-sound g c = rw c.reference.ensures.same (keeps_called _ _ c.self.invariant)
