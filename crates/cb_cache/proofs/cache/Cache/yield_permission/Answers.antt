-- Goals of `Cache::yield_permission`.
use Rattle.cb_cache.proofs.Steps.{yields}
use Rattle.cb_cache.proofs.cache.Cache.yield_permission.Goals as goal

pub returns : goal.returns
returns g c = rw (c.remove.ensures, ← c.self.view_is) (yields _ c.args.page (rw (← c.self.view_is) at c.requires) c.self.invariant.sizes)
