-- Goals of `Cache::want`.
use Rattle.cb_cache.proofs.Steps.{wants}
use Rattle.cb_cache.proofs.cache.Cache.want.Goals as goal

pub returns : goal.returns
returns g c = rw (c.fix.ensures, c.insert.ensures, ← c.self.view_is) (wants _ c.args.page _ (rw (← c.self.view_is) at c.requires) c.self.invariant.sizes)
