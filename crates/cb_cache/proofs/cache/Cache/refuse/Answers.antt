-- Goals of `Cache::refuse`.
use Rattle.cb_cache.proofs.Steps.{refuses}
use Rattle.cb_cache.proofs.cache.Cache.refuse.Goals as goal

pub returns : goal.returns
returns g c = rw (c.put.ensures, c.greatest_grant.ensures, c.at-copy.ensures, ← c.self.view_is) (refuses _ c.args.page c.args.grant (rw (← c.self.view_is) at c.requires) c.self.invariant.sizes)
