-- Goals of `Cache::let_go`.
use Rattle.cb_cache.proofs.Steps.{lets_go}
use Rattle.cb_cache.proofs.cache.Cache.let_go.Goals as goal

pub returns : goal.returns
returns g c = rw (c.put.ensures, c.remove.ensures, c.remove-2.ensures, c.at-copy.ensures, ← c.self.view_is) (lets_go _ c.args.page (rw (← c.self.view_is) at c.requires.page) c.self.invariant.sizes)
