-- Goals of `Cache::take_permission`.
use Rattle.cb_cache.proofs.Steps.{takes_permission}
use Rattle.cb_cache.proofs.cache.Cache.take_permission.Goals as goal

pub returns-clause-by_table : goal.returns-clause-by_table
returns-clause-by_table g c = rw (c.put.ensures, c.insert.ensures, c.at-copy.ensures, ← c.self.view_is) (takes_permission _ c.args.page c.args.txn (rw (← c.self.view_is) at c.requires.page) c.self.invariant.sizes)
