-- Goals of `Cache::write`.
use Rattle.cb_cache.proofs.PoolRoom.{within_pool}
use Rattle.cb_cache.proofs.Steps.{writes}
use Rattle.cb_cache.proofs.cache.Cache.write.Goals as goal

pub returns : goal.returns
returns g c = rw (c.fix.ensures, c.write.ensures, c.insert.ensures, ← c.self.view_is)
    (writes _ c.args.page c.args.bytes.now _ (within_pool _ c.args.page (rw (← c.self.view_is) at c.requires.here)) c.self.invariant.sizes)
