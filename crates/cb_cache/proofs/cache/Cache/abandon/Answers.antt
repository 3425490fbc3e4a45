-- Goals of `Cache::abandon`.
use Rattle.cb_cache.proofs.Steps.{abandons}
use Rattle.cb_cache.proofs.cache.Cache.abandon.Goals as goal

pub returns-clause-by_table : goal.returns-clause-by_table
returns-clause-by_table g c = λ outcome. rw (c.unfix_all.ensures, c.clear.ensures, c.clear-2.ensures, c.clear-3.ensures, ← c.self.view_is)
    (abandons _ outcome _ _ _ _ _ _ c.drop_copies.ensures.rows c.drop_copies.ensures.pool)
