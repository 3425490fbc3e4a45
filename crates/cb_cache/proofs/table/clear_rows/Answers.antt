-- Goals of `clear_rows`.
use Rattle.cb_pool.proofs.Cleared.{cleared}
use Rattle.cb_cache.proofs.table.clear_rows.Goals as goal

pub returns : goal.returns
returns c = cleared _ _ c.args.known.now _ _ c.loop-page.invariant.count c.loop-page.invariant.below c.loop-page.invariant.others c.in_default.ensures
