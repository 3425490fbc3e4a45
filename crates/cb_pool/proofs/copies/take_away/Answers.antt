-- Goals of `take_away`.
use Rattle.cb_pool.proofs.Cleared.{cleared}
use Rattle.cb_pool.proofs.copies.take_away.Goals as goal

pub returns : goal.returns
returns c = cleared _ _ c.args.gone.now _ _ c.loop-page.invariant.count c.loop-page.invariant.below c.loop-page.invariant.others c.in_default.ensures
