-- Goals of `pop`.
use Rattle.cb_twoq.proofs.Orders.{cached_removed}
use Rattle.cb_twoq.proofs.twoq.steps.pop.Goals as goal

pub returns-clause-pages : goal.returns-clause-pages
returns-clause-pages c = rw c.pop.ensures.entries (cached_removed c.args.page c.args.cache.now.entries)
