-- Goals of `renew`.
use Rattle.cb_twoq.proofs.Orders.{cached_renewed}
use Rattle.cb_twoq.proofs.twoq.steps.renew.Goals as goal

pub returns-clause-pages : goal.returns-clause-pages
returns-clause-pages c = rw c.promote.ensures.entries (cached_renewed c.args.page c.args.cache.now.entries)
