-- Goals of `add`.
use Rattle.cb_twoq.proofs.Orders.{newest_added}
use Rattle.cb_twoq.proofs.twoq.steps.add.Goals as goal

pub returns-in-Ok-clause-ok : goal.returns-in-Ok-clause-ok
returns-in-Ok-clause-ok c = rw c.in-Ok.ensures.keys (newest_added c.args.page c.args.pages.now.keys c.requires)
