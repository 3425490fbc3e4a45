-- Goals of `put`.
use Rattle.cb_twoq.proofs.Orders.{put_new}
use Rattle.cb_twoq.proofs.twoq.steps.put.Goals as goal

pub returns-in-Ok-clause-ok : goal.returns-in-Ok-clause-ok
returns-in-Ok-clause-ok c = rw c.in-Ok.ensures.entries (put_new c.args.cache.now c.args.page _ c.requires.out c.requires.room)
