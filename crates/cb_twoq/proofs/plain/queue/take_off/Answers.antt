-- Goals of `take_off`.
use Rattle.std.proofs.Common.{sym}
use Rattle.cb_twoq.proofs.PageLists.{without_absent}
use Rattle.cb_twoq.proofs.plain.queue.take_off.Goals as goal

pub returns-in-None-clause-items : goal.returns-in-None-clause-items
returns-in-None-clause-items c = sym (without_absent c.args.page c.args.pages.now.items c.in-None.ensures)
