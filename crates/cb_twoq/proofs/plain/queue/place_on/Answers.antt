-- Goals of `place_on`.
use Rattle.std.proofs.Common.{rules}
use Rattle.cb_twoq.proofs.PageLists.{place}
use Rattle.cb_twoq.proofs.plain.queue.place_on.Goals as goal

pub returns-then-eq : goal.returns-then-eq
returns-then-eq c = place c.args.pages.now.items c.args.page c.loop-i.i c.index.result.now (search rules) (search rules) (search rules) c.loop-i.invariant.0 c.loop-i.invariant.1
