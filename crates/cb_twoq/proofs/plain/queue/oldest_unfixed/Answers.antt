-- Goals of `oldest_unfixed`.
use Rattle.std.proofs.Common.{rules}
use Rattle.cb_twoq.proofs.PageLists.{oldest_unfixed_take}
use Rattle.cb_twoq.proofs.plain.queue.oldest_unfixed.Goals as goal

pub returns-then-not-is_fixed : goal.returns-then-not-is_fixed
returns-then-not-is_fixed c = let e = oldest_unfixed_take c.args.fixed.now c.args.pages.now.items c.loop-i.i c.index-page.result.now in search rules

pub loop-i-preserved : goal.loop-i-preserved
loop-i-preserved c = let e = oldest_unfixed_take c.args.fixed.now c.args.pages.now.items c.loop-i.i c.index-page.result.now in search rules
