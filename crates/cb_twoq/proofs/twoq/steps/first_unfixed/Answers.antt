-- Goals of `first_unfixed`.
use Rattle.std.proofs.Common.{rules}
use Rattle.cb_twoq.proofs.Orders.{first_unfixed_step}
use Rattle.cb_twoq.proofs.twoq.steps.first_unfixed.Goals as goal

pub returns-then-not-is_fixed : goal.returns-then-not-is_fixed
returns-then-not-is_fixed c =
    let e = first_unfixed_step c.args.fixed.now c.args.pages.now c.loop-i.i c.index-pages-i.result (search rules) c.index-pages-i.is c.loop-i.invariant in
    search rules

pub loop-i-preserved : goal.loop-i-preserved
loop-i-preserved c =
    let e = first_unfixed_step c.args.fixed.now c.args.pages.now c.loop-i.i c.index-pages-i.result (search rules) c.index-pages-i.is c.loop-i.invariant in
    search rules
