-- Goals of `last_unfixed`.
use Rattle.std.proofs.Common.{rules}
use Rattle.cb_twoq.proofs.Orders.{last_unfixed_step}
use Rattle.cb_twoq.proofs.twoq.steps.last_unfixed.Goals as goal

pub returns-then-not-is_fixed : goal.returns-then-not-is_fixed
returns-then-not-is_fixed c =
    let e = last_unfixed_step c.args.fixed.now c.args.cache.now.entries c.loop-page.rest c.next_back.new.self (c.in-Some.page.now, c.in-Some.field-0-1.now) c.in-Some.ensures.steps c.loop-page.invariant in
    search rules

pub loop-page-preserved : goal.loop-page-preserved
loop-page-preserved c =
    let e = last_unfixed_step c.args.fixed.now c.args.cache.now.entries c.loop-page.rest c.next_back.new.self (c.in-Some.page.now, c.in-Some.field-0-1.now) c.in-Some.ensures.steps c.loop-page.invariant in
    search rules
