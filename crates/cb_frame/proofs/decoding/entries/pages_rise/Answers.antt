-- Goals of `pages_rise`.
use Rattle.std.proofs.Common.{length, arith, sym, ◌∙◌}
use Rattle.std.proofs.lemmas.Bool.Decides.{nat_tests}
use Rattle.cb_frame.proofs.Entries.{entries_left, numbers_go_on, rises_end, rises_step}
use Rattle.cb_frame.proofs.decoding.entries.pages_rise.Goals as goal

pub returns-then-page-least : goal.returns-then-page-least
returns-then-page-least c =
    let l = c.args.limits.now in
    let step = rises_step c.args.version l.page_size c.args.count c.loop.counter c.loop.least c.loop.rest.now c.loop-test.true in
    grind (arith, nat_tests)

pub overflow_add-least : goal.overflow_add-least
overflow_add-least c =
    let first = numbers_go_on c.args.limits.now c.args.version c.args.count c.loop.counter c.loop.rest.now c.loop-test.true c.loop.invariant.fit in
    let pages = c.page_size.ensures.in_range.pages in
    omega (arith, first.0, c.u32_at-page.ensures)

pub loop-preserved : goal.loop-preserved
loop-preserved c =
    let l = c.args.limits.now in
    let step = rises_step c.args.version l.page_size c.args.count c.loop.counter c.loop.least c.loop.rest.now c.loop-test.true in
    let first = numbers_go_on l c.args.version c.args.count c.loop.counter c.loop.rest.now c.loop-test.true c.loop.invariant.fit in
    let left = entries_left c.write_length-size.result c.args.count c.loop.counter (length c.loop.rest.now) c.loop-test.true c.loop.invariant.len in
    record {
      len = omega arith;
      fit = grind arith;
      so_far = grind (arith, nat_tests);
    }

pub returns : goal.returns
returns c =
    let done = rises_end c.args.version c.args.limits.now.page_size c.args.count c.loop.counter c.loop.least c.loop.rest.now c.loop-test.false in
    sym (sym c.loop.invariant.so_far ∙ done)
