-- Goals of `sizes_fit`.
use Rattle.std.proofs.Common.{length, arith}
use Rattle.std.proofs.lemmas.Bool.Decides.{nat_tests}
use Rattle.cb_frame.proofs.Entries.{sizes_fit_step, sizes_fit_end, entries_left}
use Rattle.cb_frame.proofs.decoding.lengths.sizes_fit.Goals as goal

pub returns-then-size_at-page_size : goal.returns-then-size_at-page_size
returns-then-size_at-page_size c =
    let step = sizes_fit_step c.args.version c.args.page_size c.args.count c.loop.counter c.loop.rest.now c.loop-test.true in
    grind (arith, nat_tests)

pub loop-preserved : goal.loop-preserved
loop-preserved c =
    let step = sizes_fit_step c.args.version c.args.page_size c.args.count c.loop.counter c.loop.rest.now c.loop-test.true in
    let left = entries_left c.write_length-size.result c.args.count c.loop.counter (length c.loop.rest.now) c.loop-test.true c.loop.invariant.len in
    record {
      len = omega arith;
      so_far = grind (arith, nat_tests);
    }

pub returns : goal.returns
returns c = let done = sizes_fit_end c.args.version c.args.page_size c.args.count c.loop.counter c.loop.rest.now c.loop-test.false in grind arith
