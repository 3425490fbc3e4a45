-- Goals of `numbers_fit`.
use Rattle.std.proofs.Common.{length, arith}
use Rattle.cb_frame.proofs.Entries.{entries_left, numbers_end, numbers_step}
use Rattle.cb_frame.proofs.decoding.entries.numbers_fit.Goals as goal

pub returns-then-not-is_write : goal.returns-then-not-is_write
returns-then-not-is_write c =
    let step = numbers_step c.args.limits.now c.args.version c.args.count c.loop.counter c.loop.rest.now c.loop-test.true in
    grind arith

pub loop-preserved : goal.loop-preserved
loop-preserved c =
    let step = numbers_step c.args.limits.now c.args.version c.args.count c.loop.counter c.loop.rest.now c.loop-test.true in
    let left = entries_left c.write_length-size.result c.args.count c.loop.counter (length c.loop.rest.now) c.loop-test.true c.loop.invariant.len in
    record {
      len = omega arith;
      so_far = grind arith;
    }

pub returns : goal.returns
returns c =
    let done = numbers_end c.args.limits.now c.args.version c.args.count c.loop.counter c.loop.rest.now c.loop-test.false in
    grind arith
