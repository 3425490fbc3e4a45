-- Goals of `writes_of`.
use Rattle.std.proofs.Common.{length, ◌∙◌, arith, rules}
use Rattle.cb_frame.proofs.Entries.{entries_left, numbers_go_on, writes_goes_on, writes_done}
use Rattle.cb_frame.proofs.decoding.entries.writes_of.Goals as goal

pub write_of-requires-clause-fits : goal.write_of-requires-clause-fits
write_of-requires-clause-fits c =
    (numbers_go_on c.args.limits.now c.args.version c.args.count c.loop.counter c.loop.rest.now c.loop-test.true c.loop.invariant.fit).1

pub loop-preserved : goal.loop-preserved
loop-preserved c =
    let l = c.args.limits.now in
    let left = entries_left c.write_length-size.result c.args.count c.loop.counter (length c.loop.rest.now) c.loop-test.true c.loop.invariant.len in
    let first = numbers_go_on l c.args.version c.args.count c.loop.counter c.loop.rest.now c.loop-test.true c.loop.invariant.fit in
    record {
      len = omega arith;
      fit = grind arith;
      room = omega (arith, c.loop.invariant.room, c.push_reserved.ensures.len, c.push_reserved.ensures.capacity, c.loop-test.true);
      so_far = rw (c.push_reserved.ensures.items, c.in_ok-write.ensures, c.split_at.ensures.back) (rw (c.write_length-size.ensures, c.page_size.ensures.value) (writes_goes_on c.args.version l.page_size c.args.count c.loop.counter c.loop.rest.now c.loop.writes.items _ c.loop-test.true c.loop.invariant.so_far));
    }

pub returns-clause-writes : goal.returns-clause-writes
returns-clause-writes c =
    c.from_vec.ensures ∙ writes_done c.args.version c.args.limits.now.page_size c.args.count c.loop.counter c.loop.rest.now c.loop.writes.items _ c.loop-test.false c.loop.invariant.so_far

pub returns-in_err-writes-clause-empty : goal.returns-in_err-writes-clause-empty
returns-in_err-writes-clause-empty c = search rules
