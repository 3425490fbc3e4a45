-- Goals of `writes_size`.
use Rattle.std.proofs.Common.{arith}
use Rattle.cb_frame.proofs.Sizes.{size_of_writes}
use Rattle.cb_frame.proofs.encoding.writes_size.Goals as goal

pub overflow_mul-result : goal.overflow_mul-result
overflow_mul-result c = omega (arith, (size_of_writes c.args.writes.now c.in-Some.write.now c.len.result c.requires c.in-Some.ensures.value c.len.ensures).1)

pub returns-in-Some-clause-value : goal.returns-in-Some-clause-value
returns-in-Some-clause-value c = (size_of_writes c.args.writes.now c.in-Some.write.now c.len.result c.requires c.in-Some.ensures.value c.len.ensures).0

pub returns-in-Some-clause-small : goal.returns-in-Some-clause-small
returns-in-Some-clause-small c = (size_of_writes c.args.writes.now c.in-Some.write.now c.len.result c.requires c.in-Some.ensures.value c.len.ensures).1
