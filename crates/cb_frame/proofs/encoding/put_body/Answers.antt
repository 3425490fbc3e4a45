-- Goals of `put_body`.
use Rattle.std.proofs.Common.{arith}
use Rattle.cb_frame.proofs.Sizes.{commit_count}
use Rattle.cb_frame.proofs.encoding.put_body.Goals as goal

pub overflow_cast-len : goal.overflow_cast-len
overflow_cast-len c = omega (arith, c.len.ensures, commit_count c.args.body.now c.in-Commit.txn c.in-Commit.writes c.requires c.in-Commit.is)
