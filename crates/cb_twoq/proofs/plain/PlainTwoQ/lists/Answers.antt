-- Goals of `PlainTwoQ::lists`.
use Rattle.std.proofs.Common.{rules}
use Rattle.cb_twoq.proofs.plain.PlainTwoQ.lists.Goals as goal

pub returns-clause-a1in : goal.returns-clause-a1in
returns-clause-a1in c = search rules
