-- Goals of `calls_make_the_lists`.
use Rattle.cb_twoq.proofs.Called.{makes_lists}
use Rattle.cb_twoq.proofs.laws.calls_make_the_lists.Goals as goal

pub returns-clause-indexed : goal.returns-clause-indexed
returns-clause-indexed c = makes_lists

pub returns-clause-plain : goal.returns-clause-plain
returns-clause-plain c = makes_lists
