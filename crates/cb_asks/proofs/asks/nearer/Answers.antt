-- Goals of `nearer`.
use Rattle.std.proofs.Common.{rules}
use Rattle.cb_asks.proofs.asks.nearer.Goals as goal

pub returns-then-index-clause-place : goal.returns-then-index-clause-place
returns-then-index-clause-place c = search rules

pub returns-else-index-clause-best : goal.returns-else-index-clause-best
returns-else-index-clause-best c = search rules
