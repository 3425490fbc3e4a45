-- Goals of `Commits::can_flush`.
use Rattle.std.proofs.Common.{rules}
use Rattle.cb_commit.proofs.commits.Commits.can_flush.Goals as goal

pub returns-then-self-get : goal.returns-then-self-get
returns-then-self-get c = search rules
