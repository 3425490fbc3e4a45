-- Goals of `Commits::next_number`.
use Rattle.std.proofs.Common.{rules}
use Rattle.cb_commit.proofs.commits.Commits.next_number.Goals as goal

pub returns-clause-value : goal.returns-clause-value
returns-clause-value c = search rules

pub returns-clause-succeeds : goal.returns-clause-succeeds
returns-clause-succeeds c = search rules
