-- Goals of `dones`.
use Rattle.std.proofs.Common.{arith, rules}
use Rattle.std.proofs.lemmas.Grind.{common_steps}
use Rattle.cb_commit.proofs.commits.dones.Goals as goal

pub loop-commit-preserved : goal.loop-commit-preserved
loop-commit-preserved c = grind (arith, common_steps)

pub returns-clause-room : goal.returns-clause-room
returns-clause-room c = search rules
