-- Goals of `unmark`.
use Rattle.std.proofs.Common.{arith}
use Rattle.std.proofs.lemmas.Grind.{common_steps}
use Rattle.cb_commit.proofs.commits.unmark.Goals as goal

pub loop-page-preserved : goal.loop-page-preserved
loop-page-preserved c = grind (arith, common_steps)
