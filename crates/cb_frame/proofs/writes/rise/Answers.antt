-- Goals of `rise`.
use Rattle.std.proofs.Common.{arith}
use Rattle.std.proofs.lemmas.Grind.{common_steps}
use Rattle.cb_frame.proofs.writes.rise.Goals as goal

pub loop-write-preserved : goal.loop-write-preserved
loop-write-preserved c = grind (arith, common_steps)
