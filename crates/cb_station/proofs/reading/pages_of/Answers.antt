-- Goals of `pages_of`.
use Rattle.std.proofs.Common.{arith}
use Rattle.std.proofs.lemmas.Grind.{common_steps}
use Rattle.cb_station.proofs.reading.pages_of.Goals as goal

pub loop-write-preserved : goal.loop-write-preserved
loop-write-preserved c = grind (arith, common_steps)
