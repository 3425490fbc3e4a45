-- Goals of `TwoQ::parts`.
use Rattle.std.proofs.Common.{arith}
use Rattle.std.proofs.lemmas.Grind.{common_steps}
use Rattle.cb_twoq.proofs.twoq.TwoQ.parts.Goals as goal

pub returns-clause-a1out : goal.returns-clause-a1out
returns-clause-a1out c = grind (arith, common_steps)
