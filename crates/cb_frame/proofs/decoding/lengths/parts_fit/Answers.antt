-- Goals of `parts_fit`.
use Rattle.std.proofs.Common.{arith}
use Rattle.std.proofs.lemmas.Grind.{common_steps}
use Rattle.cb_frame.specs.Checks.{can_be_length, parts_fit}
use Rattle.cb_frame.proofs.decoding.lengths.parts_fit.Goals as goal

pub returns-in-Granted : goal.returns-in-Granted
unfolding parts_fit can_be_length
returns-in-Granted c = grind (arith, common_steps)
