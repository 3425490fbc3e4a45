-- Goals of `can_be_length`.
use Rattle.std.proofs.Common.{arith}
use Rattle.std.proofs.lemmas.Grind.{common_steps}
use Rattle.cb_frame.specs.Checks.{can_be_length}
use Rattle.cb_frame.proofs.decoding.lengths.can_be_length.Goals as goal

pub returns-in-Granted : goal.returns-in-Granted
unfolding can_be_length
returns-in-Granted c = grind (arith, common_steps)

pub returns-then-len-write_length-eq0 : goal.returns-then-len-write_length-eq0
unfolding can_be_length
returns-then-len-write_length-eq0 c = grind (arith, common_steps)
