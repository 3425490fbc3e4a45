-- Goals of `commit_of`.
use Rattle.std.proofs.Common.{arith}
use Rattle.std.proofs.lemmas.Grind.{common_steps}
use Rattle.cb_frame.specs.Checks.{can_be_length, numbers_fit, pages_rise}
use Rattle.cb_frame.proofs.decoding.bodies.commit_of.Goals as goal

pub returns-in_err-writes-clause-body : goal.returns-in_err-writes-clause-body
unfolding can_be_length numbers_fit pages_rise
returns-in_err-writes-clause-body c = grind (arith, common_steps)
