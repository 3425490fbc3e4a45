-- Goals of `encode`.
use Rattle.std.proofs.Common.{arith, append_assoc}
use Rattle.std.proofs.lemmas.Grind.{common_steps}
use Rattle.cb_frame.specs.Spelling.{spelling, spelling_in}
use Rattle.cb_frame.proofs.encoding.encode.Goals as goal

pub returns : goal.returns
unfolding spelling spelling_in
returns c = grind (arith, common_steps, append_assoc)
