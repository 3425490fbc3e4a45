-- Goals of `put_header`.
use Rattle.std.proofs.Common.{arith}
use Rattle.std.proofs.lemmas.Grind.{common_steps}
use Rattle.cb_frame.proofs.encoding.put_header.Goals as goal

pub returns : goal.returns
returns c = grind (arith, common_steps)
