-- Goals of `Outbox::say`.
use Rattle.std.proofs.Common.{arith}
use Rattle.std.proofs.lemmas.Grind.{common_steps}
use Rattle.cb_outbox.proofs.outbox.Outbox.say.Goals as goal

pub returns : goal.returns
returns c = grind (arith, common_steps)
