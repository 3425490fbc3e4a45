-- Goals of `JoinedHands::renew`.
use Rattle.std.proofs.Common.{arith}
use Rattle.std.proofs.lemmas.Grind.{common_steps}
use Rattle.cb_hands.proofs.joined_hands.JoinedHands.renew.Goals as goal

pub returns-clause-stored : goal.returns-clause-stored
returns-clause-stored c = grind (arith, common_steps)
