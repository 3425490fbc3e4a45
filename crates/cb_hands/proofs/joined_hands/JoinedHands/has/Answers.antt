-- Goals of `JoinedHands::has`.
use Rattle.std.proofs.Common.{arith}
use Rattle.std.proofs.lemmas.Grind.{common_steps}
use Rattle.cb_hands.proofs.joined_hands.JoinedHands.has.Goals as goal

pub returns-then-client-len : goal.returns-then-client-len
returns-then-client-len c = grind (arith, common_steps)
