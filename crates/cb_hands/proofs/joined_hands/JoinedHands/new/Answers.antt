-- Goals of `JoinedHands::new`.
use Rattle.std.proofs.Common.{rules}
use Rattle.cb_hands.proofs.joined_hands.JoinedHands.new.Goals as goal

pub returns : goal.returns
returns c = search rules
