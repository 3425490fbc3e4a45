-- What holds at each turn of the loops of `JoinedHands::new`.
use Rattle.std.proofs.Common.{◌≡◌, None, replicate}
use Rattle.cb_hands.proofs.joined_hands.JoinedHands.new.Given as goal

abbrev pub invariant-loop-client : goal.invariant-loop-client
invariant-loop-client l = l.entries.items ≡ replicate l._client None
