-- What holds at each turn of the loops of `within_lives`.
use Rattle.std.proofs.Common.{◌≡◌, ◌++◌}
use Rattle.cb_transcript.specs.LivesTranscripts.{within_lives}
use Rattle.cb_transcript.proofs.lives_transcript.within_lives.Given as goal

abbrev pub invariant-loop-entry : goal.invariant-loop-entry
invariant-loop-entry l = within_lives l.fn.entries.items ≡ l.within.items ++ within_lives l.entry-iterator.rest.items
