-- Goals of `Drawing::next_event`.
use Rattle.std.proofs.Common.{rules}
use Rattle.cb_transcript.proofs.drawing.Drawing.next_event.Goals as goal

pub returns-clause-event : goal.returns-clause-event
returns-clause-event c = search rules

pub returns-clause-fails : goal.returns-clause-fails
returns-clause-fails c = search rules

pub returns-clause-words : goal.returns-clause-words
returns-clause-words c = search rules
