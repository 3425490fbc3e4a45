-- Goals of `Transcript::from_parts`.
use Rattle.std.proofs.Common.{rules}
use Rattle.cb_transcript.proofs.transcript.Transcript.from_parts.Goals as goal

pub returns : goal.returns
returns c = search rules
