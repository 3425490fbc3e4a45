-- Goals of `Transcript::tell`.
use Rattle.std.proofs.Common.{rules}
use Rattle.cb_transcript.proofs.transcript.Transcript.tell.Goals as goal

pub returns-clause-ok : goal.returns-clause-ok
returns-clause-ok c = search rules
