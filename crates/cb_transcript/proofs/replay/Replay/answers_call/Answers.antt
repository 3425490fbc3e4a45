-- Goals of `Replay::answers_call`.
use Rattle.std.proofs.Common.{rules}
use Rattle.cb_transcript.proofs.replay.Replay.answers_call.Goals as goal

pub returns-in-Bytes-clause-answers : goal.returns-in-Bytes-clause-answers
returns-in-Bytes-clause-answers c = search rules
