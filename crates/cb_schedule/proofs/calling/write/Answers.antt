-- Goals of `write`.
use Rattle.std.proofs.Common.{[], ap}
use Rattle.cb_client.specs.CallAnswers.{puts}
use Rattle.cb_protocol.specs.Answers.{AnsweredOk}
use Rattle.cb_protocol.specs.ClientCalls.{CallWrite}
use Rattle.cb_transcript.specs.ProtocolEvents.{word_of}
use Rattle.cb_schedule.proofs.Replying.{refusal_reply, refusal_told, replies_by}
use Rattle.cb_schedule.proofs.calling.write.Goals as goal

pub returns-in-Ok-clause-ok : goal.returns-in-Ok-clause-ok
returns-in-Ok-clause-ok g c =
    replies_by c.args.client.now c.write.new.self (CallWrite c.args.page c.args.bytes.now) c.silent.result AnsweredOk [] (puts c.args.page c.args.bytes.now) c.in-Ok.ensures
    (ap word_of c.silent.ensures.word) c.silent.ensures.said tt

pub returns-in-Err-clause-ok : goal.returns-in-Err-clause-ok
returns-in-Err-clause-ok g c =
    refusal_reply c.args.client.now c.write.new.self (CallWrite c.args.page c.args.bytes.now) c.in-Err.fault c.refused.result c.in-Err.ensures.0 c.in-Err.ensures.1 c.refused.ensures.ok

pub returns-in-Err-clause-fails : goal.returns-in-Err-clause-fails
returns-in-Err-clause-fails g c = refusal_told c.args.client.now (CallWrite c.args.page c.args.bytes.now) c.in-Err.fault c.refused.result c.in-Err.ensures.0 c.refused.ensures.fails
