-- Goals of `finish`.
use Rattle.cb_client.specs.ByTable.{as_before}
use Rattle.cb_protocol.specs.Answers.{AnsweredOk}
use Rattle.cb_protocol.specs.ClientCalls.{CallFinish}
use Rattle.cb_transcript.specs.declared.answer.AnswerWord.TheVariants as word
use Rattle.cb_schedule.proofs.Replying.{lack_told, one_reply, refused_or_lacks, said_nothing}
use Rattle.cb_schedule.proofs.calling.finish.Goals as goal

pub returns-in-Ok-clause-ok : goal.returns-in-Ok-clause-ok
returns-in-Ok-clause-ok g c =
    one_reply c.args.client.now c.finish.new.self CallFinish word.Ok c.in-Ok.frame as_before c.one.result c.in-Ok.ensures.by_table c.in-Ok.ensures.fits c.one.ensures

pub returns-in-Err-clause-ok : goal.returns-in-Err-clause-ok
returns-in-Err-clause-ok g c =
    refused_or_lacks c.args.client.now c.finish.new.self CallFinish c.in-Err.fault c.refused.result c.in-Err.ensures.by_table c.refused.ensures.ok

pub returns-in-Ok-clause-fails : goal.returns-in-Ok-clause-fails
returns-in-Ok-clause-fails g c = said_nothing c.args.client.now CallFinish AnsweredOk c.one.result c.in-Ok.ensures.by_table.word (λ reason e. cc)

pub returns-in-Err-clause-fails : goal.returns-in-Err-clause-fails
returns-in-Err-clause-fails g c = lack_told c.args.client.now c.finish.new.self CallFinish c.in-Err.fault c.refused.result c.in-Err.ensures.by_table c.refused.ensures.fails
