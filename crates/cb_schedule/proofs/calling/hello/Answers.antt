-- Goals of `hello`.
use Rattle.cb_client.specs.ByTable.{as_before}
use Rattle.cb_protocol.specs.Answers.{AnsweredOk}
use Rattle.cb_protocol.specs.ClientCalls.{CallHello}
use Rattle.cb_transcript.specs.declared.answer.AnswerWord.TheVariants as word
use Rattle.cb_schedule.proofs.Replying.{one_reply, said_nothing}
use Rattle.cb_schedule.proofs.calling.hello.Goals as goal

pub returns-clause-ok : goal.returns-clause-ok
returns-clause-ok g c =
    let client = c.args.client.now in
    one_reply client client CallHello word.Ok c.hello-frame.result as_before c.one.result c.hello-frame.ensures.by_table c.hello-frame.ensures.fits c.one.ensures

pub returns-clause-fails : goal.returns-clause-fails
returns-clause-fails g c = said_nothing c.args.client.now CallHello AnsweredOk c.one.result c.hello-frame.ensures.by_table.word (λ reason e. cc)
