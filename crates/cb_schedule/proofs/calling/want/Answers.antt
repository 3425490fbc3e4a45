-- Goals of `want`.
use Rattle.std.proofs.Common.{[], Ok, ap, subst}
use Rattle.cb_client.specs.CallAnswers.{WantFits, Wants}
use Rattle.cb_client.specs.declared.answers.WantAnswer.{WantAnswer}
use Rattle.cb_client.specs.ByTable.{as_before}
use Rattle.cb_protocol.specs.Answers.{Asked, Permitted}
use Rattle.cb_protocol.specs.ClientCalls.{CallWant}
use Rattle.cb_transcript.specs.ProtocolEvents.{word_of}
use Rattle.cb_transcript.specs.declared.answer.AnswerWord.TheVariants as word
use Rattle.cb_schedule.proofs.Replying.{refusal_reply, refusal_told, replies_by, said_nothing}
use Rattle.cb_schedule.proofs.Replying.{short_reply}
use Rattle.cb_schedule.proofs.calling.want.Goals as goal

pub returns-in-Ok-Permitted-clause-ok : goal.returns-in-Ok-Permitted-clause-ok
returns-in-Ok-Permitted-clause-ok g c =
    replies_by c.args.client.now c.want.new.self (CallWant c.args.page) c.silent.result Permitted [] as_before
    (subst (λ (x : WantAnswer). Wants c.args.client.now c.args.page (Ok x) c.want.new.self) c.in-Ok-Permitted.field-0-is c.in-Ok-Permitted.ensures.by_table) (ap word_of c.silent.ensures.word) c.silent.ensures.said tt

pub returns-in-Ok-Asked-clause-ok : goal.returns-in-Ok-Asked-clause-ok
returns-in-Ok-Asked-clause-ok g c =
    short_reply c.args.client.now c.want.new.self (CallWant c.args.page) word.Asked c.from.result c.in-Ok-Asked.ask as_before c.one.result c.from.ensures
    (subst (λ (x : WantAnswer). Wants c.args.client.now c.args.page (Ok x) c.want.new.self) c.in-Ok-Asked.field-0-is c.in-Ok-Asked.ensures.by_table)
    (subst (λ (x : WantAnswer). WantFits c.args.client.now.copies.limits x) c.in-Ok-Asked.field-0-is c.in-Ok-Asked.ensures.fits) c.one.ensures

pub returns-in-Err-clause-ok : goal.returns-in-Err-clause-ok
returns-in-Err-clause-ok g c =
    refusal_reply c.args.client.now c.want.new.self (CallWant c.args.page) c.in-Err.fault c.refused.result c.in-Err.ensures.by_table.0 c.in-Err.ensures.by_table.1 c.refused.ensures.ok

pub returns-in-Ok-Asked-clause-fails : goal.returns-in-Ok-Asked-clause-fails
returns-in-Ok-Asked-clause-fails g c =
    said_nothing c.args.client.now (CallWant c.args.page) Asked c.one.result
    (subst (λ (x : WantAnswer). Wants c.args.client.now c.args.page (Ok x) c.want.new.self) c.in-Ok-Asked.field-0-is c.in-Ok-Asked.ensures.by_table).word (λ reason e. cc)

pub returns-in-Err-clause-fails : goal.returns-in-Err-clause-fails
returns-in-Err-clause-fails g c = refusal_told c.args.client.now (CallWant c.args.page) c.in-Err.fault c.refused.result c.in-Err.ensures.by_table.0 c.refused.ensures.fails
