-- Goals of `read`.
use Rattle.cb_protocol.specs.Answers.{AnsweredBytes, Asked}
use Rattle.cb_protocol.specs.ClientCalls.{CallRead}
use Rattle.std.proofs.Common.{rules, ◌≡◌, Ok, ◌∙◌, subst}
use Rattle.cb_client.specs.CallAnswers.{AnswersRead}
use Rattle.cb_client.specs.declared.answers.ReadAnswer.{ReadAnswer}
use Rattle.cb_schedule.proofs.Replying.{ask_is_out, asked_reply, read_refused, read_reply}
use Rattle.cb_schedule.proofs.Replying.{refusal_reply, refusal_told, said_nothing}
use Rattle.cb_schedule.proofs.calling.read.Goals as goal

pub returns-in-Err-clause-ok : goal.returns-in-Err-clause-ok
returns-in-Err-clause-ok g c =
    refusal_reply c.args.client.now c.read.follows.lender-at-none (CallRead c.args.page) c.in-Err.fault c.refused.result c.in-Err.ensures.answer
    (c.read.follows.holds-at-none ∙ read_refused c.args.client.now c.args.page c.in-Err.fault c.in-Err.ensures.answer) c.refused.ensures.ok

pub asked-requires : goal.asked-requires
asked-requires g c =
    let answers = subst (λ (x : ReadAnswer). AnswersRead c.args.client.now c.args.page (Ok x)) c.in-Ok-Asked.field-0-is c.in-Ok-Asked.ensures.answer in
    (c.args.page, ask_is_out c.args.client.now c.read.follows.lender-at-none c.args.page answers c.read.follows.holds-at-none)

pub returns-clause-ok : goal.returns-clause-ok
returns-clause-ok g c =
    let answers = subst (λ (x : ReadAnswer). AnswersRead c.args.client.now c.args.page (Ok x)) c.in-Ok-Asked.field-0-is c.in-Ok-Asked.ensures.answer in
    let out = ask_is_out c.args.client.now c.read.follows.lender-at-none c.args.page answers c.read.follows.holds-at-none in
    asked_reply c.args.client.now c.read.follows.lender-at-none c.args.page c.asked.result c.in-Ok-Asked.ensures.by_table answers c.read.follows.holds-at-none (c.asked.ensures c.args.page out)

pub returns-in-Err-clause-fails : goal.returns-in-Err-clause-fails
returns-in-Err-clause-fails g c = refusal_told c.args.client.now (CallRead c.args.page) c.in-Err.fault c.refused.result c.in-Err.ensures.answer c.refused.ensures.fails

pub returns-clause-fails : goal.returns-clause-fails
returns-clause-fails g c =
    said_nothing c.args.client.now (CallRead c.args.page) Asked c.asked.result
    (subst (λ (x : ReadAnswer). AnswersRead c.args.client.now c.args.page (Ok x)) c.in-Ok-Asked.field-0-is c.in-Ok-Asked.ensures.answer).word (λ reason e. cc)

pub returns-in_err-copy-in-Ok-Bytes-clause-fails : goal.returns-in_err-copy-in-Ok-Bytes-clause-fails
returns-in_err-copy-in-Ok-Bytes-clause-fails g c =
    said_nothing c.args.client.now (CallRead c.args.page) (AnsweredBytes c.in-Ok-Bytes.bytes.now) c.from_residual.result
    (subst (λ (x : ReadAnswer). AnswersRead c.args.client.now c.args.page (Ok x)) c.in-Ok-Bytes.field-0-is c.in-Ok-Bytes.ensures.answer).word (λ reason e. cc)

pub returns-in-Ok-Bytes-clause-ok : goal.returns-in-Ok-Bytes-clause-ok
returns-in-Ok-Bytes-clause-ok g c =
    let copied : c.in_ok-copy-in-Ok-Bytes.copy ≡ c.in-Ok-Bytes.bytes.now = search rules in
    let answers = subst (λ (x : ReadAnswer). AnswersRead c.args.client.now c.args.page (Ok x)) c.in-Ok-Bytes.field-0-is c.in-Ok-Bytes.ensures.answer in
    read_reply c.args.client.now c.read.follows.lender-at-none c.args.page c.in-Ok-Bytes.bytes.now c.in_ok-copy-in-Ok-Bytes.copy c.silent.result c.in-Ok-Bytes.ensures.by_table answers
    c.read.follows.holds-at-none copied c.silent.ensures.word c.silent.ensures.said
