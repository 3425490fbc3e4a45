-- Goals of `PolledClient::read`.
use Rattle.std.proofs.Common.{Ok, ◌∙◌, subst}
use Rattle.cb_client.specs.CallAnswers.{AnswersRead}
use Rattle.cb_client.specs.declared.answers.ReadAnswer.{ReadAnswer}
use Rattle.cb_handle.proofs.Reading.{ask_is_out, ask_stays}
use Rattle.cb_handle.proofs.polled_client.PolledClient.read.Goals as goal

pub say_ask-requires-clause-out : goal.say_ask-requires-clause-out
say_ask-requires-clause-out c =
    let answers = subst (λ (x : ReadAnswer). AnswersRead c.args.self.now.client c.args.page (Ok x)) c.in-Ok-Asked.field-0-is c.in-Ok-Asked.ensures.answer in
    (c.args.page, ask_is_out c.args.self.now.client c.read.follows.lender-at-none c.args.page _ answers c.read.follows.holds-at-none)

pub returns-clause-said : goal.returns-clause-said
returns-clause-said c =
    let answers = subst (λ (x : ReadAnswer). AnswersRead c.args.self.now.client c.args.page (Ok x)) c.in-Ok-Asked.field-0-is c.in-Ok-Asked.ensures.answer in
    let out = ask_is_out c.args.self.now.client c.read.follows.lender-at-none c.args.page _ answers c.read.follows.holds-at-none in
    λ e. c.say_ask.ensures.said c.args.page out ∙ ask_stays c.args.self.now.client c.read.follows.lender-at-none c.args.page _ answers c.read.follows.holds-at-none
