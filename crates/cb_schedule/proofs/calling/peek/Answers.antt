-- Goals of `peek`.
use Rattle.std.proofs.Common.{[], ap, ◌∙◌}
use Rattle.cb_client.specs.ByTable.{as_before}
use Rattle.cb_protocol.proofs.Cases.{fault_of_peek}
use Rattle.cb_protocol.specs.Answers.{AnsweredBytes, Nothing}
use Rattle.cb_protocol.specs.ClientCalls.{CallPeek}
use Rattle.cb_transcript.specs.ProtocolEvents.{word_of}
use Rattle.cb_schedule.proofs.Replying.{on_any_err, replies_by}
use Rattle.cb_schedule.proofs.calling.peek.Goals as goal

pub returns-in_ok-copy-in-Some-clause-ok : goal.returns-in_ok-copy-in-Some-clause-ok
returns-in_ok-copy-in-Some-clause-ok g c =
    let client = c.args.client.now in
    replies_by client client (CallPeek c.args.page) c.silent.result (AnsweredBytes c.in-Some.bytes.now) [] as_before c.in-Some.ensures
    (ap word_of c.silent.ensures.word ∙ ap AnsweredBytes c.in_ok-copy-in-Some.ensures) c.silent.ensures.said tt

pub returns-in-None-clause-ok : goal.returns-in-None-clause-ok
returns-in-None-clause-ok g c =
    let client = c.args.client.now in
    replies_by client client (CallPeek c.args.page) c.silent-in-None.result Nothing [] as_before c.in-None.ensures (ap word_of c.silent-in-None.ensures.word) c.silent-in-None.ensures.said tt

pub returns-in_err-copy-in-Some-clause-fails : goal.returns-in_err-copy-in-Some-clause-fails
returns-in_err-copy-in-Some-clause-fails g c = on_any_err c.from_residual.result (λ operations. fault_of_peek _ _ c.args.page)
