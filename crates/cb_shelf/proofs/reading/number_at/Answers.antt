-- Goals of `number_at`.
use Rattle.std.proofs.Common.{sym, ◌∙◌}
use Rattle.std.proofs.lemmas.Result.{IfOk-weaker, on_err_weaker}
use Rattle.cb_shelf.proofs.Answering.{past_number}
use Rattle.cb_shelf.proofs.reading.number_at.Goals as goal

pub returns-in-Ok-clause-ok : goal.returns-in-Ok-clause-ok
returns-in-Ok-clause-ok c = IfOk-weaker c.number_of.result _ _ (λ number is. sym c.in-Ok.ensures.ok.1 ∙ is) c.number_of.ensures.ok

pub returns-in-Ok-clause-err : goal.returns-in-Ok-clause-err
returns-in-Ok-clause-err c = on_err_weaker c.number_of.result (λ other number is. other number (c.in-Ok.ensures.ok.1 ∙ is)) c.number_of.ensures.err

pub returns-in-Err-clause-err : goal.returns-in-Err-clause-err
returns-in-Err-clause-err c = past_number c.args.row.now c.args.at c.in-Err.ensures.err.1
