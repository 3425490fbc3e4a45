-- Goals of `first_bytes`.
use Rattle.std.proofs.Common.{sym, ◌∙◌}
use Rattle.std.proofs.lemmas.Result.{IfOk-weaker, on_err_weaker}
use Rattle.cb_shelf.proofs.Answering.{past_bytes}
use Rattle.cb_shelf.proofs.reading.first_bytes.Goals as goal

pub returns-in-Ok-clause-ok : goal.returns-in-Ok-clause-ok
returns-in-Ok-clause-ok c = IfOk-weaker c.bytes_of.result _ _ (λ bytes is. sym c.in-Ok.ensures.ok.1 ∙ is) c.bytes_of.ensures.ok

pub returns-in-Ok-clause-err : goal.returns-in-Ok-clause-err
returns-in-Ok-clause-err c = on_err_weaker c.bytes_of.result (λ other bytes count is. other bytes count (c.in-Ok.ensures.ok.1 ∙ is)) c.bytes_of.ensures.err

pub returns-in-Err-clause-err : goal.returns-in-Err-clause-err
returns-in-Err-clause-err c = λ bytes count. past_bytes c.args.row.now 0 c.in-Err.ensures.err.1 bytes
