-- Goals of `only_number`.
use Rattle.std.proofs.lemmas.Result.{IfOk-weaker, on_err_weaker}
use Rattle.cb_shelf.proofs.Answering.{on_any, not_one, no_number}
use Rattle.cb_shelf.proofs.reading.only_number.Goals as goal

pub returns-in_err-row-clause-err : goal.returns-in_err-row-clause-err
returns-in_err-row-clause-err c = on_any c.from_residual.result (λ values fits. not_one c.args.rows.now c.in_err-row.ensures.err values)

pub returns-clause-ok : goal.returns-clause-ok
returns-clause-ok c = IfOk-weaker c.number_at.result _ _ (λ number has. (c.in_ok-row.row.now, c.in_ok-row.ensures.ok, (has, tt))) c.number_at.ensures.ok

pub returns-clause-err : goal.returns-clause-err
returns-clause-err c = on_err_weaker c.number_at.result (λ other. no_number c.args.rows.now c.in_ok-row.row.now c.in_ok-row.ensures.ok other) c.number_at.ensures.err
