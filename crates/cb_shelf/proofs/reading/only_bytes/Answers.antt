-- Goals of `only_bytes`.
use Rattle.std.proofs.lemmas.Result.{IfOk-weaker, on_err_weaker}
use Rattle.cb_shelf.proofs.Answering.{on_any, not_one, no_bytes}
use Rattle.cb_shelf.proofs.reading.only_bytes.Goals as goal

pub returns-in_err-row-clause-err : goal.returns-in_err-row-clause-err
returns-in_err-row-clause-err c = on_any c.from_residual.result (λ values fits. not_one c.args.rows.now c.in_err-row.ensures.err values)

pub returns-clause-ok : goal.returns-clause-ok
returns-clause-ok c = IfOk-weaker c.first_bytes.result _ _ (λ bytes has. (c.in_ok-row.row.now, c.in_ok-row.ensures.ok, (has, tt))) c.first_bytes.ensures.ok

pub returns-clause-err : goal.returns-clause-err
returns-clause-err c = on_err_weaker c.first_bytes.result (λ other. no_bytes c.args.rows.now c.in_ok-row.row.now c.args.count c.in_ok-row.ensures.ok other) c.first_bytes.ensures.err
