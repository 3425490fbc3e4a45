-- Goals of `marked`.
use Rattle.cb_shelf.proofs.Answering.{on_any, not_one, no_mark}
use Rattle.cb_shelf.proofs.reading.marked.Goals as goal

pub returns-in_err-row-clause-err : goal.returns-in_err-row-clause-err
returns-in_err-row-clause-err c = on_any c.from_residual.result (λ values fits. not_one c.args.rows.now c.in_err-row.ensures.err values)

pub returns-in_err-number-clause-err : goal.returns-in_err-number-clause-err
returns-in_err-number-clause-err c = on_any c.from_residual-in_err-number.result (no_mark c.args.rows.now c.in_ok-row.row.now c.args.limits.now c.in_ok-row.ensures.ok c.in_err-number.ensures.err)
