-- Goals of `expect_number`.
use Rattle.std.proofs.Common.{◌≡◌, Err, rules}
use Rattle.cb_shelf.proofs.Asking.{tells_refused}
use Rattle.cb_shelf.specs.Reading.{question, number_values, IsNumber}
use Rattle.cb_shelf.proofs.Answering.{tells_agreed, else_weaker}
use Rattle.cb_shelf.proofs.reading.expect_number.Goals as goal

pub returns-in_err-found-clause-tells : goal.returns-in_err-found-clause-tells
returns-in_err-found-clause-tells g c =
    let same : c.from_residual.result ≡ Err c.in_err-found.field-0.0 = search rules in
    tells_refused g.S.Store _ _ _ _ _ _ _ _ same (λ db. else_weaker db (question c.args.text.now) (λ values. values ≡ number_values c.args.wanted) IsNumber (λ values is. (c.args.wanted, is))) c.in_err-found.ensures.tells

pub returns-clause-tells : goal.returns-clause-tells
returns-clause-tells g c = tells_agreed g.S.Store _ _ (question c.args.text.now) _ _ c.agree.result c.agree.ensures.ok c.agree.ensures.err c.in_ok-found.ensures.tells
