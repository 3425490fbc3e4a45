-- Goals of `ask_number`.
use Rattle.std.proofs.Common.{◌≡◌, Err, IfOk, OnErr, refl, rules}
use Rattle.cb_shelf.specs.Asking.{IsRow}
use Rattle.cb_shelf.specs.Inside.{IsNever}
use Rattle.cb_shelf.proofs.Asking.{tells_refused}
use Rattle.cb_shelf.specs.Reading.{number_values, IsNumber}
use Rattle.cb_shelf.proofs.Answering.{tells_row}
use Rattle.cb_shelf.proofs.reading.ask_number.Goals as goal

pub returns-in_err-rows-clause-tells : goal.returns-in_err-rows-clause-tells
returns-in_err-rows-clause-tells g c =
    let same : c.from_residual.result ≡ Err c.in_err-rows.field-0.0 = search rules in
    tells_refused g.S.Store _ _ _ _ IsNever _ _ _ same (λ db wrong. absurd wrong) (c.in_err-rows.ensures.tells c.requires)

pub returns-clause-tells : goal.returns-clause-tells
returns-clause-tells g c =
    let ok : IfOk c.only_number.result (λ number. IsRow c.in_ok-rows.rows.items (number_values number)) = rw (← c.deref.ensures.value) c.only_number.ensures.ok in
    let err : OnErr c.only_number.result ((values : _) → IsNumber values → ¬ IsRow c.in_ok-rows.rows.items values) = rw (← c.deref.ensures.value) c.only_number.ensures.err in
    tells_row g.S.Store _ _ (λ rows. rows.items) number_values IsNumber _ _ c.in_ok-rows.rows c.only_number.result refl ok err (c.in_ok-rows.ensures.tells c.requires)
