-- Goals of `count_rows`.
use Rattle.std.proofs.Common.{◌≡◌, Ok, Err, inl, inr, rules}
use Rattle.cb_shelf.proofs.Asking.{tells_then, tells_refused, tells_stops}
use Rattle.cb_shelf.proofs.Questions.{page_count_asks, mark_count_asks}
use Rattle.cb_shelf.proofs.Telling.{rows_told}
use Rattle.cb_shelf.proofs.Answering.{not_refused}
use Rattle.cb_shelf.proofs.opening.count_rows.Goals as goal

pub ask_number-requires : goal.ask_number-requires
ask_number-requires g c = page_count_asks

pub ask_number-requires-2 : goal.ask_number-requires-2
ask_number-requires-2 g c = mark_count_asks

pub returns-in_err-pages-clause-tells : goal.returns-in_err-pages-clause-tells
returns-in_err-pages-clause-tells g c =
    let same : c.from_residual.result ≡ Err c.in_err-pages.field-0.0 = search rules in
    tells_refused g.S.Store _ _ _ _ _ _ _ _ same (λ db h. inl h) c.in_err-pages.ensures.tells

pub returns-in_err-marks-clause-tells : goal.returns-in_err-marks-clause-tells
returns-in_err-marks-clause-tells g c =
    let same : c.from_residual-in_err-marks.result ≡ Err c.in_err-marks.field-0.0 = search rules in
    tells_stops g.S.Store _ _ _ _ _ _ _ _ _ _ _ _ same (λ db first h. inr h) c.in_ok-pages.ensures.tells c.in_err-marks.ensures.tells c.in_err-marks.ensures.inside.survives

pub returns-clause-tells : goal.returns-clause-tells
returns-clause-tells g c =
    tells_then g.S.Store _ _ _ _ _ _ _ _ _ _ _ (Ok c.any_row.result)
    (λ db first second. rows_told db _ _ c.any_row.result c.any_row.ensures.none c.any_row.ensures.some first second) (λ db first second wrong. not_refused wrong)
    c.in_ok-pages.ensures.tells c.in_ok-marks.ensures.tells c.in_ok-marks.ensures.inside.survives
