-- Goals of `read_store`.
use Rattle.std.proofs.Common.{◌≡◌, Ok, Err, rules}
use Rattle.cb_shelf.proofs.Asking.{tells_then, tells_refused, tells_stops}
use Rattle.cb_shelf.specs.Reading.Misfits.{mark, page}
use Rattle.cb_shelf.proofs.Answering.{not_refused, holds_from}
use Rattle.cb_shelf.proofs.Telling.{tells_both}
use Rattle.cb_shelf.proofs.reading.read_store.Goals as goal

pub returns-in_err-number-clause-tells : goal.returns-in_err-number-clause-tells
returns-in_err-number-clause-tells g c =
    let same : c.from_residual.result ≡ Err c.in_err-number.field-0.0 = search rules in
    tells_refused g.S.Store _ _ _ _ _ _ _ _ same (λ db. mark) c.in_err-number.ensures.tells

pub returns-in_err-read_counts-clause-tells : goal.returns-in_err-read_counts-clause-tells
returns-in_err-read_counts-clause-tells g c =
    let same : c.from_residual-in_err-read_counts.result ≡ Err c.in_err-read_counts.field-0.0 = search rules in
    tells_stops g.S.Store _ _ _ _ _ _ _ _ _ _ _ _ same (λ db first h. h) c.in_ok-number.ensures.tells c.in_err-read_counts.ensures.tells c.in_err-read_counts.ensures.inside.survives

pub returns-in_err-pages-clause-tells : goal.returns-in_err-pages-clause-tells
returns-in_err-pages-clause-tells g c =
    let same : c.from_residual-in_err-pages.result ≡ Err c.in_err-pages.field-0.0 = search rules in
    tells_stops g.S.Store _ _ _ _ _ _ _ _ _ _ _ _ same (λ db first. page c.in_ok-number.number first.0)
    (tells_both g.S.Store _ _ _ _ _ _ _ _ _ c.in_ok-number.ensures.tells c.in_ok-read_counts.ensures.tells c.in_ok-read_counts.ensures.inside.survives) c.in_err-pages.ensures.tells c.in_err-pages.ensures.inside.survives

pub returns-clause-tells : goal.returns-clause-tells
returns-clause-tells g c =
    tells_then g.S.Store _ _ _ _ _ _ _ _ _ _ _ (Ok c.from_rows.result)
    (λ db first second. holds_from c.args.tables db c.args.limits.now c.in_ok-number.number c.in_ok-pages.pages.items c.from_rows.result c.from_rows.ensures c.in_ok-pages.ensures.count first.0 first.1 second)
    (λ db first second wrong. not_refused wrong)
    (tells_both g.S.Store _ _ _ _ _ _ _ _ _ c.in_ok-number.ensures.tells c.in_ok-read_counts.ensures.tells c.in_ok-read_counts.ensures.inside.survives) c.in_ok-pages.ensures.tells c.in_ok-pages.ensures.inside.survives
