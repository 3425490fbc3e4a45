-- Goals of `new_there`.
use Rattle.std.proofs.Common.{◌≡◌, Err, rules}
use Rattle.cb_shelf.specs.Inside.{IsNever}
use Rattle.cb_shelf.proofs.Asking.{tells_then, tells_refused, tells_stops}
use Rattle.cb_shelf.proofs.Telling.{tells_both, all_told, all_missed}
use Rattle.cb_shelf.proofs.opening.new_there.Goals as goal

pub returns-in_err-mark-clause-tells : goal.returns-in_err-mark-clause-tells
returns-in_err-mark-clause-tells g c =
    let same : c.from_residual.result ≡ Err c.in_err-mark.field-0.0 = search rules in
    tells_refused g.S.Store _ _ _ _ IsNever _ _ _ same (λ db wrong. absurd wrong) c.in_err-mark.ensures.tells

pub returns-in_err-page-clause-tells : goal.returns-in_err-page-clause-tells
returns-in_err-page-clause-tells g c =
    let same : c.from_residual-in_err-page.result ≡ Err c.in_err-page.field-0.0 = search rules in
    tells_stops g.S.Store _ _ _ _ _ _ _ IsNever _ _ _ _ same (λ db first wrong. absurd wrong) c.in_ok-mark.ensures.tells c.in_err-page.ensures.tells c.in_err-page.ensures.inside.survives

pub returns-in_err-part-clause-tells : goal.returns-in_err-part-clause-tells
returns-in_err-part-clause-tells g c =
    let same : c.from_residual-in_err-part.result ≡ Err c.in_err-part.field-0.0 = search rules in
    tells_stops g.S.Store _ _ _ _ _ _ _ IsNever _ _ _ _ same (λ db first wrong. absurd wrong)
    (tells_both g.S.Store _ _ _ _ _ _ _ _ _ c.in_ok-mark.ensures.tells c.in_ok-page.ensures.tells c.in_ok-page.ensures.inside.survives) c.in_err-part.ensures.tells c.in_err-part.ensures.inside.survives

pub returns-clause-tells : goal.returns-clause-tells
returns-clause-tells g c =
    tells_then g.S.Store _ _ _ _ _ _ _ _ _ _ _ c.all_or_none.result
    (λ db first second. all_told c.all_or_none.result _ _ _ _ _ _ c.all_or_none.ensures.ok first.0 first.1 second)
    (λ db first second. all_missed c.all_or_none.result _ _ _ _ _ _ c.all_or_none.ensures.err first.0 first.1 second)
    (tells_both g.S.Store _ _ _ _ _ _ _ _ _ c.in_ok-mark.ensures.tells c.in_ok-page.ensures.tells c.in_ok-page.ensures.inside.survives) c.in_ok-part.ensures.tells c.in_ok-part.ensures.inside.survives
