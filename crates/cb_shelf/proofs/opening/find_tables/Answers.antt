-- Goals of `find_tables`.
use Rattle.std.proofs.Common.{◌≡◌, Err, subst, rules}
use Rattle.std.proofs.lemmas.Result.{IfOk-weaker}
use Rattle.cb_shelf.proofs.Asking.{tells_then, tells_refused, tells_stops}
use Rattle.cb_shelf.specs.declared.fault.ShelfFault.TheVariants.{Shape}
use Rattle.cb_shelf.specs.Opening.{HasOld}
use Rattle.cb_shelf.specs.Opening.IsMixed.{some_old, some_new, uncounted}
use Rattle.cb_shelf.proofs.Answering.{at_err}
use Rattle.cb_shelf.proofs.Telling.{tells_both}
use Rattle.cb_shelf.proofs.opening.find_tables.Goals as goal

pub returns-in_err-old-clause-tells : goal.returns-in_err-old-clause-tells
returns-in_err-old-clause-tells g c =
    let same : c.from_residual.result ≡ Err c.in_err-old.field-0.0 = search rules in
    tells_refused g.S.Store _ _ _ _ _ _ _ _ same (λ db. some_old) c.in_err-old.ensures.tells

pub returns-in_err-new-clause-tells : goal.returns-in_err-new-clause-tells
returns-in_err-new-clause-tells g c =
    let same : c.from_residual-in_err-new.result ≡ Err c.in_err-new.field-0.0 = search rules in
    tells_stops g.S.Store _ _ _ _ _ _ _ _ _ _ _ _ same (λ db first. some_new) c.in_ok-old.ensures.tells c.in_err-new.ensures.tells c.in_err-new.ensures.inside.survives

pub returns-in_err-rows-clause-tells : goal.returns-in_err-rows-clause-tells
returns-in_err-rows-clause-tells g c =
    let same : c.from_residual-in_err-rows.result ≡ Err c.in_err-rows.field-0.0 = search rules in
    tells_stops g.S.Store _ _ _ _ _ _ _ _ _ _ _ _ same (λ db first h. uncounted (subst (HasOld db.schema) h.0 first.0) h.1)
    (tells_both g.S.Store _ _ _ _ _ _ _ _ _ c.in_ok-old.ensures.tells c.in_ok-new.ensures.tells c.in_ok-new.ensures.inside.survives) c.in_err-rows.ensures.tells c.in_err-rows.ensures.inside.survives

pub returns-clause-tells : goal.returns-clause-tells
returns-clause-tells g c =
    tells_then g.S.Store _ _ _ _ _ _ _ _ _ _ _ c.judged.result
    (λ db first second. IfOk-weaker c.judged.result _ _ (λ tables h. h db first.0 second first.1) c.judged.ensures.ok)
    (λ db first second is. at_err c.judged.result Shape is c.judged.ensures.err db first.0 second first.1)
    (tells_both g.S.Store _ _ _ _ _ _ _ _ _ c.in_ok-old.ensures.tells c.in_ok-new.ensures.tells c.in_ok-new.ensures.inside.survives) c.in_ok-rows.ensures.tells c.in_ok-rows.ensures.inside.survives
