-- Goals of `find_store`.
use Rattle.std.proofs.Common.{◌≡◌, Err, sym, subst, rules}
use Rattle.cb_shelf.proofs.Asking.{tells_refused}
use Rattle.cb_shelf.specs.declared.opening.TablesFound.{TablesFound}
use Rattle.cb_shelf.specs.Opening.{MisfitsFor}
use Rattle.cb_shelf.proofs.opening.find_store.Goals as goal

pub returns-in_err-old-in-Old-clause-tells : goal.returns-in_err-old-in-Old-clause-tells
returns-in_err-old-in-Old-clause-tells g c =
    let same : c.from_residual.result ≡ Err c.in_err-old-in-Old.field-0.0 = search rules in
    tells_refused g.S.Store _ _ _ _ _ _ _ _ same (λ db h. subst (λ (tables : TablesFound). MisfitsFor tables c.args.limits.now db) (sym c.in-Old.is) h) c.in_err-old-in-Old.ensures.tells

pub returns-in_err-_new-in-New-clause-tells : goal.returns-in_err-_new-in-New-clause-tells
returns-in_err-_new-in-New-clause-tells g c =
    let same : c.from_residual-in_err-_new-in-New.result ≡ Err c.in_err-_new-in-New.field-0.0 = search rules in
    tells_refused g.S.Store _ _ _ _ _ _ _ _ same (λ db h. subst (λ (tables : TablesFound). MisfitsFor tables c.args.limits.now db) (sym c.in-New.is) h) c.in_err-_new-in-New.ensures.tells
