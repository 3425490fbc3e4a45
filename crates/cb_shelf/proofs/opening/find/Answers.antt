-- Goals of `find`.
use Rattle.std.proofs.Common.{◌≡◌, Err, sym, subst, rules}
use Rattle.cb_shelf.proofs.Asking.{tells_last, tells_refused}
use Rattle.cb_shelf.specs.Opening.{Has, tables_of, Misshapen}
use Rattle.cb_shelf.specs.Opening.Misshapen.{mixed}
use Rattle.cb_shelf.proofs.Telling.{tells_kept, misfits_misshapen}
use Rattle.cb_shelf.proofs.opening.find.Goals as goal

pub returns-in_err-tables-clause-tells : goal.returns-in_err-tables-clause-tells
returns-in_err-tables-clause-tells g c =
    let same : c.from_residual.result ≡ Err c.in_err-tables.field-0.0 = search rules in
    tells_refused g.S.Store _ _ _ _ _ _ _ _ same (λ db. mixed) c.in_err-tables.ensures.tells

pub returns-clause-tells : goal.returns-clause-tells
returns-clause-tells g c =
    let tables = c.in_ok-tables.tables in
    tells_last g.S.Store _ _ _ _ _ _ _ _ (Misshapen c.args.limits.now) _ c.find_store.result
    (λ db found has known. (subst (Has db) (sym known.1) has, known.0)) (misfits_misshapen c.args.limits.now tables)
    c.in_ok-tables.ensures.tells (tells_kept g.S.Store _ (λ found. tables_of found ≡ tables) _ _ _ _ c.find_store.ensures.tables c.find_store.ensures.tells) c.find_store.ensures.inside.survives
