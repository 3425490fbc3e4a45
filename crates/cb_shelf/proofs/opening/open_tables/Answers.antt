-- Goals of `open_tables`.
use Rattle.std.proofs.Common.{◌≡◌, Err, inl, refl, sym, subst, ◌∙◌, rules, arith}
use Rattle.sqlite.specs.State.{HasCleanDisk}
use Rattle.cb_shelf.specs.Opening.{Finds}
use Rattle.sqlite.specs.Held.{state}
use Rattle.cb_shelf.proofs.Answering.{fault_is}
use Rattle.cb_shelf.proofs.Settling.{copy_survives, zeros_survive, lays_zeros, lays_copy}
use Rattle.cb_shelf.proofs.opening.open_tables.Goals as goal

pub returns-in_err-found-clause-shape : goal.returns-in_err-found-clause-shape
returns-in_err-found-clause-shape g c clean is =
    let same : c.from_residual.result ≡ Err c.in_err-found.field-0.0 = search rules in
    c.in_err-found.ensures.shape clean (rw (fault_is (sym same ∙ is)) refl)

pub returns-in-Old-clause-crash : goal.returns-in-Old-clause-crash
returns-in-Old-clause-crash g c =
    copy_survives g.S.Store c.args.limits.now c.in-Old.store c.args.conn.now c.look.new.conn c.make_tables.new.conn (search rules)
    (λ early. subst (Finds c.args.limits.now (state g.S.Store c.args.conn.now).now) c.in-Old.is (c.in_ok-found.ensures.told early)) c.look.ensures.same c.look.ensures.crash c.make_tables.ensures.crash

pub returns-in-Nothing-clause-crash : goal.returns-in-Nothing-clause-crash
returns-in-Nothing-clause-crash g c =
    zeros_survive g.S.Store c.args.limits.now c.args.conn.now c.look.new.conn c.make_zeros.new.conn
    (λ early. subst (Finds c.args.limits.now (state g.S.Store c.args.conn.now).now) c.in-Nothing.is (c.in_ok-found.ensures.told early)) c.look.ensures.same c.look.ensures.crash c.make_zeros.ensures.crash

pub returns-in-Nothing-clause-laid_out : goal.returns-in-Nothing-clause-laid_out
returns-in-Nothing-clause-laid_out g c clean open_still =
    let early : HasCleanDisk (state g.S.Store c.look.new.conn) = omega (arith, c.make_zeros.ensures.crash.clean) in
    lays_zeros g.S.Store c.args.limits.now c.args.conn.now c.look.new.conn _ c.make_zeros.result (c.make_zeros.ensures.made clean) (c.make_zeros.ensures.open clean)
    (subst (Finds c.args.limits.now (state g.S.Store c.args.conn.now).now) c.in-Nothing.is (c.in_ok-found.ensures.told early)) (c.look.ensures.same early)

pub returns-in-Old-clause-laid_out : goal.returns-in-Old-clause-laid_out
returns-in-Old-clause-laid_out g c clean open_still =
    let early : HasCleanDisk (state g.S.Store c.look.new.conn) = omega (arith, c.make_tables.ensures.crash.clean) in
    lays_copy g.S.Store c.args.limits.now c.in-Old.store c.args.conn.now c.look.new.conn _ c.make_tables.result (c.make_tables.ensures.made clean) (c.make_tables.ensures.open clean)
    (subst (Finds c.args.limits.now (state g.S.Store c.args.conn.now).now) c.in-Old.is (c.in_ok-found.ensures.told early)) (search rules) (c.look.ensures.same early)

pub returns-in-New-clause-laid_out : goal.returns-in-New-clause-laid_out
returns-in-New-clause-laid_out g c clean open_still =
    inl (subst (Finds c.args.limits.now (state g.S.Store c.args.conn.now).now) c.in-New.is (c.in_ok-found.ensures.told clean), sym (c.in_ok-found.ensures.settled clean open_still))
