-- Goals of `look`.
use Rattle.std.proofs.Common.{IfOk, subst, rules}
use Rattle.sqlite.specs.State.{HasCleanDisk}
use Rattle.sqlite.specs.Held.{Held, state}
use Rattle.cb_shelf.specs.Opening.{Finds, Misshapen}
use Rattle.cb_shelf.proofs.opening.look.Goals as goal

pub returns-clause-shape : goal.returns-clause-shape
returns-clause-shape g c clean is =
    let early : HasCleanDisk (state g.S.Store c.find-found.new.tx.conn.now) = search rules in
    subst (λ (h : Held g.row.S.Denot). Misshapen c.args.limits.now (state g.S.Store h).now) c.transaction-tx.ensures.begun (c.find-found.ensures.tells.blamed early is)

pub returns-clause-told : goal.returns-clause-told
returns-clause-told g c clean =
    let early : HasCleanDisk (state g.S.Store c.find-found.new.tx.conn.now) = search rules in
    subst (λ (h : Held g.row.S.Denot). IfOk c.find-found.result (Finds c.args.limits.now (state g.S.Store h).now)) c.transaction-tx.ensures.begun (c.find-found.ensures.tells.told early)
