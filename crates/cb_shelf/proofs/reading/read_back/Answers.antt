-- Goals of `read_back`.
use Rattle.std.proofs.Common.{subst, rules}
use Rattle.sqlite.specs.State.{HasCleanDisk}
use Rattle.sqlite.specs.Held.{Held, state}
use Rattle.cb_shelf.specs.declared.reading.Generation.TheVariants.{Newer}
use Rattle.cb_shelf.specs.Reading.{Misfits}
use Rattle.cb_shelf.proofs.reading.read_back.Goals as goal

pub returns-clause-shape : goal.returns-clause-shape
returns-clause-shape g c clean is =
    let early : HasCleanDisk (state g.S.Store c.read_store-store.new.tx.conn.now) = search rules in
    subst (λ (h : Held g.row.S.Denot). Misfits Newer c.args.limits.now (state g.S.Store h).now) c.transaction-tx.ensures.begun (c.read_store-store.ensures.tells.blamed early is)
