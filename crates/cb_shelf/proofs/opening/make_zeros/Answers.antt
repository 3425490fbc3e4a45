-- Goals of `make_zeros`.
use Rattle.std.proofs.Common.{OnOk, subst, false}
use Rattle.sqlite.specs.State.{Survives}
use Rattle.sqlite.specs.Held.{state}
use Rattle.cb_commit.specs.Stores.{StoreState}
use Rattle.cb_shelf.specs.Statements.{MakesAll}
use Rattle.cb_shelf.specs.Opening.{laid, LaidBy}
use Rattle.cb_shelf.proofs.opening.make_zeros.Goals as goal

pub returns-clause-made : goal.returns-clause-made
returns-clause-made g c clean =
    subst (λ (store : StoreState). OnOk c.make_tables.result (MakesAll g.S.Store (laid store false) (state g.S.Store c.args.conn.now).now (state g.S.Store c.make_tables.new.conn).committed))
    c.in_ok-store.ensures (c.make_tables.ensures.made clean)

pub returns-clause-crash : goal.returns-clause-crash
returns-clause-crash g c =
    subst (λ (store : StoreState). Survives (state g.S.Store c.args.conn.now) (state g.S.Store c.make_tables.new.conn) (LaidBy g.S.Store (laid store false) c.args.conn.now))
    c.in_ok-store.ensures c.make_tables.ensures.crash
