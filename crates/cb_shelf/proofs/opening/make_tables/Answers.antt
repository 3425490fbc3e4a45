-- Goals of `make_tables`.
use Rattle.std.proofs.Common.{◌≡◌, subst, rules}
use Rattle.sqlite.specs.State.{Survives}
use Rattle.sqlite.specs.Held.{Held, state}
use Rattle.cb_shelf.specs.Opening.{laid, LaidBy}
use Rattle.cb_shelf.proofs.Asking.{never_from}
use Rattle.cb_shelf.proofs.Settling.{commit_survives}
use Rattle.cb_shelf.proofs.opening.make_tables.Goals as goal

pub returns-in_err-commit-clause-crash : goal.returns-in_err-commit-clause-crash
returns-in_err-commit-clause-crash g c =
    let begun = c.transaction-tx.ensures.begun in
    let same : c.commit.new.self.0 ≡ c.conn-2-1.given.0 = search rules in
    subst (λ (h : Held g.row.S.Denot). Survives (state g.S.Store c.args.conn.now) (state g.S.Store h) (LaidBy g.S.Store (laid c.args.store.now c.args.copied) c.args.conn.now)) same
    (commit_survives g.S.Store (laid c.args.store.now c.args.copied) c.args.conn.now c.put_tables.new.tx.conn.now c.commit.new.self.0
    (rw begun at c.in_ok-put_tables.ensures.inside) (rw begun at c.in_ok-put_tables.ensures.open) c.commit.ensures.survives)

pub returns-clause-crash : goal.returns-clause-crash
returns-clause-crash g c =
    let begun = c.transaction-tx.ensures.begun in
    let same : c.commit.new.self.0 ≡ c.conn-2-1.given.0 = search rules in
    subst (λ (h : Held g.row.S.Denot). Survives (state g.S.Store c.args.conn.now) (state g.S.Store h) (LaidBy g.S.Store (laid c.args.store.now c.args.copied) c.args.conn.now)) same
    (commit_survives g.S.Store (laid c.args.store.now c.args.copied) c.args.conn.now c.put_tables.new.tx.conn.now c.commit.new.self.0
    (rw begun at c.in_ok-put_tables.ensures.inside) (rw begun at c.in_ok-put_tables.ensures.open) c.commit.ensures.survives)

pub returns-in_err-commit-clause-fault : goal.returns-in_err-commit-clause-fault
returns-in_err-commit-clause-fault g c = never_from _ c.from_residual-in_err-commit.result c.from_residual-in_err-commit.ensures.1
