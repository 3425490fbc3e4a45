-- What holds at each turn of the loops of `flush_counted`.
use Rattle.std.proofs.Common.{◌≡◌}
use Rattle.sqlite.specs.Held.{state}
use Rattle.sqlite.specs.State.{Survives}
use Rattle.cb_office.specs.Flushing.{MadeSome, WritesSome}
use Rattle.cb_office.proofs.flusher.flush_counted.Given as goal

-- the tables' limits stay, and some batches were written
abbrev pub invariant-loop : goal.invariant-loop
invariant-loop g l =
    (goal.iterator-loop g).can_next l.iterator' × (goal.iterator-loop g).is_finite l.iterator'
    × (l.shelf.limits ≡ l.fn.shelf.limits) × WritesSome g.S.Store l.fn.shelf.limits l.fn.shelf.conn l.shelf.conn
    × Survives (state g.S.Store l.fn.shelf.conn) (state g.S.Store l.shelf.conn) (MadeSome g.S.Store l.fn.shelf.conn)
