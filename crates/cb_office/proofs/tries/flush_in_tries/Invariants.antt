-- What holds at each turn of the loops of `flush_in_tries`.
use Rattle.std.proofs.Common.{◌≡◌}
use Rattle.std.specs.Prelude.{IfOk, OnErr, OnOk}
use Rattle.sqlite.specs.Held.{state}
use Rattle.sqlite.specs.State.{Survives}
use Rattle.cb_office.specs.Flushing.{MadeAtLast, Tries, WritesAtLast}
use Rattle.cb_office.proofs.tries.flush_in_tries.Given as goal

-- the tables' limits stay, and some tries were made; where one ended well, the run was over at this
-- office
abbrev pub invariant-loop : goal.invariant-loop
invariant-loop g l =
    (goal.iterator-loop g).can_next l.iterator' × (goal.iterator-loop g).is_finite l.iterator'
    × (l.shelf.limits ≡ l.fn.shelf.limits) × OnErr l.stopped (Tries g.S.Store l.fn.shelf.limits l.fn.shelf.conn l.shelf.conn)
    × OnOk l.stopped (WritesAtLast g.S.Store l.fn.shelf.limits l.fn.shelf.conn l.shelf.conn)
    × Survives (state g.S.Store l.fn.shelf.conn) (state g.S.Store l.shelf.conn) (MadeAtLast g.S.Store l.fn.shelf.limits l.fn.shelf.conn)
    × IfOk l.stopped (λ over. over.office ≡ l.lent.office.ref_ptr)
