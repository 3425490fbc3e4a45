-- What holds at each turn of the loops of `put_parts`.
use Rattle.std.proofs.Common.{◌≡◌, Ok}
use Rattle.cb_shelf.specs.Statements.{MakesAll, part_statements}
use Rattle.cb_shelf.specs.Inside.{Inside}
use Rattle.cb_shelf.specs.declared.fault.ShelfFault.{ShelfFault}
use Rattle.cb_shelf.proofs.rows.put_parts.Given as goal

-- the parts before this one are put
abbrev pub invariant-loop-place : goal.invariant-loop-place
invariant-loop-place g l = record {
  same_reference : l.tx.conn.ghost_name ≡ l.initial.tx.conn.ghost_name;
  inside : Inside {X = Unit {0}} {E = ShelfFault} g.S.Store (MakesAll g.S.Store (part_statements l.rows l.page l.bytes l.place)) l.initial.tx.conn.now l.tx.conn.now (Ok tt);
}
