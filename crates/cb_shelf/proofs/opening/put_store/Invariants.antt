-- What holds at each turn of the loops of `put_store`.
use Rattle.std.proofs.Common.{◌≡◌, Ok}
use Rattle.cb_shelf.specs.Statements.{MakesAll}
use Rattle.cb_shelf.specs.Opening.{first_pages}
use Rattle.cb_shelf.specs.Inside.{Inside}
use Rattle.cb_shelf.specs.declared.fault.ShelfFault.{ShelfFault}
use Rattle.cb_shelf.proofs.opening.put_store.Given as goal

-- the pages before this one are put
abbrev pub invariant-loop-place : goal.invariant-loop-place
invariant-loop-place g l = record {
  same_reference : l.tx.conn.ghost_name ≡ l.initial.tx.conn.ghost_name;
  inside : Inside {X = Unit {0}} {E = ShelfFault} g.S.Store (MakesAll g.S.Store (first_pages l.store l.place)) l.initial.tx.conn.now l.tx.conn.now (Ok tt);
}
