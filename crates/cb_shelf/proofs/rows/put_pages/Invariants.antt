-- What holds at each turn of the loops of `put_pages`.
use Rattle.std.proofs.Common.{◌≡◌, Ok, take}
use Rattle.cb_shelf.specs.Statements.{MakesAll, pages_statements}
use Rattle.cb_shelf.specs.Inside.{Inside}
use Rattle.cb_shelf.specs.declared.fault.ShelfFault.{ShelfFault}
use Rattle.cb_shelf.proofs.rows.put_pages.Given as goal

-- the pages before this one are put
abbrev pub invariant-loop-page : goal.invariant-loop-page
invariant-loop-page g l = record {
  same_reference : l.tx.conn.ghost_name ≡ l.initial.tx.conn.ghost_name;
  inside : Inside {X = Unit {0}} {E = ShelfFault} g.S.Store (MakesAll g.S.Store (pages_statements (take l.page-index l.pages))) l.initial.tx.conn.now l.tx.conn.now (Ok tt);
}
