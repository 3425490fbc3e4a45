-- What holds at each turn of the loops of `read_pages`.
use Rattle.std.proofs.Common.{◌≡◌, Ok, length}
use Rattle.std.specs.List.{All}
use Rattle.cb_commit.specs.Stores.{IsStored}
use Rattle.cb_shelf.specs.Inside.{Inside, IsAny, IsNever, Tells}
use Rattle.cb_shelf.specs.declared.fault.ShelfFault.{ShelfFault}
use Rattle.cb_shelf.specs.Reading.{HasPages}
use Rattle.cb_shelf.proofs.reading.read_pages.Given as goal

-- the pages before this one are read
abbrev pub invariant-loop-page : goal.invariant-loop-page
invariant-loop-page g l = record {
  same_reference : l.tx.conn.ghost_name ≡ l.initial.tx.conn.ghost_name;
  inside : Inside {X = Unit {0}} {E = ShelfFault} g.S.Store IsAny l.initial.tx.conn.now l.tx.conn.now (Ok tt);
  count : length l.pages.items ≡ l.page;
  stored : All (IsStored l.limits.page_size l.number) l.pages.items;
  tells : Tells {X = Unit {0}} g.S.Store (λ db _. HasPages l.tables db l.limits.page_size l.pages.items) IsNever l.initial.tx.conn.now l.tx.conn.now (Ok tt);
}
