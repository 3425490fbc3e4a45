-- What holds at each turn of the loops of `read_bytes`.
use Rattle.std.proofs.Common.{◌≡◌, ◌*◌, Ok, length, min}
use Rattle.cb_shelf.specs.Inside.{Inside, IsAny, IsNever, Tells}
use Rattle.cb_shelf.specs.declared.fault.ShelfFault.{ShelfFault}
use Rattle.cb_shelf.specs.Reading.{HasParts}
use Rattle.cb_shelf.proofs.reading.read_bytes.Given as goal

-- the parts before this one are read
abbrev pub invariant-loop-place : goal.invariant-loop-place
invariant-loop-place g l = record {
  same_reference : l.tx.conn.ghost_name ≡ l.initial.tx.conn.ghost_name;
  inside : Inside {X = Unit {0}} {E = ShelfFault} g.S.Store IsAny l.initial.tx.conn.now l.tx.conn.now (Ok tt);
  full : length l.bytes.items ≡ min (l.place * 4096) l.size;
  tells : Tells {X = Unit {0}} g.S.Store (λ db _. HasParts l.tables db l.page l.place l.bytes.items) IsNever l.initial.tx.conn.now l.tx.conn.now (Ok tt);
}
