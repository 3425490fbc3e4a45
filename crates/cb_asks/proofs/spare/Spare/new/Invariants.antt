-- What holds at each turn of the loops of `Spare::new`.
use Rattle.std.proofs.Common.{◌≡◌, length}
use Rattle.std.specs.List.{All}
use Rattle.std.specs.Vec.{vec_capacity}
use Rattle.cb_asks.specs.Maps.{IsReady}
use Rattle.cb_asks.proofs.spare.Spare.new.Given as goal

-- so many maps were made, and there is room for all
abbrev pub invariant-loop : goal.invariant-loop
invariant-loop l = record {
  count : length l.maps.items ≡ l.counter;
  ready : All IsReady l.maps.items;
  room : vec_capacity l.maps ≡ 32;
}
