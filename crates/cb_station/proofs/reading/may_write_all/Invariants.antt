-- What holds at each turn of the loops of `may_write_all`.
use Rattle.std.proofs.Common.{◌↔◌, drop}
use Rattle.std.specs.List.{AllByRecursion}
use Rattle.cb_station.specs.Moves.{MayWrite}
use Rattle.cb_station.proofs.reading.may_write_all.Given as goal

-- what is left decides
abbrev pub invariant-loop-write : goal.invariant-loop-write
invariant-loop-write l = AllByRecursion (MayWrite l.hand l.txn) (drop l.write-index l.writes) ↔ AllByRecursion (MayWrite l.hand l.txn) l.writes
