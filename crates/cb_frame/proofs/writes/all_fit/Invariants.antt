-- What holds at each turn of the loops of `all_fit`.
use Rattle.std.proofs.Common.{◌↔◌, drop}
use Rattle.std.specs.List.{AllByRecursion}
use Rattle.cb_frame.specs.Grammar.{WriteFits}
use Rattle.cb_frame.proofs.writes.all_fit.Given as goal

-- what is left decides
abbrev pub invariant-loop-write : goal.invariant-loop-write
invariant-loop-write l = AllByRecursion (WriteFits l.limits) (drop l.write-index l.writes) ↔ AllByRecursion (WriteFits l.limits) l.writes
