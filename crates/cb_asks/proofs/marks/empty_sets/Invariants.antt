-- What holds at each turn of the loops of `empty_sets`.
use Rattle.std.proofs.Common.{◌≡◌, false, replicate}
use Rattle.cb_asks.proofs.marks.empty_sets.Given as goal

abbrev pub invariant-loop : goal.invariant-loop
invariant-loop l = l.sets.items ≡ replicate l.counter (replicate l.pages false)
