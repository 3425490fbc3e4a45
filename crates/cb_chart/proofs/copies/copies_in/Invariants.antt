-- What holds at each turn of the loops of `copies_in`.
use Rattle.std.proofs.Common.{◌≡◌}
use Rattle.cb_chart.specs.Sights.{sight_to}
use Rattle.cb_chart.proofs.copies.copies_in.Given as goal

-- the copies of the clients so far
abbrev pub invariant-loop-number : goal.invariant-loop-number
invariant-loop-number g l = l.copies.items ≡ sight_to l.world l.number
