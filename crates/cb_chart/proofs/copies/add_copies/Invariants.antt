-- What holds at each turn of the loops of `add_copies`.
use Rattle.std.proofs.Common.{◌≡◌, ◌++◌}
use Rattle.cb_chart.specs.Sights.{copies_to}
use Rattle.cb_chart.proofs.copies.add_copies.Given as goal

-- the copies of the pages so far
abbrev pub invariant-loop-page : goal.invariant-loop-page
invariant-loop-page g l = l.copies.items ≡ l.initial.copies.items ++ copies_to l.number l.client l.page
