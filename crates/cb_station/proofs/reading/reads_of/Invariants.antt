-- What holds at each turn of the loops of `reads_of`.
use Rattle.std.proofs.Common.{◌≡◌, ◌≤◌, ◌-◌, length}
use Rattle.cb_station.specs.Moves.{reads_below}
use Rattle.cb_station.proofs.reading.reads_of.Given as goal

abbrev pub invariant-loop-page : goal.invariant-loop-page
invariant-loop-page l = record { reads : l.reads.items ≡ reads_below l.hand l.pages l.from; within : l.from ≤ length l.pages }

abbrev pub decreases-loop-page : goal.decreases-loop-page
decreases-loop-page l = length l.pages - l.from
