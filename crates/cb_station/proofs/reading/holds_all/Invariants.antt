-- What holds at each turn of the loops of `holds_all`.
use Rattle.std.proofs.Common.{◌-◌, length}
use Rattle.cb_station.proofs.PagesRead.{HoldsBelow}
use Rattle.cb_station.proofs.reading.holds_all.Given as goal

abbrev pub invariant-loop-page : goal.invariant-loop-page
invariant-loop-page l = HoldsBelow l.hand l.pages l.from

abbrev pub decreases-loop-page : goal.decreases-loop-page
decreases-loop-page l = length l.pages - l.from
