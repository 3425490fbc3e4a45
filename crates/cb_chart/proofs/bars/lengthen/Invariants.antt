-- What holds at each turn of the loops of `lengthen`.
use Rattle.std.proofs.Common.{◌≡◌, map, take}
use Rattle.cb_chart.specs.Bars.{lengthened}
use Rattle.cb_chart.proofs.bars.lengthen.Given as goal

abbrev pub invariant-loop-bar : goal.invariant-loop-bar
invariant-loop-bar l = l.longer.items ≡ map (lengthened l.copies l.event) (take l.bar-index l.bars)
