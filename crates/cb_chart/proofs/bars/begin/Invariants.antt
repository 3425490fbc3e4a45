-- What holds at each turn of the loops of `begin`.
use Rattle.std.proofs.Common.{take}
use Rattle.cb_chart.specs.Bars.{Begins}
use Rattle.cb_chart.proofs.bars.begin.Given as goal

abbrev pub invariant-loop-copy : goal.invariant-loop-copy
invariant-loop-copy l = Begins l.initial.bars.items (take l.copy-index l.copies) l.event l.bars.items
