-- What holds at each turn of the loops of `put_bars`.
use Rattle.std.proofs.Common.{take}
use Rattle.std.specs.List.{flat_map}
use Rattle.std.specs.Io.KnownBytes.{Appends}
use Rattle.cb_chart.specs.Signs.{bar_text}
use Rattle.cb_chart.proofs.picture.bars.put_bars.Given as goal

abbrev pub invariant-loop-placed : goal.invariant-loop-placed
invariant-loop-placed g l = Appends (g.O.Write.contents l.initial.out) (g.O.Write.contents l.out) (flat_map (bar_text l.layout) (take l.placed-index l.placed-items))
