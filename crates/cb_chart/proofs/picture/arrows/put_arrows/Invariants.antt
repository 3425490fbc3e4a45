-- What holds at each turn of the loops of `put_arrows`.
use Rattle.std.proofs.Common.{take}
use Rattle.std.specs.List.{flat_map}
use Rattle.std.specs.Io.KnownBytes.{Appends}
use Rattle.cb_chart.specs.Signs.{arrow_text}
use Rattle.cb_chart.proofs.picture.arrows.put_arrows.Given as goal

abbrev pub invariant-loop-arrow : goal.invariant-loop-arrow
invariant-loop-arrow g l = Appends (g.O.Write.contents l.initial.out) (g.O.Write.contents l.out) (flat_map (arrow_text l.layout l.chart.arrows.items) (take l.arrow-index l.arrow-items))
