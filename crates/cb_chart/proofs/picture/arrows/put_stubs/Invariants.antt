-- What holds at each turn of the loops of `put_stubs`.
use Rattle.std.proofs.Common.{take}
use Rattle.std.specs.List.{flat_map}
use Rattle.std.specs.Io.KnownBytes.{Appends}
use Rattle.cb_chart.specs.Signs.{lost_text}
use Rattle.cb_chart.proofs.picture.arrows.put_stubs.Given as goal

abbrev pub invariant-loop-sending : goal.invariant-loop-sending
invariant-loop-sending g l = Appends (g.O.Write.contents l.initial.out) (g.O.Write.contents l.out) (flat_map (lost_text l.layout l.chart.arrows.items) (take l.sending-index l.sending-items))
