-- What holds at each turn of the loops of `sending_of`.
use Rattle.std.proofs.Common.{◌≡◌, drop}
use Rattle.cb_chart.specs.Arrows.{sending_of}
use Rattle.cb_chart.proofs.arrows.sending_of.Given as goal

abbrev pub invariant-loop-sending : goal.invariant-loop-sending
invariant-loop-sending l = sending_of l.sendings l.number ≡ sending_of (drop l.sending-index l.sendings) l.number
