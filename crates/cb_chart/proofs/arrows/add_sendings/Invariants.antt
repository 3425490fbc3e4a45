-- What holds at each turn of the loops of `add_sendings`.
use Rattle.std.proofs.Common.{◌≡◌, ◌++◌, map, take}
use Rattle.cb_chart.specs.Arrows.{sent_by}
use Rattle.cb_chart.proofs.arrows.add_sendings.Given as goal

abbrev pub invariant-loop-packet : goal.invariant-loop-packet
invariant-loop-packet l = l.sendings.items ≡ l.initial.sendings.items ++ map (sent_by l.event) (take l.packet-index l.sent)
