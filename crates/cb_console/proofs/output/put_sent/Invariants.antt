-- What holds at each turn of the loops of `put_sent`.
use Rattle.std.proofs.Common.{take}
use Rattle.std.specs.List.{flat_map}
use Rattle.std.specs.Io.KnownBytes.{Appends}
use Rattle.cb_console.specs.Output.{packet_text}
use Rattle.cb_console.proofs.output.put_sent.Given as goal

abbrev pub invariant-loop-packet : goal.invariant-loop-packet
invariant-loop-packet g l = Appends (g.O.Write.contents l.initial.out) (g.O.Write.contents l.out) (flat_map packet_text (take l.packet-index l.packet-items))
