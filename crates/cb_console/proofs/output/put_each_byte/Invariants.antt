-- What holds at each turn of the loops of `put_each_byte`.
use Rattle.std.proofs.Common.{take}
use Rattle.std.specs.List.{flat_map}
use Rattle.std.specs.Io.KnownBytes.{Appends}
use Rattle.cb_console.specs.Escaped.{two_digits}
use Rattle.cb_console.proofs.output.put_each_byte.Given as goal

abbrev pub invariant-loop-byte : goal.invariant-loop-byte
invariant-loop-byte g l = Appends (g.O.Write.contents l.initial.out) (g.O.Write.contents l.out) (flat_map two_digits (take l.byte-index l.bytes))
