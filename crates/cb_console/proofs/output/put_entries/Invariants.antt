-- What holds at each turn of the loops of `put_entries`.
use Rattle.std.proofs.Common.{take}
use Rattle.std.specs.Io.KnownBytes.{Appends}
use Rattle.cb_console.specs.Output.{lines_from}
use Rattle.cb_console.proofs.output.put_entries.Given as goal

abbrev pub invariant-loop-index : goal.invariant-loop-index
invariant-loop-index g l = Appends (g.O.Write.contents l.initial.out) (g.O.Write.contents l.out) (lines_from 1 (take l.index l.entries))
