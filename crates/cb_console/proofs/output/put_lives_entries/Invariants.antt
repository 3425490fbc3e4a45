-- What holds at each turn of the loops of `put_lives_entries`.
use Rattle.std.proofs.Common.{take}
use Rattle.std.specs.Io.KnownBytes.{Appends}
use Rattle.cb_console.specs.Output.{lives_lines_from}
use Rattle.cb_console.proofs.output.put_lives_entries.Given as goal

abbrev pub invariant-loop-index : goal.invariant-loop-index
invariant-loop-index g l = Appends (g.O.Write.contents l.initial.out) (g.O.Write.contents l.out) (lives_lines_from 1 (take l.index l.entries))
