-- Goals of `put_entries`.
use Rattle.std.proofs.Common.{◌+◌, add-one, arith}
use Rattle.std.proofs.KnownBytes.{Appends-trans}
use Rattle.cb_console.proofs.Lines.{lines-more}
use Rattle.cb_console.specs.Output.{line}
use Rattle.cb_console.proofs.output.put_entries.Goals as goal

pub loop-index-preserved : goal.loop-index-preserved
loop-index-preserved g c =
    rw (add-one c.loop-index.index, lines-more (λ n entry. line n entry.answer) 1 c.args.entries.now c.loop-index.index (c.loop-index.index + 1) c.index-entries-index.result (omega arith) c.index-entries-index.is (omega arith))
    (Appends-trans _ _ _ _ _ c.loop-index.invariant c.in_ok-put_line.ensures)
