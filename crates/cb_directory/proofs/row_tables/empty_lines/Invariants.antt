-- What holds at each turn of the loops of `empty_lines`.
use Rattle.std.proofs.Common.{◌≡◌, replicate}
use Rattle.cb_directory.specs.Rows.{no_rows}
use Rattle.cb_directory.proofs.row_tables.empty_lines.Given as goal

abbrev pub invariant-loop : goal.invariant-loop
invariant-loop l = l.lines.items ≡ replicate l.counter (no_rows l.pages)
