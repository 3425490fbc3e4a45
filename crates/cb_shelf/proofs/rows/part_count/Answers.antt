-- Goals of `part_count`.
use Rattle.std.proofs.Common.{rules}
use Rattle.cb_shelf.proofs.rows.part_count.Goals as goal

pub returns : goal.returns
returns c = search rules
