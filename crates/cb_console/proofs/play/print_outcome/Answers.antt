-- Goals of `print_outcome`.
use Rattle.std.proofs.Common.{rules}
use Rattle.cb_console.proofs.play.print_outcome.Goals as goal

pub returns-in-Ok-Part : goal.returns-in-Ok-Part
returns-in-Ok-Part g c = search rules
