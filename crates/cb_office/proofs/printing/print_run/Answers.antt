-- Goals of `print_run`.
use Rattle.std.proofs.Common.{rules}
use Rattle.cb_office.proofs.printing.print_run.Goals as goal

pub returns-in_ok-write-in-Ok : goal.returns-in_ok-write-in-Ok
returns-in_ok-write-in-Ok c = search rules
