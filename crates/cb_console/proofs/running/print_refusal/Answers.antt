-- Goals of `print_refusal`.
use Rattle.std.proofs.Common.{rules}
use Rattle.cb_console.proofs.running.print_refusal.Goals as goal

pub returns-in-Memory : goal.returns-in-Memory
returns-in-Memory g c = search rules
