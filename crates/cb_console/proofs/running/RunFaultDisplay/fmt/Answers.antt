-- Goals of `RunFaultDisplay::fmt`.
use Rattle.std.proofs.Common.{rules}
use Rattle.cb_console.proofs.running.RunFaultDisplay.fmt.Goals as goal

pub returns-in-FewPages-clause-writes : goal.returns-in-FewPages-clause-writes
returns-in-FewPages-clause-writes g c = search rules
