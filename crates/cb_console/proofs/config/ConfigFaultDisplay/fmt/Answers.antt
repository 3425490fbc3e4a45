-- Goals of `ConfigFaultDisplay::fmt`.
use Rattle.std.proofs.Common.{rules}
use Rattle.cb_console.proofs.config.ConfigFaultDisplay.fmt.Goals as goal

pub returns-in-Unknown-clause-writes : goal.returns-in-Unknown-clause-writes
returns-in-Unknown-clause-writes g c = search rules
