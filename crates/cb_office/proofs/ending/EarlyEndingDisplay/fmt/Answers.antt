-- Goals of `EarlyEndingDisplay::fmt`.
use Rattle.std.proofs.Common.{rules}
use Rattle.cb_office.proofs.ending.EarlyEndingDisplay.fmt.Goals as goal

pub returns-in-Exhausted-clause-writes : goal.returns-in-Exhausted-clause-writes
returns-in-Exhausted-clause-writes c = search rules
