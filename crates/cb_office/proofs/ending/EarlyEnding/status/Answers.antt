-- Goals of `EarlyEnding::status`.
use Rattle.std.proofs.Common.{rules}
use Rattle.cb_office.proofs.ending.EarlyEnding.status.Goals as goal

pub returns-in-Memory : goal.returns-in-Memory
returns-in-Memory c = search rules
