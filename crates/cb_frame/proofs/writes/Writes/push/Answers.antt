-- Goals of `Writes::push`.
use Rattle.std.proofs.Common.{rules}
use Rattle.cb_frame.proofs.writes.Writes.push.Goals as goal

pub returns-clause-ok : goal.returns-clause-ok
returns-clause-ok c = search rules
