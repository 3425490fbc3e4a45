-- Goals of `count_up`.
use Rattle.std.proofs.Common.{rules}
use Rattle.cb_office.proofs.counters.count_up.Goals as goal

pub returns-clause-counts : goal.returns-clause-counts
returns-clause-counts c = search rules
