-- Goals of `counter_sum`.
use Rattle.std.proofs.Common.{rules}
use Rattle.cb_office.proofs.counters.counter_sum.Goals as goal

pub returns : goal.returns
returns c = search rules
