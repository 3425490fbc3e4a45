-- Goals of `counter`.
use Rattle.std.proofs.Common.{rules}
use Rattle.cb_office.proofs.counters.counter.Goals as goal

pub returns : goal.returns
returns c = search rules
