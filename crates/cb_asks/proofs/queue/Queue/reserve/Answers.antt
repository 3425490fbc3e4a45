-- Goals of `Queue::reserve`.
use Rattle.std.proofs.Common.{rules}
use Rattle.cb_asks.proofs.queue.Queue.reserve.Goals as goal

pub returns-clause-ok : goal.returns-clause-ok
returns-clause-ok c = search rules
