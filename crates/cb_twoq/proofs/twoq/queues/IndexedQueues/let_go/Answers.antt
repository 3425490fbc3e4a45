-- Goals of `IndexedQueues::let_go`.
use Rattle.std.proofs.Common.{rules}
use Rattle.cb_twoq.proofs.twoq.queues.IndexedQueues.let_go.Goals as goal

pub returns-in-OfAm-clause-queues : goal.returns-in-OfAm-clause-queues
returns-in-OfAm-clause-queues c = search rules
