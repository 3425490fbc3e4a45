-- Goals of `IndexedQueues::renew`.
use Rattle.std.proofs.Common.{rules}
use Rattle.cb_twoq.proofs.twoq.queues.IndexedQueues.renew.Goals as goal

pub returns-in-A1in-clause-queues : goal.returns-in-A1in-clause-queues
returns-in-A1in-clause-queues c = search rules
