-- Goals of `PlainQueues::let_go`.
use Rattle.std.proofs.Common.{rules}
use Rattle.cb_twoq.proofs.plain.queues.PlainQueues.let_go.Goals as goal

pub returns-in-OfAm-clause-queues : goal.returns-in-OfAm-clause-queues
returns-in-OfAm-clause-queues c = search rules
