-- Goals of `IndexedQueues::place`.
use Rattle.std.proofs.Common.{rules}
use Rattle.cb_twoq.proofs.twoq.queues.IndexedQueues.place.Goals as goal

pub returns-in_err-put-clause-err : goal.returns-in_err-put-clause-err
returns-in_err-put-clause-err c = search rules

pub returns-in_ok-put-clause-ok : goal.returns-in_ok-put-clause-ok
returns-in_ok-put-clause-ok c = search rules
