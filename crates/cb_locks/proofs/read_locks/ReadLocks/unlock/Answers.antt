-- Goals of `ReadLocks::unlock`.
use Rattle.std.proofs.Common.{rules}
use Rattle.cb_locks.proofs.read_locks.ReadLocks.unlock.Goals as goal

pub returns-clause-state : goal.returns-clause-state
returns-clause-state c = search rules
