-- Goals of `ReadLocks::lock`.
use Rattle.std.proofs.Common.{rules}
use Rattle.cb_locks.proofs.read_locks.ReadLocks.lock.Goals as goal

pub returns : goal.returns
returns c = search rules
