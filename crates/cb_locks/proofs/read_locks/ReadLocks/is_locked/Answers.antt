-- Goals of `ReadLocks::is_locked`.
use Rattle.std.proofs.Common.{rules}
use Rattle.cb_locks.proofs.read_locks.ReadLocks.is_locked.Goals as goal

pub returns : goal.returns
returns c = search rules
