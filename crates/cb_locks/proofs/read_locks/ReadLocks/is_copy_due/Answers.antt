-- Goals of `ReadLocks::is_copy_due`.
use Rattle.std.proofs.Common.{rules}
use Rattle.cb_locks.proofs.read_locks.ReadLocks.is_copy_due.Goals as goal

pub returns : goal.returns
returns c = search rules
