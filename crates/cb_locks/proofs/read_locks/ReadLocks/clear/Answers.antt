-- Goals of `ReadLocks::clear`.
use Rattle.std.proofs.Common.{rules}
use Rattle.cb_locks.proofs.read_locks.ReadLocks.clear.Goals as goal

pub returns : goal.returns
returns c = search rules
