-- Goals of `ReadLocks::note`.
use Rattle.std.proofs.Common.{rules}
use Rattle.cb_locks.proofs.read_locks.ReadLocks.note.Goals as goal

pub returns-clause-due : goal.returns-clause-due
returns-clause-due c = search rules
