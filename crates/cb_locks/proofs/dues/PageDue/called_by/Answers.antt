-- Goals of `PageDue::called_by`.
use Rattle.std.proofs.Common.{rules}
use Rattle.cb_locks.proofs.dues.PageDue.called_by.Goals as goal

pub returns-in-Some-default : goal.returns-in-Some-default
returns-in-Some-default c = search rules
