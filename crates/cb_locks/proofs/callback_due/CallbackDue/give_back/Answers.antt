-- Goals of `CallbackDue::give_back`.
use Rattle.std.proofs.Common.{rules}
use Rattle.cb_locks.proofs.callback_due.CallbackDue.give_back.Goals as goal

pub returns : goal.returns
returns c = search rules
