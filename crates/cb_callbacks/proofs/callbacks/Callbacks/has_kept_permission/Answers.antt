-- Goals of `Callbacks::has_kept_permission`.
use Rattle.std.proofs.Common.{rules}
use Rattle.cb_callbacks.proofs.callbacks.Callbacks.has_kept_permission.Goals as goal

pub returns-then-is_write_holder : goal.returns-then-is_write_holder
returns-then-is_write_holder c = search rules
