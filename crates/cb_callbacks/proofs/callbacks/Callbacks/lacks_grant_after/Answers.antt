-- Goals of `Callbacks::lacks_grant_after`.
use Rattle.std.proofs.Common.{rules}
use Rattle.cb_callbacks.proofs.callbacks.Callbacks.lacks_grant_after.Goals as goal

pub returns-in-Some : goal.returns-in-Some
returns-in-Some c = search rules
