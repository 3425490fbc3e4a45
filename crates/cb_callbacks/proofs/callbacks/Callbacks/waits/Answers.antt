-- Goals of `Callbacks::waits`.
use Rattle.std.proofs.Common.{rules}
use Rattle.cb_callbacks.proofs.callbacks.Callbacks.waits.Goals as goal

pub returns : goal.returns
returns c = search rules
