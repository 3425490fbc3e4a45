-- Goals of `Callbacks::read_asks`.
use Rattle.std.proofs.Common.{rules}
use Rattle.cb_callbacks.proofs.callbacks.Callbacks.read_asks.Goals as goal

pub returns-clause-reads : goal.returns-clause-reads
returns-clause-reads c = search rules
