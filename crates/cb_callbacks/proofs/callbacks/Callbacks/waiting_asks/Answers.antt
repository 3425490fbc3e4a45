-- Goals of `Callbacks::waiting_asks`.
use Rattle.std.proofs.Common.{rules}
use Rattle.cb_callbacks.proofs.callbacks.Callbacks.waiting_asks.Goals as goal

pub returns-clause-asks : goal.returns-clause-asks
returns-clause-asks c = search rules

pub returns-clause-few : goal.returns-clause-few
returns-clause-few c = search rules
