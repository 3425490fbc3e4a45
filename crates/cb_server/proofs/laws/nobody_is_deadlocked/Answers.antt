-- Goals of `nobody_is_deadlocked`.
use Rattle.cb_server.proofs.LawsKept.{asks_few, nobody_deadlocked}
use Rattle.cb_server.proofs.laws.nobody_is_deadlocked.Goals as goal

pub returns : goal.returns
returns c = record { no_cycle = nobody_deadlocked; asks = asks_few }
