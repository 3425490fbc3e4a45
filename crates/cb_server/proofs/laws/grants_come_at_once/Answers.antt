-- Goals of `grants_come_at_once`.
use Rattle.cb_server.proofs.LawsKept.{new_rows_answered, nobody_waits}
use Rattle.cb_server.proofs.laws.grants_come_at_once.Goals as goal

pub returns : goal.returns
returns c = record { in_time = nobody_waits; sent = new_rows_answered }
