-- Goals of `settled_stays_settled`.
use Rattle.cb_protocol.proofs.SettlingAgain.{settled, unchanged}
use Rattle.cb_protocol.proofs.deadlock.settled_stays_settled.Goals as goal

pub returns : goal.returns
returns c = record { stays = settled; unchanged = unchanged }
