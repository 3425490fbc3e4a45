-- Goals of `no_cycle_stays`.
use Rattle.cb_protocol.proofs.DoomedAsks.{one_ask}
use Rattle.cb_protocol.proofs.NoCycles.{no_cycle}
use Rattle.cb_protocol.proofs.deadlock.no_cycle_stays.Goals as goal

pub returns : goal.returns
returns c = record { no_cycle = no_cycle; one_ask = one_ask }
