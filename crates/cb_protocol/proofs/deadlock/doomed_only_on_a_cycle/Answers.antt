-- Goals of `doomed_only_on_a_cycle`.
use Rattle.cb_protocol.proofs.DoomedAsks.{doomed_have_no_ask}
use Rattle.cb_protocol.proofs.NoCycles.{doomed_on_cycle}
use Rattle.cb_protocol.proofs.deadlock.doomed_only_on_a_cycle.Goals as goal

pub returns : goal.returns
returns c = record { dooms = doomed_on_cycle; no_ask = doomed_have_no_ask }
