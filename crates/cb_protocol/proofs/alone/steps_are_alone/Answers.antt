-- Goals of `steps_are_alone`.
use Rattle.cb_protocol.proofs.StepsAlone.{packets_only_grow, steps_are_alone}
use Rattle.cb_protocol.proofs.alone.steps_are_alone.Goals as goal

pub returns : goal.returns
returns c = record { sides = steps_are_alone; packets = packets_only_grow }
