-- Goals of `doomed_lay_on_a_cycle`.
use Rattle.cb_server.proofs.LawsKept.{doomed_lay, frames_taken}
use Rattle.cb_server.proofs.laws.doomed_lay_on_a_cycle.Goals as goal

pub returns : goal.returns
returns c = record { dooms = doomed_lay; frames = frames_taken }
