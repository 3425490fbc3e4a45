-- Goals of `marks_are_live`.
use Rattle.cb_protocol.proofs.MarksKept.{marks_live, marks_set_and_taken}
use Rattle.cb_protocol.proofs.marks.marks_are_live.Goals as goal

pub returns : goal.returns
returns c = record { live = marks_live; set_and_taken = marks_set_and_taken }
