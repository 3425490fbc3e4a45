-- What holds at each turn of the loop of `append_frames`.
use Rattle.std.proofs.Common.{◌≡◌, ◌++◌, take}
use Rattle.std.specs.List.{flat_map}
use Rattle.cb_frame.specs.Spelling.{spelling}
use Rattle.cb_serve.proofs.output.append_frames.Given as goal

abbrev pub invariant-loop-frame : goal.invariant-loop-frame
invariant-loop-frame l = l.bytes.items ≡ l.initial.bytes.items ++ flat_map spelling (take l.frame-index l.frames)
