-- What holds at each turn of the loops of `Packets::send_each`.
use Rattle.std.proofs.Common.{◌≡◌, ◌++◌, map, take}
use Rattle.cb_frame.specs.Spelling.{spelling}
use Rattle.cb_schedule.proofs.packets.Packets.send_each.Given as goal

abbrev pub invariant-loop-frame : goal.invariant-loop-frame
invariant-loop-frame l = l.self ≡ record l.initial.self { sent = l.initial.self.sent ++ map spelling (take l.frame-index l.frames) }
