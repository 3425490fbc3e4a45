-- What holds at each turn of the loops of `put_events`.
use Rattle.std.proofs.Common.{take}
use Rattle.std.specs.List.{flat_map}
use Rattle.std.specs.Io.KnownBytes.{Appends}
use Rattle.cb_console.specs.DrawnText.{event_text}
use Rattle.cb_console.proofs.drawn.put_events.Given as goal

abbrev pub invariant-loop-event : goal.invariant-loop-event
invariant-loop-event g l = Appends (g.O.Write.contents l.initial.out) (g.O.Write.contents l.out) (flat_map event_text (take l.event-index l.events))
