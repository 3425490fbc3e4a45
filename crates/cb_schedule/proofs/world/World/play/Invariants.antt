-- What holds at each turn of the loops of `World::play`.
use Rattle.std.proofs.Common.{take}
use Rattle.cb_schedule.proofs.Playing.{PlayedTo}
use Rattle.cb_schedule.proofs.world.World.play.Given as goal

abbrev pub invariant-loop-event : goal.invariant-loop-event
invariant-loop-event g l = record { played : PlayedTo l.fn.self (take l.event-index l.events) l.self }
