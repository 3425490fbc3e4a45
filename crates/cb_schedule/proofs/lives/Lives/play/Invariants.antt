-- What holds at each turn of the loops of `Lives::play`.
use Rattle.std.proofs.Common.{take}
use Rattle.cb_schedule.proofs.PlayingLives.{LivesPlayedTo}
use Rattle.cb_schedule.proofs.lives.Lives.play.Given as goal

abbrev pub invariant-loop-event : goal.invariant-loop-event
invariant-loop-event g l = record { played : LivesPlayedTo l.fn.self (take l.event-index l.events) l.self }
