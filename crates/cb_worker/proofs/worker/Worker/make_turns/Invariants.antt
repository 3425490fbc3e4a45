-- What holds at each turn of the loops of `Worker::make_turns`.
use Rattle.std.proofs.Common.{◌≡◌, ◌⊎◌, false}
use Rattle.cb_station.specs.Moves.{IsKnown}
use Rattle.cb_worker.proofs.Serving.{Turned}
use Rattle.cb_worker.specs.Turns.{Turns}
use Rattle.cb_worker.specs.Keeping.{KeepsUsed, OpenOrAborted}
use Rattle.cb_worker.specs.Workers.{seen_by}
use Rattle.cb_worker.specs.Moving.{IsStill}
use Rattle.cb_worker.proofs.worker.Worker.make_turns.Given as goal

-- it stays the same worker, and uses what it used; its hand is known as it was; the station is as halted as it was; turns were made, and none where it is halted
abbrev pub invariant-loop : goal.invariant-loop
invariant-loop g l =
    (goal.iterator-loop g).can_next l.iterator' × (goal.iterator-loop g).is_finite l.iterator'
    × IsStill l.fn.self l.self × (l.station.flags.halted ≡ l.fn.station.flags.halted) × Turned Turns l.fn.self l.fn.station l.self l.station
    × (((l.self ≡ l.fn.self) × (l.station ≡ l.fn.station)) ⊎ (l.fn.station.flags.halted ≡ false))
    × KeepsUsed (seen_by l.fn.self) (seen_by l.self) × OpenOrAborted (seen_by l.fn.self) (seen_by l.self)
    × IsKnown l.fn.known l.station l.self.hand
