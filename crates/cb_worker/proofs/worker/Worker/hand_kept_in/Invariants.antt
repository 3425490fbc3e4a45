-- What holds at each turn of the loops of `Worker::hand_kept_in`.
use Rattle.std.proofs.Common.{◌≡◌, length}
use Rattle.cb_station.specs.Moves.{IsKnown}
use Rattle.cb_worker.proofs.Serving.{Turned}
use Rattle.cb_worker.specs.Serving.{HandsOne}
use Rattle.cb_worker.specs.Moving.{IsStill}
use Rattle.cb_worker.proofs.worker.Worker.hand_kept_in.Given as goal

-- the client is as it was, and it stays the same worker, whose hand is known as it was; frames were handed in
abbrev pub invariant-loop-alloc : goal.invariant-loop-alloc
invariant-loop-alloc g l = (l.self.client ≡ l.initial.self.client) × IsStill l.fn.self l.self × Turned HandsOne l.fn.self l.fn.station l.self l.station
    × IsKnown l.fn.known l.station l.self.hand

abbrev pub decreases-loop-alloc : goal.decreases-loop-alloc
decreases-loop-alloc g l = length l.self.said
