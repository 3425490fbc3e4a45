-- What holds at each turn of the loops of `Replay::play`.
use Rattle.cb_transcript.specs.Replays.{HasEveryPage, shown}
use Rattle.cb_transcript.proofs.Replays.{PlaysTo}
use Rattle.cb_transcript.proofs.replay.Replay.play.Given as goal

abbrev pub invariant-loop-at : goal.invariant-loop-at
invariant-loop-at l = record {
  pages : HasEveryPage l.self;
  plays : PlaysTo (shown l.fn.self) l.fn.entries l.places (shown l.self) l.at;
}
