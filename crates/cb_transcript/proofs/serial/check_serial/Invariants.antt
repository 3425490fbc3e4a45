-- What holds at each turn of the loops of `check_serial`.
use Rattle.cb_transcript.specs.Replays.{HasEveryPage, shown}
use Rattle.cb_transcript.proofs.SerialChecks.{ChecksTo}
use Rattle.cb_transcript.proofs.serial.check_serial.Given as goal

abbrev pub invariant-loop-place : goal.invariant-loop-place
invariant-loop-place l = record {
  pages : HasEveryPage l.store;
  checks : ChecksTo (record { opening = l.fn.transcript.opening; entries = l.entries; commits = l.commits })
      (shown l.store) l.place;
}
