-- What holds at each turn of the loops of `transactions_of`.
use Rattle.std.proofs.Common.{take}
use Rattle.cb_transcript.specs.ProtocolEvents.{transcript_of}
use Rattle.cb_transcript.specs.Operations.{AreStandings, HasOperations}
use Rattle.cb_transcript.proofs.transactions.transactions_of.Given as goal

abbrev pub invariant-loop-place : goal.invariant-loop-place
invariant-loop-place l = record {
  lists : HasOperations l.lists l.entries (transcript_of (take l.place l.entries));
  standings : AreStandings l.standings (transcript_of (take l.place l.entries));
}
