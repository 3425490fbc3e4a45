-- The transcript of a world over all lives of its server, and what it is in the protocol.
use Rattle.std.specs.Prelude.{List, [], ◌∷◌}
use Rattle.cb_commit.specs.Stores.{StoreState}
use Rattle.cb_transcript.specs.declared.lives_event.LivesEvent.{LivesEvent}
use Rattle.cb_transcript.specs.declared.lives_event.LivesEvent.TheVariants as event
use Rattle.cb_protocol.specs.LivesWorld as protocol
use Rattle.cb_transcript.specs.ProtocolEvents.{event_of}
use Rattle.cb_transcript.specs.Transcripts.{IsSerialOnOpening, TranscriptState}
use Rattle.cb_transcript.specs.declared.answer.TranscriptEntry.{TranscriptEntry}
use Rattle.cb_transcript.specs.declared.lives_transcript.LivesEntry.{LivesEntry}
use Rattle.cb_transcript.specs.declared.lives_transcript.LivesEntry.TheVariants as entry
use Rattle.cb_transcript.specs.declared.transcript.TransactionName.{TransactionName}

-- the store before any event, every event with its answer, and the transactions whose commits
-- count, in commit order
pub record LivesTranscriptState : Type 0 where
  pub opening : StoreState
  pub entries : List LivesEntry
  pub commits : List TransactionName

-- the entries of events within lives, without the restarts of the server
abbrev pub within_lives : List LivesEntry → List TranscriptEntry
within_lives [] = []
within_lives (entry.Within told ∷ entries) = told ∷ within_lives entries
within_lives (entry.ServerRestarts told ∷ entries) = within_lives entries

-- what a serial check is asked about: the events within lives, and the commits that count
abbrev pub counted : LivesTranscriptState → TranscriptState
counted transcript = record {
  opening = transcript.opening;
  entries = within_lives transcript.entries;
  commits = transcript.commits;
}

-- The transactions that count are a serial history on the opening store, over all lives.
abbrev pub IsSerialOverLives : LivesTranscriptState → Type 0
IsSerialOverLives transcript = IsSerialOnOpening (counted transcript)

-- the event that an entry tells of
abbrev pub told_event : LivesEntry → LivesEvent
told_event (entry.Within told) = event.Within told.event
told_event (entry.ServerRestarts told) = event.ServerRestarts told.floor told.number

-- the protocol's event
abbrev pub lives_event_of : LivesEvent → protocol.LivesEvent
lives_event_of (event.Within happens) = protocol.WithinLife (event_of happens)
lives_event_of (event.ServerRestarts floor number) = protocol.ServerRestarts floor number
