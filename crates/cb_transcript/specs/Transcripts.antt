-- The transcript of a world, and whether its committed transactions are serial.
use Rattle.std.specs.Prelude.{List, map, reverse}
use Rattle.cb_commit.specs.Stores.{StoreState, bytes_at}
use Rattle.cb_commit.specs.declared.commit.Commit.{Commit}
use Rattle.cb_transcript.specs.ProtocolEvents.{transcript_of}
use Rattle.cb_transcript.specs.declared.answer.TranscriptEntry.{TranscriptEntry}
use Rattle.cb_transcript.specs.declared.transcript.TransactionName.{TransactionName}
use Rattle.cb_protocol.specs.Serial.{IsSerial, Operation, committed_operations}
use Rattle.cb_protocol.specs.Serial as protocol
use Rattle.cb_protocol.specs.Transcript.{transcript_operations}

-- the store before any event, every event with its answer, and the transactions that were
-- committed, in commit order
pub record TranscriptState : Type 0 where
  pub opening : StoreState
  pub entries : List TranscriptEntry
  pub commits : List TransactionName

-- the transaction that a commit is of
abbrev pub committed_name : Commit → TransactionName
committed_name commit =
    record { client = commit.client; incarnation = commit.incarnation; txn = commit.txn }

-- the protocol's name of a transaction
abbrev pub name_of : TransactionName → protocol.TransactionName
name_of name =
    record { client = name.client; incarnation = name.incarnation; txn = name.txn }

-- the operations of the committed transactions, one transaction after another in commit order
abbrev pub told_operations : TranscriptState → List (List Operation)
told_operations transcript = committed_operations
    (reverse (map name_of transcript.commits))
    (transcript_operations (transcript_of transcript.entries))

-- The committed transactions are a serial history on the opening store (textbook: serializability).
abbrev pub IsSerialOnOpening : TranscriptState → Type 0
IsSerialOnOpening transcript = IsSerial (bytes_at transcript.opening) (told_operations transcript)
