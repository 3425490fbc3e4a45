-- A world as its callers see it, and the protocol's world that it is.
use Rattle.std.specs.Prelude.{◌≡◌, ◌++◌, Bool, List, map, reverse}
use Rattle.cb_page.specs.Bounds.{Bounds}
use Rattle.cb_commit.specs.Stores.{StoreState}
use Rattle.cb_server_state.specs.States.{opening_of}
use Rattle.cb_schedule.specs.NetState.{NetState, RepresentsNet}
use Rattle.cb_transcript.specs.ProtocolEvents.{transcript_of}
use Rattle.cb_transcript.specs.Transcripts.{TranscriptState, name_of}
use Rattle.cb_transcript.specs.declared.answer.TranscriptEntry.{TranscriptEntry}
use Rattle.cb_transcript.specs.declared.transcript.TransactionName.{TransactionName}
use Rattle.cb_protocol.specs.AnyMessages.{committed_names}
use Rattle.cb_protocol.specs.Server.{AppliedCommit}
use Rattle.cb_protocol.specs.World as protocol
use Rattle.cb_server.specs.ServerValue.{server_of}

-- the limits, the net, the store before any event, every event so far with its answer, the
-- transactions that were committed, and whether want of memory stopped the world
pub record WorldState : Type 0 where
  pub limits : Bounds
  pub net : NetState
  pub opening : StoreState
  pub transcript : List TranscriptEntry
  pub commits : List TransactionName
  pub stopped : Bool

-- what the world tells
abbrev pub told : WorldState → TranscriptState
told v = record { opening = v.opening; entries = v.transcript; commits = v.commits }

-- the names told, in commit order, are those of these commits, the newest of which comes first
abbrev pub TellsCommits : List TransactionName → List AppliedCommit → Type 0
TellsCommits names commits = reverse (map name_of names) ≡ committed_names commits

-- The protocol's world that a world is: its net, its transcript and its commits.
pub record Represents (v : WorldState) (w : protocol.World) : Type 0 where
  pub net : RepresentsNet v.net w
  pub transcript : w.transcript ≡ transcript_of v.transcript
  pub commits : TellsCommits v.commits w.server.commits

-- the opening store of the world, as the protocol has it
abbrev pub opened : WorldState → protocol.Opening
opened v = opening_of v.opening

-- the names told are those of the net's commits, in a world of the protocol that the net is
abbrev pub IsTold : NetState → List TransactionName → Type 0
IsTold net names =
    (w : protocol.World) × RepresentsNet net w × TellsCommits names w.server.commits

-- More names were told behind the old ones, and they all are those of the net's commits.
pub record Tells (net : NetState) (old new : List TransactionName) : Type 0 where
  pub later : List TransactionName
  pub more : new ≡ old ++ later
  pub all : TellsCommits new (server_of net.server).commits
