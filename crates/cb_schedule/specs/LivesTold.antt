-- The commits of the present life that a world over all lives tells.
use Rattle.std.specs.Prelude.{◌≡◌, ◌≤◌, ◌++◌, ℕ, List, [], ◌∷◌, drop, length, map}
use Rattle.cb_commit.specs.History.{remembered}
use Rattle.cb_server.specs.ServerValue.{commits_of}
use Rattle.cb_transcript.specs.LivesTranscripts.{LivesTranscriptState}
use Rattle.cb_transcript.specs.Transcripts.{committed_name}
use Rattle.cb_transcript.specs.declared.lives_transcript.LivesEntry.{LivesEntry}
use Rattle.cb_transcript.specs.declared.transcript.TransactionName.{TransactionName}
use Rattle.cb_schedule.specs.NetState.{NetState}
use Rattle.cb_schedule.specs.WorldState.{IsTold}

-- So many of the names told are of former lives, and those behind them are of the net's commits.
pub record IsToldInLife (net : NetState) (former : ℕ) (names : List TransactionName) : Type 0 where
  pub counted : former ≤ length names
  pub present : IsTold net (drop former names)

-- The entry was told, and with it all commits of the net that weren't told before.
pub record TellsInLife (net : NetState) (former : ℕ) (old : LivesTranscriptState)
    (entry : LivesEntry) (new : LivesTranscriptState) : Type 0 where
  pub opening : new.opening ≡ old.opening
  pub entries : new.entries ≡ old.entries ++ entry ∷ []
  pub commits : new.commits ≡ old.commits ++ map committed_name
      (drop (length (drop former old.commits)) (remembered (commits_of net.server)))
