-- A world over all lives of its server as its callers see it, and the protocol's that it is.
use Rattle.std.specs.Prelude.{◌≡◌, ℕ, Bool, List, length, Option, None}
use Rattle.cb_cache.specs.CacheState.{limits_of}
use Rattle.cb_commit.specs.Stores.{StoreState}
use Rattle.cb_laws.specs.Outcomes.{OutcomesAreTrue}
use Rattle.cb_page.specs.Bounds.{Bounds}
use Rattle.cb_protocol.specs.Basics.{Limits}
use Rattle.cb_protocol.specs.Headline.{SoundOpening}
use Rattle.cb_protocol.specs.Lives.{LivesPromise, lives_commits}
use Rattle.cb_protocol.specs.LivesWorld as protocol
use Rattle.cb_protocol.specs.LivesWorld.{IsNewFloor, Lives, LivesEventAllowed, MayBeOnDisk}
use Rattle.cb_protocol.specs.LivesWorld.{Reaches, ServerRestarts, WithinLife, lives_step}
use Rattle.cb_protocol.specs.WaitsFor.{on_cycle}
use Rattle.cb_protocol.specs.World.{EventChoiceAllowed, Opening, step}
use Rattle.cb_server.specs.ServerValue.{commits_of, server_of}
use Rattle.cb_server_state.specs.States.{opening_of}
use Rattle.cb_transcript.specs.LivesTranscripts.{LivesTranscriptState, within_lives}
use Rattle.cb_transcript.specs.ProtocolEvents.{answer_of, event_of, transcript_of}
use Rattle.cb_transcript.specs.declared.lives_transcript.LivesEntry.{LivesEntry}
use Rattle.cb_transcript.specs.declared.lives_transcript.LivesEntry.TheVariants as entry
use Rattle.cb_transcript.specs.declared.restart.RestartAnswer.{RestartAnswer}
use Rattle.cb_transcript.specs.declared.restart.RestartAnswer.TheVariants as answer
use Rattle.cb_transcript.specs.declared.restart.RestartRefusal.{RestartRefusal}
use Rattle.cb_transcript.specs.declared.restart.RestartRefusal.TheVariants as refusal
use Rattle.cb_schedule.specs.NetState.{NetState, RepresentsNet, limits_in}
use Rattle.cb_schedule.specs.NextLife.{IsNewFloorOf}
use Rattle.cb_schedule.specs.WorldState.{TellsCommits}

-- the limits, the net with the server of the present life, how that life began, what is told of all
-- lives, and whether want of memory stopped the world
pub record LivesState : Type 0 where
  pub limits : Bounds
  pub net : NetState
  pub opening : StoreState  -- the store with which the present life began
  pub floor : ℕ  -- of the present life; 0 in the first
  pub former : ℕ  -- how many of the commits told are of former lives
  pub told : LivesTranscriptState
  pub stopped : Bool

-- the store with which the first life began, as the protocol has it
abbrev pub first_opening : LivesState → Opening
first_opening v = opening_of v.told.opening

-- The protocol's world over all lives that it is: its net, what it tells, and how the present life
-- began.
pub record RepresentsLives (v : LivesState) (lives : Lives) : Type 0 where
  pub net : RepresentsNet v.net lives.world
  pub transcript : lives.world.transcript ≡ transcript_of (within_lives v.told.entries)
  pub floor : lives.floor ≡ v.floor
  pub opening : lives.opening ≡ opening_of v.opening
  pub commits : TellsCommits v.told.commits (lives_commits lives)
  pub former : v.former ≡ length lives.former

-- All that holds at one moment over all lives: the promise, and that clients are told the truth.
pub record HoldsOverLives (opening : Opening) (lives : Lives) : Type 0 where
  pub promise : LivesPromise opening lives
  pub told : OutcomesAreTrue lives

-- What a restart of the server is answered, by the server that there is and the present floor: it
-- restarts where the floor is a new one and the disk may have the commits up to that number, and is
-- refused by the first of these that isn't so.
abbrev pub IsAnswerOf : LivesState → (floor number : ℕ) → RestartAnswer → Type 0
IsAnswerOf v floor number answer.Restarted =
    IsNewFloorOf (server_of v.net.server) v.floor floor
    × MayBeOnDisk (server_of v.net.server) number
IsAnswerOf v floor number (answer.Refused refusal.Floor) =
    IsNewFloorOf (server_of v.net.server) v.floor floor → ⊥
IsAnswerOf v floor number (answer.Refused refusal.Number) =
    IsNewFloorOf (server_of v.net.server) v.floor floor
    × (MayBeOnDisk (server_of v.net.server) number → ⊥)

-- Why a restart of the server is refused: the floor isn't new, or it is and the disk can't have the
-- commits up to that number.
abbrev pub IsRefused : Lives → (floor number : ℕ) → RestartRefusal → Type 0
IsRefused lives floor number refusal.Floor = IsNewFloor lives floor → ⊥
IsRefused lives floor number refusal.Number =
    IsNewFloor lives floor × (MayBeOnDisk lives.world.server number → ⊥)

-- A restart of the server is answered so, and the world over all lives becomes `after`: what the
-- protocol's restart makes of it, where that may happen, or what it was.
abbrev pub RestartBecomes : Limits → Lives → (floor number : ℕ) → RestartAnswer → (after : Lives)
    → Type 0
RestartBecomes limits lives floor number answer.Restarted after =
    LivesEventAllowed limits lives (ServerRestarts floor number) None
    × (after ≡ lives_step limits on_cycle lives (ServerRestarts floor number) None)
RestartBecomes limits lives floor number (answer.Refused refusal) after =
    IsRefused lives floor number refusal × (after ≡ lives)

-- What an entry tells happens to the world over all lives, which becomes `after`. Within a life it
-- is the event of the world of one life, so answered, by some page let go that the pool's law
-- allows.
abbrev pub LivesBecome : Limits → Lives → LivesEntry → (after : Lives) → Type 0
LivesBecome limits lives (entry.Within told) after = (let_go : Option ℕ)
    × EventChoiceAllowed limits lives.world (event_of told.event) let_go
    × ((step limits on_cycle lives.world (event_of told.event) let_go).answer
    ≡ answer_of told.answer)
    × (after ≡ lives_step limits on_cycle lives (WithinLife (event_of told.event)) let_go)
LivesBecome limits lives (entry.ServerRestarts told) after =
    RestartBecomes limits lives told.floor told.number told.answer after

-- The world is one over all lives that is reached from the store with which the first life began;
-- its server's first store in this life is the one that is kept of it.
pub record IsReachedOverLives (v : LivesState) : Type 0 where
  pub limits : limits_in v.net ≡ v.limits
  pub begun : (commits_of v.net.server).opening ≡ v.opening
  pub sound : SoundOpening (first_opening v)
  pub lives : Lives
  pub represents : RepresentsLives v lives
  pub events : List protocol.LivesEvent
  pub reached : Reaches (limits_of v.limits) on_cycle (first_opening v) events lives
