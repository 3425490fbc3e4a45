-- What an event makes of a world over all lives of its server, and what a list of events does.
use Rattle.std.specs.Prelude.{◌≡◌, ⊤, false, List, [], ◌∷◌, ◌++◌, map}
use Rattle.std.specs.List.{AllByRecursion}
use Rattle.cb_cache.specs.CacheState.{limits_of}
use Rattle.cb_transcript.specs.declared.lives_event.LivesEvent.{LivesEvent}
use Rattle.cb_protocol.specs.Basics.{Limits}
use Rattle.cb_protocol.specs.Lives.{lives_commits}
use Rattle.cb_protocol.specs.LivesWorld as protocol
use Rattle.cb_protocol.specs.LivesWorld.{Lives, Reaches}
use Rattle.cb_protocol.specs.WaitsFor.{on_cycle}
use Rattle.cb_transcript.specs.LivesTranscripts.{IsSerialOverLives, LivesTranscriptState}
use Rattle.cb_transcript.specs.LivesTranscripts.{told_event}
use Rattle.cb_transcript.specs.declared.lives_transcript.LivesEntry.{LivesEntry}
use Rattle.cb_schedule.specs.LivesState.{HoldsOverLives, IsReachedOverLives}
use Rattle.cb_schedule.specs.LivesState.{LivesBecome, LivesState}
use Rattle.cb_schedule.specs.LivesState.{RepresentsLives, first_opening}
use Rattle.cb_schedule.specs.WorldState.{TellsCommits}

-- what the world tells is serial, and it is one over all lives that is reached while it runs
pub record IsLives (v : LivesState) : Type 0 where
  pub serial : IsSerialOverLives v.told
  pub running : v.stopped ≡ false → IsReachedOverLives v

-- What an entry tells happened to the world v, which became w; both are running. If v is a world of
-- the protocol over all lives, then w is what that becomes. What was told stays told, and at this
-- moment all holds.
pub record LivesStep (v : LivesState) (entry : LivesEntry) (w : LivesState) : Type 0 where
  pub ran : v.stopped ≡ false
  pub runs : w.stopped ≡ false
  pub limits : w.limits ≡ v.limits
  pub first : w.told.opening ≡ v.told.opening
  pub entries : w.told.entries ≡ v.told.entries ++ entry ∷ []
  pub becomes : (lives : Lives) → RepresentsLives v lives → (after : Lives)
      × LivesBecome (limits_of v.limits) lives entry after × RepresentsLives w after
  pub holds : (after : Lives) × (events : List protocol.LivesEvent) × RepresentsLives w after
      × Reaches (limits_of v.limits) on_cycle (first_opening v) events after
      × HoldsOverLives (first_opening v) after

-- what happened, as it is told, and the world over all lives after it
pub record LivesMoment : Type 0 where
  pub entry : LivesEntry
  pub lives : Lives

-- a run over all lives: each world is what the one before it becomes
abbrev pub LivesRun : Limits → Lives → List LivesMoment → Type 0
LivesRun limits lives [] = ⊤
LivesRun limits lives (moment ∷ moments) =
    LivesBecome limits lives moment.entry moment.lives × LivesRun limits moment.lives moments

-- the world over all lives after a run
abbrev pub lives_after : Lives → List LivesMoment → Lives
lives_after lives [] = lives
lives_after lives (moment ∷ moments) = lives_after moment.lives moments

-- The world v plays these events, restarts of the server among them: there is a world of the
-- protocol over all lives that it is, reached from the store with which the first life began, and a
-- run from there with just these events and the answers told. At each moment of the run the promise
-- over all lives holds, and clients are told the truth. What is told is all that was told before,
-- what happened, and the commits that count in the end.
pub record LivesPlayed (v : LivesState) (happens : List LivesEvent)
    (transcript : LivesTranscriptState) : Type 0 where
  pub ran : v.stopped ≡ false
  pub first : Lives
  pub represents : RepresentsLives v first
  pub events : List protocol.LivesEvent
  pub reached : Reaches (limits_of v.limits) on_cycle (first_opening v) events first
  pub first_holds : HoldsOverLives (first_opening v) first
  pub moments : List LivesMoment
  pub runs : LivesRun (limits_of v.limits) first moments
  pub holds : AllByRecursion (λ moment. HoldsOverLives (first_opening v) moment.lives) moments
  pub by_events : map (λ moment. told_event moment.entry) moments ≡ happens
  pub opening : transcript.opening ≡ v.told.opening
  pub entries : transcript.entries ≡ v.told.entries ++ map (λ moment. moment.entry) moments
  pub commits : TellsCommits transcript.commits (lives_commits (lives_after first moments))
