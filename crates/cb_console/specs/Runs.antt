-- What a run of the program is: which events are played, what is printed of them, and the status.
-- This project's rules.
use Rattle.std.specs.Prelude.{◌≡◌, ◌≢◌, ◌<◌, ◌⊎◌, ℕ, Bool, true, false, Option}
use Rattle.std.specs.Prelude.{Result, Ok, Err, List, [], ◌∷◌, ◌++◌, length, take, codes}
use Rattle.std.specs.Io.KnownBytes.{Appends}
use Rattle.cb_page.specs.Bounds.{Bounds}
use Rattle.cb_schedule.specs.Draws.{IsOpening}
use Rattle.cb_schedule.specs.FirstLife.{IsFirstLife}
use Rattle.cb_schedule.specs.LivesPlays.{LivesPlayed}
use Rattle.cb_schedule.specs.LivesState.{LivesState}
use Rattle.cb_schedule.specs.Plays.{Played}
use Rattle.cb_schedule.specs.WorldState.{WorldState}
use Rattle.cb_transcript.specs.FaultTexts.{fault_text}
use Rattle.cb_transcript.specs.LivesText as lives_text
use Rattle.cb_transcript.specs.ScheduleText as text
use Rattle.cb_transcript.specs.LivesTranscripts.{IsSerialOverLives, LivesTranscriptState}
use Rattle.cb_transcript.specs.Transcripts.{IsSerialOnOpening, TranscriptState}
use Rattle.cb_transcript.specs.declared.serial.Verdict.{Verdict}
use Rattle.cb_transcript.specs.declared.serial.Verdict.TheVariants as verdict
use Rattle.cb_transcript.specs.declared.event.Event.{Event}
use Rattle.cb_transcript.specs.declared.lives_event.LivesEvent.{LivesEvent}
use Rattle.cb_transcript.specs.declared.text.ScheduleFault.{ScheduleFault}
use Rattle.cb_transcript.specs.declared.text.ScheduleFault.TheVariants as schedule
use Rattle.cb_console.specs.Output.{last_lines, lines_from, lives_lines_from}
use Rattle.cb_console.specs.Settings.{IsConfig, IsWrong, config_line, config_text}
use Rattle.cb_console.specs.declared.config.Config.{Config}
use Rattle.cb_console.specs.declared.config.ConfigFault.{ConfigFault}
use Rattle.cb_console.specs.declared.config.ConfigFault.TheVariants as config
use Rattle.cb_console.specs.declared.play.Play.{Play}
use Rattle.cb_console.specs.declared.play.Play.TheVariants as play
use Rattle.cb_console.specs.declared.play.ReadFault.{ReadFault}
use Rattle.cb_console.specs.declared.play.ReadFault.TheVariants as fault

-- These events are played in a world of zeros in which nothing had happened; the transcript tells
-- of them, and is serial.
pub record PlaysFromZeros (bounds : Bounds) (events : List Event) (transcript : TranscriptState)
    : Type 0 where
  pub world : WorldState
  pub is_opening : IsOpening bounds world
  pub played : Played world events transcript
  pub serial : IsSerialOnOpening transcript

-- The same over several lives of the server, restarts of it among the events.
pub record PlaysLives (bounds : Bounds) (events : List LivesEvent)
    (transcript : LivesTranscriptState) : Type 0 where
  pub lives : LivesState
  pub is_first : IsFirstLife bounds lives
  pub played : LivesPlayed lives events transcript
  pub serial : IsSerialOverLives transcript

-- The texts are a configuration and a schedule of one life; of its events those chosen are played
-- from zeros.
pub record Tells (config_bytes schedule_bytes : List ℕ) (chosen : List Event → List Event)
    (transcript : TranscriptState) : Type 0 where
  pub settings : Config
  pub is_config : IsConfig config_bytes settings
  pub one_life : settings.lives ≡ false
  pub events : List Event
  pub is_schedule : text.IsSchedule settings.limits schedule_bytes events
  pub plays : PlaysFromZeros settings.limits (chosen events) transcript

-- The texts are a configuration and a schedule of several lives; of its events those chosen are
-- played from zeros.
pub record TellsLives (config_bytes schedule_bytes : List ℕ)
    (chosen : List LivesEvent → List LivesEvent) (transcript : LivesTranscriptState)
    : Type 0 where
  pub settings : Config
  pub is_config : IsConfig config_bytes settings
  pub over_lives : settings.lives ≡ true
  pub events : List LivesEvent
  pub is_schedule : lives_text.IsLivesSchedule settings.limits schedule_bytes events
  pub plays : PlaysLives settings.limits (chosen events) transcript

-- what became of events: they were played to the end, or the first ones up to want of memory, but
-- not all
abbrev pub IsPlayOf : Bounds → List Event → Play → Type 0
IsPlayOf bounds events (play.Whole transcript) = PlaysFromZeros bounds events transcript
IsPlayOf bounds events (play.Part transcript) =
    (n : ℕ) × (n < length events) × PlaysFromZeros bounds (take n events) transcript
IsPlayOf bounds events other = ⊥

-- the same over several lives of the server
abbrev pub IsLivesPlayOf : Bounds → List LivesEvent → Play → Type 0
IsLivesPlayOf bounds events (play.WholeLives transcript) = PlaysLives bounds events transcript
IsLivesPlayOf bounds events (play.PartLives transcript) =
    (n : ℕ) × (n < length events) × PlaysLives bounds (take n events) transcript
IsLivesPlayOf bounds events other = ⊥

-- what became of the events of a schedule's text
abbrev pub IsPlayOfText : Bounds → List ℕ → Play → Type 0
IsPlayOfText bounds schedule_bytes played =
    (events : List Event) × text.IsSchedule bounds schedule_bytes events
    × IsPlayOf bounds events played

-- the same over several lives of the server
abbrev pub IsLivesPlayOfText : Bounds → List ℕ → Play → Type 0
IsLivesPlayOfText bounds schedule_bytes played =
    (events : List LivesEvent) × lives_text.IsLivesSchedule bounds schedule_bytes events
    × IsLivesPlayOf bounds events played

-- what became of two texts: the configuration says whether the server has several lives
abbrev pub IsPlay : List ℕ → List ℕ → Play → Type 0
IsPlay config_bytes schedule_bytes (play.Whole transcript) =
    Tells config_bytes schedule_bytes (λ events. events) transcript
IsPlay config_bytes schedule_bytes (play.Part transcript) =
    (n : ℕ) × (tells : Tells config_bytes schedule_bytes (take n) transcript)
    × (n < length tells.events)
IsPlay config_bytes schedule_bytes (play.WholeLives transcript) =
    TellsLives config_bytes schedule_bytes (λ events. events) transcript
IsPlay config_bytes schedule_bytes (play.PartLives transcript) =
    (n : ℕ) × (tells : TellsLives config_bytes schedule_bytes (take n) transcript)
    × (n < length tells.events)

-- want of memory in a reader is want of memory; any other fault is kept
abbrev pub BecomesOfConfig : ConfigFault → ReadFault → Type 0
BecomesOfConfig e becomes =
    (e ≡ config.Memory → becomes ≡ fault.Memory) × (e ≢ config.Memory → becomes ≡ fault.Config e)

abbrev pub BecomesOfSchedule : ScheduleFault → ReadFault → Type 0
BecomesOfSchedule e becomes =
    (e ≡ schedule.Memory → becomes ≡ fault.Memory)
    × (e ≢ schedule.Memory → becomes ≡ fault.Schedule e)

-- The fault is what is wrong with the configuration, or, where nothing is, with the schedule.
abbrev pub IsRefusal : List ℕ → List ℕ → ReadFault → Type 0
IsRefusal config_bytes schedule_bytes refusal =
    ((e : ConfigFault) × (refusal ≡ fault.Config e) × IsWrong config_bytes (config_text e))
    ⊎ ((settings : Config) × (e : ScheduleFault) × (refusal ≡ fault.Schedule e)
    × IsConfig config_bytes settings × (e ≢ schedule.Memory)
    × text.Refuses settings.limits schedule_bytes e)

-- why a text isn't read as a schedule, of several lives or of one
abbrev pub RefusesSchedule : (lives : Bool) → Bounds → List ℕ → ScheduleFault → Type 0
RefusesSchedule true bounds schedule_bytes e = lives_text.RefusesLives bounds schedule_bytes e
RefusesSchedule false bounds schedule_bytes e = text.Refuses bounds schedule_bytes e

-- The fault is what is wrong with a schedule. Want of memory says nothing of it.
abbrev pub IsScheduleRefusal : (lives : Bool) → Bounds → List ℕ → ReadFault → Type 0
IsScheduleRefusal lives bounds schedule_bytes refusal =
    (e : ScheduleFault) × (refusal ≡ fault.Schedule e) × (e ≢ schedule.Memory)
    × RefusesSchedule lives bounds schedule_bytes e

-- The fault is what is wrong with the configuration, or, where nothing is, with the schedule that
-- the configuration says is played.
abbrev pub IsPlayRefusal : List ℕ → List ℕ → ReadFault → Type 0
IsPlayRefusal config_bytes schedule_bytes refusal =
    ((e : ConfigFault) × (refusal ≡ fault.Config e) × IsWrong config_bytes (config_text e))
    ⊎ ((settings : Config) × IsConfig config_bytes settings
    × IsScheduleRefusal settings.lives settings.limits schedule_bytes refusal)

-- what came of two texts: a play of them, a refusal of one, or want of memory before any event
abbrev pub IsOutcome : List ℕ → List ℕ → Result Play ReadFault → Type 0
IsOutcome config_bytes schedule_bytes (Ok played) = IsPlay config_bytes schedule_bytes played
IsOutcome config_bytes schedule_bytes (Err e) =
    e ≢ fault.Memory → IsPlayRefusal config_bytes schedule_bytes e

-- the line of a fault
abbrev pub read_fault_line : ReadFault → List ℕ
read_fault_line (fault.Config e) = codes "config: " ++ config_line e
read_fault_line (fault.Schedule e) = fault_text e
read_fault_line fault.Memory = codes "memory"

-- The last two lines are printed by what the serial check answered; or that memory ran out for it
-- is said.
abbrev pub PrintsVerdict : {E : Type 0} → (commits : ℕ) → Result Verdict E → (status : ℕ)
    → Option (List ℕ) → Option (List ℕ) → Option (List ℕ) → Option (List ℕ) → Type 0
PrintsVerdict commits (Ok verdict.Serial) status old_out new_out old_err new_err =
    (status ≡ 0) × Appends old_out new_out (last_lines commits true) × (new_err ≡ old_err)
PrintsVerdict commits (Ok (verdict.Not place op)) status old_out new_out old_err new_err =
    (status ≡ 1) × Appends old_out new_out (last_lines commits false) × (new_err ≡ old_err)
PrintsVerdict commits (Err e) status old_out new_out old_err new_err =
    (status ≡ 4) × (new_out ≡ old_out) × Appends old_err new_err (codes "memory\n")

-- These lines are printed, and the last two, and the status is 0 exactly where the commits are
-- serial; or memory ran out for the check, and the lines alone are printed.
abbrev pub EndsBy : (lines : List ℕ) (commits : ℕ) (Serial : Type 0) (status : ℕ)
    → Option (List ℕ) → Option (List ℕ) → Option (List ℕ) → Option (List ℕ) → Type 0
EndsBy lines commits Serial status old_out new_out old_err new_err =
    ((status ≡ 0) × Serial × Appends old_out new_out (lines ++ last_lines commits true)
    × (new_err ≡ old_err))
    ⊎ ((status ≡ 1) × (¬ Serial) × Appends old_out new_out (lines ++ last_lines commits false)
    × (new_err ≡ old_err))
    ⊎ ((status ≡ 4) × Appends old_out new_out lines
    × Appends old_err new_err (codes "memory\n"))

-- A transcript is printed to its end.
abbrev pub Ends : TranscriptState → ℕ
    → Option (List ℕ) → Option (List ℕ) → Option (List ℕ) → Option (List ℕ) → Type 0
Ends transcript = EndsBy (lines_from 1 transcript.entries) (length transcript.commits)
    (IsSerialOnOpening transcript)

-- The same of one over several lives of the server.
abbrev pub EndsLives : LivesTranscriptState → ℕ
    → Option (List ℕ) → Option (List ℕ) → Option (List ℕ) → Option (List ℕ) → Type 0
EndsLives transcript = EndsBy (lives_lines_from 1 transcript.entries) (length transcript.commits)
    (IsSerialOverLives transcript)

-- These lines alone are printed, and that memory was refused is said.
abbrev pub EndsEarly : (lines : List ℕ) (status : ℕ)
    → Option (List ℕ) → Option (List ℕ) → Option (List ℕ) → Option (List ℕ) → Type 0
EndsEarly lines status old_out new_out old_err new_err =
    (status ≡ 4) × Appends old_out new_out lines × Appends old_err new_err (codes "memory\n")

-- A fault's line is said, and its status is 4 for want of memory, else 2.
abbrev pub PrintsFault : ReadFault → ℕ → Option (List ℕ) → Option (List ℕ) → Type 0
PrintsFault e status old new =
    (e ≡ fault.Memory → status ≡ 4) × (e ≢ fault.Memory → status ≡ 2)
    × Appends old new (read_fault_line e ++ 10 ∷ [])

-- What is printed of an outcome, with the status: all of a whole play; of a play that memory ended,
-- the lines of the events that were played; nothing of a refusal.
abbrev pub PrintsOutcome : Result Play ReadFault → ℕ
    → Option (List ℕ) → Option (List ℕ) → Option (List ℕ) → Option (List ℕ) → Type 0
PrintsOutcome (Ok (play.Whole transcript)) status old_out new_out old_err new_err =
    Ends transcript status old_out new_out old_err new_err
PrintsOutcome (Ok (play.Part transcript)) status old_out new_out old_err new_err =
    EndsEarly (lines_from 1 transcript.entries) status old_out new_out old_err new_err
PrintsOutcome (Ok (play.WholeLives transcript)) status old_out new_out old_err new_err =
    EndsLives transcript status old_out new_out old_err new_err
PrintsOutcome (Ok (play.PartLives transcript)) status old_out new_out old_err new_err =
    EndsEarly (lives_lines_from 1 transcript.entries) status old_out new_out old_err new_err
PrintsOutcome (Err e) status old_out new_out old_err new_err =
    (new_out ≡ old_out) × PrintsFault e status old_err new_err

-- A run of the program prints what came of its two texts, and the serial check says no of none.
pub record IsRun (config_bytes schedule_bytes : List ℕ) (status : ℕ)
    (old_out new_out old_err new_err : Option (List ℕ)) : Type 0 where
  pub outcome : Result Play ReadFault
  pub of_texts : IsOutcome config_bytes schedule_bytes outcome
  pub prints : PrintsOutcome outcome status old_out new_out old_err new_err
  pub serial : status ≢ 1
