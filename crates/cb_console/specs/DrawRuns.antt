-- What a run of `draw` is: which events are drawn, what is printed of them, and the status. This
-- project's rules.
use Rattle.std.specs.Prelude.{◌≡◌, ◌≢◌, ℕ, Option, Result, Ok, Err, List}
use Rattle.std.specs.List.{flat_map}
use Rattle.std.specs.Io.KnownBytes.{Appends}
use Rattle.cb_schedule.specs.Draws.{AreDrawn}
use Rattle.cb_transcript.specs.declared.event.Event.{Event}
use Rattle.cb_console.specs.Settings.{IsConfig, IsWrong, config_text}
use Rattle.cb_console.specs.declared.config.Config.{Config}
use Rattle.cb_console.specs.declared.config.ConfigFault.{ConfigFault}
use Rattle.cb_console.specs.DrawnText.{event_text}
use Rattle.cb_console.specs.Runs.{PrintsFault}
use Rattle.cb_console.specs.declared.play.ReadFault.{ReadFault}
use Rattle.cb_console.specs.declared.play.ReadFault.TheVariants as fault

-- The text is a configuration; these events are drawn under it.
pub record IsDrawn (config_bytes : List ℕ) (seed count : ℕ) (events : List Event) : Type 0 where
  pub settings : Config
  pub is_config : IsConfig config_bytes settings
  pub drawn : AreDrawn settings.limits seed count events

-- the fault is what is wrong with the configuration
abbrev pub IsConfigRefusal : List ℕ → ReadFault → Type 0
IsConfigRefusal config_bytes refusal =
    (e : ConfigFault) × (refusal ≡ fault.Config e) × IsWrong config_bytes (config_text e)

-- what came of a draw: events, a refusal of the configuration, or want of memory
abbrev pub IsDrawOutcome : List ℕ → ℕ → ℕ → Result (List Event) ReadFault → Type 0
IsDrawOutcome config_bytes seed count (Ok events) = IsDrawn config_bytes seed count events
IsDrawOutcome config_bytes seed count (Err e) =
    e ≢ fault.Memory → IsConfigRefusal config_bytes e

-- What is printed of it, with the status: the events, one a line; nothing where there are none.
abbrev pub PrintsDrawn : Result (List Event) ReadFault → ℕ
    → Option (List ℕ) → Option (List ℕ) → Option (List ℕ) → Option (List ℕ) → Type 0
PrintsDrawn (Ok events) status old_out new_out old_err new_err =
    (status ≡ 0) × Appends old_out new_out (flat_map event_text events) × (new_err ≡ old_err)
PrintsDrawn (Err e) status old_out new_out old_err new_err =
    (new_out ≡ old_out) × PrintsFault e status old_err new_err

-- A run of `draw` prints what came of its configuration.
pub record IsDrawRun (config_bytes : List ℕ) (seed count status : ℕ)
    (old_out new_out old_err new_err : Option (List ℕ)) : Type 0 where
  pub outcome : Result (List Event) ReadFault
  pub of_text : IsDrawOutcome config_bytes seed count outcome
  pub prints : PrintsDrawn outcome status old_out new_out old_err new_err
