-- What a picture is made of, and what is printed, with the status. This project's rules.
use Rattle.std.specs.Prelude.{◌≡◌, ◌≢◌, ◌≤◌, ◌<◌, ◌⊎◌, ℕ, Option, Result, Ok, Err, List, length}
use Rattle.std.specs.Prelude.{codes}
use Rattle.std.specs.Io.KnownBytes.{Appends}
use Rattle.cb_chart.specs.Charts.{Shows}
use Rattle.cb_chart.specs.declared.chart.Chart.{Chart}
use Rattle.cb_chart.specs.declared.chart.ChartFault.{ChartFault}
use Rattle.cb_chart.specs.declared.chart.ChartFault.TheVariants as chart_fault
use Rattle.cb_console.specs.Runs.{BecomesOfConfig, BecomesOfSchedule, IsRefusal, PrintsFault}
use Rattle.cb_console.specs.Settings.{IsConfig}
use Rattle.cb_console.specs.declared.config.Config.{Config}
use Rattle.cb_console.specs.declared.config.ConfigFault.{ConfigFault}
use Rattle.cb_console.specs.declared.play.ReadFault.{ReadFault}
use Rattle.cb_console.specs.declared.play.ReadFault.TheVariants as read
use Rattle.cb_transcript.specs.ScheduleText as text
use Rattle.cb_transcript.specs.declared.event.Event.{Event}
use Rattle.cb_transcript.specs.declared.text.ScheduleFault.{ScheduleFault}
use Rattle.cb_chart.specs.declared.picture.chart.PictureFault.{PictureFault}
use Rattle.cb_chart.specs.declared.picture.chart.PictureFault.TheVariants as fault

-- The texts are a configuration with these settings, and a schedule of these events.
pub record AreRead (config_bytes schedule_bytes : List ℕ) (settings : Config)
    (events : List Event) : Type 0 where
  pub is_config : IsConfig config_bytes settings
  pub is_schedule : text.IsSchedule settings.limits schedule_bytes events

-- the chart shows what the texts say, which is no more than 2,000 events
abbrev pub IsChartOf : (config_bytes schedule_bytes : List ℕ) → Chart → Type 0
IsChartOf config_bytes schedule_bytes chart =
    (settings : Config) × (events : List Event)
    × AreRead config_bytes schedule_bytes settings events
    × (length events ≤ 2000) × Shows settings.limits events chart

-- why the texts have no chart: one of them is refused, or there are more events. Want of memory
-- says nothing of them.
abbrev pub HaveNoChart : (config_bytes schedule_bytes : List ℕ) → PictureFault → Type 0
HaveNoChart config_bytes schedule_bytes (fault.Read e) =
    e ≢ read.Memory → IsRefusal config_bytes schedule_bytes e
HaveNoChart config_bytes schedule_bytes fault.TooLong =
    (settings : Config) × (events : List Event)
    × AreRead config_bytes schedule_bytes settings events × (2000 < length events)

-- what a reader's fault becomes
abbrev pub BecomesOfConfigFault : ConfigFault → PictureFault → Type 0
BecomesOfConfigFault e becomes =
    (refusal : ReadFault) × (becomes ≡ fault.Read refusal) × BecomesOfConfig e refusal

abbrev pub BecomesOfScheduleFault : ScheduleFault → PictureFault → Type 0
BecomesOfScheduleFault e becomes =
    (refusal : ReadFault) × (becomes ≡ fault.Read refusal) × BecomesOfSchedule e refusal

abbrev pub BecomesOfChartFault : ChartFault → PictureFault → Type 0
BecomesOfChartFault chart_fault.TooLong becomes = becomes ≡ fault.TooLong
BecomesOfChartFault chart_fault.Memory becomes = becomes ≡ fault.Read read.Memory

-- what came of the texts
abbrev pub IsOutcome : (config_bytes schedule_bytes : List ℕ) → Result Chart PictureFault → Type 0
IsOutcome config_bytes schedule_bytes (Ok chart) = IsChartOf config_bytes schedule_bytes chart
IsOutcome config_bytes schedule_bytes (Err e) = HaveNoChart config_bytes schedule_bytes e

-- how the printing of a chart ends: with the picture, or nothing is printed for want of memory
abbrev pub EndsChart : (status : ℕ) → (old_out new_out old_err new_err : Option (List ℕ)) → Type 0
EndsChart status old_out new_out old_err new_err =
    ((status ≡ 0) × (new_err ≡ old_err))
    ⊎ ((status ≡ 4) × (new_out ≡ old_out) × Appends old_err new_err (codes "memory\n"))

-- what is printed, with the status: the picture of a chart, or the line of a fault
abbrev pub Prints : Result Chart PictureFault → (status : ℕ)
    → (old_out new_out old_err new_err : Option (List ℕ)) → Type 0
Prints (Ok chart) status old_out new_out old_err new_err =
    EndsChart status old_out new_out old_err new_err
Prints (Err (fault.Read e)) status old_out new_out old_err new_err =
    (new_out ≡ old_out) × PrintsFault e status old_err new_err
Prints (Err fault.TooLong) status old_out new_out old_err new_err =
    (new_out ≡ old_out) × (status ≡ 2)
    × Appends old_err new_err (codes "schedule: a chart has at most 2000 events\n")

-- A run prints what came of its two texts.
pub record IsRun (config_bytes schedule_bytes : List ℕ) (status : ℕ)
    (old_out new_out old_err new_err : Option (List ℕ)) : Type 0 where
  pub outcome : Result Chart PictureFault
  pub of_texts : IsOutcome config_bytes schedule_bytes outcome
  pub prints : Prints outcome status old_out new_out old_err new_err
