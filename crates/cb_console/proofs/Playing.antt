-- What is told of two texts, by what became of the schedule's.
use Rattle.std.proofs.Common.{◌≡◌, ◌≢◌, ℕ, Bool, true, false, List, Result, Ok, Err, IfErr, IsErrAnd, inr, subst, sym}
use Rattle.std.specs.Prelude.{IfOk}
use Rattle.cb_page.specs.Bounds.{Bounds}
use Rattle.cb_transcript.specs.declared.text.ScheduleFault.{ScheduleFault}
use Rattle.cb_transcript.specs.declared.text.ScheduleFault.TheVariants as schedule
use Rattle.cb_console.specs.Runs.{BecomesOfSchedule, IsLivesPlayOfText, IsPlay, IsPlayOfText, IsPlayRefusal, IsScheduleRefusal, RefusesSchedule}
use Rattle.cb_console.specs.declared.play.Play.{Play}
use Rattle.cb_console.specs.declared.play.Play.TheVariants as play
use Rattle.cb_console.specs.declared.play.ReadFault.{ReadFault}
use Rattle.cb_console.specs.declared.play.ReadFault.TheVariants as fault
use Rattle.cb_console.specs.Settings.{IsConfig}
use Rattle.cb_console.specs.declared.config.Config.{Config}

-- the texts are read, and so many of their events are played
told_of : (config_bytes schedule_bytes : List ℕ) (settings : Config) (played : Play) → IsConfig config_bytes settings → settings.lives ≡ false
    → IsPlayOfText settings.limits schedule_bytes played → IsPlay config_bytes schedule_bytes played
told_of config_bytes schedule_bytes settings (play.Whole transcript) is_config one_life (events, is_schedule, plays) =
    record { settings = settings; is_config = is_config; one_life = one_life; events = events; is_schedule = is_schedule; plays = plays }
told_of config_bytes schedule_bytes settings (play.Part transcript) is_config one_life (events, is_schedule, plays) =
    (plays.0, record { settings = settings; is_config = is_config; one_life = one_life; events = events; is_schedule = is_schedule; plays = plays.2 }, plays.1)
told_of config_bytes schedule_bytes settings (play.WholeLives transcript) is_config one_life (events, is_schedule, plays) = absurd plays
told_of config_bytes schedule_bytes settings (play.PartLives transcript) is_config one_life (events, is_schedule, plays) = absurd plays

told_of_lives : (config_bytes schedule_bytes : List ℕ) (settings : Config) (played : Play) → IsConfig config_bytes settings → settings.lives ≡ true
    → IsLivesPlayOfText settings.limits schedule_bytes played → IsPlay config_bytes schedule_bytes played
told_of_lives config_bytes schedule_bytes settings (play.WholeLives transcript) is_config over_lives (events, is_schedule, plays) =
    record { settings = settings; is_config = is_config; over_lives = over_lives; events = events; is_schedule = is_schedule; plays = plays }
told_of_lives config_bytes schedule_bytes settings (play.PartLives transcript) is_config over_lives (events, is_schedule, plays) =
    (plays.0, record { settings = settings; is_config = is_config; over_lives = over_lives; events = events; is_schedule = is_schedule; plays = plays.2 }, plays.1)
told_of_lives config_bytes schedule_bytes settings (play.Whole transcript) is_config over_lives (events, is_schedule, plays) = absurd plays
told_of_lives config_bytes schedule_bytes settings (play.Part transcript) is_config over_lives (events, is_schedule, plays) = absurd plays

-- the same of what a reader answered
pub told : (config_bytes schedule_bytes : List ℕ) (settings : Config) (r : Result Play ReadFault) → IsConfig config_bytes settings → settings.lives ≡ false
    → IfOk r (IsPlayOfText settings.limits schedule_bytes) → IfOk r (IsPlay config_bytes schedule_bytes)
told config_bytes schedule_bytes settings (Ok played) is_config one_life plays = told_of config_bytes schedule_bytes settings played is_config one_life plays
told config_bytes schedule_bytes settings (Err e) is_config one_life plays = tt

pub told_lives : (config_bytes schedule_bytes : List ℕ) (settings : Config) (r : Result Play ReadFault) → IsConfig config_bytes settings → settings.lives ≡ true
    → IfOk r (IsLivesPlayOfText settings.limits schedule_bytes) → IfOk r (IsPlay config_bytes schedule_bytes)
told_lives config_bytes schedule_bytes settings (Ok played) is_config over_lives plays = told_of_lives config_bytes schedule_bytes settings played is_config over_lives plays
told_lives config_bytes schedule_bytes settings (Err e) is_config over_lives plays = tt

-- what a schedule's fault makes of a reader's answer
pub schedule_fault : (lives : Bool) (bounds : Bounds) (schedule_bytes : List ℕ) (e : ScheduleFault) (r : Result Play ReadFault) → IsErrAnd r (BecomesOfSchedule e) → RefusesSchedule lives bounds schedule_bytes e
    → IfErr r (λ f. f ≢ fault.Memory → IsScheduleRefusal lives bounds schedule_bytes f)
schedule_fault lives bounds schedule_bytes e (Ok played) becomes refuses = tt
schedule_fault lives bounds schedule_bytes e (Err f) becomes refuses = λ other.
    let known : e ≢ schedule.Memory = λ is. other (becomes.0 is) in (e, becomes.1 known, known, refuses)

-- what the schedule is refused for is what the texts are
pub refused_for : (config_bytes schedule_bytes : List ℕ) (settings : Config) (lives : Bool) (r : Result Play ReadFault) → IsConfig config_bytes settings → settings.lives ≡ lives
    → IfErr r (λ e. e ≢ fault.Memory → IsScheduleRefusal lives settings.limits schedule_bytes e)
    → IfErr r (λ e. e ≢ fault.Memory → IsPlayRefusal config_bytes schedule_bytes e)
refused_for config_bytes schedule_bytes settings lives (Ok played) is_config is refuses = tt
refused_for config_bytes schedule_bytes settings lives (Err e) is_config is refuses = λ other.
    inr (settings, is_config, subst (λ (l : Bool). IsScheduleRefusal l settings.limits schedule_bytes e) (sym is) (refuses other))
