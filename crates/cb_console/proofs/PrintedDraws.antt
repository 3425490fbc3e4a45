-- What is printed of a draw is a run of it.
use Rattle.std.proofs.Common.{◌≡◌, ◌≢◌, ℕ, List, Option, Result, Ok, Err, refl}
use Rattle.std.specs.Prelude.{IfOk}
use Rattle.std.specs.List.{flat_map}
use Rattle.std.specs.Io.KnownBytes.{Appends}
use Rattle.cb_transcript.specs.declared.event.Event.{Event}
use Rattle.cb_console.specs.DrawnText.{event_text}
use Rattle.cb_console.specs.DrawRuns.{IsConfigRefusal, IsDrawn, IsDrawRun}
use Rattle.cb_console.specs.Runs.{PrintsFault}
use Rattle.cb_console.specs.declared.play.ReadFault.{ReadFault}
use Rattle.cb_console.specs.declared.play.ReadFault.TheVariants as fault

pub drawn_run : (config_bytes : List ℕ) (seed count : ℕ) (events : List Event) (old_out new_out err : Option (List ℕ)) → IsDrawn config_bytes seed count events
    → Appends old_out new_out (flat_map event_text events) → IsDrawRun config_bytes seed count 0 old_out new_out err err
drawn_run config_bytes seed count events old_out new_out err drawn printed = record { outcome = Ok events; of_text = drawn; prints = (refl, printed, refl) }

pub refused_run : {E : Type 0} (config_bytes : List ℕ) (seed count : ℕ) (e : ReadFault) (result : Result ℕ E) (out old_err new_err : Option (List ℕ))
    → (e ≢ fault.Memory → IsConfigRefusal config_bytes e) → IfOk result (λ status. PrintsFault e status old_err new_err)
    → IfOk result (λ status. IsDrawRun config_bytes seed count status out out old_err new_err)
refused_run config_bytes seed count e (Ok status) out old_err new_err refusal said = record { outcome = Err e; of_text = refusal; prints = (refl, said) }
refused_run config_bytes seed count e (Err error) out old_err new_err refusal said = tt
