-- The serial check says no of no play.
use Rattle.std.proofs.Common.{◌≡◌, ◌≢◌, ◌⊎◌, inl, inr, ℕ, List, [], Option, Result, Ok, Err, refl, sym, subst, arith}
use Rattle.std.proofs.KnownBytes.{Appends-trans}
use Rattle.std.specs.Io.KnownBytes.{Appends}
use Rattle.std.specs.Prelude.{IfOk, ◌↔◌}
use Rattle.cb_transcript.specs.declared.serial.Verdict.{Verdict}
use Rattle.cb_transcript.specs.declared.serial.Verdict.TheVariants as verdict
use Rattle.cb_console.specs.Runs.{EndsBy, IsOutcome, IsRun, PrintsOutcome, PrintsVerdict}
use Rattle.cb_console.specs.declared.play.Play.{Play}
use Rattle.cb_console.specs.declared.play.Play.TheVariants as play
use Rattle.cb_console.specs.declared.play.ReadFault.{ReadFault}
use Rattle.cb_console.specs.declared.play.ReadFault.TheVariants as fault

-- what is printed of an outcome of two texts doesn't end with the check's no
never_no : (config_bytes schedule_bytes : List ℕ) (outcome : Result Play ReadFault) (status : ℕ) (old_out new_out old_err new_err : Option (List ℕ))
    → IsOutcome config_bytes schedule_bytes outcome → PrintsOutcome outcome status old_out new_out old_err new_err → status ≢ 1
never_no config_bytes schedule_bytes (Ok (play.Whole transcript)) status old_out new_out old_err new_err tells (inl ended) =
    λ one. let is : status ≡ 0 = ended.0 in absurd (omega arith)
never_no config_bytes schedule_bytes (Ok (play.Whole transcript)) status old_out new_out old_err new_err tells (inr (inl ended)) = λ one. ended.1 tells.plays.serial
never_no config_bytes schedule_bytes (Ok (play.Whole transcript)) status old_out new_out old_err new_err tells (inr (inr ended)) =
    λ one. let is : status ≡ 4 = ended.0 in absurd (omega arith)
never_no config_bytes schedule_bytes (Ok (play.Part transcript)) status old_out new_out old_err new_err tells ended =
    λ one. let is : status ≡ 4 = ended.0 in absurd (omega arith)
never_no config_bytes schedule_bytes (Ok (play.WholeLives transcript)) status old_out new_out old_err new_err tells (inl ended) =
    λ one. let is : status ≡ 0 = ended.0 in absurd (omega arith)
never_no config_bytes schedule_bytes (Ok (play.WholeLives transcript)) status old_out new_out old_err new_err tells (inr (inl ended)) = λ one. ended.1 tells.plays.serial
never_no config_bytes schedule_bytes (Ok (play.WholeLives transcript)) status old_out new_out old_err new_err tells (inr (inr ended)) =
    λ one. let is : status ≡ 4 = ended.0 in absurd (omega arith)
never_no config_bytes schedule_bytes (Ok (play.PartLives transcript)) status old_out new_out old_err new_err tells ended =
    λ one. let is : status ≡ 4 = ended.0 in absurd (omega arith)
never_no config_bytes schedule_bytes (Err fault.Memory) status old_out new_out old_err new_err tells ended =
    λ one. let is : status ≡ 4 = ended.1.0 refl in absurd (omega arith)
never_no config_bytes schedule_bytes (Err (fault.Config e)) status old_out new_out old_err new_err tells ended =
    λ one. let is : status ≡ 2 = ended.1.1 (λ same. cc) in absurd (omega arith)
never_no config_bytes schedule_bytes (Err (fault.Schedule e)) status old_out new_out old_err new_err tells ended =
    λ one. let is : status ≡ 2 = ended.1.1 (λ same. cc) in absurd (omega arith)

ends_so : {E F : Type 0} (lines : List ℕ) (commits : ℕ) (Serial : Type 0) (checked : Result Verdict E) (result : Result ℕ F) (old_out middle new_out old_err new_err : Option (List ℕ))
    → IfOk checked (λ v. (v ≡ verdict.Serial) ↔ Serial) → Appends old_out middle lines
    → IfOk result (λ status. PrintsVerdict commits checked status middle new_out old_err new_err)
    → IfOk result (λ status. EndsBy lines commits Serial status old_out new_out old_err new_err)
ends_so lines commits Serial checked (Err e) old_out middle new_out old_err new_err says first prints = tt
ends_so lines commits Serial (Ok verdict.Serial) (Ok status) old_out middle new_out old_err new_err says first prints =
    inl (prints.0, says.0 refl, Appends-trans _ _ _ _ _ first prints.1, prints.2)
ends_so lines commits Serial (Ok (verdict.Not place op)) (Ok status) old_out middle new_out old_err new_err says first prints =
    inr (inl (prints.0, (λ serial. let same : verdict.Not place op ≡ verdict.Serial = says.1 serial in cc), Appends-trans _ _ _ _ _ first prints.1, prints.2))
ends_so lines commits Serial (Err e) (Ok status) old_out middle new_out old_err new_err says first prints =
    inr (inr (prints.0, subst (λ (out : Option (List ℕ)). Appends old_out out lines) (sym prints.1) first, prints.2))

-- the lines of events, and then the last two by what the check answered
pub ends_by : {E F : Type 0} (lines printed : List ℕ) (commits count : ℕ) (Serial : Type 0) (checked : Result Verdict E) (result : Result ℕ F) (old_out middle new_out old_err new_err : Option (List ℕ))
    → lines ≡ printed → commits ≡ count
    → IfOk checked (λ v. (v ≡ verdict.Serial) ↔ Serial) → Appends old_out middle printed
    → IfOk result (λ status. PrintsVerdict count checked status middle new_out old_err new_err)
    → IfOk result (λ status. EndsBy lines commits Serial status old_out new_out old_err new_err)
ends_by lines printed commits count Serial checked result old_out middle new_out old_err new_err is_printed is_count says first prints =
    subst (λ (x : List ℕ). IfOk result (λ status. EndsBy x commits Serial status old_out new_out old_err new_err)) (sym is_printed)
    (subst (λ (n : ℕ). IfOk result (λ status. EndsBy printed n Serial status old_out new_out old_err new_err)) (sym is_count) (ends_so printed count Serial checked result old_out middle new_out old_err new_err says first prints))

-- printing the outcome of two texts is a run of them
pub prints_run : {E : Type 0} (config_bytes schedule_bytes : List ℕ) (outcome : Result Play ReadFault) (result : Result ℕ E) (old_out new_out old_err new_err : Option (List ℕ))
    → IsOutcome config_bytes schedule_bytes outcome
    → IfOk result (λ status. PrintsOutcome outcome status old_out new_out old_err new_err)
    → IfOk result (λ status. IsRun config_bytes schedule_bytes status old_out new_out old_err new_err)
prints_run config_bytes schedule_bytes outcome (Ok status) old_out new_out old_err new_err tells prints = record {
  outcome = outcome;
  of_texts = tells;
  prints = prints;
  serial = never_no config_bytes schedule_bytes outcome status old_out new_out old_err new_err tells prints;
}
prints_run config_bytes schedule_bytes outcome (Err e) old_out new_out old_err new_err tells prints = tt
