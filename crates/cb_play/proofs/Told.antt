-- What is printed of an outcome is what is printed of some.
use Rattle.std.proofs.Common.{◌≡◌, ℕ, Bool, List, Option, Result, Some, None, Ok, Err, inl, inr, refl, sym, subst}
use Rattle.std.proofs.lemmas.Result.{IfOk-weaker}
use Rattle.std.specs.Prelude.{IfOk}
use Rattle.sqlite.specs.Held.{Held}
use Rattle.sqlite.specs.Store.{Ghosts}
use Rattle.cb_console.specs.declared.config.Config.{Config}
use Rattle.cb_office.specs.Outcomes.{PrintsCounted, PrintsRun}
use Rattle.cb_office.specs.declared.ending.EarlyEnding.{EarlyEnding}
use Rattle.cb_office.specs.declared.printing.Counted.{Counted}
use Rattle.cb_play.specs.StoreRuns.{HasAll, PrintsOver, PrintsReached, all_jobs}
use Rattle.cb_play.specs.declared.store_file.Reach.{Reach}
use Rattle.cb_play.specs.declared.store_file.Reach.TheVariants as reach
use Rattle.cb_play.specs.declared.store_file.StoreEnd.{StoreEnd}
use Rattle.cb_play.specs.declared.store_file.StoreFile.{StoreFile}
use Rattle.cb_play.specs.declared.store_run.Printed.{Printed}
use Rattle.cb_office.specs.Runs.{IsCounted, ending_of_shelf}
use Rattle.cb_shelf.specs.declared.fault.ShelfFault.{ShelfFault}

-- an ending counts nothing
pub told_ending : {E : Type 0} (Are : Option Bool → Counted → Type 0) (e : EarlyEnding) (result : Result Printed E) (old_out new_out old_err new_err : Option (List ℕ))
    → IfOk result (λ p. PrintsRun (Err e) p.status old_out new_out old_err new_err)
    → IfOk result (λ p. PrintsCounted (Are p.run) p.status old_out new_out old_err new_err)
told_ending Are e (Ok printed) old_out new_out old_err new_err prints = record { outcome = Err e; prints = prints; counts = tt }
told_ending Are e (Err error) old_out new_out old_err new_err prints = tt

-- the fault of a store that was refused is told
pub told_refusal : {E : Type 0} (Are : Option Bool → Counted → Type 0) (came : Reach) (fault : ShelfFault) (e : EarlyEnding) (result : Result Printed E) (old_out new_out old_err new_err : Option (List ℕ))
    → came ≡ reach.Refused fault → e ≡ ending_of_shelf fault → IfOk result (λ p. PrintsRun (Err e) p.status old_out new_out old_err new_err)
    → IfOk result (λ p. PrintsReached came (Are p.run) p.status old_out new_out old_err new_err)
told_refusal Are came fault e result old_out new_out old_err new_err refused is prints =
    subst (λ (r : Reach). IfOk result (λ p. PrintsReached r (Are p.run) p.status old_out new_out old_err new_err)) (sym refused)
    (subst (λ (x : EarlyEnding). IfOk result (λ p. PrintsRun (Err x) p.status old_out new_out old_err new_err)) is prints)

-- what a run over a store that was read counts is told
pub told_read : {E : Type 0} (Are : Option Bool → Counted → Type 0) (came : Reach) (result : Result Printed E) (old_out new_out old_err new_err : Option (List ℕ))
    → came ≡ reach.Read → IfOk result (λ p. PrintsCounted (Are p.run) p.status old_out new_out old_err new_err)
    → IfOk result (λ p. PrintsReached came (Are p.run) p.status old_out new_out old_err new_err)
told_read Are came result old_out new_out old_err new_err was_read prints =
    subst (λ (r : Reach). IfOk result (λ p. PrintsReached r (Are p.run) p.status old_out new_out old_err new_err)) (sym was_read) prints

-- what is counted of a run over a database has all jobs
has_all : {S : Type 0} (g : Ghosts S) (settings : Config) (cut_off : Option Bool) (after : Held S) (counted : Counted) → IsCounted g (all_jobs settings) cut_off after counted → HasAll settings cut_off counted
has_all g settings cut_off after counted is = record { few = is.few; exact = is.exact }

-- so does what is printed of it
told_all : {S : Type 0} (g : Ghosts S) (settings : Config) (cut_off : Option Bool) (after : Held S) (came : Reach) (status : ℕ) (old_out new_out old_err new_err : Option (List ℕ))
    → PrintsReached came (IsCounted g (all_jobs settings) cut_off after) status old_out new_out old_err new_err
    → PrintsReached came (HasAll settings cut_off) status old_out new_out old_err new_err
told_all g settings cut_off after reach.Opened status old_out new_out old_err new_err prints = prints
told_all g settings cut_off after reach.LaidOut status old_out new_out old_err new_err prints = prints
told_all g settings cut_off after reach.Begun status old_out new_out old_err new_err prints = prints
told_all g settings cut_off after reach.Read status old_out new_out old_err new_err prints =
    record { outcome = prints.outcome; prints = prints.prints; counts = IfOk-weaker prints.outcome _ _ (has_all g settings cut_off after) prints.counts }
told_all g settings cut_off after (reach.Refused fault) status old_out new_out old_err new_err prints = prints

-- a run over a database, and the file that it ended over
pub over_run : {S : Type 0} (g : Ghosts S) {E : Type 0} (path : List ℕ) (settings : Config) (after : Held S) (ended : StoreEnd) (file : StoreFile) (result : Result Printed E) (printed : Printed)
    (old_out new_out old_err new_err : Option (List ℕ)) → ended.file ≡ Some file → ended.status ≡ printed.status → ended.run ≡ printed.run → file.path.now ≡ path → result ≡ Ok printed
    → IfOk result (λ p. PrintsReached file.reach (IsCounted g (all_jobs settings) p.run after) p.status old_out new_out old_err new_err)
    → PrintsOver path settings ended old_out new_out old_err new_err
over_run {S} g {E} path settings after ended file result printed old_out new_out old_err new_err opened is run of_path answered prints =
    record {
      file = file;
      opened = opened;
      of_path = of_path;
      prints = subst (λ (s : ℕ). PrintsReached file.reach (HasAll settings ended.run) s old_out new_out old_err new_err) (sym is)
          (subst (λ (r : Option Bool). PrintsReached file.reach (HasAll settings r) printed.status old_out new_out old_err new_err) (sym run)
          (told_all g settings printed.run after file.reach printed.status old_out new_out old_err new_err
          (subst (λ (r : Result Printed E). IfOk r (λ p. PrintsReached file.reach (IsCounted g (all_jobs settings) p.run after) p.status old_out new_out old_err new_err)) answered prints)));
    }
