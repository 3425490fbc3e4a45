-- What is printed of a run over a store's file. This project's rules.
use Rattle.std.specs.Prelude.{◌≡◌, ◌≤◌, ◌*◌, ℕ, Bool, Option, Some, None, Result, Ok, Err, List}
use Rattle.cb_office.specs.Outcomes.{PrintsCounted, PrintsRun}
use Rattle.cb_office.specs.declared.printing.Counted.{Counted}
use Rattle.cb_console.specs.declared.config.Config.{Config}
use Rattle.cb_console.specs.RunSettings.{IsRunSettings, PrintsRefusal}
use Rattle.cb_console.specs.declared.running.RunFault.{RunFault}
use Rattle.cb_office.specs.Runs.{AreAll, ending_of_shelf}
use Rattle.cb_play.specs.declared.store_file.Reach.{Reach}
use Rattle.cb_play.specs.declared.store_file.Reach.TheVariants as reach
use Rattle.cb_play.specs.declared.store_file.StoreEnd.{StoreEnd}
use Rattle.cb_play.specs.declared.store_file.StoreFile.{StoreFile}

-- how many jobs all clients have together
abbrev pub all_jobs : Config → ℕ
all_jobs settings = settings.limits.clients * settings.jobs

-- All jobs of all clients were committed, fewer only if the run was cut off; and it was over.
pub record HasAll (settings : Config) (cut_off : Option Bool) (counted : Counted) : Type 0 where
  pub few : counted.committed ≤ all_jobs settings
  pub exact : AreAll (all_jobs settings) cut_off counted.committed

-- What is printed of a run over a store that came so far, with the status: of one that was refused
-- its fault; of one that was read some outcome of a run.
abbrev pub PrintsReached : Reach → (Counted → Type 0) → ℕ
    → Option (List ℕ) → Option (List ℕ) → Option (List ℕ) → Option (List ℕ) → Type 0
PrintsReached (reach.Refused fault) Are status old_out new_out old_err new_err =
    PrintsRun (Err (ending_of_shelf fault)) status old_out new_out old_err new_err
PrintsReached reach.Read Are status old_out new_out old_err new_err =
    PrintsCounted Are status old_out new_out old_err new_err
PrintsReached _ Are status old_out new_out old_err new_err = ⊥

-- That file was opened as the store, and what is printed is what it came to.
pub record PrintsOver (path : List ℕ) (settings : Config) (ended : StoreEnd)
    (old_out new_out old_err new_err : Option (List ℕ)) : Type 0 where
  pub file : StoreFile
  pub opened : ended.file ≡ Some file
  pub of_path : file.path.now ≡ path
  pub prints : PrintsReached file.reach (HasAll settings ended.run) ended.status
      old_out new_out old_err new_err

-- What is printed, with the status: where workers can run, what came of the store in the file of
-- this path; else the fault, and nothing on the output, and no file was opened.
abbrev pub PrintsStoreRun : List ℕ → Result Config RunFault → StoreEnd
    → Option (List ℕ) → Option (List ℕ) → Option (List ℕ) → Option (List ℕ) → Type 0
PrintsStoreRun path (Ok settings) ended old_out new_out old_err new_err =
    PrintsOver path settings ended old_out new_out old_err new_err
PrintsStoreRun path (Err e) ended old_out new_out old_err new_err =
    (ended.file ≡ None) × (new_out ≡ old_out) × PrintsRefusal e ended.status old_err new_err

-- A run under a configuration's text, over the store in the file of a path, prints what came of it.
pub record IsStoreRun (config_bytes path : List ℕ) (ended : StoreEnd)
    (old_out new_out old_err new_err : Option (List ℕ)) : Type 0 where
  pub settings : Result Config RunFault
  pub of_text : IsRunSettings config_bytes settings
  pub prints : PrintsStoreRun path settings ended old_out new_out old_err new_err
