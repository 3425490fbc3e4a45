-- How a run ends, and what is printed of it. This project's rules.
use Rattle.std.specs.Prelude.{◌≡◌, ℕ, List, [], ◌∷◌, ◌++◌, Option, Some, None, Result, Ok, Err}
use Rattle.std.specs.Prelude.{codes, nat_le, if◌then◌else◌, IfOk}
use Rattle.std.specs.Fmt.{decimal}
use Rattle.std.specs.Io.KnownBytes.{Appends}
use Rattle.cb_office.specs.declared.ending.ClientEnding.{ClientEnding}
use Rattle.cb_office.specs.declared.ending.EarlyEnding.{EarlyEnding}
use Rattle.cb_office.specs.declared.ending.EarlyEnding.TheVariants as ending
use Rattle.cb_office.specs.declared.printing.Counted.{Counted}

-- the line of an ending
abbrev pub line_of : EarlyEnding → List ℕ
line_of ending.Shape = codes "store: Shape"
line_of ending.Store = codes "store: Store"
line_of ending.Exhausted = codes "store: Exhausted"
line_of ending.Worker = codes "worker: Fault"
line_of ending.Memory = codes "memory"

-- the status of an ending: 4 for want of memory, else 3
abbrev pub status_of : EarlyEnding → ℕ
status_of ending.Memory = 4
status_of _ = 3

-- the ending of the lower client; of one client the first that was told
abbrev pub lower : Option ClientEnding → ClientEnding → Option ClientEnding
lower None told = Some told
lower (Some first) told = if nat_le first.client told.client then Some first else Some told

-- how many jobs were committed, and the sum of the counters, a line each
abbrev pub counted_text : Counted → List ℕ
counted_text counted =
    codes "committed " ++ (decimal counted.committed ++ (codes "\nsum "
    ++ (decimal counted.sum ++ codes "\n")))

-- What is printed of a run, with the status: the counts on the output, and 0; or the line of its
-- ending on the standard error, and nothing on the output.
abbrev pub PrintsRun : Result Counted EarlyEnding → ℕ
    → Option (List ℕ) → Option (List ℕ) → Option (List ℕ) → Option (List ℕ) → Type 0
PrintsRun (Ok counted) status old_out new_out old_err new_err =
    (status ≡ 0) × Appends old_out new_out (counted_text counted) × (new_err ≡ old_err)
PrintsRun (Err ending) status old_out new_out old_err new_err =
    (status ≡ status_of ending) × (new_out ≡ old_out)
    × Appends old_err new_err (line_of ending ++ 10 ∷ [])

-- What is printed of some outcome; where all was done, the counts that are told are such.
pub record PrintsCounted (Are : Counted → Type 0) (status : ℕ)
    (old_out new_out old_err new_err : Option (List ℕ)) : Type 0 where
  pub outcome : Result Counted EarlyEnding
  pub prints : PrintsRun outcome status old_out new_out old_err new_err
  pub counts : IfOk outcome Are
