-- Writing the next batch and reporting it.
use Rattle.std.specs.Prelude.{◌≡◌, ◌⊎◌, ℕ, List, [], Option, Some, None}
use Rattle.sqlite.specs.Held.{Held, state}
use Rattle.sqlite.specs.State.{HasCleanDisk}
use Rattle.sqlite.specs.Store.{Ghosts}
use Rattle.cb_page.specs.Bounds.{Bounds}
use Rattle.cb_frame.specs.declared.frame.Frame.{Frame}
use Rattle.cb_commit.specs.Batches.{BatchState}
use Rattle.cb_commit.specs.History.{CommitsState, dones_between, next_batch}
use Rattle.cb_shelf.specs.Inside.{IsSame, IsSettled}
use Rattle.cb_shelf.specs.Statements.{MakesAll, batch_statements}
use Rattle.cb_shelf.specs.Writing.{Fits}

-- what is written: the batch that is held, or else the next
abbrev pub to_write : Option BatchState → CommitsState → Option BatchState
to_write (Some batch) commits = Some batch
to_write None commits = next_batch commits

-- there is a batch to write, and it doesn't fit stores of these limits
abbrev pub IsMisfit : Bounds → Option BatchState → Type 0
IsMisfit limits (Some batch) = ¬ Fits limits batch
IsMisfit limits None = ⊥

-- the commits once that batch is on disk
abbrev pub once_written : CommitsState → Option BatchState → CommitsState
once_written commits (Some batch) = record commits { flushed = batch.number }
once_written commits None = commits

-- a Done for each commit of that batch which wasn't reported yet
abbrev pub dones_of : CommitsState → Option BatchState → List Frame
dones_of commits (Some batch) = dones_between commits.flushed batch.number commits.commits
dones_of commits None = []

-- the commits up to that number are reported: a Done for each that wasn't before, in order
abbrev pub IsReported : CommitsState → (number : ℕ) → List Frame → CommitsState → Type 0
IsReported commits number dones after = (after ≡ record commits { flushed = number })
    × (dones ≡ dones_between commits.flushed number commits.commits)

module _ {S : Type 0} (g : Ghosts S) (limits : Bounds) where
  -- One batch was written and committed, and it fits.
  pub record WritesOne (batch : BatchState) (old new : Held S) : Type 0 where
    pub fits : Fits limits batch
    pub made : HasCleanDisk (state g new)
        → MakesAll g (batch_statements batch) (state g old).now (state g new).committed
    pub settled : HasCleanDisk (state g new) → IsSettled (state g new)

  -- it was, or the tables are as before
  abbrev pub WritesOrStays : (batch : BatchState) → (old new : Held S) → Type 0
  WritesOrStays batch old new = WritesOne batch old new
      ⊎ (HasCleanDisk (state g new) → IsSame (state g old) (state g new))
