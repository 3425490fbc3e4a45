-- How a run of workers ends, and what its counts are. This project's rules.
use Rattle.std.specs.Prelude.{◌≡◌, ◌≤◌, ◌==◌, ◌&&◌, ◌||◌, ℕ, Bool, true, nat_lt}
use Rattle.std.specs.Prelude.{Option, Some, None, Result, Ok, Err, IsTrue}
use Rattle.cb_client.specs.declared.client_fault.ClientFault.TheVariants as client
use Rattle.cb_commit.specs.Stores.{StoreState}
use Rattle.cb_office.specs.Counters.{sum_of_counters}
use Rattle.cb_station.specs.declared.office_fault.OfficeFault.TheVariants as office
use Rattle.cb_office.specs.declared.ending.ClientEnding.{ClientEnding}
use Rattle.cb_office.specs.declared.ending.EarlyEnding.{EarlyEnding}
use Rattle.cb_office.specs.declared.ending.EarlyEnding.TheVariants as ending
use Rattle.cb_office.specs.declared.printing.Counted.{Counted}
use Rattle.cb_shelf.specs.Reading.{Holds}
use Rattle.cb_shelf.specs.declared.fault.ShelfFault.{ShelfFault}
use Rattle.cb_shelf.specs.declared.fault.ShelfFault.TheVariants as shelf
use Rattle.cb_office.specs.Ends.{OverState}
use Rattle.cb_worker.specs.declared.worker_fault.WorkerFault.{WorkerFault}
use Rattle.cb_worker.specs.declared.worker_fault.WorkerFault.TheVariants as worker
use Rattle.sqlite.specs.Effect.{Database}
use Rattle.sqlite.specs.Held.{Held, state}
use Rattle.sqlite.specs.State.{HasCleanDisk}
use Rattle.sqlite.specs.Store.{Ghosts}

-- by a fault of the flusher or of the tables
abbrev pub ending_of_shelf : ShelfFault → EarlyEnding
ending_of_shelf shelf.Shape = ending.Shape
ending_of_shelf shelf.Store = ending.Store
ending_of_shelf shelf.Memory = ending.Memory

-- by a worker's fault; a halted worker says nothing of why
abbrev pub ending_of_worker : WorkerFault → Option EarlyEnding
ending_of_worker worker.Halted = None
ending_of_worker (worker.Client client.Memory) = Some ending.Memory
ending_of_worker (worker.Client client.Exhausted) = Some ending.Exhausted
ending_of_worker (worker.Client _) = Some ending.Worker
ending_of_worker (worker.Office office.Memory) = Some ending.Memory
ending_of_worker (worker.Office office.Exhausted) = Some ending.Exhausted
ending_of_worker (worker.Office _) = Some ending.Worker

-- that is how the client's part ended
abbrev pub of_client : (client : ℕ) → EarlyEnding → ClientEnding
of_client client told = record { client = client; ending = told }

-- by the flusher's fault, else by that of the lowest client that told of one
abbrev pub ending_of_run : {T : Type 0} → Result T ShelfFault → Option ClientEnding
    → Result T EarlyEnding
ending_of_run (Err fault) told = Err (ending_of_shelf fault)
ending_of_run (Ok done) (Some told) = Err told.ending
ending_of_run (Ok done) None = Ok done

-- whether so many committed jobs are all, or fewer where the run was cut off
abbrev pub adds_up : (committed all : ℕ) → (cut_off : Bool) → Bool
adds_up committed all cut_off = (committed == all) || (cut_off && nat_lt committed all)

-- whether the run was cut off that was over so, if one was
abbrev pub cut_off_of : Option OverState → Option Bool
cut_off_of (Some over) = Some over.cut_off
cut_off_of None = None

-- a run was over, cut off or not, and so many committed jobs are all of it, or fewer if it was cut
-- off
abbrev pub AreAll : (all : ℕ) → (cut_off : Option Bool) → (committed : ℕ) → Type 0
AreAll all (Some cut_off) committed = adds_up committed all cut_off ≡ true
AreAll all None committed = ⊥

-- the sum of the counters in the store that the tables hold
abbrev pub IsSumIn : Database → (sum : ℕ) → Type 0
IsSumIn db sum = (tables : _) × (store : StoreState) × Holds tables db store
    × (sum ≡ sum_of_counters store)

-- All jobs were committed, fewer only if the run was cut off, which was over so; and the sum is
-- that of the tables as they are, unless the disk failed or the connection was closed.
pub record IsCounted {S : Type 0} (g : Ghosts S) (all : ℕ) (cut_off : Option Bool) (after : Held S)
    (counted : Counted) : Type 0 where
  pub few : counted.committed ≤ all
  pub exact : AreAll all cut_off counted.committed
  pub summed : HasCleanDisk (state g after) → IsTrue (state g after).is_open
      → IsSumIn (state g after).now counted.sum
