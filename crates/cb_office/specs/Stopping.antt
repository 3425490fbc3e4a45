-- Why a flusher stops, and what it does next.
use Rattle.std.specs.Prelude.{◌≡◌, ◌==◌, ◌-◌, ◌&&◌, ◌↔◌, if◌then◌else◌, not, ℕ, Option, Some, None}
use Rattle.std.specs.Prelude.{IfSome, ⊤}
use Rattle.cb_commit.specs.Batches.{BatchState}
use Rattle.cb_server_state.specs.Commits.{batch_of}
use Rattle.cb_station.specs.Flags.{is_cut_off}
use Rattle.cb_station.specs.Stations.{StationState, server_of}
use Rattle.cb_page.specs.Bounds.{Bounds}
use Rattle.cb_protocol.specs.Flush.{next_batch}
use Rattle.cb_shelf.specs.declared.fault.ShelfFault.TheVariants.{Shape, Memory}
use Rattle.cb_shelf.specs.Writing.{Fits}
use Rattle.cb_office.specs.declared.flusher.CountedStop.{CountedStop}
use Rattle.cb_office.specs.declared.flusher.FlushStop.{FlushStop}
use Rattle.cb_office.specs.declared.over.Next.{Next}
use Rattle.cb_office.specs.declared.over.Next.TheVariants as next
use Rattle.cb_office.specs.Ends.{IsOver}
use Rattle.cb_worker.specs.Leaving.{Place}

-- There was no memory for a batch; or one is still to be written, of which the shape is blamed
-- exactly where it isn't that of the tables.
pub record Stops (limits : Bounds) (stop : FlushStop) : Type 0 where
  pub unheld : stop.batch ≡ None → stop.fault ≡ Memory
  pub shape : IfSome stop.batch (λ batch. (stop.fault ≡ Shape) ↔ (¬ Fits limits batch))

-- the number of the batch that is still to be written; 0 where there was no memory for one, which
-- no batch has
abbrev pub number_of : Option BatchState → ℕ
number_of (Some batch) = batch.number
number_of None = 0

-- how many of its three tries it has left, by those that the batch of the last stop had: one fewer
-- where it is the same and none was written in between
abbrev pub tries_left : CountedStop → (last : ℕ) → (left : ℕ) → ℕ
tries_left counted last left =
    if (number_of counted.stop.batch == last) && not counted.wrote then left - 1 else 2

-- what the flusher does next at a station: it takes the next batch; or the run is over, and cut off
-- or not
abbrev pub IsNext : StationState → Next → Type 0
IsNext station (next.Batch batch) = next_batch (server_of station) ≡ Some (batch_of batch)
IsNext station (next.Over over) =
    IsOver station × (is_cut_off station.flags ≡ over.cut_off)

-- if it ends, that says that the run was over at the office which lies there
abbrev pub EndsAt : (office : Place) → Next → Type 0
EndsAt office (next.Batch batch) = ⊤
EndsAt office (next.Over over) = over.office ≡ office
