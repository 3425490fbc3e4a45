-- A running program: a station, with the workers that share it.
use Rattle.std.specs.Prelude.{◌≡◌, ◌≤◌, ℕ, List, [], Option, Some, None, replicate}
use Rattle.cb_client_core.specs.ClientState.{IsClient}
use Rattle.cb_commit.specs.Stores as stores
use Rattle.cb_commit.specs.Stores.{StoreState}
use Rattle.cb_page.specs.Bounds.{Bounds}
use Rattle.cb_protocol.specs.Basics.{max_number}
use Rattle.cb_protocol.specs.Serial.{PerformedOperation}
use Rattle.cb_server.specs.ServerValue.{IsNew, IsResumed, ServerValue}
use Rattle.cb_station.specs.Stations.{IsStation, StationState, mailbox_of}
use Rattle.cb_worker.specs.Workers.{WorkerState}

-- The station, and of each client the worker that there is; and what the workers' transactions have
-- read and written so far, the newest first, which is a history variable.
pub record Program : Type 0 where
  pub station : StationState
  pub worker : ℕ → Option WorkerState
  pub performed : List PerformedOperation

-- the limits of the station
abbrev pub limits_in : Program → Bounds
limits_in program = program.station.dispatcher.server.limits

-- How a server begins over a store: as a new one, or as that of a later life, at its floor.
pub data HasBegun (limits : Bounds) (store : StoreState) (server : ServerValue) : Type 0 where
  anew : IsNew limits store server → HasBegun limits store server
  in_life : (floor : ℕ) → 1 ≤ floor → floor ≤ max_number → IsResumed limits store floor server
      → HasBegun limits store server

-- It has just opened with these limits, over a store that is as its type says: nobody has joined,
-- and nothing is to be sent.
pub record HasOpened (limits : Bounds) (store : StoreState) (program : Program) : Type 0 where
  pub sound : stores.IsSound store
  pub server : HasBegun limits store program.station.dispatcher.server
  pub hands : program.station.hands ≡ replicate limits.clients None
  pub mailbox : (client : ℕ) → mailbox_of program.station client ≡ []
  pub nobody : (client : ℕ) → program.worker client ≡ None
  pub nothing : program.performed ≡ []

-- What the types promise at every moment: the station is sound, and each worker's client is one.
pub record IsSound (program : Program) : Type 0 where
  pub station : IsStation program.station
  pub client : (client : ℕ) (worker : WorkerState) → program.worker client ≡ Some worker
      → IsClient worker.client
