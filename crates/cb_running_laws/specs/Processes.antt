-- A service and the processes of its clients, with the frames between them.
use Rattle.std.specs.Prelude.{◌≡◌, ◌≤◌, ℕ, Bool, true, List, [], Option, None}
use Rattle.cb_client_core.specs.ClientState.{ClientState}
use Rattle.cb_commit.specs.Stores as stores
use Rattle.cb_commit.specs.Stores.{StoreState}
use Rattle.cb_frame.specs.declared.frame.Frame.{Frame}
use Rattle.cb_page.specs.Bounds.{Bounds}
use Rattle.cb_protocol.specs.Basics.{max_number}
use Rattle.cb_protocol.specs.Serial.{PerformedOperation}
use Rattle.cb_serve.specs.Rounds.{Standing}
use Rattle.cb_serve.specs.Serving.{opened}
use Rattle.cb_shelf.specs.LifeRows.{LifeState}

-- Whether the service runs, where it stands, and the life of its server; of each client the
-- `Client` that its process has; every frame that was said so far, by a client or by the service,
-- of which each may still come; and what the clients' transactions have read and written so far,
-- the newest first, which is a history variable.
pub record Processes (S : Type 0) : Type 0 where
  pub runs : Bool
  pub service : Standing S
  pub life : LifeState
  pub client : ℕ → Option ClientState
  pub said : List Frame
  pub performed : List PerformedOperation

-- The service has just begun, with the server of its life over a store that is as its type says.
-- Nobody has come in this life, and nothing was said.
pub record HasBegun {S : Type 0} (limits : Bounds) (store : StoreState) (processes : Processes S)
    : Type 0 where
  pub sound : stores.IsSound store
  pub least : 1 ≤ processes.life.floor
  pub most : processes.life.floor ≤ max_number
  pub runs : processes.runs ≡ true
  pub server : processes.service.server ≡ opened limits store processes.life.floor
  pub nobody : (client : ℕ) → processes.client client ≡ None
  pub unsaid : processes.said ≡ []
  pub nothing : processes.performed ≡ []
