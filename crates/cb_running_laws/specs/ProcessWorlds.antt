-- Which world of the protocol a service and its clients are.
use Rattle.std.specs.Prelude.{◌≡◌, ℕ, true, List, [], ◌∷◌, Some, ⊤}
use Rattle.cb_client_core.specs.ClientState.{ClientState, client_of}
use Rattle.cb_commit.specs.Stores.{StoreState}
use Rattle.cb_frame.specs.declared.frame.Frame.{Frame}
use Rattle.cb_outbox.specs.Messages.{message_of}
use Rattle.cb_page.specs.Bounds.{Bounds}
use Rattle.cb_protocol.specs.Basics.{IsIn}
use Rattle.cb_protocol.specs.Serial.{Operation}
use Rattle.cb_protocol.specs.StoreLimits.{limits_of}
use Rattle.cb_protocol.specs.Transcript.{transcript_operations}
use Rattle.cb_protocol.specs.WaitsFor.{on_cycle}
use Rattle.cb_protocol.specs.World.{ReachedWorld, World}
use Rattle.cb_server_state.specs.States.{opening_of}
use Rattle.cb_running_laws.specs.Processes.{Processes}
use Rattle.cb_running_laws.specs.ProcessSteps.{Moment}
use Rattle.cb_running_laws.specs.Worlds.{LeadsTo}

-- The client's process is the world's client: of its incarnation, and with the service's limits.
pub record IsWorldClient (bounds : Bounds) (world : World) (client : ℕ) (state : ClientState)
    : Type 0 where
  pub no : state.no ≡ client
  pub incarnation : state.incarnation ≡ world.incarnation client
  pub limits : state.copies.limits ≡ bounds
  pub operations : List Operation
  pub shows : world.client client ≡ client_of state operations

-- The world is the processes: it has the service's server, while that runs, their clients, each
-- frame that was said as a packet, and in its transcript what was read and written.
pub record IsWorldOf {S : Type 0} (limits : Bounds) (world : World) (processes : Processes S)
    : Type 0 where
  pub server : processes.runs ≡ true → world.server ≡ processes.service.server
  pub client : (client : ℕ) (state : ClientState) → processes.client client ≡ Some state
      → IsWorldClient limits world client state
  pub said : (frame : Frame) → IsIn frame processes.said → IsIn (message_of frame) world.packets
  pub performed : transcript_operations world.transcript ≡ processes.performed

-- such a world is reached from the opening one over that store, with those limits
abbrev pub IsReachedWorldOf : {S : Type 0} → Bounds → StoreState → World → Processes S → Type 0
IsReachedWorldOf limits store world processes =
    ReachedWorld (limits_of limits) on_cycle (opening_of store) world
    × IsWorldOf limits world processes

-- Events go along with the steps: they lead from this world to one that is the processes after the
-- first step, from that to one that is those after the second, and so on.
abbrev pub GoesAlong : {S : Type 0} → Bounds → World → List (Moment S) → Type 0
GoesAlong limits world [] = ⊤
GoesAlong limits world (moment ∷ moments) = (next : World)
    × LeadsTo (limits_of limits) world next × IsWorldOf limits next moment.processes
    × GoesAlong limits next moments
