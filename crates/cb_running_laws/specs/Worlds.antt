-- Which world of the protocol a running program is.
use Rattle.std.specs.Prelude.{◌≡◌, ℕ, true, false, List, [], ◌∷◌, Some, ⊤}
use Rattle.cb_client_core.specs.ClientState.{client_of}
use Rattle.cb_commit.specs.Stores.{StoreState}
use Rattle.cb_frame.specs.declared.frame.Frame.{Frame}
use Rattle.cb_hands.specs.Joined.{IsHeld}
use Rattle.cb_outbox.specs.Messages.{body_of, message_of}
use Rattle.cb_page.specs.Bounds.{Bounds}
use Rattle.cb_protocol.specs.Basics.{IsIn, Limits}
use Rattle.cb_protocol.specs.Messages.{to_server}
use Rattle.cb_protocol.specs.Serial.{Operation}
use Rattle.cb_protocol.specs.StoreLimits.{limits_of}
use Rattle.cb_protocol.specs.Transcript.{transcript_operations}
use Rattle.cb_protocol.specs.WaitsFor.{on_cycle}
use Rattle.cb_protocol.specs.World.{Moment, Plays, ReachedWorld, World, world_after}
use Rattle.cb_server_state.specs.States.{opening_of}
use Rattle.cb_station.specs.Stations.{mailbox_of, server_of}
use Rattle.cb_running_laws.specs.Programs.{Program, limits_in}
use Rattle.cb_running_laws.specs.Steps as steps
use Rattle.cb_worker.specs.Workers.{IsOf, WorkerState}

-- the frame is one of the world's packets, sent to that client
abbrev pub IsSentTo : World → (client : ℕ) → Frame → Type 0
IsSentTo world client frame = IsIn (message_of frame) world.packets
    × (to_server (body_of frame.body) ≡ false) × (frame.client ≡ client)

-- it is one of them, said by that client to the server
abbrev pub IsSaidBy : World → (client : ℕ) → Frame → Type 0
IsSaidBy world client frame = IsIn (message_of frame) world.packets
    × (to_server (body_of frame.body) ≡ true) × (frame.client ≡ client)

-- The worker is the world's client: of its incarnation, with the station's limits and the hand that
-- is stored. What it collected was sent to it; what it has still to hand in, it said.
pub record IsWorldClient (program : Program) (world : World) (client : ℕ) (worker : WorkerState)
    : Type 0 where
  pub of : IsOf worker client (world.incarnation client)
  pub limits : worker.client.copies.limits ≡ limits_in program
  pub held : IsHeld program.station.hands worker.hand
  pub operations : List Operation
  pub shows : world.client client ≡ client_of worker.client operations
  pub collected : (frame : Frame) → worker.collected ≡ Some frame → IsSentTo world client frame
  pub said : (frame : Frame) → IsIn frame worker.said → IsSaidBy world client frame

-- The world is the program: it has its server, its workers as clients, each frame of a mailbox as a
-- packet, and in its transcript what was read and written. Of a client without a worker it says
-- nothing more.
pub record IsWorldOf (world : World) (program : Program) : Type 0 where
  pub server : world.server ≡ server_of program.station
  pub worker : (client : ℕ) (worker : WorkerState) → program.worker client ≡ Some worker
      → IsWorldClient program world client worker
  pub mailbox : (client : ℕ) (frame : Frame) → IsIn frame (mailbox_of program.station client)
      → IsSentTo world client frame
  pub performed : transcript_operations world.transcript ≡ program.performed

-- such a world is reached from the opening one over that store, with those limits
abbrev pub IsReachedWorldOf : Bounds → StoreState → World → Program → Type 0
IsReachedWorldOf limits store world program =
    ReachedWorld (limits_of limits) on_cycle (opening_of store) world × IsWorldOf world program

-- events lead from the one world to the other
abbrev pub LeadsTo : Limits → (first last : World) → Type 0
LeadsTo limits first last =
    (events : List Moment) × Plays limits on_cycle first events × (world_after first events ≡ last)

-- Events go along with the steps: they lead from this world to one that is the program after the
-- first step, from that to one that is the program after the second, and so on.
abbrev pub GoesAlong : Limits → World → List steps.Moment → Type 0
GoesAlong limits world [] = ⊤
GoesAlong limits world (moment ∷ moments) = (next : World) × LeadsTo limits world next
    × IsWorldOf next moment.program × GoesAlong limits next moments
