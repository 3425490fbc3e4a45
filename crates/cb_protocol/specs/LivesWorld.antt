-- The server restarts. A life of the server is from one start of it to the next. Here is the world
-- over all its lives, and what each event makes of it. All lives have the same limits. World, event
-- and tables of messages are those of one life, unchanged.
use Rattle.std.specs.Prelude.{◌≡◌, ◌<◌, ◌≤◌, ℕ, nat_le, if◌then◌else◌, List, [], ◌∷◌, ◌++◌, map}
use Rattle.std.specs.Prelude.{None, Option, nat_lt}
use Rattle.cb_protocol.specs.AnyMessages.{bytes_after, version_after}
use Rattle.cb_protocol.specs.Basics.{Limits}
use Rattle.cb_protocol.specs.Server.{AppliedCommit, DeadlockTest, Server, new_server}
use Rattle.cb_protocol.specs.Session.{Session}
use Rattle.cb_protocol.specs.World.{Event, EventChoiceAllowed, Moment, Opening, World, new_world}
use Rattle.cb_protocol.specs.World.{opening_store, step}

-- an event of the world over all lives
pub data LivesEvent : Type 0 where
  WithinLife : Event → LivesEvent  -- any event but a restart of the server
  -- The server restarts. In its new life it ignores messages of incarnations below the floor. The
  -- disk has the commits up to that number. The former life may have stopped before it was told so.
  ServerRestarts : (floor number : ℕ) → LivesEvent

-- The world over all lives of the server.
pub record Lives : Type 0 where
  -- The server is that of the present life. Clients, packets and transcript go on over all lives.
  pub world : World
  pub floor : ℕ  -- of the present life: its server ignores messages of incarnations below it
  pub opening : Opening  -- the store with which the present life began
  -- the commits of former lives that were on disk when their life ended, the newest first
  pub former : List AppliedCommit

-- A world in the first life of its server. The floor is 0, so no incarnation is below it.
abbrev pub in_first_life : Opening → World → Lives
in_first_life opening world =
    record { world = world; floor = 0; opening = opening; former = [] }

-- the world as the first life begins
abbrev pub first_life : Limits → Opening → Lives
first_life limits opening = in_first_life opening (new_world limits opening)

-- the commits up to that number; they come the newest first
abbrev pub commits_up_to : (number : ℕ) → List AppliedCommit → List AppliedCommit
commits_up_to number [] = []
commits_up_to number (last ∷ earlier) =
    if nat_le last.number number then last ∷ earlier else commits_up_to number earlier

-- The commits of the present life that are on disk, where the disk has them up to that number. They
-- are what is left of a life when it ends.
abbrev pub commits_on_disk : Server → (number : ℕ) → List AppliedCommit
commits_on_disk server number = commits_up_to number server.commits

-- The store as it is on disk then: that with which the life began, and what these commits wrote.
-- The next life begins with it.
abbrev pub store_on_disk : Opening → Server → (number : ℕ) → Opening
store_on_disk opening server number = record {
  bytes = bytes_after opening.bytes (commits_on_disk server number);
  version = version_after opening.version (commits_on_disk server number);
  number = number;
}

-- what a server has of a client of which it knows that incarnation and nothing else
abbrev pub session_at : (incarnation : ℕ) → Session
session_at incarnation =
    record { current = incarnation; row = λ page. None; txn = 0; ended = 0 }

-- The server as a life begins: a new one over its store, except that the current incarnation of
-- each client is the floor. No such incarnation was welcomed yet, nor a greater one. So of all that
-- was sent before, Hellos alone aren't ignored: those of a client that has come to the floor.
abbrev pub server_of_life : Limits → Opening → (floor : ℕ) → Server
server_of_life limits opening floor =
    record (new_server limits.clients limits.pages (opening_store limits opening)) {
      session = λ client. session_at (if nat_lt client limits.clients then floor else 0);
    }

-- The server restarts. The clients know nothing of it, and every packet may still be taken.
abbrev pub restart_server : Limits → Lives → (floor number : ℕ) → Lives
restart_server limits lives floor number =
    let opening = store_on_disk lives.opening lives.world.server number in record {
      world = record lives.world { server = server_of_life limits opening floor };
      floor = floor;
      opening = opening;
      former = commits_on_disk lives.world.server number ++ lives.former;
    }

-- what the world over all lives becomes by an event
abbrev pub lives_step : Limits → DeadlockTest → Lives → LivesEvent → (let_go : Option ℕ) → Lives
lives_step limits cycle lives (WithinLife event) let_go =
    record lives { world = (step limits cycle lives.world event let_go).world }
lives_step limits cycle lives (ServerRestarts floor number) let_go =
    restart_server limits lives floor number

-- A new floor, as the server can tell. In this world a client's restart takes the next incarnation:
-- a client that goes to the first one of a life's range restarts so often.
pub record IsNewFloor (lives : Lives) (floor : ℕ) : Type 0 where
  -- It is above the present floor, also where nobody has come to the present life: each start of
  -- a server takes a number of its own.
  pub rises : lives.floor < floor
  -- And it is above each incarnation that the server took a Hello of. A client may have one of the
  -- floor or above already: the server knows nothing of it, and never welcomed it.
  pub admitted : (client : ℕ) → client < lives.world.server.clients
      → (lives.world.server.session client).current < floor

-- The disk may have the commits up to that number: at least all that were reported to the server as
-- on disk, and none that it didn't make. Of those between, the first ones may have been written
-- without a report.
pub record MayBeOnDisk (server : Server) (number : ℕ) : Type 0 where
  pub reported : server.flushed ≤ number
  pub made : number ≤ server.store.last_commit

-- When an event may happen. Within a life: the page let go is one that the pool may let go.
-- A restart of the server: the floor is a new one, and the disk may have the commits up to the
-- number.
abbrev pub LivesEventAllowed : Limits → Lives → LivesEvent → (let_go : Option ℕ) → Type 0
LivesEventAllowed limits lives (WithinLife event) let_go =
    EventChoiceAllowed limits lives.world event let_go
LivesEventAllowed limits lives (ServerRestarts floor number) let_go =
    IsNewFloor lives floor × MayBeOnDisk lives.world.server number

-- These events, one after another, lead from `lives` to `after`, each where it may happen. Nothing
-- is left open but which page a pool lets go.
abbrev pub LeadsTo : Limits → DeadlockTest → Lives → List LivesEvent → (after : Lives) → Type 0
LeadsTo limits cycle lives [] after = lives ≡ after
LeadsTo limits cycle lives (event ∷ events) after =
    (let_go : Option ℕ) × LivesEventAllowed limits lives event let_go
    × LeadsTo limits cycle (lives_step limits cycle lives event let_go) events after

-- From the first life's beginning these events lead there.
abbrev pub Reaches : Limits → DeadlockTest → Opening → List LivesEvent → Lives → Type 0
Reaches limits cycle opening events lives =
    LeadsTo limits cycle (first_life limits opening) events lives

-- the events of a run of one life
abbrev pub run_events : List Moment → List LivesEvent
run_events moments = map (λ moment. WithinLife moment.event) moments
