-- A file, and the services that run over it one after another, each of which may stop at any point.
use Rattle.std.specs.Prelude.{◌≡◌, ◌≤◌, ℕ, Bool, true, false, List, [], ◌∷◌, ◌++◌, Option, Some}
use Rattle.std.specs.Prelude.{None}
use Rattle.std.specs.List.{AllByRecursion}
use Rattle.sqlite.specs.Effect.{Database}
use Rattle.sqlite.specs.Held.{Held, state}
use Rattle.sqlite.specs.State.{HasCleanDisk}
use Rattle.sqlite.specs.Store.{Ghosts}
use Rattle.cb_commit.specs.Batches.{BatchState}
use Rattle.cb_commit.specs.Stores.{StoreState, IsOf, bytes_at, version_at}
use Rattle.cb_page.specs.Bounds.{Bounds}
use Rattle.cb_page.specs.Numbers.{IsNumber}
use Rattle.cb_protocol.specs.AnyMessages.{IsCommit, ReachesDisk, bytes_after, version_after}
use Rattle.cb_protocol.specs.Basics.{IsIn}
use Rattle.cb_protocol.specs.Flush.{next_batch}
use Rattle.cb_protocol.specs.LivesWorld.{Lives, LivesEventAllowed, ServerRestarts, commits_on_disk}
use Rattle.cb_protocol.specs.LivesWorld.{restart_server}
use Rattle.cb_protocol.specs.Messages.{Done, Message}
use Rattle.cb_protocol.specs.Server.{AppliedCommit, Server, new_server}
use Rattle.cb_protocol.specs.World.{Opening, opening_store}
use Rattle.cb_server.specs.Knowing.{KnowsBelow}
use Rattle.cb_server_state.specs.Commits.{batch_of}
use Rattle.cb_server_state.specs.States.{limits_of, opening_of}
use Rattle.cb_shelf.specs.Inside.{IsSettled}
use Rattle.cb_shelf.specs.Statements.{MakesAll, batch_statements}
use Rattle.cb_shelf.specs.Writing.{Fits}
use Rattle.cb_shelf.specs.LifeRows.{LifeState, life_row}
use Rattle.cb_shelf.specs.Living.{Follows, life_statements}
use Rattle.cb_shelf.specs.Living as living
use Rattle.cb_shelf.specs.Newer.{HoldsNewer}
use Rattle.cb_shelf.specs.Opening.{LaysOut}
use Rattle.cb_shelf_laws.specs.Rows.{HasFullPages}
use Rattle.cb_shelf_laws.specs.Stops.{FirstOpen}
use Rattle.cb_serve.specs.Answering.{after_inputs, inputs_in, said_to}
use Rattle.cb_serve.specs.Rounds.{Round, Standing, reached}
use Rattle.cb_serve.specs.Serving.{AreRounds, opened}
use Rattle.cb_serve.specs.Streams.{IsPiece, Piece}

-- What happens to a file. Between services: it is opened, with limits of that service's own; a life
-- begins that stops before it serves; or a life begins, the tables are read, and a service of these
-- limits begins over that store. Within a round: pieces are taken in memory; the tables get room
-- for an incarnation; all that is to be said goes out; a batch is written; the commits in the
-- tables are reported to the server. And the service stops.
pub data Step : Type 0 where
  reopened : Bounds → Step
  lived : LifeState → Step
  served : Bounds → LifeState → StoreState → Step
  takes : List Piece → Step
  raised : (incarnation : ℕ) → Step
  says : Step
  writes : BatchState → Step
  reports : Step
  stops : Step

-- What the services over a file came to. Of the last one: whether it runs, its limits and its
-- floor, the store with which it began, its server, that server as it was when bytes last went out,
-- and what is still to be said. Of the file: the life that the tables tell of, the number of the
-- last commit in them, and the commits of former services that were in them as each stopped, the
-- newest first. And every message that any service put out.
pub record Course : Type 0 where
  pub runs : Bool
  pub limits : Bounds
  pub floor : ℕ
  pub opening : Opening
  pub server : Server
  pub told : Server
  pub unsaid : List Message
  pub life : LifeState
  pub on_disk : ℕ
  pub former : List AppliedCommit
  pub said : List Message

-- The first open left this store, and tables that tell of this life. No service ran: it is as if
-- one had, of a new server that took nothing.
abbrev pub begun : Bounds → StoreState → LifeState → Course
begun limits store life =
    let server = new_server limits.clients limits.pages
    (opening_store (limits_of limits) (opening_of store)) in record {
      runs = false;
      limits = limits;
      floor = 0;
      opening = opening_of store;
      server = server;
      told = server;
      unsaid = [];
      life = life;
      on_disk = store.number;
      former = [];
      said = [];
    }

-- the commits that the tables have, of all services, the newest first
abbrev pub standing : Course → List AppliedCommit
standing c = commits_on_disk c.told c.on_disk ++ c.former

abbrev pub after_step : Course → Step → Course
after_step c (reopened limits) = c
after_step c (lived life) = record c { life = life }
after_step c (served limits life store) = record {
  runs = true;
  limits = limits;
  floor = life.floor;
  opening = opening_of store;
  server = opened limits store life.floor;
  told = opened limits store life.floor;
  unsaid = [];
  life = life;
  on_disk = store.number;
  former = standing c;
  said = c.said;
}
after_step c (takes pieces) = record c {
  server = after_inputs c.server (inputs_in pieces);
  unsaid = c.unsaid ++ said_to c.server (inputs_in pieces);
}
after_step c (raised incarnation) = record c { life = living.raised c.life incarnation }
after_step c says = record c { told = c.server; unsaid = []; said = c.said ++ c.unsaid }
after_step c (writes batch) = record c { on_disk = batch.number }
after_step c reports = record c {
  server = after_inputs c.server (ReachesDisk c.on_disk ∷ []);
  unsaid = c.unsaid ++ said_to c.server (ReachesDisk c.on_disk ∷ []);
}
after_step c stops = record c { runs = false }

abbrev pub after_steps : Course → List Step → Course
after_steps c [] = c
after_steps c (step ∷ steps) = after_steps (after_step c step) steps

module _ {S : Type 0} (g : Ghosts S) where
  -- When a step may happen, and what it makes of the tables. What is said goes out only once the
  -- tables tell a number above all that the server knows; and a batch is written once all that was
  -- taken is answered. A stop leaves the tables as they are: as a statement that it breaks off left
  -- them, or would have.
  abbrev pub MakesStep : Course → Step → Database → Database → Type 0
  MakesStep c (reopened limits) before after = (c.runs ≡ false) × LaysOut g limits before after
  MakesStep c (lived life) before after = (c.runs ≡ false) × Follows before life
      × MakesAll g (life_statements life) before after
  MakesStep c (served limits life store) before after = (c.runs ≡ false) × Follows before life
      × MakesAll g (life_statements life) before after × IsNumber life.floor
      × IsOf limits store × HasFullPages store × HoldsNewer after store
  MakesStep c (takes pieces) before after = (c.runs ≡ true)
      × AllByRecursion (IsPiece c.limits) pieces × (before ≡ after)
  MakesStep c (raised incarnation) before after = (c.runs ≡ true) × (c.life.below ≤ incarnation)
      × MakesAll g (life_row (living.raised c.life incarnation) ∷ []) before after
  MakesStep c says before after =
      (c.runs ≡ true) × KnowsBelow c.server c.life.below × (before ≡ after)
  MakesStep c (writes batch) before after = (c.runs ≡ true) × (c.told ≡ c.server)
      × (next_batch c.server ≡ Some (batch_of batch)) × Fits c.limits batch
      × MakesAll g (batch_statements batch) before after
  MakesStep c reports before after = (c.runs ≡ true) × (before ≡ after)
  MakesStep c stops before after = (c.runs ≡ true) × (before ≡ after)

  -- steps made one database of another, one after the other
  abbrev pub MakesSteps : Course → List Step → Database → Database → Type 0
  MakesSteps c [] before after = before ≡ after
  MakesSteps c (step ∷ steps) before after = (between : Database)
      × MakesStep c step before between × MakesSteps (after_step c step) steps between after

-- the protocol's world over all lives has the server as it was when bytes last went out, and what
-- belongs to it
pub record IsLivesOf (lives : Lives) (c : Course) : Type 0 where
  pub server : lives.world.server ≡ c.told
  pub floor : lives.floor ≡ c.floor
  pub opening : lives.opening ≡ c.opening
  pub former : lives.former ≡ c.former

-- It is a restart of the server that may happen in such a world: the floor is a new one, and the
-- number on disk is one between the last that was reported and the last that was made. And the
-- world goes on with this server, over the store that the disk has.
pub record Restarts (c : Course) (limits : Bounds) (life : LifeState) (next : Course)
    (lives : Lives) : Type 0 where
  pub allowed : LivesEventAllowed (limits_of limits) lives
      (ServerRestarts life.floor c.on_disk) None
  pub goes_on : IsLivesOf (restart_server (limits_of limits) lives life.floor c.on_disk) next

-- The store is the first one with the commits that stand written over it, and each Done that any
-- service put out is of one of them.
pub record Stands (first : StoreState) (c : Course) (answered : StoreState) : Type 0 where
  pub bytes : (page : ℕ)
      → bytes_at answered page ≡ bytes_after (bytes_at first) (standing c) page
  pub version : (page : ℕ)
      → version_at answered page ≡ version_after (version_at first) (standing c) page
  pub number : answered.number ≡ c.on_disk
  pub dones : (client incarnation txn number : ℕ)
      → IsIn (record { client = client; incarnation = incarnation; body = Done txn number }) c.said
      → IsCommit (standing c) client incarnation txn number

module _ {S : Type 0} (g : Ghosts S) where
  -- After the first open, and the steps since: where a service begins, it is a restart of the
  -- server in whatever world over all lives the services before it belong to.
  abbrev pub ServicesRestart : Type 0
  ServicesRestart = (limits own : Bounds) (steps : List Step) (opening store : StoreState)
      (life next : LifeState) (before first file after : Database)
      → FirstOpen g limits opening life before first → 1 ≤ life.below
      → MakesSteps g (begun limits opening life) steps first file
      → (let c = after_steps (begun limits opening life) steps in
      MakesStep g c (served own next store) file after
      → (lives : Lives) → IsLivesOf lives c
      → Restarts c own next (after_step c (served own next store)) lives)

  -- And at each moment, what a load of the tables answers is the first store with the commits that
  -- stand, among them each of which Done was said.
  abbrev pub DonesStand : Type 0
  DonesStand = (limits : Bounds) (steps : List Step) (opening answered : StoreState)
      (life : LifeState) (before first file : Database)
      → FirstOpen g limits opening life before first
      → MakesSteps g (begun limits opening life) steps first file
      → HasFullPages answered → HoldsNewer file answered
      → Stands opening (after_steps (begun limits opening life) steps) answered

-- The course has the service as it stands between two rounds: all that it took is answered.
pub record IsAt {S : Type 0} (c : Course) (service : Standing S) (present : LifeState)
    : Type 0 where
  pub runs : c.runs ≡ true
  pub server : c.server ≡ service.server
  pub told : c.told ≡ c.server
  pub answered : c.unsaid ≡ []
  pub life : c.life ≡ present

-- what rounds say from there on, in order
abbrev pub said_once : Server → Option BatchState → List Message
said_once server None = []
said_once server (Some batch) = said_to server (ReachesDisk batch.number ∷ [])

abbrev pub said_in : Server → List Round → List Message
said_in server [] = []
said_in server (round ∷ rounds) =
    let taken = after_inputs server (inputs_in round.pieces) in
    said_to server (inputs_in round.pieces) ++ (said_once taken round.batch
    ++ said_in (reached taken round.batch) rounds)

-- Rounds of a life, as `serve` does them, are such steps on a clean disk: from where the service
-- stood to where it stands then, with the tables that they left, and saying what they say.
abbrev pub RoundsAreSteps : {S : Type 0} → Ghosts S → Type 0
RoundsAreSteps {S} g = (c : Course) (rounds : List Round) (old new : Standing S)
    (life last : LifeState) → IsAt c old life → AreRounds g c.limits rounds old new life last
    → HasCleanDisk (state g new.tables)
    → (steps : List Step)
    × MakesSteps g c steps (state g old.tables).now (state g new.tables).now
    × IsAt (after_steps c steps) new last
    × ((after_steps c steps).said ≡ c.said ++ said_in old.server rounds)

module _ {S : Type 0} (g : Ghosts S) where
  -- A life begins over the tables that a connection sees, and the store in them is read: as the
  -- clauses of `begin_life` and `load` say it on a clean disk.
  pub record BeginsLife (limits : Bounds) (life : LifeState) (store : StoreState)
      (found tables : Held S) : Type 0 where
    pub number : IsNumber life.floor
    pub begun : Held S
    pub follows : Follows (state g found).now life
    pub made : MakesAll g (life_statements life) (state g found).now (state g begun).committed
    pub settled : IsSettled (state g begun)
    pub same : (state g tables).now ≡ (state g begun).now
    pub of : IsOf limits store
    pub full : HasFullPages store
    pub holds : HoldsNewer (state g tables).now store

  -- the service of that life, before any frame
  abbrev pub service_of : Bounds → LifeState → StoreState → (tables : Held S) → Standing S
  service_of limits life store tables = record {
    server = opened limits store life.floor;
    waiting = [];
    passed = 0;
    tables = tables;
  }

  -- In one: a file went through any steps. A life begins, and its service does rounds as `serve`
  -- does them. Further steps follow, as those of a round that isn't finished, until the service has
  -- stopped; and another life begins. That is a restart of the server that the service told.
  abbrev pub LivesFollow : Type 0
  LivesFollow = (limits own later : Bounds) (steps more : List Step) (rounds : List Round)
      (opening store loaded : StoreState) (life present last next : LifeState)
      (before first : Database) (found tables found_then tables_then : Held S)
      (service : Standing S) → FirstOpen g limits opening life before first → 1 ≤ life.below
      → MakesSteps g (begun limits opening life) steps first (state g found).now
      → (let c = after_steps (begun limits opening life) steps in c.runs ≡ false
      → BeginsLife own present store found tables
      → AreRounds g own rounds (service_of own present store tables) service present last
      → HasCleanDisk (state g service.tables)
      → (done : List Step) × (let d = after_steps c (served own present store ∷ done) in
      IsAt d service last
      × (MakesSteps g d more (state g service.tables).now (state g found_then).now
      → (after_steps d more).runs ≡ false → BeginsLife later next loaded found_then tables_then
      → (lives : Lives) → IsLivesOf lives (after_steps d more)
      → Restarts (after_steps d more) later next
      (after_step (after_steps d more) (served later next loaded)) lives)))
