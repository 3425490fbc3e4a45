-- What holds of a running program, whatever its threads do.
use Rattle.std.specs.Prelude.{◌≡◌, ◌<◌, ℕ, false, List, Some}
use Rattle.cb_commit.specs.Stores.{StoreState}
use Rattle.cb_frame.specs.declared.frame.Frame.{Frame}
use Rattle.cb_laws.specs.RowVersions.{HasRow, IsAsStored}
use Rattle.cb_outbox.specs.Messages.{body_of}
use Rattle.cb_page.specs.Bounds.{Bounds}
use Rattle.cb_protocol.specs.AnyMessages.{committed_names}
use Rattle.cb_protocol.specs.Basics.{Bytes, IsIn}
use Rattle.cb_protocol.specs.Headline.{Promise}
use Rattle.cb_protocol.specs.Messages.{Granted}
use Rattle.cb_protocol.specs.Serial.{IsSerial, Operation, committed_operations, store_left}
use Rattle.cb_protocol.specs.StoreLimits.{limits_of}
use Rattle.cb_protocol.specs.WaitsFor.{on_cycle}
use Rattle.cb_protocol.specs.World.{ReachedWorld, World, new_world}
use Rattle.cb_server.specs.ServerValue.{ServerValue}
use Rattle.cb_server_state.specs.States.{opening_of}
use Rattle.cb_station.specs.Stations.{mailbox_of, server_of}
use Rattle.cb_running_laws.specs.Programs.{HasBegun, HasOpened, IsSound, Program, limits_in}
use Rattle.cb_running_laws.specs.Programs.HasBegun.{anew, in_life}
use Rattle.cb_running_laws.specs.Steps.{Moment, Runs, program_after}
use Rattle.cb_running_laws.specs.Worlds.{GoesAlong, IsReachedWorldOf, IsWorldOf}
use Rattle.cb_worker.specs.Waiting.{MayWrite}
use Rattle.cb_worker.specs.Workers.{Hit, WorkerState, seen_by}

-- The claim holds after every run from a program that has just opened. The part of a run up to any
-- moment is a run, so it holds at every moment.
abbrev pub AfterEveryRun : (Bounds → StoreState → Program → Type 0) → Type 0
AfterEveryRun Claim = (limits : Bounds) (store : StoreState) (program : Program)
    (moments : List Moment) → HasOpened limits store program → IsSound program
    → Runs program moments → Claim limits store (program_after program moments)

-- The world that a run begins with: the opening one for a new server. For that of a later life it
-- is one that is reached: there each client has greeted the server at the floor.
abbrev pub IsFirst : (limits : Bounds) (store : StoreState) (server : ServerValue)
    → HasBegun limits store server → World → Type 0
IsFirst limits store server (anew new) world =
    world ≡ new_world (limits_of limits) (opening_of store)
IsFirst limits store server (in_life floor least most life) world =
    ReachedWorld (limits_of limits) on_cycle (opening_of store) world

-- A run of the protocol's world goes along with each run of a program that has just opened: it
-- begins with that program's first world, which is the program, and has on its way a world for each
-- step, which is the program after it.
abbrev pub RunsGoAlong : Type 0
RunsGoAlong = (limits : Bounds) (store : StoreState) (program : Program) (moments : List Moment)
    → (opens : HasOpened limits store program) → IsSound program → Runs program moments
    → (first : World) × IsFirst limits store program.station.dispatcher.server opens.server first
    × IsWorldOf first program × GoesAlong (limits_of limits) first moments

-- So the program is a world of the protocol, which is reached.
abbrev pub RunsAreWorlds : Type 0
RunsAreWorlds = AfterEveryRun (λ limits store program.
    (world : World) × IsReachedWorldOf limits store world program)

-- Each worker has the station's limits, since only a client that came with them joined.
abbrev pub WorkersHaveTheLimits : Type 0
WorkersHaveTheLimits = AfterEveryRun (λ limits store program. (client : ℕ) (worker : WorkerState)
    → program.worker client ≡ Some worker → worker.client.copies.limits ≡ limits_in program)

-- And the whole promise holds of that world.
abbrev pub RunsKeepThePromise : Type 0
RunsKeepThePromise = AfterEveryRun (λ limits store program.
    (world : World) × IsReachedWorldOf limits store world program
    × Promise (opening_of store) world)

-- what the committed transactions read and wrote, in commit order
abbrev pub committed_history : Program → List (List Operation)
committed_history program =
    committed_operations (committed_names (server_of program.station).commits) program.performed

-- What committed transactions read and wrote is a serial history on the store that was opened, in
-- commit order, and it leaves the server's store.
abbrev pub RunsAreSerial : Type 0
RunsAreSerial = AfterEveryRun (λ limits store program.
    IsSerial (opening_of store).bytes (committed_history program)
    × ((page : ℕ) → store_left (opening_of store).bytes (committed_history program) page
    ≡ (server_of program.station).store.bytes page))

-- A worker's `hit` lends these bytes of the page, if it is called now.
pub record Lends (program : Program) (client page : ℕ) (bytes : Bytes) : Type 0 where
  pub worker : WorkerState
  pub has : program.worker client ≡ Some worker
  pub hit : Hit worker page bytes

-- A worker's open transaction may write the page.
pub record Permits (program : Program) (client page : ℕ) : Type 0 where
  pub worker : WorkerState
  pub has : program.worker client ≡ Some worker
  pub may : MayWrite worker page

-- The bytes that are lent without the lock are the store's, at the version that the hand shows, but
-- where the worker's own transaction wrote the page.
abbrev pub HitsAreTheStores : Type 0
HitsAreTheStores = AfterEveryRun (λ limits store program. (client page : ℕ) (bytes : Bytes)
    → (lends : Lends program client page bytes)
    → (seen_by lends.worker).cache.wrote page ≡ false
    → (bytes ≡ (server_of program.station).store.bytes page)
    × (lends.hit.held.version ≡ (server_of program.station).store.version page))

-- Two workers that are lent bytes of one page are lent the same.
abbrev pub HitsAgree : Type 0
HitsAgree = AfterEveryRun (λ limits store program. (client other page : ℕ)
    (bytes other_bytes : Bytes) → Lends program client page bytes
    → Lends program other page other_bytes → bytes ≡ other_bytes)

-- While a worker's transaction may write a page, no other worker is lent bytes of it.
abbrev pub WritersAreAlone : Type 0
WritersAreAlone = AfterEveryRun (λ limits store program. (client other page : ℕ) (bytes : Bytes)
    → Permits program client page → Lends program other page bytes → other ≡ client)

-- A copy lies in a worker's mailbox that its client would take: it is of its incarnation, by a
-- grant greater than each that it saw of the page.
pub record IsInTheMail (program : Program) (client page grant version : ℕ) (bytes : Bytes)
    : Type 0 where
  pub worker : WorkerState
  pub has : program.worker client ≡ Some worker
  pub frame : Frame
  pub lies : IsIn frame (mailbox_of program.station client)
  pub incarnation : frame.incarnation ≡ worker.client.incarnation
  pub body : body_of frame.body ≡ Granted page grant version bytes
  pub unseen : (seen_by worker).cache.seen page < grant

-- Such a copy is of a row that stands, and as the store has the page.
abbrev pub MailIsTheStores : Type 0
MailIsTheStores = AfterEveryRun (λ limits store program. (client page grant version : ℕ)
    (bytes : Bytes) → IsInTheMail program client page grant version bytes
    → HasRow (server_of program.station) client page grant
    × IsAsStored (server_of program.station) page version bytes)
