-- What holds of a service and its clients, whatever they do and whatever comes through.
use Rattle.std.specs.Prelude.{◌≡◌, ℕ, List, [], ◌∷◌, Some, true}
use Rattle.sqlite.specs.Store.{Ghosts}
use Rattle.cb_cache.specs.CacheState.{content_at}
use Rattle.cb_client_core.specs.ClientState.{ClientState, client_of}
use Rattle.cb_commit.specs.Stores.{StoreState}
use Rattle.cb_page.specs.Bounds.{Bounds}
use Rattle.cb_protocol.specs.AnyMessages.{committed_names}
use Rattle.cb_protocol.specs.Basics.{Bytes}
use Rattle.cb_protocol.specs.Cache.{Open}
use Rattle.cb_protocol.specs.Headline.{Promise}
use Rattle.cb_protocol.specs.Serial.{IsSerial, Operation, committed_operations, store_left}
use Rattle.cb_protocol.specs.World.{World}
use Rattle.cb_server_state.specs.States.{opening_of}
use Rattle.cb_serve.specs.Rounds.{Round}
use Rattle.cb_serve.specs.Serving.{AreRounds}
use Rattle.cb_running_laws.specs.Processes.{HasBegun, Processes}
use Rattle.cb_running_laws.specs.ProcessSteps.{Moment, Runs, Serve, Step, processes_after}
use Rattle.cb_running_laws.specs.ProcessWorlds.{GoesAlong, IsReachedWorldOf}

-- what the committed transactions read and wrote, in commit order
abbrev pub committed_history : {S : Type 0} → Processes S → List (List Operation)
committed_history processes =
    committed_operations (committed_names processes.service.server.commits) processes.performed

module _ {S : Type 0} (g : Ghosts S) where
  -- The claim holds after every run from a service that has just begun. The part of a run up to any
  -- moment is a run, so it holds at every moment.
  abbrev pub AfterEveryRun : (Bounds → StoreState → Processes S → Type 0) → Type 0
  AfterEveryRun Claim = (limits : Bounds) (store : StoreState) (processes : Processes S)
      (moments : List (Moment S)) → HasBegun limits store processes
      → Runs g limits processes moments → Claim limits store (processes_after processes moments)

  -- A run of the protocol's world goes along with each run from a service that has just begun: it
  -- begins with a world that is reached, where each client has greeted the server at the floor.
  abbrev pub ProcessesGoAlong : Type 0
  ProcessesGoAlong = (limits : Bounds) (store : StoreState) (processes : Processes S)
      (moments : List (Moment S)) → HasBegun limits store processes
      → Runs g limits processes moments
      → (first : World) × IsReachedWorldOf limits store first processes
      × GoesAlong limits first moments

  -- So the processes are a world of the protocol, which is reached, and the whole promise holds of
  -- it.
  abbrev pub ProcessesKeepThePromise : Type 0
  ProcessesKeepThePromise = AfterEveryRun (λ limits store processes.
      (world : World) × IsReachedWorldOf limits store world processes
      × Promise (opening_of store) world)

  -- While the service runs, what committed transactions read and wrote is a serial history on the
  -- store that was handed to it, in commit order, and it leaves the server's store.
  abbrev pub ProcessesAreSerial : Type 0
  ProcessesAreSerial = AfterEveryRun (λ limits store processes. processes.runs ≡ true
      → IsSerial (opening_of store).bytes (committed_history processes)
      × ((page : ℕ) → store_left (opening_of store).bytes (committed_history processes) page
      ≡ processes.service.server.store.bytes page))

-- the client's process has these bytes of the page: a read of it is answered with them
pub record HasCopy {S : Type 0} (processes : Processes S) (client page : ℕ) (bytes : Bytes)
    : Type 0 where
  pub state : ClientState
  pub has : processes.client client ≡ Some state
  pub content : content_at state.copies page ≡ Some bytes

-- its open transaction may write the page
pub record MayWritePage {S : Type 0} (processes : Processes S) (client page : ℕ) : Type 0 where
  pub state : ClientState
  pub has : processes.client client ≡ Some state
  pub is_open : (client_of state []).cache.status ≡ Open
  pub may : (client_of state []).cache.may_write page ≡ true

module _ {S : Type 0} (g : Ghosts S) where
  -- Two processes that have bytes of one page have the same.
  abbrev pub CopiesAgree : Type 0
  CopiesAgree = AfterEveryRun g (λ limits store processes. (client other page : ℕ)
      (bytes other_bytes : Bytes) → HasCopy processes client page bytes
      → HasCopy processes other page other_bytes → bytes ≡ other_bytes)

  -- While a client's open transaction may write a page, no other process has bytes of it.
  abbrev pub WritersAreAlone : Type 0
  WritersAreAlone = AfterEveryRun g (λ limits store processes. (client other page : ℕ)
      (bytes : Bytes) → MayWritePage processes client page
      → HasCopy processes other page bytes → other ≡ client)

-- the rounds of a run, in order
abbrev pub with_round : Step → List Round → List Round
with_round (Serve round) rounds = round ∷ rounds
with_round _ rounds = rounds

abbrev pub rounds_in : {S : Type 0} → List (Moment S) → List Round
rounds_in [] = []
rounds_in (moment ∷ moments) = with_round moment.step (rounds_in moments)

-- While the service of a run runs, its rounds are rounds as `serve` does them, one after another.
abbrev pub RunsAreServed : {S : Type 0} → Ghosts S → Type 0
RunsAreServed {S} g = (limits : Bounds) (processes : Processes S) (moments : List (Moment S))
    → Runs g limits processes moments
    → (let after = processes_after processes moments in after.runs ≡ true
    → AreRounds g limits (rounds_in moments) processes.service after.service
    processes.life after.life)
