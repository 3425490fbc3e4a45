-- Why the calls that take the office are refused. What lies under its lock no clause of a call that
-- takes it can name: so each cause is one at some station, of which all holds that always does.
use Rattle.std.specs.Prelude.{◌≡◌, ◌≤◌, ◌⊎◌, ℕ, true, false, None, Err, ⊤}
use Rattle.std.specs.Option.{is_some}
use Rattle.cb_client.specs.ByTable.{IsRefusal, IsRefused}
use Rattle.cb_client.specs.declared.client_fault.ClientFault.TheVariants as client
use Rattle.cb_cache.specs.CacheState.{content_at}
use Rattle.cb_page.specs.Bounds.{Bounds}
use Rattle.cb_page.specs.Flags.{has}
use Rattle.cb_station.specs.Stations.{IsStation, StationState}
use Rattle.cb_station.specs.declared.office_fault.OfficeFault.TheVariants as office
use Rattle.cb_protocol.specs.ClientCalls.{Call, CallDrop, CallRead, CallWant}
use Rattle.cb_worker.specs.Committing.{CommitsAt}
use Rattle.cb_worker.specs.Dropping.{SaysDrop}
use Rattle.cb_worker.specs.Entering.{JoinsSome, LeavesSome, RestartsSome, TriesToLeave}
use Rattle.cb_worker.specs.Moving.{HasJoined, IsStill}
use Rattle.cb_worker.specs.Serving.{HandsOne, Turning, TurnsThen}
use Rattle.cb_worker.specs.Turns.{Turns}
use Rattle.cb_worker.specs.Waiting.{LacksTransaction}
use Rattle.cb_worker.specs.Workers.{HasTransaction, WasAborted, WorkerState, shows_copy}
use Rattle.cb_worker.specs.declared.worker_fault.WorkerFault.{WorkerFault}
use Rattle.cb_worker.specs.declared.worker_fault.WorkerFault.TheVariants as worker

-- the faults of a turn: the station's Foreign, Exhausted and Memory, and the client's Memory
abbrev pub IsTurnFault : WorkerFault → Type 0
IsTurnFault (worker.Office office.Foreign) = ⊤
IsTurnFault (worker.Office office.Exhausted) = ⊤
IsTurnFault (worker.Office office.Memory) = ⊤
IsTurnFault (worker.Client client.Memory) = ⊤
IsTurnFault _ = ⊥

-- Turns of that kind were made, from a station of which all holds that always does, and one was
-- refused so, which left the worker thus.
pub record StopsAt (Does : Turning) (old new : WorkerState) (fault : WorkerFault) : Type 0 where
  pub kind : IsTurnFault fault
  pub before : StationState
  pub sound : IsStation before
  pub after : StationState
  pub turns : TurnsThen Does old before (Err fault) new after

-- Serving was refused: a turn was. Of a halt nothing is said: that some station is halted is so
-- whatever happened.
abbrev pub StopsServing : (new : WorkerState) → WorkerFault → Type 0
StopsServing new worker.Halted = ⊤
StopsServing new fault = (old : WorkerState) × StopsAt Turns old new fault

-- a transaction is lacking, and nothing changes; or serving was refused
abbrev pub RefusesAny : (old new : WorkerState) → WorkerFault → Type 0
RefusesAny old new fault = (LacksTransaction old fault × (new ≡ old)) ⊎ StopsServing new fault

-- The client, as it is left, refuses the call so, never for want of memory. Its transaction wasn't
-- aborted: a call that finds it so says that.
abbrev pub RefusesCall : (new : WorkerState) → Call → WorkerFault → Type 0
RefusesCall new call (worker.Client fault) = IsRefused new.client call fault × ¬ WasAborted new
RefusesCall new call _ = ⊥

-- the client has the page's bytes, and the hand doesn't show its copy
abbrev pub LacksGrant : (new : WorkerState) → (page : ℕ) → WorkerFault → Type 0
LacksGrant new page fault = (fault ≡ worker.Office office.NotHeld)
    × (shows_copy new page ≡ false) × (is_some (content_at new.client.copies page) ≡ true)

-- why the client's ask for a page isn't made
abbrev pub RefusesAsk : (new : WorkerState) → (page : ℕ) → WorkerFault → Type 0
RefusesAsk new page fault = RefusesCall new (CallRead page) fault ⊎ LacksGrant new page fault

-- why a page isn't fetched
abbrev pub RefusesFetch : (old new : WorkerState) → (page : ℕ) → WorkerFault → Type 0
RefusesFetch old new page fault = RefusesAny old new fault ⊎ RefusesAsk new page fault

-- so by some worker that is still the same: the one that it is left, which lends nothing then
abbrev pub StopsFetch : (old : WorkerState) → (page : ℕ) → WorkerFault → Type 0
StopsFetch old page fault =
    (new : WorkerState) × IsStill old new × RefusesFetch old new page fault

-- why a transaction may not write a page
abbrev pub RefusesWant : (old new : WorkerState) → (page : ℕ) → WorkerFault → Type 0
RefusesWant old new page fault = RefusesAny old new fault ⊎ RefusesCall new (CallWant page) fault

-- why the client drops none: it refuses to; or memory was refused where it would
abbrev pub RefusesToDrop : (new : WorkerState) → WorkerFault → Type 0
RefusesToDrop new (worker.Client client.Memory) = IsRefusal new.client CallDrop None
RefusesToDrop new fault = RefusesCall new CallDrop fault

-- its client dropped its transaction, and what it said of that wasn't all handed in: the Drop is
-- the first to be, or was handed in
abbrev pub StopsDrop : (old new : WorkerState) → WorkerFault → Type 0
StopsDrop old new fault = (served : WorkerState) × IsStill old served
    × (dropped : WorkerState) × SaysDrop served dropped × StopsAt HandsOne dropped new fault

-- why one isn't dropped, or isn't said to be
abbrev pub RefusesDrop : (old new : WorkerState) → WorkerFault → Type 0
RefusesDrop old new fault =
    RefusesAny old new fault ⊎ RefusesToDrop new fault ⊎ StopsDrop old new fault

-- A commit of a transaction that wasn't aborted was refused so, and left the worker thus. The
-- station was one of which all holds that always does.
pub record RefusesCommit (new : WorkerState) (fault : WorkerFault) : Type 0 where
  pub old : WorkerState
  pub going : ¬ WasAborted old
  pub before : StationState
  pub sound : IsStation before
  pub after : StationState
  pub commits : CommitsAt old before (Err fault) new after

-- Memory for the frame of the commit was refused: of a transaction that is open or committing, and
-- wrote a page.
pub record LacksFrame (old : WorkerState) (fault : WorkerFault) : Type 0 where
  pub memory : fault ≡ worker.Client client.Memory
  pub had : HasTransaction old
  pub wrote : ((page : ℕ) → has old.client.copies.wrote page ≡ false) → ⊥

-- why one doesn't commit; where the frame isn't made nothing changes
abbrev pub RefusesFinish : (old new : WorkerState) → WorkerFault → Type 0
RefusesFinish old new fault = RefusesAny old new fault ⊎ RefusesCommit new fault
    ⊎ (LacksFrame old fault × (new ≡ old))

-- why a worker's client doesn't leave: the station refused it so
abbrev pub RefusesLeave : WorkerState → WorkerFault → Type 0
RefusesLeave old (worker.Office fault) = LeavesSome old.hand (Err (fault, old.hand))
RefusesLeave old _ = ⊥

-- why it begins no such incarnation: the limits haven't got the client; the station refused it; or
-- there was no memory for its client
abbrev pub RefusesStart : WorkerState → (incarnation : ℕ) → WorkerFault → Type 0
RefusesStart old incarnation (worker.Office fault) =
    ((fault ≡ office.Foreign) × (old.client.copies.limits.clients ≤ old.hand.client))
    ⊎ RestartsSome old.hand incarnation (Err (fault, old.hand))
RefusesStart old incarnation (worker.Client fault) = fault ≡ client.Memory
RefusesStart old incarnation _ = ⊥

-- it doesn't begin, and nothing changes; or it began, and serving was refused
abbrev pub RefusesRestart : (old new : WorkerState) → (incarnation : ℕ) → WorkerFault → Type 0
RefusesRestart old new incarnation fault =
    (RefusesStart old incarnation fault × (new ≡ old)) ⊎ StopsServing new fault

-- why a client doesn't enter: these limits haven't got it; or the station refused it, or has others
abbrev pub RefusesEntry : Bounds → (number : ℕ) → WorkerFault → Type 0
RefusesEntry limits number (worker.Office fault) =
    ((fault ≡ office.Foreign) × (limits.clients ≤ number)) ⊎ JoinsSome limits number (Err fault)
RefusesEntry limits number _ = ⊥

-- A client that had joined left again, where that wasn't refused, with the hand of what its worker
-- became: there was no memory for it; or serving was refused before its Welcome came.
pub record GivesUpJoining (limits : Bounds) (number : ℕ) (fault : WorkerFault) : Type 0 where
  pub last : WorkerState
  pub joined : HasJoined limits number last
  pub leaves : TriesToLeave last.hand
  pub why : (fault ≡ worker.Client client.Memory) ⊎ StopsServing last fault

-- why a client doesn't join
abbrev pub RefusesJoin : Bounds → (number : ℕ) → WorkerFault → Type 0
RefusesJoin limits number fault =
    RefusesEntry limits number fault ⊎ GivesUpJoining limits number fault
