-- Which public calls are steps, by what their contracts say. Each has the clauses of one call as
-- premises, and says which step it is, of whatever program it was called in.
use Rattle.std.specs.Prelude.{◌≡◌, ◌≤◌, ◌∷◌, ℕ, true, List, [], Bool, Option, Some, None, Result}
use Rattle.std.specs.Prelude.{Ok}
use Rattle.std.specs.Prelude.{⊤}
use Rattle.cb_client.specs.CallAnswers.{Begins, Writes}
use Rattle.cb_client_core.specs.ClientState.{IsClient}
use Rattle.cb_commit.specs.Stores as stores
use Rattle.cb_commit.specs.Stores.{StoreState}
use Rattle.cb_hands.specs.Hands.{HandState}
use Rattle.cb_page.specs.Bounds.{Bounds}
use Rattle.cb_protocol.specs.Basics.{Bytes, max_number, update}
use Rattle.cb_protocol.specs.ClientCalls.{CallBegin, CallRead, CallWrite}
use Rattle.cb_protocol.specs.Flush.{can_flush}
use Rattle.cb_protocol.specs.Serial.{Put, Saw}
use Rattle.cb_server.specs.ServerValue.{IsNew, IsResumed}
use Rattle.cb_station.specs.Entering.{Joined, Left, Restarted}
use Rattle.cb_station.specs.Opening.{IsOpened}
use Rattle.cb_station.specs.Reporting.{Flushed}
use Rattle.cb_station.specs.Stations.{IsUnchanged, StationState, forgot, server_of}
use Rattle.cb_station.specs.Telling as telling
use Rattle.cb_station.specs.Telling.{untold_in, with_untold}
use Rattle.cb_running_laws.specs.Laws.{Lends}
use Rattle.cb_running_laws.specs.Moves.{AreSteps, DoesAll, GoesOn, moments_of}
use Rattle.cb_running_laws.specs.Programs.{HasOpened, IsSound, Program, limits_in}
use Rattle.cb_running_laws.specs.Steps.{CallClient, Commit, Does, Flush, Forget, Join, Leave}
use Rattle.cb_running_laws.specs.Steps.{Refuse, Moment, Restart, Runs, Tell, Turn, operation_of}
use Rattle.cb_running_laws.specs.Steps.{program_after}
use Rattle.cb_worker.specs.Committing.{CommitsAt}
use Rattle.cb_worker.specs.Entering.{LeavesSome}
use Rattle.cb_worker.specs.Moving.{HasJoined, HasRestarted, IsStill, new_worker}
use Rattle.cb_worker.specs.Turns.{Turns}
use Rattle.cb_worker.specs.Waiting.{Fetches}
use Rattle.cb_worker.specs.Workers.{Hit, WorkerState, after_hit, with_client}
use Rattle.cb_worker.specs.declared.answers.Fetched.{Fetched}
use Rattle.cb_worker.specs.declared.answers.Fetched.TheVariants as fetched
use Rattle.cb_worker.specs.declared.worker_fault.WorkerFault.{WorkerFault}

-- a station of which nobody has a worker
abbrev pub opened : StationState → Program
opened station = record { station = station; worker = λ client. None; performed = [] }

-- the program with this station, and with this worker of that client, or none
abbrev pub with_worker : Program → StationState → (client : ℕ) → Option WorkerState → Program
with_worker program station client worker = record program {
  station = station;
  worker = update program.worker client worker;
}

-- `Station::new`
abbrev pub NewStationsHaveOpened : Type 0
NewStationsHaveOpened = (limits : Bounds) (store : StoreState) (station : StationState)
    → stores.IsSound store → IsNew limits store station.dispatcher.server
    → IsOpened limits station → HasOpened limits store (opened station)

-- `Station::resume`
abbrev pub ResumedStationsHaveOpened : Type 0
ResumedStationsHaveOpened = (limits : Bounds) (store : StoreState) (floor : ℕ)
    (station : StationState) → stores.IsSound store → 1 ≤ floor → floor ≤ max_number
    → IsResumed limits store floor station.dispatcher.server
    → IsOpened limits station → HasOpened limits store (opened station)

-- `Station::join`, as `Worker::join` makes it, where it passes the station's limits
abbrev pub JoinsAreSteps : Type 0
JoinsAreSteps = (old : Program) (client : ℕ) (hand : HandState) (after : StationState)
    → old.worker client ≡ None → Joined old.station client (Ok hand) after
    → Does old (Join client)
    (with_worker old after client (Some (new_worker hand (limits_in old))))

-- `Station::restart`, as `Worker::restart` makes it
abbrev pub RestartsAreSteps : Type 0
RestartsAreSteps = (old : Program) (client incarnation : ℕ) (worker : WorkerState)
    (hand : HandState) (after : StationState) → old.worker client ≡ Some worker
    → Restarted old.station worker.hand incarnation (Ok hand) after
    → Does old (Restart client incarnation)
    (with_worker old after client (Some (new_worker hand (limits_in old))))

-- `Station::leave`, as `Worker::leave` and `take_leave` make it
abbrev pub LeavesAreSteps : Type 0
LeavesAreSteps = (old : Program) (client : ℕ) (worker : WorkerState) (after : StationState)
    → old.worker client ≡ Some worker → Left old.station worker.hand (Ok tt) after
    → Does old (Leave client) (with_worker old after client None)

-- `Worker::turn_at`
abbrev pub TurnsAreSteps : Type 0
TurnsAreSteps = (old : Program) (client : ℕ) (worker next : WorkerState) (after : StationState)
    (result : Result Bool WorkerFault) → old.worker client ≡ Some worker
    → Turns worker old.station result next after
    → Does old (Turn client) (with_worker old after client (Some next))

-- `Worker::commit_at`
abbrev pub CommitsAreSteps : Type 0
CommitsAreSteps = (old : Program) (client : ℕ) (worker next : WorkerState) (after : StationState)
    (result : Result ℕ WorkerFault) → old.worker client ≡ Some worker
    → CommitsAt worker old.station result next after
    → Does old (Commit client) (with_worker old after client (Some next))

-- `Worker::begin`
abbrev pub BeginsAreSteps : Type 0
BeginsAreSteps = (old : Program) (client txn : ℕ) (worker next : WorkerState)
    → old.worker client ≡ Some worker → Begins worker.client (Ok txn) next.client
    → next ≡ with_client worker next.client
    → Does old (CallClient client CallBegin) (with_worker old old.station client (Some next))

-- `Worker::write`
abbrev pub WritesAreSteps : Type 0
WritesAreSteps = (old : Program) (client page : ℕ) (bytes : Bytes) (worker next : WorkerState)
    → old.worker client ≡ Some worker → Writes worker.client page bytes (Ok tt) next.client
    → next ≡ with_client worker next.client
    → Does old (CallClient client (CallWrite page bytes))
    (record (with_worker old old.station client (Some next)) {
      performed = operation_of worker.client (Put page bytes) old.performed;
    })

-- `Worker::hit`
abbrev pub HitsAreSteps : Type 0
HitsAreSteps = (old : Program) (client page : ℕ) (bytes : Bytes) (worker : WorkerState)
    → old.worker client ≡ Some worker → IsClient worker.client → Hit worker page bytes
    → Does old (CallClient client (CallRead page))
    (record (with_worker old old.station client (Some (after_hit worker page))) {
      performed = operation_of worker.client (Saw page bytes) old.performed;
    })

-- `Station::flushed`
abbrev pub FlushesAreSteps : Type 0
FlushesAreSteps = (old : Program) (number : ℕ) (after : StationState)
    → can_flush (server_of old.station) number ≡ true
    → Flushed old.station number (Ok tt) after
    → Does old (Flush number) (record old { station = after })

-- `Station::forget`
abbrev pub ForgetsAreSteps : Type 0
ForgetsAreSteps = (old : Program) (number : ℕ)
    → Does old (Forget number) (record old { station = forgot old.station number })

-- `Office::tell`; and `close`, `halt`, `admit`, `end_try` and others, which change no more
abbrev pub TellsAreSteps : Type 0
TellsAreSteps = (old : Program) (after : StationState)
    → (telling.Tells old.station after → Does old Tell (record old { station = after }))
    × (after ≡ with_untold (record old.station { flags = after.flags }) (untold_in after)
    → Does old Tell (record old { station = after }))

-- any call of a station that is refused
abbrev pub RefusalsAreSteps : Type 0
RefusalsAreSteps = (old : Program) (after : StationState) → IsUnchanged old.station after
    → Does old Refuse (record old { station = after })

-- Every call that leaves a worker the same one: `serve`, `serve_and_wait`, `enter`, `enter_again`,
-- `fetch`, `want`, `finish` and `drop_txn`, also one that is refused. Each move by which its worker
-- came is a step of each program whose station the move names.
abbrev pub CallsGoBySteps : Type 0
CallsGoBySteps = (client : ℕ) (worker next : WorkerState) → (still : IsStill worker next)
    → AreSteps client worker still.moves

-- So a whole call is a run, whatever others do between its moves, where each move finds the station
-- that it names. At its end the worker is the one that the call left.
abbrev pub CallsAreRuns : Type 0
CallsAreRuns = (program : Program) (client : ℕ) (worker last : WorkerState)
    (others : List (List Moment)) → IsSound program → program.worker client ≡ Some worker
    → (still : IsStill worker last)
    → GoesOn program client worker still.moves last still.moved others
    → Runs program (moments_of program client worker still.moves last still.moved others)
    × ((program_after program
    (moments_of program client worker still.moves last still.moved others)).worker client
    ≡ Some last)

-- the bytes that were fetched are those that `hit` lends
abbrev pub LendsFetched : Program → (client page : ℕ) → Fetched → Type 0
LendsFetched program client page (fetched.Bytes bytes) = Lends program client page bytes.now
LendsFetched program client page fetched.Aborted = ⊤

-- `Worker::fetch` lends what `hit` would lend of the worker that it leaves. In a run these are the
-- store's bytes, then, but where the worker's own transaction wrote the page.
abbrev pub FetchesLend : Type 0
FetchesLend = (program : Program) (client page : ℕ) (worker next : WorkerState)
    (answer : Fetched) → Fetches worker next page answer → program.worker client ≡ Some next
    → LendsFetched program client page answer

-- `Worker::join`, also where it gives up behind the station's own join: the client joins at the
-- station that is named, and who is to be told is. From there on the worker comes by moves.
abbrev pub WorkersJoinBySteps : Type 0
WorkersJoinBySteps = (old : Program) (client : ℕ) (limits : Bounds) (worker : WorkerState)
    → (joined : HasJoined limits client worker) → old.station ≡ joined.joins.0
    → old.worker client ≡ None
    → DoesAll old (Join client ∷ Tell ∷ [])
    (with_worker old joined.joins.1 client (Some (new_worker joined.hand limits)))
    × AreSteps client (new_worker joined.hand limits) joined.still.moves

-- `Worker::restart`, also where it gives up then, of a worker that has the station's limits.
abbrev pub WorkersRestartBySteps : Type 0
WorkersRestartBySteps = (old : Program) (client incarnation : ℕ) (worker next : WorkerState)
    → (restarted : HasRestarted worker incarnation next) → old.station ≡ restarted.restarts.0
    → old.worker client ≡ Some worker → worker.client.copies.limits ≡ limits_in old
    → DoesAll old (Restart client incarnation ∷ Tell ∷ [])
    (with_worker old restarted.restarts.1 client
    (Some (new_worker restarted.hand worker.client.copies.limits)))
    × AreSteps client (new_worker restarted.hand worker.client.copies.limits)
    restarted.still.moves

-- `Worker::leave` and `take_leave`
abbrev pub WorkersLeaveBySteps : Type 0
WorkersLeaveBySteps = (old : Program) (client : ℕ) (worker : WorkerState)
    → (left : LeavesSome worker.hand (Ok tt)) → old.station ≡ left.0
    → old.worker client ≡ Some worker
    → DoesAll old (Leave client ∷ Tell ∷ []) (with_worker old left.1 client None)
