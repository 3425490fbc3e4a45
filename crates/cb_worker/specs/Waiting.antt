-- What the calls that take the office are answered, where they return.
use Rattle.std.specs.Prelude.{◌≡◌, ◌&&◌, ℕ, true, false, List, [], None}
use Rattle.cb_client.specs.declared.client_fault.ClientFault.TheVariants as client
use Rattle.cb_client_core.specs.ClientState.{client_of}
use Rattle.cb_protocol.specs.Cache.{is_open}
use Rattle.cb_protocol.specs.Client as protocol
use Rattle.cb_protocol.specs.Serial.{Operation}
use Rattle.cb_worker.specs.Keeping.{KeepsWanted, Uses}
use Rattle.cb_worker.specs.Moving.{IsStill}
use Rattle.cb_worker.specs.Workers.{Ended, Ends, HasTransaction, Hit, IsIdle, WorkerState}
use Rattle.cb_worker.specs.Workers.{after_hit, may_hit, seen_by}
use Rattle.cb_worker.specs.declared.answers.Fetched.{Fetched}
use Rattle.cb_worker.specs.declared.answers.Fetched.TheVariants as fetched
use Rattle.cb_worker.specs.declared.answers.Finished.{Finished}
use Rattle.cb_worker.specs.declared.answers.Finished.TheVariants as finished
use Rattle.cb_worker.specs.declared.answers.Wanted.{Wanted}
use Rattle.cb_worker.specs.declared.answers.Wanted.TheVariants as wanted
use Rattle.cb_worker.specs.declared.worker_fault.WorkerFault.{WorkerFault}
use Rattle.cb_worker.specs.declared.worker_fault.WorkerFault.TheVariants as worker

-- nothing is kept: all was handed in and taken
abbrev pub IsServed : WorkerState → Type 0
IsServed worker = (worker.said ≡ []) × (worker.collected ≡ None)

-- why a call that needs a transaction is refused: the client isn't welcomed; or none is open or
-- committing
abbrev pub LacksTransaction : WorkerState → WorkerFault → Type 0
LacksTransaction lacking (worker.Client client.NotWelcome) = lacking.client.welcomed ≡ false
LacksTransaction lacking (worker.Client client.NoTransaction) =
    (lacking.client.welcomed ≡ true) × IsIdle lacking
LacksTransaction lacking _ = ⊥

-- the worker has just read the page, without the office
abbrev pub HasRead : WorkerState → (page : ℕ) → Type 0
HasRead worker page = (before : WorkerState) × (may_hit before page ≡ true)
    × (worker ≡ after_hit before page)

-- there was a transaction, and the page was read as `hit` reads it, with these bytes, which it uses
-- from then on; or the transaction was aborted; it is still the same worker, and no transaction
-- began
abbrev pub Fetches : (old new : WorkerState) → (page : ℕ) → Fetched → Type 0
Fetches old new page (fetched.Bytes bytes) = HasTransaction old × (before : WorkerState)
    × Hit before page bytes.now × (new ≡ after_hit before page) × IsStill old new
    × ((grant : ℕ) × Uses (seen_by new) page grant bytes.now)
Fetches old new page fetched.Aborted = Ends old new protocol.Aborted × IsStill old new

-- the client may write the page in the transaction that is open
abbrev pub MayWrite : WorkerState → (page : ℕ) → Type 0
MayWrite worker page = (operations : List Operation)
    → (is_open (client_of worker.client operations).cache.status
    && (client_of worker.client operations).cache.may_write page) ≡ true

-- there was a transaction, and it is so after a want: the page's bytes are as they were; or it was
-- aborted
abbrev pub Wants : (old new : WorkerState) → (page : ℕ) → Wanted → Type 0
Wants old new page wanted.Permitted = HasTransaction old × MayWrite new page
    × KeepsWanted (seen_by old) (seen_by new) page
Wants old new page wanted.Aborted = Ends old new protocol.Aborted

-- how such a transaction ended
abbrev pub ending_of : Finished → protocol.LastOutcome
ending_of (finished.Committed number) = protocol.Committed number
ending_of finished.Aborted = protocol.Aborted

-- the last transaction is over, and ended so
abbrev pub IsFinished : WorkerState → Finished → Type 0
IsFinished worker answer = Ended worker (ending_of answer)

-- it is the one that there was
abbrev pub Finishes : (old new : WorkerState) → Finished → Type 0
Finishes old new answer = Ends old new (ending_of answer)
