-- How a worker's transaction commits.
use Rattle.std.specs.Prelude.{◌≡◌, ◌⊎◌, ℕ, Bool, List, [], Result, Ok, Err}
use Rattle.cb_client.specs.ByTable.{RefusesOrLacks}
use Rattle.cb_client.specs.CallAnswers.{Finishes, SaysCommit}
use Rattle.cb_client.specs.declared.client_fault.ClientFault.{ClientFault}
use Rattle.cb_client.specs.declared.client_fault.ClientFault.TheVariants as client
use Rattle.cb_client_core.specs.ClientState.{ClientState, client_of}
use Rattle.cb_frame.specs.declared.frame.Frame.{Frame}
use Rattle.cb_station.specs.Commits.{writes_of}
use Rattle.cb_station.specs.Stations.{StationState}
use Rattle.cb_station.specs.declared.office_fault.OfficeFault.{OfficeFault}
use Rattle.cb_outbox.specs.Messages.{page_writes}
use Rattle.cb_page.specs.Flags.{has}
use Rattle.cb_protocol.specs.Client.{StatusCommitting, client_status}
use Rattle.cb_protocol.specs.ClientCalls.{CallFinish}
use Rattle.cb_protocol.specs.Serial.{Operation}
use Rattle.cb_station.specs.Calls.{Committed}
use Rattle.cb_worker.specs.Keeping.{AreWritten}
use Rattle.cb_worker.specs.Workers.{WorkerState, seen_by}
use Rattle.cb_worker.specs.declared.worker_fault.WorkerFault.{WorkerFault}
use Rattle.cb_worker.specs.declared.worker_fault.WorkerFault.TheVariants as worker

-- the client says that it is committing
abbrev pub IsCommitting : ClientState → Type 0
IsCommitting client = client_status (client_of client []) ≡ StatusCommitting

-- the client finishes, by that frame; or it has finished before, and says it again
abbrev pub FinishesOrAgain : (old : ClientState) → Frame → (new : ClientState) → Type 0
FinishesOrAgain old frame new = Finishes old (Ok frame) new
    ⊎ (IsCommitting old × SaysCommit old frame × (new ≡ old))

-- these are the pages that the client's transaction has locked
abbrev pub AreLocked : ClientState → List Bool → Type 0
AreLocked client reads = (operations : List Operation) (page : ℕ)
    → has reads page ≡ (client_of client operations).cache.locked page

-- The client has no such commit: one that isn't committing refuses to finish, or lacks memory; one
-- that is lacks memory. Nothing changes.
abbrev pub RefusesFrame : (old : ClientState) → ClientFault → (new : ClientState) → Type 0
RefusesFrame old fault new = ((IsCommitting old → ⊥) × RefusesOrLacks old CallFinish fault new)
    ⊎ (IsCommitting old × (fault ≡ client.Memory) × (new ≡ old))

-- The frame is handed in, with exactly the pages as reads that the client's transaction has locked.
pub record HandsFrameIn (old : WorkerState) (before : StationState) (frame : Frame)
    (result : Result ℕ OfficeFault) (new : WorkerState) (after : StationState) : Type 0 where
  pub reads : List Bool
  pub locked : AreLocked old.client reads
  pub committed : Committed before frame reads old.hand result after new.hand
  pub rest : new ≡ record old { hand = new.hand }

-- The commit of the worker's transaction is handed in, with exactly its locked pages as reads and
-- the pages that it wrote, each by the client's grant and with the client's bytes.
pub record HandsCommitIn (old : WorkerState) (before : StationState) (result : Result ℕ OfficeFault)
    (new : WorkerState) (after : StationState) : Type 0 where
  pub frame : Frame
  pub reads : List Bool
  pub finishes : FinishesOrAgain old.client frame new.client
  pub says : SaysCommit new.client frame
  pub written : AreWritten (seen_by new) (page_writes (writes_of frame))
  pub locked : AreLocked new.client reads
  pub committed : Committed before frame reads old.hand result after new.hand
  pub rest : new ≡ record old { client = new.client; hand = new.hand }

-- the commit's number; or the client refuses, and nothing changes; or the station does, and the
-- client is committing
abbrev pub CommitsAt : (old : WorkerState) → (before : StationState) → Result ℕ WorkerFault
    → (new : WorkerState) → (after : StationState) → Type 0
CommitsAt old before (Ok number) new after = HandsCommitIn old before (Ok number) new after
CommitsAt old before (Err (worker.Office fault)) new after =
    HandsCommitIn old before (Err fault) new after
CommitsAt old before (Err (worker.Client fault)) new after =
    RefusesFrame old.client fault new.client × (new ≡ old) × (after ≡ before)
CommitsAt old before (Err worker.Halted) new after = ⊥
