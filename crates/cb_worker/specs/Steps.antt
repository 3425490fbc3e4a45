-- What one step of a call that may wait has come to.
use Rattle.std.specs.Prelude.{◌≡◌, ◌⊎◌, true, ⊤}
use Rattle.cb_protocol.specs.Client as protocol
use Rattle.cb_protocol.specs.ClientCalls.{CallWant}
use Rattle.cb_worker.specs.Handing.{HandedCommitIn, WasOver}
use Rattle.cb_worker.specs.Keeping.{KeepsWanted}
use Rattle.cb_worker.specs.Refusals.{RefusesAsk, RefusesCall, RefusesCommit, StopsServing}
use Rattle.cb_worker.specs.Waiting.{HasRead, IsFinished, MayWrite}
use Rattle.cb_worker.specs.Workers.{Ended, WorkerState, seen_by}
use Rattle.cb_worker.specs.declared.answers.Finished.TheVariants as finished
use Rattle.cb_worker.specs.declared.awaited.Awaited.{Awaited}
use Rattle.cb_worker.specs.declared.awaited.Awaited.TheVariants as awaited
use Rattle.cb_worker.specs.declared.awaited.Came.{Came}
use Rattle.cb_worker.specs.declared.awaited.Came.TheVariants as came
use Rattle.cb_worker.specs.declared.worker_fault.WorkerFault.{WorkerFault}

-- what came: the client is welcomed, the page was read, it may be written, or the transaction ended
-- so; one that waits for a page or a permission may have been aborted
abbrev pub Comes : Awaited → (new : WorkerState) → Came → Type 0
Comes awaited.Welcome new any = new.client.welcomed ≡ true
Comes (awaited.Page page) new came.There = HasRead new page
Comes (awaited.Page page) new (came.Ended finished.Aborted) = Ended new protocol.Aborted
Comes (awaited.Permission page) new came.There = MayWrite new page
Comes (awaited.Permission page) new (came.Ended finished.Aborted) = Ended new protocol.Aborted
Comes awaited.End new (came.Ended finished) = IsFinished new finished
Comes _ new _ = ⊥

-- what is waited for was begun: the page is wanted, with the bytes that it had; the commit was
-- handed in, unless the transaction was over
abbrev pub Begun : Awaited → (old new : WorkerState) → Type 0
Begun (awaited.Permission page) old new = KeepsWanted (seen_by old) (seen_by new) page
Begun awaited.End old new = WasOver old new ⊎ HandedCommitIn old
Begun _ old new = ⊤

-- why the client doesn't ask for it, or commit
abbrev pub RefusesToBegin : Awaited → (new : WorkerState) → WorkerFault → Type 0
RefusesToBegin awaited.Welcome new fault = ⊥
RefusesToBegin (awaited.Page page) new fault = RefusesAsk new page fault
RefusesToBegin (awaited.Permission page) new fault = RefusesCall new (CallWant page) fault
RefusesToBegin awaited.End new fault = RefusesCommit new fault

-- serving was refused, or it is for that reason
abbrev pub StopsOr : (new : WorkerState) → (WorkerFault → Type 0) → WorkerFault → Type 0
StopsOr new Why fault = StopsServing new fault ⊎ Why fault
