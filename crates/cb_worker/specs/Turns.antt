-- What one turn of a worker does.
use Rattle.std.specs.Prelude.{◌≡◌, Bool, true, false, List, [], ◌∷◌, ⊤}
use Rattle.std.specs.Prelude.{Option, Some, None, Result, Ok, Err}
use Rattle.std.specs.List.{AllByRecursion}
use Rattle.cb_client.specs.FramesTaken.{TakesFrame}
use Rattle.cb_client.specs.declared.client_fault.ClientFault.TheVariants as client
use Rattle.cb_frame.specs.Grammar.{Fits}
use Rattle.cb_frame.specs.declared.frame.Frame.{Frame}
use Rattle.cb_hands.specs.Hands.{HandState}
use Rattle.cb_station.specs.Stations.{StationState}
use Rattle.cb_station.specs.declared.office_fault.OfficeFault.{OfficeFault}
use Rattle.cb_station.specs.declared.office_fault.OfficeFault.TheVariants as office
use Rattle.cb_outbox.specs.Messages.{messages_of}
use Rattle.cb_station.specs.Calls.{Collected, Took}
use Rattle.cb_worker.specs.Workers.{WorkerState}
use Rattle.cb_worker.specs.declared.worker_fault.WorkerFault.{WorkerFault}
use Rattle.cb_worker.specs.declared.worker_fault.WorkerFault.TheVariants as worker

-- the kept frames once the oldest was handed in
abbrev pub without_first : WorkerState → (next : HandState) → (rest : List Frame)
    → Result ⊤ OfficeFault → WorkerState
without_first old next rest (Ok done) = record old { hand = next; said = rest }
without_first old next rest (Err fault) = old

-- a turn's answer, by that of the station
abbrev pub turned_by : Result ⊤ OfficeFault → Result Bool WorkerFault
turned_by (Ok done) = Ok true
turned_by (Err fault) = Err (worker.Office fault)

-- The oldest kept frame is handed in; it stays kept where it is refused.
pub record HandsIn (old : WorkerState) (before : StationState) (frame : Frame) (rest : List Frame)
    (result : Result Bool WorkerFault) (new : WorkerState) (after : StationState) : Type 0 where
  pub answer : Result ⊤ OfficeFault
  pub answered : result ≡ turned_by answer
  pub took : Took before frame old.hand answer after new.hand
  pub left : new ≡ without_first old new.hand rest answer

-- The client took the frame, as the protocol's table says, and what it says to it is kept.
pub record TakesKept (old : WorkerState) (frame : Frame) (new : WorkerState) : Type 0 where
  pub fits : Fits old.client.copies.limits frame
  pub takes : TakesFrame old.client frame (messages_of new.said) new.client
  pub fit : AllByRecursion (Fits old.client.copies.limits) new.said
  pub rest : new ≡ record old { client = new.client; collected = None; said = new.said }

-- the client takes the frame; one that doesn't fit its limits, or for which it has no memory, stays
-- kept
abbrev pub TakesCollected : (old : WorkerState) → Frame → Result Bool WorkerFault
    → (new : WorkerState) → Type 0
TakesCollected old frame (Ok turned) new = (turned ≡ true) × TakesKept old frame new
TakesCollected old frame (Err (worker.Client fault)) new =
    (fault ≡ client.Memory) × Fits old.client.copies.limits frame × (new ≡ old)
TakesCollected old frame (Err (worker.Office fault)) new =
    (fault ≡ office.Foreign) × (Fits old.client.copies.limits frame → ⊥) × (new ≡ old)
TakesCollected old frame (Err worker.Halted) new = ⊥

-- what becomes of a worker that collected this
abbrev pub AfterCollecting : Result (Option Frame) OfficeFault → (old : WorkerState)
    → Result Bool WorkerFault → (new : WorkerState) → Type 0
AfterCollecting (Err fault) old result new =
    (result ≡ Err (worker.Office fault)) × (new ≡ old)
AfterCollecting (Ok None) old result new = (result ≡ Ok false) × (new ≡ old)
AfterCollecting (Ok (Some frame)) old result new =
    TakesCollected (record old { hand = new.hand; collected = Some frame }) frame result new

-- The oldest frame of the mailbox is collected, and the client takes it.
pub record Collects (old : WorkerState) (before : StationState) (result : Result Bool WorkerFault)
    (new : WorkerState) (after : StationState) : Type 0 where
  pub answer : Result (Option Frame) OfficeFault
  pub collected : Collected before old.hand answer after new.hand
  pub taken : AfterCollecting answer old result new

-- the first of the three that there is to do: by the frames to be handed in, and the one collected
abbrev pub TurnsBy : List Frame → Option Frame → (old : WorkerState) → (before : StationState)
    → Result Bool WorkerFault → (new : WorkerState) → (after : StationState) → Type 0
TurnsBy (frame ∷ rest) kept old before result new after =
    HandsIn old before frame rest result new after
TurnsBy [] (Some frame) old before result new after =
    TakesCollected old frame result new × (after ≡ before)
TurnsBy [] None old before result new after = Collects old before result new after

-- what one turn does
abbrev pub Turns : (old : WorkerState) → (before : StationState) → Result Bool WorkerFault
    → (new : WorkerState) → (after : StationState) → Type 0
Turns old before result new after =
    TurnsBy old.said old.collected old before result new after
