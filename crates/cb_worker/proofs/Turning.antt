-- What a turn leaves.
use Rattle.std.proofs.Common.{◌≡◌, Bool, false, List, [], ◌∷◌, Option, Some, None, Result, Ok, Err, refl, sym, ◌∙◌, ap, subst}
use Rattle.std.specs.Prelude.{⊤}
use Rattle.cb_frame.specs.declared.frame.Frame.{Frame}
use Rattle.cb_hands.specs.Hands.{HandState}
use Rattle.cb_station.specs.Stations.{StationState}
use Rattle.cb_station.specs.declared.office_fault.OfficeFault.{OfficeFault}
use Rattle.cb_station.specs.Calls.{Collected}
use Rattle.cb_worker.specs.Turns.{AfterCollecting, Collects, HandsIn, TakesCollected, Turns, TurnsBy, turned_by}
use Rattle.cb_worker.specs.Waiting.{IsServed}
use Rattle.cb_worker.specs.Workers.{WorkerState}
use Rattle.cb_worker.specs.declared.worker_fault.WorkerFault.{WorkerFault}
use Rattle.cb_worker.specs.declared.worker_fault.WorkerFault.TheVariants as worker

-- what was collected, where a turn found nothing to do
idle : (old new : WorkerState) (a : Result (Option Frame) OfficeFault) → AfterCollecting a old (Ok false) new → new ≡ old
idle old new (Err f) t = absurd (let e = t.0 in cc)
idle old new (Ok None) t = t.1
idle old new (Ok (Some frame)) t = absurd (let e = t.0 in cc)

-- where a turn finds nothing to do, nothing is kept
pub served : (old new : WorkerState) (before after : StationState) → Turns old before (Ok false) new after → IsServed new
served old new before after t = go old.said old.collected refl refl t
  where
    go : (said : List Frame) (kept : Option Frame) → old.said ≡ said → old.collected ≡ kept → TurnsBy said kept old before (Ok false) new after → IsServed new
    go (frame ∷ rest) kept s k h = absurd (by h.answer h.answered)
      where
        by : (a : Result ⊤ OfficeFault) → Ok false ≡ turned_by a → ⊥
        by (Ok done) e = absurd cc
        by (Err f) e = absurd cc
    go [] (Some frame) s k h = absurd (let e = h.0 in cc)
    go [] None s k h = let same = idle old new h.answer h.taken in (ap (λ (w : WorkerState). w.said) same ∙ s, ap (λ (w : WorkerState). w.collected) same ∙ k)

-- the oldest kept frame is handed in
pub hands_in : (old new : WorkerState) (before after : StationState) (frame : Frame) (rest : List Frame) (r : Result Bool WorkerFault) → old.said ≡ frame ∷ rest → HandsIn old before frame rest r new after → Turns old before r new after
hands_in old new before after frame rest r e h = subst (λ (said : List Frame). TurnsBy said old.collected old before r new after) (sym e) h

-- a frame that is taken leaves the hand
pub taking_keeps : (old new : WorkerState) (frame : Frame) (r : Result Bool WorkerFault) → TakesCollected old frame r new → new.hand ≡ old.hand
taking_keeps old new frame (Ok turned) h = ap (λ (w : WorkerState). w.hand) h.1.rest
taking_keeps old new frame (Err (worker.Client f)) h = ap (λ (w : WorkerState). w.hand) h.2
taking_keeps old new frame (Err (worker.Office f)) h = ap (λ (w : WorkerState). w.hand) h.2
taking_keeps old new frame (Err worker.Halted) h = absurd h

-- one is collected and taken
pub collects_some : (old new : WorkerState) (before after : StationState) (hand : HandState) (frame : Frame) (r : Result Bool WorkerFault) → Collected before old.hand (Ok (Some frame)) after hand
    → TakesCollected (record old { hand = hand; collected = Some frame }) frame r new → Collects old before r new after
collects_some old new before after hand frame r all taken =
    let same : hand ≡ new.hand = sym (taking_keeps (record old { hand = hand; collected = Some frame }) new frame r taken) in
    record {
      answer = Ok (Some frame);
      collected = subst (λ (h : HandState). Collected before old.hand (Ok (Some frame)) after h) same all;
      taken = subst (λ (h : HandState). TakesCollected (record old { hand = h; collected = Some frame }) frame r new) same taken;
    }
