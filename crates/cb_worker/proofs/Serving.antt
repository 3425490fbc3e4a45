-- Turns, one after another.
use Rattle.std.proofs.Common.{◌≡◌, ◌≢◌, inl, inr, Bool, true, false, List, [], ◌∷◌, Option, Some, None, Result, Ok, Err, refl, ap, ◌∙◌, subst}
use Rattle.std.specs.Prelude.{⊤, ◌⊎◌}
use Rattle.cb_frame.specs.declared.frame.Frame.{Frame}
use Rattle.cb_station.specs.Stations.{IsStation, StationState}
use Rattle.cb_station.specs.declared.office_fault.OfficeFault.{OfficeFault}
use Rattle.cb_worker.proofs.Refusing.{no_halt, turn_fault}
use Rattle.cb_worker.specs.Refusals.{StopsAt, StopsServing}
use Rattle.cb_worker.specs.Serving.{HandsOne, Serves, TurnsAt, TurnsThen, Turning}
use Rattle.cb_worker.specs.Turns.{Turns, TurnsBy, turned_by}
use Rattle.cb_worker.specs.Workers.{WorkerState}
use Rattle.cb_worker.specs.declared.worker_fault.WorkerFault.{WorkerFault}
use Rattle.cb_worker.specs.declared.worker_fault.WorkerFault.TheVariants as worker

-- some turns were made so far
pub record Turned (Does : Turning) (old : WorkerState) (before : StationState) (new : WorkerState) (after : StationState) : Type 0 where
  pub at : List (WorkerState × StationState)
  pub turns : TurnsAt Does at old before new after

-- at the start there were none
pub none : (Does : Turning) (old : WorkerState) (before : StationState) → Turned Does old before old before
none Does old before = record { at = []; turns = (refl, refl) }

-- one more was made
pub more : (Does : Turning) (old mid new : WorkerState) (before between after : StationState) (b : Bool) → b ≡ true → Turned Does old before mid between → Does mid between (Ok b) new after
    → Turned Does old before new after
more Does old mid new before between after b f t d =
    record { at = (mid, between) ∷ t.at; turns = (t.turns, subst (λ (x : Bool). Does mid between (Ok x) new after) f d) }

-- and a last one
pub last : (Does : Turning) (old mid new : WorkerState) (before between after : StationState) (r : Result Bool WorkerFault) → Turned Does old before mid between → Does mid between r new after
    → TurnsThen Does old before r new after
last Does old mid new before between after r t d = record { at = t.at; worker = mid; station = between; turns = t.turns; last = d }

-- which had nothing to do
pub ends : (old mid new : WorkerState) (before between after : StationState) (b : Bool) → b ≡ false → Turned Turns old before mid between → Turns mid between (Ok b) new after
    → TurnsThen Turns old before (Ok false) new after
ends old mid new before between after b f t d =
    subst (λ (x : Bool). TurnsThen Turns old before (Ok x) new after) f (last Turns old mid new before between after (Ok b) t d)

-- or was refused
pub stops : (old mid new : WorkerState) (before between after : StationState) (f : WorkerFault) → Turned Turns old before mid between → Turns mid between (Err f) new after → Serves old before (Err f) new after
stops old mid new before between after (worker.Client f) t d = last Turns old mid new before between after (Err (worker.Client f)) t d
stops old mid new before between after (worker.Office f) t d = last Turns old mid new before between after (Err (worker.Office f)) t d
stops old mid new before between after worker.Halted t d = absurd (no_halt mid new between after worker.Halted d refl)

-- none is made in an office that is halted
pub unturned : {A : Type 0} (halted : Bool) → A ⊎ (halted ≡ false) → true ≡ halted → A
unturned halted (inl a) e = a
unturned halted (inr f) e = absurd (let z : true ≡ false = e ∙ f in cc)

-- a turn leaves the station as halted as it was
pub halted_stays : (old new : WorkerState) (before after : StationState) (r : Result Bool WorkerFault) → Turns old before r new after → after.flags.halted ≡ before.flags.halted
halted_stays old new before after r turns = by old.said old.collected turns
  where
    by : (said : List Frame) (kept : Option Frame) → TurnsBy said kept old before r new after → after.flags.halted ≡ before.flags.halted
    by (frame ∷ rest) kept h = λ i. (h.took.flags i).halted
    by [] (Some frame) h = ap (λ (s : StationState). s.flags.halted) h.1
    by [] None h = λ i. (h.collected.flags i).halted

-- where a frame is kept, a turn that isn't refused does something
pub does : (old new : WorkerState) (before after : StationState) (b : Bool) → old.said ≢ [] → Turns old before (Ok b) new after → b ≡ true
does old new before after b n t = go old.said old.collected refl t
  where
    go : (said : List Frame) (kept : Option Frame) → old.said ≡ said → TurnsBy said kept old before (Ok b) new after → b ≡ true
    go [] kept e h = absurd (n e)
    go (frame ∷ rest) kept e h = by h.answer h.answered
      where
        by : (a : Result ⊤ OfficeFault) → Ok b ≡ turned_by a → b ≡ true
        by (Ok done) e = cc
        by (Err f) e = absurd cc

-- of turns that were made from a station which holds what always does, one was refused
pub stopped : (old mid new : WorkerState) (before between after : StationState) (f : WorkerFault) → IsStation before → Turned Turns old before mid between → Turns mid between (Err f) new after → StopsServing new f
stopped old mid new before between after (worker.Client f) s t d =
    (old, record { kind = turn_fault mid new between after (worker.Client f) d; before = before; sound = s; after = after; turns = last Turns old mid new before between after (Err (worker.Client f)) t d })
stopped old mid new before between after (worker.Office f) s t d =
    (old, record { kind = turn_fault mid new between after (worker.Office f) d; before = before; sound = s; after = after; turns = last Turns old mid new before between after (Err (worker.Office f)) t d })
stopped old mid new before between after worker.Halted s t d = tt

-- so of frames that are handed in
pub kept_back : (old mid new : WorkerState) (before between after : StationState) (f : WorkerFault) → IsStation before → Turned HandsOne old before mid between → HandsOne mid between (Err f) new after
    → StopsAt HandsOne old new f
kept_back old mid new before between after f s t d =
    record { kind = turn_fault mid new between after f d.1; before = before; sound = s; after = after; turns = last HandsOne old mid new before between after (Err f) t d }
