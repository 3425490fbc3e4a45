-- A hand that a station knows stays known, and one that it doesn't know stays unknown.
use Rattle.std.proofs.Common.{◌≡◌, ◌↔◌, Bool, true, false, ℕ, IsTrue, List, [], ◌∷◌, Option, Some, None, Result, Ok, Err, OnErr, OnOk, refl, sym, ap, subst}
use Rattle.cb_frame.specs.declared.frame.Frame.{Frame}
use Rattle.cb_hands.specs.Hands.{HandState}
use Rattle.cb_hands.specs.Joined.{Follow, IsHeld}
use Rattle.cb_station.specs.Moves.{IsKnown}
use Rattle.cb_station.specs.Stations.{IsUnchanged, StationState}
use Rattle.cb_station.specs.declared.office_fault.OfficeFault.{OfficeFault}
use Rattle.cb_station.specs.declared.office_fault.OfficeFault.TheVariants as office
use Rattle.cb_worker.proofs.Turning.{taking_keeps}
use Rattle.cb_worker.specs.Committing.{CommitsAt}
use Rattle.cb_worker.specs.Turns.{Turns, TurnsBy}
use Rattle.cb_worker.specs.Workers.{WorkerState}
use Rattle.cb_worker.specs.declared.worker_fault.WorkerFault.{WorkerFault}

-- so where neither the hand nor what is stored changes
pub same_known : (known : Bool) (before after : StationState) (hand next : HandState) → after.hands ≡ before.hands → next ≡ hand → IsKnown known before hand → IsKnown known after next
same_known known before after hand next stored same is =
    subst (λ (h : HandState). IsTrue known ↔ IsHeld after.hands h) (sym same) (subst (λ (hands : List (Option HandState)). IsTrue known ↔ IsHeld hands hand) (sym stored) is)

-- so behind a call that keeps the hand stored, and refuses one that isn't as foreign
stays : {X : Type 0} (known : Bool) (before after : StationState) (hand next : HandState) (r : Result X OfficeFault) → IsKnown known before hand → ((IsHeld before.hands hand → ⊥) → r ≡ Err office.Foreign)
    → OnOk r (Follow before.hands after.hands hand next) → OnErr r (IsUnchanged before after × (next ≡ hand)) → IsKnown known after next
stays known before after hand next (Err fault) is foreign follow same = same_known known before after hand next same.0.hands same.1 is
stays known before after hand next (Ok x) is foreign follow same = (λ told. follow.held, λ held. by known is)
  where
    by : (b : Bool) → IsKnown b before hand → b ≡ true
    by true is = refl
    by false is =
        let no : IsHeld before.hands hand → ⊥ = λ held. let told : false ≡ true = is.1 held in absurd cc in
        let e : Ok x ≡ Err office.Foreign = foreign no in absurd cc

-- so behind a turn
pub turn_knows : (known : Bool) (old new : WorkerState) (before after : StationState) (r : Result Bool WorkerFault) → IsKnown known before old.hand → Turns old before r new after → IsKnown known after new.hand
turn_knows known old new before after r is t = by old.said old.collected t
  where
    by : (said : List Frame) (kept : Option Frame) → TurnsBy said kept old before r new after → IsKnown known after new.hand
    by (frame ∷ rest) kept h = stays known before after old.hand new.hand h.answer is (λ no. h.took.foreign.1 (λ own. no own.0.held)) h.took.stored h.took.err
    by [] (Some frame) h = same_known known before after old.hand new.hand (ap (λ (s : StationState). s.hands) h.1) (taking_keeps old new frame r h.0) is
    by [] None h = stays known before after old.hand new.hand h.answer is h.collected.foreign.1 h.collected.stored h.collected.err

-- so behind a commit that was taken
pub commit_knows : (known : Bool) (old new : WorkerState) (before after : StationState) (number : ℕ) → IsKnown known before old.hand → CommitsAt old before (Ok number) new after → IsKnown known after new.hand
commit_knows known old new before after number is h =
    stays known before after old.hand new.hand (Ok number) is (λ no. absurd (no h.committed.allowed.own.0.held)) h.committed.stored h.committed.err
