-- How a client's part of a run ends.
use Rattle.std.proofs.Common.{◌≡◌, ℕ, Option, Some, None, Result, Ok, Err, IfOk, OnOk, refl, subst, sym}
use Rattle.cb_hands.specs.Hands.{HandState}
use Rattle.cb_office.specs.declared.ending.EarlyEnding.{EarlyEnding}
use Rattle.cb_office.specs.Ends.{HasLeft}
use Rattle.cb_office.specs.Parts.{EndsBy, EndsPart, IsEndOf}
use Rattle.cb_office.specs.declared.parts.PartEnd.{PartEnd}
use Rattle.cb_office.specs.declared.parts.PartEnd.TheVariants as part
use Rattle.cb_office.specs.Runs.{ending_of_worker}
use Rattle.cb_worker.specs.Entering.{LeavesSome}
use Rattle.cb_worker.specs.Leaving.{LeftState, Place}
use Rattle.cb_worker.specs.declared.worker_fault.WorkerFault.{WorkerFault}

-- the client of a worker that left has left
has_left : (ended : Result LeftState WorkerFault) (hand : HandState) → OnOk ended (LeavesSome hand (Ok tt)) → IfOk ended (λ left. left.client ≡ hand.client) → IfOk ended (λ left. HasLeft left.client)
has_left (Ok left) hand l same = (hand, sym same, l)
has_left (Err fault) hand l same = tt

-- so where that answer was handed on
pub handed_on : (result ended : Result LeftState WorkerFault) (hand : HandState) → OnOk result (result ≡ ended) → OnOk ended (LeavesSome hand (Ok tt)) → IfOk ended (λ left. left.client ≡ hand.client) → IfOk result (λ left. HasLeft left.client)
handed_on (Ok left) ended hand e l same =
    subst (λ (r : Result LeftState WorkerFault). IfOk r (λ left. HasLeft left.client)) (sym e) (has_left ended hand l same)
handed_on (Err fault) ended hand e l same = tt

-- a part ends by its own client, and at its own office
pub ends_so : (N : Type 0) (office : Place) (client : ℕ) (worked : Result LeftState WorkerFault) (end : PartEnd N) → IfOk worked (λ left. left.office ≡ office) → IfOk worked (λ left. left.client ≡ client)
    → EndsPart office client worked end → IsEndOf office client end
ends_so N office client (Ok left) end here same e = rw e (here, same)
ends_so N office client (Err fault) end here same e = by (ending_of_worker fault) end e
  where
    by : (told : Option EarlyEnding) → (ended : PartEnd N) → EndsBy office client told ended → IsEndOf office client ended
    by (Some told) ended e = rw e refl
    by None (part.Left left) e = absurd e
    by None (part.Noted noted) e = rw e refl
    by None (part.Halted was) e = e
