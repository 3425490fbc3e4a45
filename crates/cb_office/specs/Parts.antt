-- How clients' parts of a run end. This project's rules.
use Rattle.std.specs.Prelude.{◌≡◌, ℕ, Result, Ok, Err, Option, Some, None}
use Rattle.cb_office.specs.declared.ending.EarlyEnding.{EarlyEnding}
use Rattle.cb_office.specs.declared.ending.EarlyEnding.TheVariants as ending
use Rattle.cb_office.specs.Runs.{ending_of_worker, of_client}
use Rattle.cb_office.specs.declared.parts.PartEnd.{PartEnd}
use Rattle.cb_office.specs.declared.parts.PartEnd.TheVariants as part
use Rattle.cb_worker.specs.Leaving.{LeftState, Place}
use Rattle.cb_worker.specs.declared.worker_fault.WorkerFault.{WorkerFault}

-- one for a part that had nothing to tell, none for one whose fault was noted
abbrev pub quiet_parts : {N : Type 0} → PartEnd N → ℕ
quiet_parts (part.Noted told) = 0
quiet_parts _ = 1

-- how the client's part ended that was answered Halted: that office was halted, or it is noted as a
-- worker's fault
abbrev pub EndsHalted : {N : Type 0} → (office : Place) → (client : ℕ) → PartEnd N → Type 0
EndsHalted office client (part.Left left) = ⊥
EndsHalted office client (part.Noted told) = told ≡ of_client client ending.Worker
EndsHalted office client (part.Halted was) = was ≡ office

-- how it ended by a fault with that ending: it was noted so; a fault without one is Halted
abbrev pub EndsBy : {N : Type 0} → (office : Place) → (client : ℕ) → Option EarlyEnding → PartEnd N
    → Type 0
EndsBy office client (Some told) end = end ≡ part.Noted (of_client client told)
EndsBy office client None end = EndsHalted office client end

-- how the client's part ended whose work was answered so: it left, or ended by its fault
abbrev pub EndsPart : {N : Type 0} → (office : Place) → (client : ℕ)
    → Result LeftState WorkerFault → PartEnd N → Type 0
EndsPart office client (Ok left) end = end ≡ part.Left left
EndsPart office client (Err fault) end = EndsBy office client (ending_of_worker fault) end

-- who left that office, or told of a fault, was that client; who was halted, was so at that office
abbrev pub IsEndOf : {N : Type 0} → (office : Place) → (client : ℕ) → PartEnd N → Type 0
IsEndOf office client (part.Left left) = (left.office ≡ office) × (left.client ≡ client)
IsEndOf office client (part.Noted told) = told.client ≡ client
IsEndOf office client (part.Halted was) = was ≡ office
