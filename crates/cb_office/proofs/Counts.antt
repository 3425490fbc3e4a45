-- What the counts of a run are.
use Rattle.std.proofs.Common.{◌≡◌, ◌≤◌, ℕ, Bool, true, Option, Some, None, Result, Ok, Err, IfOk, arith, refl, subst}
use Rattle.cb_office.specs.declared.ending.ClientEnding.{ClientEnding}
use Rattle.cb_office.specs.declared.ending.EarlyEnding.{EarlyEnding}
use Rattle.cb_office.specs.Runs.{adds_up, ending_of_run}
use Rattle.cb_shelf.specs.declared.fault.ShelfFault.{ShelfFault}

-- jobs that add up are at most all
pub few_done : (committed all : ℕ) (cut_off : Bool) → adds_up committed all cut_off ≡ true → committed ≤ all
few_done committed all cut_off e = grind arith

-- a run that ended well has what its flusher ended with
ends_as_flushed : {T : Type 0} (flushed : Result T ShelfFault) (told : Option ClientEnding) → IfOk (ending_of_run flushed told) (λ ended. flushed ≡ Ok ended)
ends_as_flushed (Err fault) told = tt
ends_as_flushed (Ok done) (Some ending) = tt
ends_as_flushed (Ok done) None = refl

pub ended_well : {T : Type 0} (flushed : Result T ShelfFault) (told : Option ClientEnding) (ended : T) → ending_of_run flushed told ≡ Ok ended → flushed ≡ Ok ended
ended_well {T} flushed told ended e = subst (λ (r : Result T EarlyEnding). IfOk r (λ x. flushed ≡ Ok x)) e (ends_as_flushed flushed told)
