-- A fault that is handed on.
use Rattle.std.proofs.Common.{◌≡◌, List, ℕ, Result, Ok, Err, IfErr, sym, subst}
use Rattle.std.specs.Prelude.{IsErrAnd}
use Rattle.sqlite.specs.Held.{Held}
use Rattle.sqlite.specs.Store.{Ghosts}
use Rattle.cb_server.specs.ServerValue.{ServerValue}
use Rattle.cb_serve.specs.Living.{RefusesRoom}
use Rattle.cb_serve.specs.Parts.{RefusesBatch, StopsBehind}
use Rattle.cb_serve.specs.Steps.{RefusesFront}
use Rattle.cb_serve.specs.declared.fault.RoundFault.{RoundFault}
use Rattle.cb_serve.specs.declared.fault.RoundFault.TheVariants as round

-- what holds of want of memory
pub on_memory : {X : Type 0} (P : RoundFault → Type 0) (r : Result X RoundFault) → IsErrAnd r (λ f. f ≡ round.Memory) → P round.Memory → IfErr r P
on_memory P (Ok x) wrong p = absurd wrong
on_memory P (Err f) is p = subst P (sym is) p

-- what holds of the fault that was handed on
pub on_fault : {X : Type 0} (P : RoundFault → Type 0) (r : Result X RoundFault) (f : RoundFault) → r ≡ Err f → P f → IfErr r P
on_fault {X} P r f same p = subst (λ (k : Result X RoundFault). IfErr k P) (sym same) p

-- a round that was answered so has something read behind it
pub behind_front : (old : ServerValue) (bytes : List ℕ) (f : RoundFault) → RefusesFront old bytes f → StopsBehind f
behind_front old bytes round.Exhausted why = tt
behind_front old bytes round.Memory why = tt
behind_front old bytes round.Shape wrong = absurd wrong
behind_front old bytes round.Store wrong = absurd wrong
behind_front old bytes (round.Input r) wrong = absurd wrong
behind_front old bytes (round.Output r) wrong = absurd wrong

pub behind_room : {S : Type 0} (g : Ghosts S) (f : RoundFault) (old new : Held S) → RefusesRoom g f old new → StopsBehind f
behind_room g round.Store old new why = tt
behind_room g round.Memory old new why = tt
behind_room g round.Shape old new wrong = absurd wrong
behind_room g round.Exhausted old new wrong = absurd wrong
behind_room g (round.Input r) old new wrong = absurd wrong
behind_room g (round.Output r) old new wrong = absurd wrong

pub behind_batch : {S : Type 0} (g : Ghosts S) (f : RoundFault) (old new : Held S) → RefusesBatch g f old new → StopsBehind f
behind_batch g round.Store old new why = tt
behind_batch g round.Memory old new why = tt
behind_batch g round.Shape old new wrong = absurd wrong
behind_batch g round.Exhausted old new wrong = absurd wrong
behind_batch g (round.Input r) old new wrong = absurd wrong
behind_batch g (round.Output r) old new wrong = absurd wrong

-- the output couldn't be written
abbrev pub IsOfOutput : RoundFault → Type 0
IsOfOutput (round.Output e) = Unit {0}
IsOfOutput _ = ⊥
