-- Many references in turn keep the law of a chooser.
use Rattle.std.proofs.Common.{◌≡◌, ◌↔◌, ℕ, Bool, true, false, List, [], ◌∷◌, ◌++◌, Option, None, Result, Ok, Err, IfOk, OnErr, refl, ap, subst}
use Rattle.cb_twoq.specs.Pages.{has}
use Rattle.cb_twoq.specs.Law.{Chooses, IsFull}
use Rattle.cb_twoq.specs.Runs.{Answers, Runs}
use Rattle.cb_twoq.specs.declared.chooser.ChooseFault.{ChooseFault}
use Rattle.cb_twoq.specs.declared.chooser.ChooseFault.TheVariants as fault

-- what the law says of one reference
module _ {Q : Type 0} (members : Q → List ℕ) (slots : ℕ) (old new : Q) (page : ℕ) (fixed : List Bool) where
  pub answered : (answer : Result (Option ℕ) ChooseFault)
      → IfOk answer (λ left. Chooses slots fixed (members old) page left (members new))
      → (has (members old) page ≡ true → answer ≡ Ok None)
      → ((answer ≡ Err fault.Full) ↔ IsFull slots fixed (members old) page) → OnErr answer (new ≡ old)
      → Answers slots (members old) (page, fixed) answer (members new)
  answered (Ok left) ok member full err = ok
  answered (Err fault.Full) ok member full err = (full.0 refl, ap members err)
  answered (Err fault.Memory) ok member full err = (
    out (has (members old) page) refl,
    λ f. let no = full.1 f in absurd (cc),
    ap members err,
  )
    where
      out : (b : Bool) → has (members old) page ≡ b → has (members old) page ≡ false
      out true h = let no = member h in absurd (cc)
      out false h = h

-- one reference more
pub one_more : (slots : ℕ) (old : List ℕ) (references : List (ℕ × List Bool)) (answers : List (Result (Option ℕ) ChooseFault)) (now new : List ℕ)
    (reference : ℕ × List Bool) (answer : Result (Option ℕ) ChooseFault)
    → Runs slots old references answers now → Answers slots now reference answer new → Runs slots old (references ++ reference ∷ []) (answers ++ answer ∷ []) new
one_more slots old [] [] now new reference answer runs last = (new, subst (λ l. Answers slots l reference answer new) runs last, refl)
one_more slots old [] (a ∷ answers) now new reference answer runs last = absurd runs
one_more slots old (r ∷ references) [] now new reference answer runs last = absurd runs
one_more slots old (r ∷ references) (a ∷ answers) now new reference answer runs last =
    (runs.0, runs.1, one_more slots runs.0 references answers now new reference answer runs.2 last)
