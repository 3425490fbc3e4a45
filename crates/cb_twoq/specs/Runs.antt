-- Many references in turn.
use Rattle.std.specs.Prelude.{◌≡◌, ℕ, Bool, false, List, [], ◌∷◌, Option, Result, Ok, Err}
use Rattle.cb_twoq.specs.Pages.{has}
use Rattle.cb_twoq.specs.Law.{Chooses, IsFull}
use Rattle.cb_twoq.specs.declared.chooser.ChooseFault.{ChooseFault}
use Rattle.cb_twoq.specs.declared.chooser.ChooseFault.TheVariants as fault

-- what one reference may answer, by the law of a chooser, and the members after it
abbrev pub Answers : ℕ → List ℕ → ℕ × List Bool → Result (Option ℕ) ChooseFault → List ℕ → Type 0
Answers slots old (page, fixed) (Ok gone) new = Chooses slots fixed old page gone new
Answers slots old (page, fixed) (Err fault.Full) new = IsFull slots fixed old page × (new ≡ old)
Answers slots old (page, fixed) (Err fault.Memory) new =
    (has old page ≡ false) × ¬ (IsFull slots fixed old page) × (new ≡ old)

-- the answers of references that are made in turn, one for each, and the members after them
abbrev pub Runs : ℕ → List ℕ → List (ℕ × List Bool) → List (Result (Option ℕ) ChooseFault)
    → List ℕ → Type 0
Runs slots old [] [] new = new ≡ old
Runs slots old [] (answer ∷ answers) new = ⊥
Runs slots old (reference ∷ references) [] new = ⊥
Runs slots old (reference ∷ references) (answer ∷ answers) new =
    (next : List ℕ) × Answers slots old reference answer next
    × Runs slots next references answers new
