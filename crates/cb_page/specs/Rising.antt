-- Numbers in rising order, each once: the pages of a commit.
use Rattle.std.specs.Prelude.{ℕ, ◌+◌, ◌≤◌, Bool, true, ◌&&◌, nat_le, List, [], ◌∷◌}

-- the first is at least that number, and each other one is above the one before it
abbrev pub RisesFrom : ℕ → List ℕ → Type 0
RisesFrom least [] = Unit {0}
RisesFrom least (number ∷ more) = (least ≤ number) × RisesFrom (number + 1) more

abbrev pub rises_from : ℕ → List ℕ → Bool
rises_from least [] = true
rises_from least (number ∷ more) = nat_le least number && rises_from (number + 1) more

-- each number is below the next
abbrev pub IsRising : List ℕ → Type 0
IsRising numbers = RisesFrom 0 numbers

abbrev pub is_rising : List ℕ → Bool
is_rising numbers = rises_from 0 numbers
