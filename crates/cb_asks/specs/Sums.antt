-- Sums over numbered things.
use Rattle.std.specs.Prelude.{ℕ, ◌+◌, Bool, zero, suc, if◌then◌else◌}

-- the sum of what is counted of each number before `end`
abbrev pub sum_below : (ℕ → ℕ) → (end : ℕ) → ℕ
sum_below counted zero = 0
sum_below counted (suc number) = sum_below counted number + counted number

-- one, or none
abbrev pub one_if : Bool → ℕ
one_if test = if test then 1 else 0
