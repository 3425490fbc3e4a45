-- The ranges of the numbers that count upwards (this project's rule).
use Rattle.std.specs.Prelude.{ℕ, ◌≤◌, Bool, ◌&&◌, nat_le}

-- the greatest number of a grant, a transaction, an incarnation or a commit, and the greatest
-- version: 2 ^ 62 - 1
abbrev pub max_number : ℕ
max_number = 4611686018427387903

-- a number of a grant, a transaction, an incarnation or a commit
abbrev pub IsNumber : ℕ → Type 0
IsNumber n = (1 ≤ n) × (n ≤ max_number)

abbrev pub is_number : ℕ → Bool
is_number n = nat_le 1 n && nat_le n max_number

-- a version of a page, which is 0 before the first commit
abbrev pub IsVersion : ℕ → Type 0
IsVersion n = n ≤ max_number

abbrev pub is_version : ℕ → Bool
is_version n = nat_le n max_number
