-- How many entries of a list a test holds of, entry by entry.
use Rattle.std.specs.Prelude.{ℕ, Bool, true, false}

-- 1 for true
abbrev pub bit : Bool → ℕ
bit true = 1
bit false = 0
