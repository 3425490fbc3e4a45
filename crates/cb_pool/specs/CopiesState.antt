-- The pages of a pool with their counts.
use Rattle.std.specs.Prelude.{◌≡◌, ℕ, ◌+◌, Bool, ◌&&◌, List, [], ◌∷◌, length, Option}
use Rattle.std.specs.Prelude.{Some, None}
use Rattle.std.specs.Option.{is_some}
use Rattle.cb_page.specs.Counting.{bit}
use Rattle.cb_pool.specs.PoolState.{held}

-- which pages are fixed, and the bytes of each page that is here
pub record CopiesState : Type 0 where
  pub fixed : List Bool
  pub pages : List (Option (List ℕ))

-- how many pages are here and fixed
abbrev pub held_fixed : List (Option (List ℕ)) → List Bool → ℕ
held_fixed [] flags = 0
held_fixed (page ∷ pages) [] = 0
held_fixed (page ∷ pages) (flag ∷ flags) = bit (is_some page && flag) + held_fixed pages flags

-- the counts are those of the pages
pub record AreCounted (pages : List (Option (List ℕ))) (fixed : List Bool)
    (here here_fixed : ℕ) : Type 0 where
  pub flags : length fixed ≡ length pages
  pub here_is : here ≡ held pages
  pub here_fixed_is : here_fixed ≡ held_fixed pages fixed

-- a page that is here, of this many bytes
abbrev pub IfHere : Option (List ℕ) → ℕ → Type 0
IfHere None count = ⊥
IfHere (Some bytes) count = length bytes ≡ count
