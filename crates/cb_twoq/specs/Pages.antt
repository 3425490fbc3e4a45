-- Lists of pages.
use Rattle.std.specs.Prelude.{◌≡◌, ◌<◌, ◌≤◌, true, remove, ℕ, ◌+◌, Bool, nat_eq, List, [], ◌∷◌}
use Rattle.std.specs.Prelude.{length, if◌then◌else◌}
use Rattle.std.specs.List.{list_any}

-- whether a page is on a list
abbrev pub has : List ℕ → ℕ → Bool
has pages page = list_any (nat_eq page) pages

-- a list with a page taken off
abbrev pub without : ℕ → List ℕ → List ℕ
without page [] = []
without page (first ∷ rest) = if nat_eq page first then rest else first ∷ without page rest

-- the page is at that place, where taking it off removes it
pub record IsPlace (pages : List ℕ) (page place : ℕ) : Type 0 where
  pub within : place < length pages
  pub there : has pages page ≡ true
  pub removes : remove pages place ≡ without page pages

-- 1 for the page itself, 0 for any other
abbrev pub one : ℕ → ℕ → ℕ
one page other = if nat_eq page other then 1 else 0

-- how often a page is on a list
unfoldable pub times : ℕ → List ℕ → ℕ
times page [] = 0
times page (first ∷ rest) = one page first + times page rest

-- the pages are no more than the slots, and each is there once
pub record AreOnce (slots : ℕ) (pages : List ℕ) : Type 0 where
  pub within : length pages ≤ slots
  pub once : (page : ℕ) → times page pages ≤ 1
