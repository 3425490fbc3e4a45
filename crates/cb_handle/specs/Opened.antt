-- The rows of a store that a server is to open over.
use Rattle.std.specs.Prelude.{if◌then◌else◌, ◌≤◌, ◌==◌, ℕ, List, [], ◌∷◌, ◌++◌}
use Rattle.std.specs.Prelude.{Option, Some, None}
use Rattle.std.specs.List.{All}
use Rattle.cb_commit.specs.Stores.{IsStored, StoreState}
use Rattle.cb_commit.specs.declared.store.StoredPage.{StoredPage}
use Rattle.cb_page.specs.Bounds.{Bounds}
use Rattle.cb_page.specs.Numbers.{max_number}

-- The limits of the store, the number of its last commit, the floor of the life that is to begin,
-- if one is, and the rows of its first pages.
pub record OpeningState : Type 0 where
  pub limits : Bounds
  pub number : ℕ
  pub floor : Option ℕ
  pub rows : List StoredPage

-- Each row has a page's size and no version above the last commit's number (this project's rule).
pub record IsOpening (opening : OpeningState) : Type 0 where
  pub rows : All (IsStored opening.limits.page_size opening.number) opening.rows
  pub number : opening.number ≤ max_number

-- the floor that a host tells by a number: 0 is none (this project's rule)
abbrev pub told_floor : (floor : ℕ) → Option ℕ
told_floor floor = if floor == 0 then None else Some floor

-- no rows yet
abbrev pub no_rows : Bounds → (number floor : ℕ) → OpeningState
no_rows limits number floor =
    record { limits = limits; number = number; floor = told_floor floor; rows = [] }

-- the row of the next page behind the others
abbrev pub with_row : OpeningState → (version : ℕ) → List ℕ → OpeningState
with_row opening version bytes = record opening {
  rows = opening.rows ++ record { version = version; bytes = bytes } ∷ [];
}

-- the store of the rows
abbrev pub store_of : OpeningState → StoreState
store_of opening = record {
  page_size = opening.limits.page_size;
  pages = opening.rows;
  number = opening.number;
}
