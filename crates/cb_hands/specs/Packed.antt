-- What is held of pages, packed one behind another.
use Rattle.std.specs.Prelude.{◌≡◌, ℕ, suc, zero, Bool, true, false, List, length, map, slice_get}
use Rattle.std.specs.Prelude.{slice_index_or}
use Rattle.std.specs.Prelude.{Option, Some, None}
use Rattle.std.specs.List.{count_by}
use Rattle.std.specs.Option.{option_map}
use Rattle.cb_hands.specs.declared.copies.HeldPage.{HeldPage}
use Rattle.cb_hands.specs.declared.grant.Held.{Held}

-- what lies at a place, counted from 1; nothing at 0
abbrev pub copy_at : List HeldPage → ℕ → Option Held
copy_at packed zero = None
copy_at packed (suc k) = option_map (λ (entry : HeldPage). entry.held) (slice_get packed k)

-- what is held of each page, by the places of pages
abbrev pub unpacked : List HeldPage → List ℕ → List (Option Held)
unpacked packed places = map (copy_at packed) places

-- the page has a place
abbrev pub is_placed : ℕ → Bool
is_placed zero = false
is_placed (suc k) = true

-- Each page's place is where it lies, and each page that lies anywhere has that place.
pub record IsPacked (packed : List HeldPage) (places : List ℕ) : Type 0 where
  pub there : (page k : ℕ) → slice_index_or places page 0 ≡ suc k
      → (entry : HeldPage) × (slice_get packed k ≡ Some entry) × (entry.page ≡ page)
  pub placed : (k : ℕ) (entry : HeldPage) → slice_get packed k ≡ Some entry
      → slice_index_or places entry.page 0 ≡ suc k
  pub count : length packed ≡ count_by is_placed places
