-- Where each client's ask waits.
use Rattle.std.specs.Prelude.{◌≡◌, ◌≤◌, ℕ, false, List, length, Option, None, Some, slice_index_or}
use Rattle.std.specs.Option.{is_some}
use Rattle.cb_page.specs.Clients.{Clients, has}
use Rattle.cb_protocol.specs.Basics.{update}

-- of each client the page at which its ask waits; the clients whose asks wait; how many asks to
-- read wait
pub record PlacesState : Type 0 where
  pub at : List (Option ℕ)
  pub waiting : Clients
  pub reads : ℕ

-- the page at which a client's ask waits
abbrev pub place_of : PlacesState → ℕ → Option ℕ
place_of places client = slice_index_or places.at client None

-- nobody asks
pub record IsNew (places : PlacesState) : Type 0 where
  pub at : (client : ℕ) → place_of places client ≡ None
  pub clients : length places.at ≡ 32
  pub waiting : (client : ℕ) → has places.waiting client ≡ false
  pub reads : places.reads ≡ 0

-- a client's place changes
pub record Puts (before : PlacesState) (client : ℕ) (place : Option ℕ) (after : PlacesState)
    : Type 0 where
  pub at : (other : ℕ) → place_of after other ≡ update (place_of before) client place other
  pub clients : length after.at ≡ length before.at
  pub waiting : (other : ℕ)
      → has after.waiting other ≡ update (has before.waiting) client (is_some place) other

-- a page was found, and it is at most this one
abbrev pub IsUpTo : Option ℕ → (page : ℕ) → Type 0
IsUpTo None page = ⊥
IsUpTo (Some found) page = found ≤ page
