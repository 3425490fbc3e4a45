-- The in-use marks as their callers see them.
use Rattle.std.specs.Prelude.{◌≡◌, ◌<◌, ◌≤◌, ℕ, Bool, List, [], length, slice_index_or}
use Rattle.cb_page.specs.Clients.{Clients, has, set_of}
use Rattle.cb_page.specs.Flags as flags

-- the pages that each client uses, and the clients that use each page
pub record MarksState : Type 0 where
  pub by_client : List (List Bool)
  pub by_page : List Clients

-- the client said that its transaction uses the page (TODS 1997)
abbrev pub is_in_use : MarksState → (client page : ℕ) → Bool
is_in_use marks client page = has (slice_index_or marks.by_page page (set_of 0)) client

-- the same by the client's list
abbrev pub is_listed : MarksState → (client page : ℕ) → Bool
is_listed marks client page = flags.has (slice_index_or marks.by_client client []) page

-- there is such a client, and such a page
abbrev pub HasClient : MarksState → ℕ → Type 0
HasClient marks client = client < length marks.by_client

abbrev pub HasPage : MarksState → ℕ → Type 0
HasPage marks page = page < length marks.by_page

-- a list for each client, with a place for each page, and the two tables agree
pub record IsMarks (marks : MarksState) : Type 0 where
  pub clients : length marks.by_client ≤ 32
  pub pages : length marks.by_page ≤ 4096
  pub flags : (client : ℕ) → client < length marks.by_client
      → length (slice_index_or marks.by_client client []) ≡ length marks.by_page
  pub agree : (client page : ℕ) → is_listed marks client page ≡ is_in_use marks client page

-- the marks are these; clients and pages are as many
pub record HasMarks (before after : MarksState) (all_marks : ℕ → ℕ → Bool) : Type 0 where
  pub marks : (client page : ℕ) → is_in_use after client page ≡ all_marks client page
  pub clients : length after.by_client ≡ length before.by_client
  pub pages : length after.by_page ≡ length before.by_page
