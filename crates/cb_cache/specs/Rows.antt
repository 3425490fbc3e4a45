-- What is kept of each page beside its bytes.
use Rattle.std.specs.Prelude.{◌≡◌, ℕ, nat_lt, Bool, ◌||◌, List, None, slice_index_or, length}
use Rattle.std.specs.Prelude.{if◌then◌else◌}
use Rattle.std.specs.Option.{is_some}
use Rattle.cb_page.specs.Flags.{has}
use Rattle.cb_cache.specs.declared.table.PageCopy.{PageCopy}

-- a page that no grant ever came for
abbrev pub no_copy : PageCopy
no_copy = record { seen = None; held = None; version = 0; tag = None }

-- what is kept of a page
abbrev pub row_at : List PageCopy → (page : ℕ) → PageCopy
row_at rows page = slice_index_or rows page no_copy

-- whether anything is known of a page
abbrev pub is_known : PageCopy → Bool
is_known row = is_some row.seen || is_some row.held || is_some row.tag || nat_lt 0 row.version

-- the copies of these pages are dropped
pub record Dropped (old : List PageCopy) (pages : List Bool) (new : List PageCopy) : Type 0 where
  pub count : length new ≡ length old
  pub seen : (page : ℕ) → (row_at new page).seen ≡ (row_at old page).seen
  pub held : (page : ℕ) → (row_at new page).held
      ≡ (if has pages page then None else (row_at old page).held)
  pub version : (page : ℕ) → (row_at new page).version ≡ (row_at old page).version
  pub tag : (page : ℕ) → (row_at new page).tag ≡ (row_at old page).tag

-- the copies of these pages have that version
pub record Written (old : List PageCopy) (pages : List Bool) (number : ℕ) (new : List PageCopy)
    : Type 0 where
  pub count : length new ≡ length old
  pub seen : (page : ℕ) → (row_at new page).seen ≡ (row_at old page).seen
  pub held : (page : ℕ) → (row_at new page).held ≡ (row_at old page).held
  pub version : (page : ℕ) → (row_at new page).version
      ≡ (if has pages page then number else (row_at old page).version)
  pub tag : (page : ℕ) → (row_at new page).tag ≡ (row_at old page).tag
