-- A page store as its callers see it.
use Rattle.std.specs.Prelude.{◌≡◌, ℕ, ◌≤◌, List, [], length, replicate, slice_index_or}
use Rattle.std.specs.List.{All}
use Rattle.cb_page.specs.Bounds.{Bounds}
use Rattle.cb_page.specs.Numbers.{max_number}
use Rattle.cb_commit.specs.declared.store.StoredPage.{StoredPage}

-- The pages in the order of their numbers, the size of each, and the number of the last commit in
-- the store.
pub record StoreState : Type 0 where
  pub page_size : ℕ
  pub pages : List StoredPage
  pub number : ℕ

-- A page has the store's size, and no version above the last commit's number (this project's rule).
pub record IsStored (page_size number : ℕ) (page : StoredPage) : Type 0 where
  pub size : length page.bytes ≡ page_size
  pub version : page.version ≤ number

-- There are no more pages than a store can have, every page is so, and the number is one that a
-- commit can have, or 0.
pub record IsSound (s : StoreState) : Type 0 where
  pub count : length s.pages ≤ 4096
  pub pages : All (IsStored s.page_size s.number) s.pages
  pub number : s.number ≤ max_number

-- A store of these limits: their count of pages, of their size.
pub record IsOf (limits : Bounds) (s : StoreState) : Type 0 where
  pub count : length s.pages ≡ limits.pages
  pub page_size : s.page_size ≡ limits.page_size

-- a page before any commit
abbrev pub zero_page : ℕ → StoredPage
zero_page page_size = record { version = 0; bytes = replicate page_size 0 }

-- the store of zeros, before any commit
abbrev pub zeros : Bounds → StoreState
zeros limits = record {
  page_size = limits.page_size;
  pages = replicate limits.pages (zero_page limits.page_size);
  number = 0;
}

-- what stands for a page that there isn't
abbrev pub no_page : StoredPage
no_page = record { version = 0; bytes = [] }

-- the version of a page; 0 where there is no such page
abbrev pub version_at : StoreState → ℕ → ℕ
version_at s page = (slice_index_or s.pages page no_page).version

-- the bytes of a page; none where there is no such page
abbrev pub bytes_at : StoreState → ℕ → List ℕ
bytes_at s page = (slice_index_or s.pages page no_page).bytes
