-- Batches: the pages that commits changed since the last flush, as they are now.
use Rattle.std.specs.Prelude.{ℕ, ◌≤◌, nat_lt, zero, suc, if◌then◌else◌, List, [], ◌∷◌, ◌++◌, map}
use Rattle.std.specs.Prelude.{slice_set, slice_index_or}
use Rattle.std.specs.List.{All}
use Rattle.cb_page.specs.Rising.{IsRising}
use Rattle.cb_commit.specs.declared.store.StoredPage.{StoredPage}
use Rattle.cb_commit.specs.declared.batch.BatchPage.{BatchPage}
use Rattle.cb_commit.specs.Stores.{StoreState, no_page}

-- The number of the last commit in it, and pages as they are to be written.
pub record BatchState : Type 0 where
  pub number : ℕ
  pub pages : List BatchPage

abbrev pub place_of : BatchPage → ℕ
place_of b = b.page

-- The pages rise, and no version is above the number (this project's rule).
pub record IsBatch (b : BatchState) : Type 0 where
  pub rising : IsRising (map place_of b.pages)
  pub versions : All (λ x. x.version ≤ b.number) b.pages

-- a page of a store, to be written
abbrev pub taken : List StoredPage → ℕ → BatchPage
taken pages page = let stored = slice_index_or pages page no_page in
    record { page = page; version = stored.version; bytes = stored.bytes }

-- of the pages below a number, those whose last commit is after the flushed one; rising
abbrev pub changed_below : ℕ → List StoredPage → ℕ → List BatchPage
changed_below flushed pages zero = []
changed_below flushed pages (suc page) = changed_below flushed pages page
    ++ (if nat_lt flushed (slice_index_or pages page no_page).version
    then taken pages page ∷ [] else [])

-- the pages with those of a batch written over them
abbrev pub overwritten : List StoredPage → List BatchPage → List StoredPage
overwritten pages [] = pages
overwritten pages (next ∷ rest) =
    overwritten
    (slice_set pages next.page (record { version = next.version; bytes = next.bytes })) rest

-- a store with a batch written over it
abbrev pub after_batch : StoreState → BatchState → StoreState
after_batch s b = record s { pages = overwritten s.pages b.pages; number = b.number }
