-- The pages whose last commit isn't on disk, as flags.
use Rattle.std.specs.Prelude.{◌≡◌, ℕ, nat_lt, Bool, true, List, [], ◌∷◌, length, slice_set}
use Rattle.std.specs.Prelude.{slice_index_or}
use Rattle.cb_frame.specs.declared.writes.Write.{Write}
use Rattle.cb_page.specs.Flags.{has}
use Rattle.cb_commit.specs.declared.store.StoredPage.{StoredPage}
use Rattle.cb_commit.specs.Stores.{no_page}

-- A flag for each page: its last commit comes after the flushed one.
pub record AreChanged (flushed : ℕ) (pages : List StoredPage) (changed : List Bool) : Type 0 where
  pub size : length changed ≡ length pages
  pub flags : (page : ℕ)
      → has changed page ≡ nat_lt flushed (slice_index_or pages page no_page).version

-- the flags with those of a commit's pages set
abbrev pub marked : List Bool → List Write → List Bool
marked flags [] = flags
marked flags (w ∷ ws) = marked (slice_set flags w.page true) ws
