-- A pool of pages, as its callers see it.
use Rattle.std.specs.Prelude.{◌≡◌, ◌≢◌, ℕ, ◌<◌, ◌≤◌, nat_lt, ◌⊎◌, Bool, true, false, List, [], ◌∷◌}
use Rattle.std.specs.Prelude.{length, ◌++◌, if◌then◌else◌}
use Rattle.std.specs.Prelude.{slice_set, slice_index_or, replicate, count_by, Option, Some, None}
use Rattle.std.specs.Option.{is_some}
use Rattle.cb_page.specs.Flags as flags
use Rattle.cb_twoq.specs.Calls.{Calls}
use Rattle.cb_twoq.specs.declared.chooser.ChooserCall.TheVariants.{Reference, Forget}

-- How many pages it has slots for, which pages are fixed, the bytes of each page that is here, and
-- the calls that its chooser had.
pub record PoolState : Type 0 where
  pub slots : ℕ
  pub page_size : ℕ
  pub fixed : List Bool
  pub pages : List (Option (List ℕ))
  pub calls : Calls

-- a pool with nothing in it
abbrev pub empty_pool : ℕ → ℕ → ℕ → PoolState
empty_pool slots pages size = record {
  slots = slots;
  page_size = size;
  fixed = replicate pages false;
  pages = replicate pages None;
  calls = [];
}

-- the bytes of a page, if it is here
abbrev pub copy_of : PoolState → ℕ → Option (List ℕ)
copy_of pool page = slice_index_or pool.pages page None

-- the calls of its chooser, with a reference to a page, or its removal, as the last one
abbrev pub with_reference : PoolState → ℕ → Calls
with_reference pool page = pool.calls ++ (Reference page, pool.fixed) ∷ []

abbrev pub with_removal : PoolState → ℕ → Calls
with_removal pool page = pool.calls ++ (Forget page, pool.fixed) ∷ []

-- the pool once a page was referred to, if it is here
abbrev pub referred : PoolState → ℕ → PoolState
referred pool page = record pool {
  calls = if is_some (copy_of pool page) then with_reference pool page else pool.calls;
}

-- how many pages are here
abbrev pub held : List (Option (List ℕ)) → ℕ
held pages = count_by is_some pages

-- fewer pages are here than there are slots
abbrev pub has_free_slot : PoolState → Bool
has_free_slot pool = nat_lt (held pool.pages) pool.slots

-- a page here isn't fixed
abbrev pub HasLoose : List (Option (List ℕ)) → List Bool → Type 0
HasLoose pages fixed =
    (page : ℕ) × (is_some (slice_index_or pages page None) ≡ true) × (flags.has fixed page ≡ false)

-- a slot is free, or a page here isn't fixed
abbrev pub HasRoom : PoolState → Type 0
HasRoom pool = (held pool.pages < pool.slots) ⊎ HasLoose pool.pages pool.fixed

-- the pages once a page is let go
abbrev pub let_go : Option ℕ → List (Option (List ℕ)) → List (Option (List ℕ))
let_go None pages = pages
let_go (Some gone) pages = slice_set pages gone None

-- what may be let go for a page: none where that page is here or a slot is free, else a page that
-- is here and isn't fixed
abbrev pub MayGo : PoolState → ℕ → Option ℕ → Type 0
MayGo pool page None =
    (is_some (copy_of pool page) ≡ true) ⊎ (held pool.pages < pool.slots)
MayGo pool page (Some gone) =
    (is_some (copy_of pool page) ≡ false) × (pool.slots ≤ held pool.pages)
    × (is_some (copy_of pool gone) ≡ true) × (flags.has pool.fixed gone ≡ false) × (gone ≢ page)

-- no page is here but those of the set
abbrev pub HasNoneBut : List (Option (List ℕ)) → List Bool → Type 0
HasNoneBut pages set = (page : ℕ)
    → flags.has set page ≡ false → slice_index_or pages page None ≡ None

-- each page here has the size
abbrev pub AreSized : ℕ → List (Option (List ℕ)) → Type 0
AreSized size pages = (page : ℕ) (bytes : List ℕ)
    → slice_index_or pages page None ≡ Some bytes → length bytes ≡ size

-- What holds of every pool: no more pages are here than there are slots, each page may be fixed,
-- and each has the size.
pub record IsPool (pool : PoolState) : Type 0 where
  pub within : held pool.pages ≤ pool.slots
  pub flags : length pool.fixed ≡ length pool.pages
  pub sized : AreSized pool.page_size pool.pages
