-- A set of pages as one flag for each page of the store.
use Rattle.std.specs.Prelude.{ℕ, Bool, false, List, slice_index_or}

-- whether a page is in the set; no page past the end is
abbrev pub has : List Bool → ℕ → Bool
has flags page = slice_index_or flags page false
