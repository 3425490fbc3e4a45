-- A set of pages as bits of words.
use Rattle.std.specs.Prelude.{◌≡◌, ◌↔◌, ℕ, ◌≤◌, ◌==◌, ◌/◌, ◌%◌, Bool}
use Rattle.std.specs.Prelude.{List, length, map, slice_index_or}
use Rattle.std.specs.Int.{bit_at}
use Rattle.std.specs.List.{range_with_len}

-- whether the bit of a page is 1
unfoldable pub flag_at : List ℕ → ℕ → Bool
flag_at words page = bit_at (slice_index_or words (page / 64) 0) (page % 64) == 1

-- the flags of the pages below a number
unfoldable pub flags_of : List ℕ → ℕ → List Bool
flags_of words pages = map (flag_at words) (range_with_len 0 pages)

-- the summary of at most 64 words: bit `at` is 0 exactly where word `at` is 0, or isn't there
pub record Summarizes (filled : ℕ) (words : List ℕ) : Type 0 where
  pub at_most : length words ≤ 64
  pub bits : (at : ℕ) → (bit_at filled at ≡ 0) ↔ (slice_index_or words at 0 ≡ 0)
