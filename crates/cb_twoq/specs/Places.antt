-- Which list of pages in slots has a page, for each page.
use Rattle.std.specs.Prelude.{◌≡◌, ◌≢◌, ℕ, Bool, List, length, slice_index_or, Option, Some}
use Rattle.std.specs.Prelude.{if◌then◌else◌}
use Rattle.cb_twoq.specs.Pages.{has}
use Rattle.cb_twoq.specs.Queues.{TwoQState}
pub use Rattle.cb_twoq.specs.declared.twoq.places.Place.{Place}
pub use Rattle.cb_twoq.specs.declared.twoq.places.Place.TheVariants.{Out, A1in, Am}

-- the list of pages in slots that has the page
abbrev pub place_in : TwoQState → ℕ → Place
place_in queues page =
    if has queues.am page then Am else if has queues.a1in page then A1in else Out

-- a place for each page there can be, which is that of the list that has it
pub record ArePlaces (places : List Place) (queues : TwoQState) : Type 0 where
  pub count : length places ≡ 4096
  pub each : (page : ℕ) → slice_index_or places page Out ≡ place_in queues page

-- the page has that place, and all others have theirs
pub record IsPut (old : List Place) (page : ℕ) (place : Place) (new : List Place) : Type 0 where
  pub own : slice_index_or new page Out ≡ place
  pub others : (other : ℕ) → other ≢ page
      → slice_index_or new other Out ≡ slice_index_or old other Out
  pub count : length new ≡ length old

-- the page is on Am if it was remembered, else on A1in; the page that went is in no slot
pub record ComesIn (old : List Place) (page : ℕ) (was_remembered : Bool) (gone : Option ℕ)
    (new : List Place) : Type 0 where
  pub own : slice_index_or new page Out ≡ (if was_remembered then Am else A1in)
  pub went : (other : ℕ) → gone ≡ Some other → other ≢ page → slice_index_or new other Out ≡ Out
  pub others : (other : ℕ) → gone ≢ Some other → other ≢ page
      → slice_index_or new other Out ≡ slice_index_or old other Out
  pub count : length new ≡ length old
