-- A list whose first items may be forgotten.
use Rattle.std.specs.Prelude.{ℕ, ◌-◌, List, ◌++◌, drop, length, map}

-- all items that there ever were, how many of them, from the first on, were forgotten, and room
pub record PastState (T : Type 0) : Type 0 where
  pub items : List T
  pub forgotten : ℕ
  pub room : ℕ

-- those that weren't forgotten
abbrev pub remembered : {T : Type 0} → PastState T → List T
remembered past = drop past.forgotten past.items

-- an item of the list that proofs have
abbrev pub logged : {T : Type 0} → T × Unit {0} → T
logged entry = entry.0

-- The items: those that were forgotten, of which proofs alone have a list, then those in memory,
-- behind the places of items that were forgotten.
abbrev pub past_in : {T : Type 0} → List (T × Unit {0}) → (places : List T) → (vacant capacity : ℕ)
    → PastState T
past_in forgotten places vacant capacity = record {
  items = map logged forgotten ++ drop vacant places;
  forgotten = length forgotten;
  room = capacity - length places;
}
