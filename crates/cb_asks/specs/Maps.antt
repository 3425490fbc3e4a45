-- The maps that queues have while somebody waits.
use Rattle.std.specs.Prelude.{◌≡◌, ◌<◌, ◌+◌, ℕ, List, [], Option, Some, None, ⊤, length}
use Rattle.std.specs.Prelude.{not, nat_lt, slice_index_or}
use Rattle.std.specs.Global.{Box}
use Rattle.indexmap.specs.IndexMap.{IndexMap, spare}
use Rattle.cb_protocol.specs.Server.{WaitingAsk}
use Rattle.cb_protocol.specs.ServerMessages.{is_empty}
use Rattle.cb_asks.specs.Entries.{asks_of}
use Rattle.cb_asks.specs.Queues.{QueueState, no_queue}
use Rattle.cb_asks.specs.Sums.{one_if, sum_below}
use Rattle.cb_asks.specs.declared.queue.Entry.{Entry}

module _ {S : Type 0} where
  -- the asks that a queue's map has, in order of arrival; none without a map
  abbrev pub asks_in : Option (Box (IndexMap ℕ Entry S)) → List WaitingAsk
  asks_in None = []
  asks_in (Some map) = asks_of map.value.entries

  -- whether there is room for one more: a spare map has it
  abbrev pub room_in : Option (Box (IndexMap ℕ Entry S)) → ℕ
  room_in None = 1
  room_in (Some map) = one_if (nat_lt 0 (spare map.value))

  -- a queue has a map only while somebody waits
  abbrev pub IsKept : Option (Box (IndexMap ℕ Entry S)) → Type 0
  IsKept None = ⊤
  IsKept (Some map) = 0 < length map.value.entries

  -- one more ask goes into a map without memory
  abbrev pub HasRoom : Box (IndexMap ℕ Entry S) → Type 0
  HasRoom map = 0 < spare map.value

  -- a spare map is empty, and has room for an ask
  pub record IsReady (map : Box (IndexMap ℕ Entry S)) : Type 0 where
    pub empty : map.value.entries ≡ []
    pub room : HasRoom map

-- how many maps a queue with these asks has
abbrev pub used : List WaitingAsk → ℕ
used asks = one_if (not (is_empty asks))

-- how many the queues of the first pages have
abbrev pub used_below : List QueueState → (end : ℕ) → ℕ
used_below queues end = sum_below (λ page. used (slice_index_or queues page no_queue).asks) end

-- so many maps are spare that there are as many as clients
abbrev pub HasMaps : List QueueState → (spare_maps : ℕ) → Type 0
HasMaps queues spare_maps = used_below queues (length queues) + spare_maps ≡ 32
