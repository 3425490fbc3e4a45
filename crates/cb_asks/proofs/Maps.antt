-- The maps of queues, and how many are spare.
use Rattle.std.proofs.Common.{◌≡◌, ℕ, ◌+◌, ◌<◌, ◌≤◌, Bool, true, false, ◌==◌, if◌then◌else◌, List, [], ◌∷◌, length, Option, Some, None, nat_eq, nat_lt, zero, suc, refl, sym, subst, ◌∙◌, ap, arith, slice_get, slice_index_or, slice_set}
use Rattle.std.proofs.lemmas.List.{get_or-set_same, get_or-set_other, length-set}
use Rattle.std.specs.Global.{Box}
use Rattle.std.specs.Map.{values_of}
use Rattle.std.specs.Option.{is_some}
use Rattle.indexmap.specs.IndexMap.{IndexMap, insert_entry, set_value_at, spare}
use Rattle.cb_page.specs.Clients.{has}
use Rattle.cb_protocol.specs.Server.{WaitingAsk, set_called_back, set_downgrade_sent}
use Rattle.cb_asks.specs.Asks.{AsksState, IsAsks, queue_at}
use Rattle.cb_asks.specs.Entries.{asks_of}
use Rattle.cb_asks.specs.Maps.{HasMaps, HasRoom, asks_in, room_in, used, used_below}
use Rattle.cb_asks.specs.Places.{place_of}
use Rattle.cb_asks.specs.Queues.{QueueState, no_queue}
use Rattle.cb_asks.specs.Sums.{one_if}
use Rattle.cb_asks.specs.declared.queue.Entry.{Entry}
use Rattle.cb_asks.proofs.Calls.{sum_has}
use Rattle.cb_asks.proofs.Entries.{length_asks}
use Rattle.cb_asks.proofs.Sums.{sum_at_most, sum_changed, sum_none, sum_ones_but}

module _ {S : Type 0} where
  -- the asks of a map that was read
  pub asks_read : (queue : Option (Box (IndexMap ℕ Entry S))) (box : Box (IndexMap ℕ Entry S)) (map : IndexMap ℕ Entry S) → queue ≡ Some box → map ≡ box.value → asks_of map.entries ≡ asks_in queue
  asks_read queue box map is read = ap (λ (m : IndexMap ℕ Entry S). asks_of m.entries) read ∙ ap asks_in (sym is)

  -- a map with room shows it
  pub room_some : (map : Box (IndexMap ℕ Entry S)) → 0 < room_in (Some map) → HasRoom map
  room_some map less = by (spare map.value) less
    where
      by : (room : ℕ) → 0 < one_if (nat_lt 0 room) → 0 < room
      by zero less = absurd (omega arith)
      by (suc room) less = omega arith

  -- room is told as one or none
  pub room_most : (queue : Option (Box (IndexMap ℕ Entry S))) → room_in queue ≤ 1
  room_most None = omega arith
  room_most (Some map) = by (nat_lt 0 (spare map.value))
    where
      by : (b : Bool) → one_if b ≤ 1
      by true = omega arith
      by false = omega arith

-- with entries somebody waits
pub used_some : (entries : List (ℕ × Entry)) → 0 < length entries → used (asks_of entries) ≡ 1
used_some [] less = absurd (omega arith)
used_some (first ∷ entries) less = refl

-- an entry that was read stays when it is changed, and one that enters is there
pub some_left : (entries : List (ℕ × Entry)) (entry value : Entry) → Some entry ≡ slice_get (values_of entries) 0 → 0 < length (set_value_at entries 0 value)
some_left [] entry value e = absurd (none_some e)
  where
    none_some : ◌≡◌ {A = Option Entry} (Some entry) None → ⊥
    none_some e = grind arith
some_left (first ∷ entries) entry value e = omega arith

pub some_entered : (entries : List (ℕ × Entry)) (key : ℕ) (entry : Entry) → 0 < length (insert_entry nat_eq entries key entry)
some_entered [] key entry = omega arith
some_entered (first ∷ entries) key entry = by (nat_eq key first.0)
  where
    by : (b : Bool) → 0 < length (if b then (first.0, entry) ∷ entries else first ∷ insert_entry nat_eq entries key entry)
    by true = omega arith
    by false = omega arith

-- of more than one entry some are left where one goes
pub more_left : (entries after : List (ℕ × Entry)) (is_gone : Bool) → 0 < length entries → (length (asks_of entries) == 1) ≡ false → length after + (if is_gone then 1 else 0) ≡ length entries → 0 < length after
more_left entries after true some more less = let same = length_asks entries in grind arith
more_left entries after false some more less = omega arith

-- one ask, or more
pub used_one : (asks : List WaitingAsk) → (length asks == 1) ≡ true → used asks ≡ 1
used_one [] one = grind arith
used_one (first ∷ asks) one = refl

pub used_most : (asks : List WaitingAsk) → used asks ≤ length asks
used_most [] = omega arith
used_most (first ∷ asks) = omega arith

-- a note on the first ask
pub used_called : (asks : List WaitingAsk) → used (set_called_back asks) ≡ used asks
used_called [] = refl
used_called (first ∷ asks) = refl

pub used_sent : (tag : ℕ) (asks : List WaitingAsk) → used (set_downgrade_sent tag asks) ≡ used asks
used_sent tag [] = refl
used_sent tag (first ∷ asks) = refl

-- new queues have no maps
pub none_used : (queues : List QueueState) (spare_maps : ℕ) → ((page : ℕ) → (slice_index_or queues page no_queue).asks ≡ []) → spare_maps ≡ 32 → HasMaps queues spare_maps
none_used queues spare_maps empty all = let none = sum_none (λ page. used (slice_index_or queues page no_queue).asks) (length queues) (λ page. ap used (empty page)) in omega (arith, none, all)

-- a queue's map is one of them
pub map_here : (queues : List QueueState) (page spare_maps : ℕ) → page < length queues → HasMaps queues spare_maps → used (slice_index_or queues page no_queue).asks + spare_maps ≤ 32
map_here queues page spare_maps within maps = let here = sum_has (λ at. used (slice_index_or queues at no_queue).asks) page (length queues) within in omega (arith, here, maps)

-- one queue changes: what it takes is no more spare
pub maps_kept : (queues : List QueueState) (page : ℕ) → page < length queues → (was queue : QueueState) (before after : ℕ) → was ≡ slice_index_or queues page no_queue → HasMaps queues before
    → used queue.asks + after ≡ used was.asks + before → (at : ℕ) → at ≡ page → HasMaps (slice_set queues at queue) after
maps_kept queues page within was queue before after read maps moved at e = subst (λ (n : ℕ). HasMaps (slice_set queues n queue) after) (sym e)
    (ap (λ (n : ℕ). used_below (slice_set queues page queue) n + after) (length-set queues page queue) ∙ all)
  where
    all : used_below (slice_set queues page queue) (length queues) + after ≡ 32
    all =
        let sums = sum_changed (λ n. used (slice_index_or queues n no_queue).asks) (λ n. used (slice_index_or (slice_set queues page queue) n no_queue).asks) page (length queues) within (λ n ne. ap (λ (q : QueueState). used q.asks) (get_or-set_other queues page n queue no_queue ne)) in
        let here = ap (λ (q : QueueState). used q.asks) (get_or-set_same queues page queue no_queue within) in
        let there = ap (λ (q : QueueState). used q.asks) read in
        omega (arith, sums, here, there, maps, moved)

-- whoever waits nowhere finds one that is spare
pub one_spare : (state : AsksState) (spare_maps client : ℕ) → IsAsks state → HasMaps state.queues spare_maps → client < 32 → place_of state.places client ≡ None → 0 < spare_maps
one_spare state spare_maps client is maps known none =
    let most = sum_at_most (λ page. used (queue_at state page)) (λ page. length (queue_at state page)) (length state.queues) (λ page. used_most (queue_at state page)) in
    let fewer = sum_ones_but (λ other. has state.places.waiting other) client 32 known (is.waiting client ∙ ap is_some none) in
    omega (arith, most, fewer, is.sizes, maps)
