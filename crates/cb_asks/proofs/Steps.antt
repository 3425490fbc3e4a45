-- One step keeps what the places say of the queues.
use Rattle.std.proofs.Common.{◌≡◌, ◌≢◌, ℕ, ◌+◌, ◌<◌, ◌≤◌, Bool, true, false, ◌==◌, if◌then◌else◌, ◌⊎◌, List, [], ◌∷◌, length, Option, Some, None, zero, suc, refl, sym, ◌∙◌, ap, arith, inl, inr, ◌&&◌, not, slice_index_or, slice_set, IfSome, MatchOption}
use Rattle.std.proofs.lemmas.Bool.{cases_eq, cases_lt}
use Rattle.std.proofs.lemmas.List.{get_or_past, get_or-set_same, get_or-set_other, length-set}
use Rattle.std.specs.Option.{is_some}
use Rattle.cb_page.specs.Clients.{has}
use Rattle.cb_protocol.specs.Basics.{is_exactly, update}
use Rattle.cb_protocol.specs.Deadlock.{OneAsk, ask_count}
use Rattle.cb_protocol.specs.Server.{Server, WaitingAsk, has_ask}
use Rattle.cb_protocol.specs.ServerMessages.{has_waiting_ask, read_asks_below, read_asks_in}
use Rattle.cb_asks.specs.Asks.{AsksState, asks_below, HasPage, HasQueues, IsAsks, queue_at, room_at}
use Rattle.cb_asks.specs.Places.{IsUpTo, PlacesState, Puts, place_of}
use Rattle.cb_asks.specs.Queues.{QueueState, no_queue}
use Rattle.cb_asks.specs.Sums.{one_if, sum_below}
use Rattle.cb_asks.proofs.Queues.{counted_asks, reads_in_length}
use Rattle.cb_asks.proofs.Sums.{sum_at_most, sum_changed, sum_ones}

-- few asks to read wait
pub few_reads : (state : AsksState) → IsAsks state → state.places.reads ≤ 32
few_reads state is =
    let reads = sum_at_most (λ page. read_asks_in (queue_at state page)) (λ page. length (queue_at state page)) (length state.queues) (λ page. reads_in_length (queue_at state page)) in
    let most = sum_ones (λ client. has state.places.waiting client) 32 in
    omega (arith, is.reads, is.sizes)

-- a page past the end has no asks
pub past_end : (state : AsksState) (page : ℕ) → length state.queues ≤ page → queue_at state page ≡ []
past_end state page past = ap (λ (queue : QueueState). queue.asks) (get_or_past {X = QueueState} state.queues page no_queue past)

-- tests of numbers
pub same_is : (number : ℕ) → (number == number) ≡ true
same_is number = grind arith

pub apart_is : (one other : ℕ) → one ≢ other → (one == other) ≡ false
apart_is one other ne = grind arith

pub is_same : (one other : ℕ) → (one == other) ≡ true → one ≡ other
is_same one other e = grind arith

pub put_same : {A : Type 0} (entries : ℕ → A) (place : ℕ) (value : A) → update entries place value place ≡ value
put_same entries place value = ap (λ b. if b then value else entries place) (same_is place)

pub put_other : {A : Type 0} (entries : ℕ → A) (place : ℕ) (value : A) (at : ℕ) → at ≢ place → update entries place value at ≡ entries at
put_other entries place value at ne = ap (λ b. if b then value else entries at) (apart_is at place ne)

-- a client's place has its ask
pub counted_there : (state : AsksState) → IsAsks state → (client page : ℕ) → place_of state.places client ≡ Some page → ask_count client (queue_at state page) ≡ 1
counted_there state is client page e = is.counts client page ∙ ap (λ p. one_if (is_exactly p page)) e ∙ ap one_if (same_is page)

pub asked_there : (state : AsksState) → IsAsks state → (client page : ℕ) → place_of state.places client ≡ Some page → queue_at state page ≢ []
asked_there state is client page e none = let one = sym (counted_there state is client page e) ∙ ap (ask_count client) none in absurd (omega arith)

-- and is a page that there is
pub place_within : (state : AsksState) → IsAsks state → (client page : ℕ) → place_of state.places client ≡ Some page → HasPage state page
place_within state is client page e = elim (cases_lt page (length state.queues)) [
  | inl within ↦ within
  | inr past ↦ absurd (asked_there state is client page e (past_end state page past))
]

-- a queue changes, and with it one client's place
pub record Changed (before : AsksState) (page client : ℕ) (queue : List WaitingAsk) (place : Option ℕ) (after : AsksState) : Type 0 where
  pub queues : (other : ℕ) → queue_at after other ≡ update (queue_at before) page queue other
  pub pages : length after.queues ≡ length before.queues
  pub puts : Puts before.places client place after.places
  pub counts : (other : ℕ) → ask_count other queue ≡ (if other == client then one_if (is_some place) else ask_count other (queue_at before page))
  -- the client's place was this page or none, and is this page or none
  pub here : (other : ℕ) → is_exactly place other ≡ (if other == page then is_some place else false)
  pub was : (other : ℕ) → other ≢ page → is_exactly (place_of before.places client) other ≡ false
  pub reads : after.places.reads + read_asks_in (queue_at before page) ≡ before.places.reads + read_asks_in queue
  pub sizes : length queue + one_if (is_some (place_of before.places client)) ≡ length (queue_at before page) + one_if (is_some place)

module _ (before after : AsksState) (page client : ℕ) (queue : List WaitingAsk) (place : Option ℕ)
    (is : IsAsks before) (within : HasPage before page) (known : client < 32) (c : Changed before page client queue place after) where
  now_there : queue_at after page ≡ queue
  now_there = c.queues page ∙ put_same (queue_at before) page queue

  apart : (other : ℕ) → other ≢ page → queue_at after other ≡ queue_at before other
  apart other ne = c.queues other ∙ put_other (queue_at before) page queue other ne

  own_place : place_of after.places client ≡ place
  own_place = c.puts.at client ∙ put_same (place_of before.places) client place

  other_place : (other : ℕ) → other ≢ client → place_of after.places other ≡ place_of before.places other
  other_place other ne = c.puts.at other ∙ put_other (place_of before.places) client place other ne

  own_here : ask_count client (queue_at after page) ≡ one_if (is_exactly (place_of after.places client) page)
  own_here =
      ap (ask_count client) now_there ∙ c.counts client ∙ ap (λ b. if b then one_if (is_some place) else ask_count client (queue_at before page)) (same_is client)
      ∙ sym (ap (λ p. one_if (is_exactly p page)) own_place ∙ ap one_if (c.here page ∙ ap (λ b. if b then is_some place else false) (same_is page)))

  own_elsewhere : (at : ℕ) → at ≢ page → ask_count client (queue_at after at) ≡ one_if (is_exactly (place_of after.places client) at)
  own_elsewhere at ne =
      ap (ask_count client) (apart at ne) ∙ is.counts client at ∙ ap one_if (c.was at ne)
      ∙ sym (ap (λ p. one_if (is_exactly p at)) own_place ∙ ap one_if (c.here at ∙ ap (λ b. if b then is_some place else false) (apart_is at page ne)))

  other_here : (other : ℕ) → other ≢ client → ask_count other (queue_at after page) ≡ one_if (is_exactly (place_of after.places other) page)
  other_here other ne =
      ap (ask_count other) now_there ∙ c.counts other ∙ ap (λ b. if b then one_if (is_some place) else ask_count other (queue_at before page)) (apart_is other client ne)
      ∙ is.counts other page ∙ sym (ap (λ p. one_if (is_exactly p page)) (other_place other ne))

  other_elsewhere : (other at : ℕ) → other ≢ client → at ≢ page → ask_count other (queue_at after at) ≡ one_if (is_exactly (place_of after.places other) at)
  other_elsewhere other at ne elsewhere = ap (ask_count other) (apart at elsewhere) ∙ is.counts other at ∙ sym (ap (λ p. one_if (is_exactly p at)) (other_place other ne))

  counts_after : (other at : ℕ) → ask_count other (queue_at after at) ≡ one_if (is_exactly (place_of after.places other) at)
  counts_after other at = by (cases_eq other client) (cases_eq at page)
    where
      by : (other ≡ client) ⊎ (other ≢ client) → (at ≡ page) ⊎ (at ≢ page) → ask_count other (queue_at after at) ≡ one_if (is_exactly (place_of after.places other) at)
      by (inl own) (inl here) = rw (own, here) own_here
      by (inl own) (inr elsewhere) = rw own (own_elsewhere at elsewhere)
      by (inr differs) (inl here) = rw here (other_here other differs)
      by (inr differs) (inr elsewhere) = other_elsewhere other at differs elsewhere

  reads_after : after.places.reads ≡ sum_below (λ at. read_asks_in (queue_at after at)) (length before.queues)
  reads_after =
      let sums = sum_changed (λ at. read_asks_in (queue_at before at)) (λ at. read_asks_in (queue_at after at)) page (length before.queues) within (λ at ne. ap read_asks_in (apart at ne)) in
      let here = ap read_asks_in now_there in
      let change = c.reads in
      let was = is.reads in
      omega arith

  bit_after : (other : ℕ) → other ≢ client → one_if (has after.places.waiting other) ≡ one_if (has before.places.waiting other)
  bit_after other ne = ap one_if (c.puts.waiting other ∙ put_other (has before.places.waiting) client (is_some place) other ne)

  own_bit : has after.places.waiting client ≡ is_some place
  own_bit = c.puts.waiting client ∙ put_same (has before.places.waiting) client (is_some place)

  sizes_after : sum_below (λ at. length (queue_at after at)) (length before.queues) ≡ sum_below (λ other. one_if (has after.places.waiting other)) 32
  sizes_after =
      let sums = sum_changed (λ at. length (queue_at before at)) (λ at. length (queue_at after at)) page (length before.queues) within (λ at ne. ap length (apart at ne)) in
      let bits = sum_changed (λ other. one_if (has before.places.waiting other)) (λ other. one_if (has after.places.waiting other)) client 32 known bit_after in
      let was : one_if (has before.places.waiting client) ≡ one_if (is_some (place_of before.places client)) = ap one_if (is.waiting client) in
      let now : one_if (has after.places.waiting client) ≡ one_if (is_some place) = ap one_if own_bit in
      let here = ap length now_there in
      let change = c.sizes in
      let all = is.sizes in
      omega arith

  waiting_after : (other : ℕ) → has after.places.waiting other ≡ is_some (place_of after.places other)
  waiting_after other = by (cases_eq other client)
    where
      by : (other ≡ client) ⊎ (other ≢ client) → has after.places.waiting other ≡ is_some (place_of after.places other)
      by (inl own) = rw own (own_bit ∙ sym (ap is_some own_place))
      by (inr differs) = c.puts.waiting other ∙ put_other (has before.places.waiting) client (is_some place) other differs ∙ is.waiting other ∙ sym (ap is_some (other_place other differs))

  pub changed_is : IsAsks after
  changed_is = record {
    pages = let most = is.pages in let same = c.pages in omega arith;
    clients = c.puts.clients ∙ is.clients;
    counts = counts_after;
    waiting = waiting_after;
    reads = rw c.pages reads_after;
    sizes = rw c.pages sizes_after;
  }

-- a client is found in a queue where it is counted
pub has_where : (state : AsksState) → IsAsks state → (client page : ℕ) → has_ask client (queue_at state page) ≡ is_exactly (place_of state.places client) page
has_where state is client page = by (has_ask client (queue_at state page)) (is_exactly (place_of state.places client) page) (same (is_exactly (place_of state.places client) page) (is.counts client page))
  where
    same : (b : Bool) → ask_count client (queue_at state page) ≡ one_if b → one_if (has_ask client (queue_at state page)) ≡ one_if b
    same true e = counted_asks client (queue_at state page) (omega arith) ∙ e
    same false e = counted_asks client (queue_at state page) (omega arith) ∙ e

    by : (a b : Bool) → one_if a ≡ one_if b → a ≡ b
    by true true e = refl
    by false false e = refl
    by true false e = absurd (omega arith)
    by false true e = absurd (omega arith)

-- a client has at most one ask
pub one_ask : (state : AsksState) → IsAsks state → OneAsk (queue_at state)
one_ask state is = record {
  here = λ page client. at_most (is_exactly (place_of state.places client) page) (is.counts client page);
  apart = λ page other client ne. both page other client ne (place_of state.places client) (is.counts client page) (is.counts client other);
}
  where
    at_most : {count : ℕ} → (b : Bool) → count ≡ one_if b → count ≤ 1
    at_most true e = omega arith
    at_most false e = omega arith

    both : (page other client : ℕ) → page ≢ other → (place : Option ℕ) → ask_count client (queue_at state page) ≡ one_if (is_exactly place page) → ask_count client (queue_at state other) ≡ one_if (is_exactly place other)
        → ask_count client (queue_at state page) + ask_count client (queue_at state other) ≤ 1
    both page other client ne None e f = omega arith
    both page other client ne (Some at) e f = go (at == page) (at == other) refl refl e f
      where
        go : (a b : Bool) → (at == page) ≡ a → (at == other) ≡ b → ask_count client (queue_at state page) ≡ one_if a → ask_count client (queue_at state other) ≡ one_if b
            → ask_count client (queue_at state page) + ask_count client (queue_at state other) ≤ 1
        go true true p q e f = absurd (ne (sym (is_same at page p) ∙ is_same at other q))
        go true false p q e f = omega arith
        go false b p q e f = few b f
          where
            few : (b : Bool) → ask_count client (queue_at state other) ≡ one_if b → ask_count client (queue_at state page) + ask_count client (queue_at state other) ≤ 1
            few true f = omega arith
            few false f = omega arith

-- the protocol's server with these queues
module _ (server : Server) (state : AsksState) (h : HasQueues server state) where
  pub asks_summed : (end : ℕ) → asks_below server end ≡ sum_below (λ page. length (queue_at state page)) end
  asks_summed zero = refl
  asks_summed (suc end) = let e = asks_summed end in let f = ap (λ (q : List WaitingAsk). length q) (h.queues end) in omega (arith, e, f)

  pub reads_below : (end : ℕ) → read_asks_below server end ≡ sum_below (λ page. read_asks_in (queue_at state page)) end
  reads_below zero = refl
  reads_below (suc end) = let e = reads_below end in let f = ap read_asks_in (h.queues end) in omega arith

  none_below : (client end : ℕ) → ((page : ℕ) → has_ask client (queue_at state page) ≡ false) → has_waiting_ask server client end ≡ false
  none_below client zero none = refl
  none_below client (suc end) none = grind (arith, none_below client end none, h.queues end, none end)

  some_below : (client page end : ℕ) → page < end → has_ask client (queue_at state page) ≡ true → has_waiting_ask server client end ≡ true
  some_below client page zero within some = absurd (omega arith)
  some_below client page (suc end) within some = elim (cases_eq page end) [
    | inl here ↦ grind (arith, h.queues end)
    | inr before ↦ grind (arith, some_below client page end (omega arith) some)
  ]

  pub waits_below : IsAsks state → (client : ℕ) → has_waiting_ask server client server.pages ≡ is_some (place_of state.places client)
  waits_below is client = by (place_of state.places client) refl
    where
      by : (place : Option ℕ) → place_of state.places client ≡ place → has_waiting_ask server client server.pages ≡ is_some place
      by None e = none_below client server.pages (λ page. has_where state is client page ∙ ap (λ p. is_exactly p page) e)
      by (Some page) e = some_below client page server.pages (omega (arith, h.pages, place_within state is client page e)) (has_where state is client page ∙ ap (λ p. is_exactly p page) e ∙ same_is page)

-- whoever asks for a page waits there
pub waiter : (state : AsksState) → IsAsks state → (page : ℕ) (first : WaitingAsk) (queue : List WaitingAsk) → queue_at state page ≡ first ∷ queue → place_of state.places first.client ≡ Some page
waiter state is page first queue e = by (place_of state.places first.client) refl (ap (ask_count first.client) (sym e) ∙ is.counts first.client page)
  where
    one : ask_count first.client (first ∷ queue) ≡ 1 + ask_count first.client queue
    one = ap (λ b. (if b then 1 else 0) + ask_count first.client queue) (same_is first.client)

    found : (other : ℕ) → place_of state.places first.client ≡ Some other → (b : Bool) → (other == page) ≡ b → ask_count first.client (first ∷ queue) ≡ one_if b → place_of state.places first.client ≡ Some page
    found other at true e count = at ∙ ap Some (is_same other page e)
    found other at false e count = absurd (omega (arith, one))

    by : (place : Option ℕ) → place_of state.places first.client ≡ place → ask_count first.client (first ∷ queue) ≡ one_if (is_exactly (place_of state.places first.client) page) → place_of state.places first.client ≡ Some page
    by None at count = let none = count ∙ ap (λ p. one_if (is_exactly p page)) at in absurd (omega (arith, one))
    by (Some other) at count = found other at (other == page) refl (count ∙ ap (λ p. one_if (is_exactly p page)) at)

pub if_within : (state : AsksState) → IsAsks state → (client : ℕ) (place : Option ℕ) → place ≡ place_of state.places client → IfSome place (HasPage state)
if_within state is client None e = tt
if_within state is client (Some page) e = place_within state is client page (sym e)

-- the least page with an ask, once each client whose ask waits was looked at
pub next_found : (state : AsksState) → IsAsks state → (from : ℕ) (next : Option ℕ)
    → ((client page : ℕ) → has state.places.waiting client ≡ true → place_of state.places client ≡ Some page → from ≤ page → IsUpTo next page)
    → IfSome next (λ page. (from ≤ page) × HasPage state page × (queue_at state page ≢ []))
    → MatchOption next ((page : ℕ) → from ≤ page → queue_at state page ≡ [])
    (λ page. (from ≤ page) × HasPage state page × (queue_at state page ≢ []) × ((other : ℕ) → from ≤ other → other < page → queue_at state other ≡ []))
next_found state is from next least found = by next least found
  where
    empty : (page : ℕ) → (((client : ℕ) → has state.places.waiting client ≡ true → place_of state.places client ≡ Some page → ⊥)) → queue_at state page ≡ []
    empty page none = go (queue_at state page) refl
      where
        go : (queue : List WaitingAsk) → queue_at state page ≡ queue → queue_at state page ≡ []
        go [] e = e
        go (first ∷ queue) e = let at = waiter state is page first queue e in absurd (none first.client (is.waiting first.client ∙ ap is_some at) at)

    by : (next : Option ℕ)
        → ((client page : ℕ) → has state.places.waiting client ≡ true → place_of state.places client ≡ Some page → from ≤ page → IsUpTo next page)
        → IfSome next (λ page. (from ≤ page) × HasPage state page × (queue_at state page ≢ []))
        → MatchOption next ((page : ℕ) → from ≤ page → queue_at state page ≡ [])
        (λ page. (from ≤ page) × HasPage state page × (queue_at state page ≢ []) × ((other : ℕ) → from ≤ other → other < page → queue_at state other ≡ []))
    by None least found = λ page le. empty page (λ client waits at. least client page waits at le)
    by (Some page) least found = (found.0, found.1, found.2, λ other le less. empty other (λ client waits at. let most = least client other waits at le in absurd (omega arith)))

-- a page of which a client's place is
pub if_found : (state : AsksState) → IsAsks state → (from client : ℕ) (place : Option ℕ) → place ≡ place_of state.places client → IfSome place (λ page. from ≤ page)
    → IfSome place (λ page. (from ≤ page) × HasPage state page × (queue_at state page ≢ []))
if_found state is from client None e le = tt
if_found state is from client (Some page) e le = (le, place_within state is client page (sym e), asked_there state is client page (sym e))

-- sets of clients
pub in_difference : (there a b : Bool) → there ≡ (a && not b) → there ≡ true → b ≡ false
in_difference there a b e is = grind arith

pub not_in_difference : (there a b : Bool) → there ≡ (a && not b) → there ≡ false → a ≡ true → b ≡ true
not_in_difference there a b e is one = grind arith

-- one queue of the list changes
module _ (queues : List QueueState) (before after : PlacesState) (page : ℕ) (queue : QueueState) (within : page < length queues) where
  queue_stepped : (other : ℕ) → slice_index_or (slice_set queues page queue) other no_queue ≡ update (λ at. slice_index_or queues at no_queue) page queue other
  queue_stepped other = by (cases_eq other page)
    where
      by : (other ≡ page) ⊎ (other ≢ page) → slice_index_or (slice_set queues page queue) other no_queue ≡ update (λ at. slice_index_or queues at no_queue) page queue other
      by (inl here) = rw here (get_or-set_same queues page queue no_queue within ∙ sym (put_same (λ at. slice_index_or queues at no_queue) page queue))
      by (inr ne) = get_or-set_other queues page other queue no_queue ne ∙ sym (put_other (λ at. slice_index_or queues at no_queue) page queue other ne)

  pub queues_stepped : (other : ℕ) → queue_at (record { queues = slice_set queues page queue; places = after }) other ≡ update (queue_at (record { queues = queues; places = before })) page queue.asks other
  queues_stepped other = ap (λ (q : QueueState). q.asks) (queue_stepped other) ∙ by (other == page)
    where
      by : (b : Bool) → (if b then queue else slice_index_or queues other no_queue).asks ≡ (if b then queue.asks else (slice_index_or queues other no_queue).asks)
      by true = refl
      by false = refl

  pub room_other : (other : ℕ) → other ≢ page → room_at (record { queues = queues; places = before }) other ≤ room_at (record { queues = slice_set queues page queue; places = after }) other
  room_other other ne = let e = ap (λ (q : QueueState). q.room) (get_or-set_other queues page other queue no_queue ne) in omega arith

  pub room_stepped : room_at (record { queues = queues; places = before }) page ≤ queue.room → (other : ℕ) → room_at (record { queues = queues; places = before }) other ≤ room_at (record { queues = slice_set queues page queue; places = after }) other
  room_stepped le other = by (cases_eq other page)
    where
      by : (other ≡ page) ⊎ (other ≢ page) → room_at (record { queues = queues; places = before }) other ≤ room_at (record { queues = slice_set queues page queue; places = after }) other
      by (inl here) = rw here (let e = ap (λ (q : QueueState). q.room) (get_or-set_same queues page queue no_queue within) in omega arith)
      by (inr ne) = room_other other ne

  pub pages_stepped : length (slice_set queues page queue) ≡ length queues
  pages_stepped = length-set queues page queue
