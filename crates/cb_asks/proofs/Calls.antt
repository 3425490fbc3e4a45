-- What each call makes of the queues and of what is kept beside them.
use Rattle.std.proofs.Common.{◌≡◌, ◌≢◌, ℕ, ◌+◌, ◌<◌, ◌≤◌, Bool, true, false, ◌==◌, if◌then◌else◌, ◌⊎◌, List, [], ◌∷◌, ◌++◌, length, Option, Some, None, zero, suc, refl, sym, subst, ◌∙◌, ap, arith, inl, inr, not, slice_index_or, slice_set}
use Rattle.std.proofs.lemmas.Bool.{cases_eq, cases_lt}
use Rattle.std.proofs.lemmas.List.{get_or_past, get_or_read}
use Rattle.std.specs.Option.{is_some}
use Rattle.cb_page.specs.Clients.{has}
use Rattle.cb_protocol.specs.Basics.{is_exactly, is_none, update}
use Rattle.cb_protocol.specs.Deadlock.{ask_count}
use Rattle.cb_protocol.specs.Server.{WaitingAsk, without_client}
use Rattle.cb_protocol.specs.ServerMessages.{new_ask, read_asks_in}
use Rattle.cb_protocol.proofs.NoCycles.{count_push}
use Rattle.cb_asks.specs.Asks.{AsksState, Has, IsAsks, Removes, Reserves, queue_at, room_at}
use Rattle.cb_asks.specs.Places.{IsNew, PlacesState, Puts, place_of}
use Rattle.cb_asks.specs.Queues.{QueueState, ask_by, no_queue}
use Rattle.cb_asks.specs.Sums.{one_if, sum_below}
use Rattle.cb_asks.proofs.Queues.{count_without, found_counted, length_push, length_without, reads_push, reads_without, without_none}
use Rattle.cb_asks.proofs.Steps.{apart_is, changed_is, counted_there, pages_stepped, put_other, put_same, queues_stepped, room_other, room_stepped, same_is, waiter}
use Rattle.cb_asks.proofs.Sums.{sum_none, sum_same}

-- small facts
pub none_of : (grant : Option ℕ) (test : Bool) → is_some grant ≡ not test → test ≡ is_none grant
none_of None true e = refl
none_of None false e = grind arith
none_of (Some number) true e = grind arith
none_of (Some number) false e = refl

pub reads_none : (grant : Option ℕ) (test : Bool) → is_some grant ≡ not test → one_if test ≡ one_if (is_none grant)
reads_none grant test e = ap one_if (none_of grant test e)

flip : (one other : ℕ) → (one == other) ≡ (other == one)
flip one other = grind arith

not_one : (test : Bool) → 0 ≡ one_if test → test ≡ false
not_one true e = absurd (omega arith)
not_one false e = refl

reads_cons : (first : WaitingAsk) (queue : List WaitingAsk) → read_asks_in (first ∷ queue) ≡ read_asks_in queue + one_if (is_none first.write_grant)
reads_cons first queue = go (is_none first.write_grant)
  where
    go : (b : Bool) → (if b then read_asks_in queue + 1 else read_asks_in queue) ≡ read_asks_in queue + one_if b
    go true = refl
    go false = omega arith

-- one number's count is at most the sum
pub sum_has : (counted : ℕ → ℕ) (at end : ℕ) → at < end → counted at ≤ sum_below counted end
sum_has counted at zero within = absurd (omega arith)
sum_has counted at (suc end) within = by (sum_has counted at end) (cases_eq at end)
  where
    by : (at < end → counted at ≤ sum_below counted end) → (at ≡ end) ⊎ (at ≢ end) → counted at ≤ sum_below counted end + counted end
    by before (inl here) = let e = ap counted here in omega arith
    by before (inr ne) = let l = before (omega arith) in omega arith

-- new queues and places
pub new_is : (queues : List QueueState) (places : PlacesState) → length queues ≤ 4096 → ((page : ℕ) → (slice_index_or queues page no_queue).asks ≡ []) → IsNew places
    → IsAsks (record { queues = queues; places = places })
new_is queues places few empty new = record {
  pages = few;
  clients = new.clients;
  counts = λ client page. ap (ask_count client) (empty page) ∙ sym (ap (λ p. one_if (is_exactly p page)) (new.at client));
  waiting = λ client. new.waiting client ∙ sym (ap is_some (new.at client));
  reads = new.reads ∙ sym (sum_none (λ page. read_asks_in (slice_index_or queues page no_queue).asks) (length queues) (λ page. ap read_asks_in (empty page)));
  sizes = sum_none (λ page. length (slice_index_or queues page no_queue).asks) (length queues) (λ page. ap length (empty page))
      ∙ sym (sum_none (λ client. one_if (has places.waiting client)) 32 (λ client. ap one_if (new.waiting client)));
}

-- whose ask is counted nowhere has no place
pub no_place : (state : AsksState) → IsAsks state → (client : ℕ) → ((page : ℕ) → ask_count client (queue_at state page) ≡ 0) → place_of state.places client ≡ None
no_place state is client none = by (place_of state.places client) refl
  where
    by : (place : Option ℕ) → place_of state.places client ≡ place → place_of state.places client ≡ None
    by None e = e
    by (Some page) e = absurd (let one = sym (counted_there state is client page e) ∙ none page in omega arith)

-- whose ask waits is a client that there is
place_known : (state : AsksState) → IsAsks state → (client page : ℕ) → place_of state.places client ≡ Some page → client < 32
place_known state is client page e = by (cases_lt client 32)
  where
    none_some : None ≡ Some page → ⊥
    none_some e = grind arith

    by : (client < 32) ⊎ (32 ≤ client) → client < 32
    by (inl known) = known
    by (inr past) = absurd (none_some (sym (get_or_past {X = Option ℕ} state.places.at client None (let n = is.clients in omega arith)) ∙ e))

-- a client's ask is counted at its place alone
pub elsewhere_none : (state : AsksState) → IsAsks state → (client page : ℕ) → place_of state.places client ≡ Some page → (other : ℕ) → other ≢ page → ask_count client (queue_at state other) ≡ 0
elsewhere_none state is client page e other ne = is.counts client other ∙ ap (λ p. one_if (is_exactly p other)) e ∙ ap one_if (apart_is page other (λ same. ne (sym same)))

pub only_there : (state : AsksState) → IsAsks state → (client page : ℕ) → place_of state.places client ≡ Some page → (other : ℕ) → ask_count client (queue_at state other) ≢ 0 → page ≡ other
only_there state is client page e other some = by (cases_eq other page)
  where
    by : (other ≡ page) ⊎ (other ≢ page) → page ≡ other
    by (inl same) = sym same
    by (inr ne) = absurd (some (elsewhere_none state is client page e other ne))

pub not_none : (state : AsksState) → IsAsks state → (client page : ℕ) → place_of state.places client ≡ Some page → ((other : ℕ) → ask_count client (queue_at state other) ≡ 0) → ⊥
not_none state is client page e none = let one = sym (counted_there state is client page e) ∙ none page in omega arith

pub nowhere_counted : (state : AsksState) → IsAsks state → (client : ℕ) → place_of state.places client ≡ None → (page : ℕ) → ask_count client (queue_at state page) ≡ 0
nowhere_counted state is client e page = is.counts client page ∙ ap (λ p. one_if (is_exactly p page)) e

-- nothing is removed where nothing waits
pub nothing_removed : (state : AsksState) → IsAsks state → (client : ℕ) → place_of state.places client ≡ None → Removes state client state
nothing_removed state is client e = record {
  has = record { queues = λ page. sym (without_none client (queue_at state page) (nowhere_counted state is client e page)); pages = refl };
  room = λ page. omega arith;
}

module _ (queues : List QueueState) (places : PlacesState) (page : ℕ) (is : IsAsks (record { queues = queues; places = places })) (within : page < length queues) where
  abbrev before : AsksState
  before = record { queues = queues; places = places }

  abbrev old : List WaitingAsk
  old = queue_at before page

  -- the queue as it was read
  pub read_here : (at : ℕ) → at ≡ page → (queue : QueueState) → queue ≡ slice_index_or queues at queue → queue ≡ slice_index_or queues page no_queue
  read_here at e queue read = get_or_read queues at queue (subst (λ (n : ℕ). n < length queues) (sym e) within) read no_queue ∙ ap (λ n. slice_index_or queues n no_queue) e

  -- a queue with as many asks of each client, asks to read, and asks
  noted_here : (queue : QueueState) → ((client : ℕ) → ask_count client queue.asks ≡ ask_count client old) → read_asks_in queue.asks ≡ read_asks_in old → length queue.asks ≡ length old
      → IsAsks (record { queues = slice_set queues page queue; places = places })
  noted_here queue counts reads sizes = record {
    pages = let most = is.pages in let same = pages_stepped queues places places page queue within in omega arith;
    clients = is.clients;
    counts = λ client other. each (ask_count client) (counts client) other ∙ is.counts client other;
    waiting = is.waiting;
    reads = is.reads ∙ sym (sum_same (λ other. read_asks_in (queue_at before other)) (λ other. read_asks_in (queue_at after other)) (length queues) (λ other lt. each read_asks_in reads other)
        ∙ ap (λ n. sum_below (λ other. read_asks_in (queue_at before other)) n) refl) ∙ ap (λ n. sum_below (λ other. read_asks_in (queue_at after other)) n) (sym (pages_stepped queues places places page queue within));
    sizes = ap (λ n. sum_below (λ other. length (queue_at after other)) n) (pages_stepped queues places places page queue within)
        ∙ sum_same (λ other. length (queue_at before other)) (λ other. length (queue_at after other)) (length queues) (λ other lt. each length sizes other) ∙ is.sizes;
  }
    where
      after : AsksState
      after = record { queues = slice_set queues page queue; places = places }

      each : (measure : List WaitingAsk → ℕ) → measure queue.asks ≡ measure old → (other : ℕ) → measure (queue_at after other) ≡ measure (queue_at before other)
      each measure same other = ap measure (queues_stepped queues places places page queue within other) ∙ by (cases_eq other page)
        where
          by : (other ≡ page) ⊎ (other ≢ page) → measure (update (queue_at before) page queue.asks other) ≡ measure (queue_at before other)
          by (inl here) = rw here (ap measure (put_same (queue_at before) page queue.asks) ∙ same)
          by (inr ne) = ap measure (put_other (queue_at before) page queue.asks other ne)

  pub noted_is : (queue : QueueState) → ((client : ℕ) → ask_count client queue.asks ≡ ask_count client old) → read_asks_in queue.asks ≡ read_asks_in old → length queue.asks ≡ length old
      → (at : ℕ) → at ≡ page → IsAsks (record { queues = slice_set queues at queue; places = places })
  noted_is queue counts reads sizes at e = subst (λ (n : ℕ). IsAsks (record { queues = slice_set queues n queue; places = places })) (sym e) (noted_here queue counts reads sizes)

  -- the queues with this one changed
  pub has_here : (after : PlacesState) (queue : QueueState) (asks : List WaitingAsk) → queue.asks ≡ asks → (at : ℕ) → at ≡ page
      → Has before (record { queues = slice_set queues at queue; places = after }) (update (queue_at before) page asks)
  has_here after queue asks same at e = subst (λ (n : ℕ). Has before (record { queues = slice_set queues n queue; places = after }) (update (queue_at before) page asks)) (sym e) (record {
    queues = λ other. queues_stepped queues places after page queue within other ∙ ap (λ l. update (queue_at before) page l other) same;
    pages = pages_stepped queues places after page queue within;
  })

  pub room_here : (after : PlacesState) (queue : QueueState) → room_at before page ≤ queue.room → (at : ℕ) → at ≡ page
      → (other : ℕ) → room_at before other ≤ room_at (record { queues = slice_set queues at queue; places = after }) other
  room_here after queue le at e = subst (λ (n : ℕ). (other : ℕ) → room_at before other ≤ room_at (record { queues = slice_set queues n queue; places = after }) other) (sym e) (room_stepped queues places after page queue within le)

  pub room_there : (after : PlacesState) (queue : QueueState) → (at : ℕ) → at ≡ page
      → (other : ℕ) → other ≢ page → room_at before other ≤ room_at (record { queues = slice_set queues at queue; places = after }) other
  room_there after queue at e = subst (λ (n : ℕ). (other : ℕ) → other ≢ page → room_at before other ≤ room_at (record { queues = slice_set queues n queue; places = after }) other) (sym e) (room_other queues places after page queue within)

  pub reserved : (queue : QueueState) → queue.asks ≡ old → room_at before page ≤ queue.room → (at : ℕ) → at ≡ page → Reserves before (record { queues = slice_set queues at queue; places = places })
  reserved queue same le at e = record {
    has = record {
      queues = λ other. (has_here places queue old same at e).queues other ∙ put_self other (cases_eq other page);
      pages = (has_here places queue old same at e).pages;
    };
    room = room_here places queue le at e;
  }
    where
      put_self : (other : ℕ) → (other ≡ page) ⊎ (other ≢ page) → update (queue_at before) page old other ≡ queue_at before other
      put_self other (inl here) = rw here (put_same (queue_at before) page old)
      put_self other (inr ne) = put_other (queue_at before) page old other ne

  -- a client's ask enters
  pub entered_is : (after : PlacesState) (client : ℕ) (grant : Option ℕ) (queue : QueueState) → client < 32 → ((other : ℕ) → ask_count client (queue_at before other) ≡ 0)
      → queue.asks ≡ old ++ new_ask client grant ∷ [] → Puts places client (Some page) after → after.reads ≡ places.reads + one_if (is_none grant)
      → (at : ℕ) → at ≡ page → IsAsks (record { queues = slice_set queues at queue; places = after })
  entered_is after client grant queue known none same puts reads at e = subst (λ (n : ℕ). IsAsks (record { queues = slice_set queues n queue; places = after })) (sym e)
      (changed_is before (record { queues = slice_set queues page queue; places = after }) page client queue.asks (Some page) is within known (record {
        queues = queues_stepped queues places after page queue within;
        pages = pages_stepped queues places after page queue within;
        puts = puts;
        counts = λ other. ap (ask_count other) same ∙ count_push other (new_ask client grant) old ∙ counted other (cases_eq other client);
        here = λ other. exactly other (other == page) (flip page other);
        was = λ other ne. ap (λ p. is_exactly p other) (no_place before is client none);
        reads = let f = ap read_asks_in same ∙ reads_push (new_ask client grant) old in omega arith;
        sizes = let f = ap length same ∙ length_push (new_ask client grant) old in let g = ap (λ p. one_if (is_some p)) (no_place before is client none) in omega arith;
      }))
    where
      counted : (other : ℕ) → (other ≡ client) ⊎ (other ≢ client) → ask_count other old + (if client == other then 1 else 0) ≡ (if other == client then 1 else ask_count other old)
      counted other (inl own) = rw own (ap (λ b. ask_count client old + (if b then 1 else 0)) (same_is client) ∙ ap (λ n. n + 1) (none page) ∙ sym (ap (λ b. if b then 1 else ask_count client old) (same_is client)))
      counted other (inr ne) = ap (λ b. ask_count other old + (if b then 1 else 0)) (apart_is client other (λ s. ne (sym s))) ∙ zeroed ∙ sym (ap (λ b. if b then 1 else ask_count other old) (apart_is other client ne))
        where
          zeroed : ask_count other old + 0 ≡ ask_count other old
          zeroed = omega arith

      exactly : (other : ℕ) (b : Bool) → (page == other) ≡ b → (page == other) ≡ (if b then true else false)
      exactly other true e = e
      exactly other false e = e

  -- a client's ask goes
  gone_is : (after : PlacesState) (client : ℕ) (queue : QueueState) (grant : Option ℕ) → place_of places client ≡ Some page
      → ((other : ℕ) → ask_count other queue.asks ≡ (if other == client then 0 else ask_count other old))
      → read_asks_in old ≡ read_asks_in queue.asks + one_if (is_none grant) → length old ≡ length queue.asks + 1
      → Puts places client None after → places.reads ≡ after.reads + one_if (is_none grant)
      → (at : ℕ) → at ≡ page → IsAsks (record { queues = slice_set queues at queue; places = after })
  gone_is after client queue grant there counts reads sizes puts less at e = subst (λ (n : ℕ). IsAsks (record { queues = slice_set queues n queue; places = after })) (sym e)
      (changed_is before (record { queues = slice_set queues page queue; places = after }) page client queue.asks None is within (place_known before is client page there) (record {
        queues = queues_stepped queues places after page queue within;
        pages = pages_stepped queues places after page queue within;
        puts = puts;
        counts = counts;
        here = λ other. either (other == page);
        was = λ other ne. ap (λ p. is_exactly p other) there ∙ apart_is page other (λ s. ne (sym s));
        reads = omega arith;
        sizes = let g = ap (λ p. one_if (is_some p)) there in omega arith;
      }))
    where
      either : (b : Bool) → false ≡ (if b then false else false)
      either true = refl
      either false = refl

  -- the first ask leaves
  pub left_is : (after : PlacesState) (first : WaitingAsk) (queue : QueueState) → old ≡ first ∷ queue.asks
      → Puts places first.client None after → places.reads ≡ after.reads + one_if (is_none first.write_grant)
      → (at : ℕ) → at ≡ page → IsAsks (record { queues = slice_set queues at queue; places = after })
  left_is after first queue same puts less = gone_is after first.client queue first.write_grant there
      (λ other. counted other (cases_eq other first.client)) (ap read_asks_in same ∙ reads_cons first queue.asks) (ap length same ∙ more) puts less
    where
      there : place_of places first.client ≡ Some page
      there = waiter before is page first queue.asks same

      more : length (first ∷ queue.asks) ≡ length queue.asks + 1
      more = omega arith

      counted : (other : ℕ) → (other ≡ first.client) ⊎ (other ≢ first.client) → ask_count other queue.asks ≡ (if other == first.client then 0 else ask_count other old)
      counted other (inl own) = rw own (zeroed ∙ sym (ap (λ b. if b then 0 else ask_count first.client old) (same_is first.client)))
        where
          zeroed : ask_count first.client queue.asks ≡ 0
          zeroed =
              let one = sym (counted_there before is first.client page there) ∙ ap (ask_count first.client) same ∙ ap (λ b. (if b then 1 else 0) + ask_count first.client queue.asks) (same_is first.client) in
              omega arith
      counted other (inr ne) =
          sym (ap (λ b. if b then 0 else ask_count other old) (apart_is other first.client ne)
          ∙ ap (ask_count other) same ∙ ap (λ b. (if b then 1 else 0) + ask_count other queue.asks) (apart_is first.client other (λ s. ne (sym s))) ∙ zeroed)
        where
          zeroed : 0 + ask_count other queue.asks ≡ ask_count other queue.asks
          zeroed = omega arith

  -- a first ask to read is counted
  pub left_reads : (first : WaitingAsk) (queue : List WaitingAsk) → old ≡ first ∷ queue → is_none first.write_grant ≡ true → 0 < places.reads
  left_reads first queue same reads =
      let here = ap read_asks_in same ∙ reads_cons first queue ∙ ap (λ b. read_asks_in queue + one_if b) reads in
      let all = sum_has (λ other. read_asks_in (queue_at before other)) page (length queues) within in
      let kept = is.reads in
      omega arith

  -- the client's ask is found, goes, and was counted
  pub found_there : (client : ℕ) → place_of places client ≡ Some page → ask_by client old ≡ None → ⊥
  found_there client there none = let one = sym (counted_there before is client page there) ∙ found_counted client old none in omega arith

  pub one_there : (client : ℕ) → place_of places client ≡ Some page → ask_count client old ≤ 1
  one_there client there = let one = counted_there before is client page there in omega arith

  pub removed_is : (after : PlacesState) (client : ℕ) (ask : WaitingAsk) (queue : QueueState) → place_of places client ≡ Some page → ask_by client old ≡ Some ask
      → queue.asks ≡ without_client client old → Puts places client None after → places.reads ≡ after.reads + one_if (is_none ask.write_grant)
      → (at : ℕ) → at ≡ page → IsAsks (record { queues = slice_set queues at queue; places = after })
  removed_is after client ask queue there found same puts less = gone_is after client queue ask.write_grant there
      (λ other. ap (ask_count other) same ∙ count_without client other old ∙ ap (λ b. if b then 0 else ask_count other old) (flip client other))
      (reads_without client old ask (one_there client there) found ∙ ap (λ l. read_asks_in l + one_if (is_none ask.write_grant)) (sym same))
      (length_without client old ∙ ap (λ n. length (without_client client old) + n) (counted_there before is client page there) ∙ ap (λ l. length l + 1) (sym same))
      puts less

  pub removed_reads : (client : ℕ) (ask : WaitingAsk) → place_of places client ≡ Some page → ask_by client old ≡ Some ask → is_none ask.write_grant ≡ true → 0 < places.reads
  removed_reads client ask there found reads =
      let here = reads_without client old ask (one_there client there) found ∙ ap (λ b. read_asks_in (without_client client old) + one_if b) reads in
      let all = sum_has (λ other. read_asks_in (queue_at before other)) page (length queues) within in
      let kept = is.reads in
      omega arith

  pub removes : (after : PlacesState) (client : ℕ) (queue : QueueState) → place_of places client ≡ Some page → queue.asks ≡ without_client client old → room_at before page ≤ queue.room
      → (at : ℕ) → at ≡ page → Removes before client (record { queues = slice_set queues at queue; places = after })
  removes after client queue there same le at e = record {
    has = record {
      queues = λ other. (has_here after queue (without_client client old) same at e).queues other ∙ by other (cases_eq other page);
      pages = (has_here after queue (without_client client old) same at e).pages;
    };
    room = room_here after queue le at e;
  }
    where
      by : (other : ℕ) → (other ≡ page) ⊎ (other ≢ page) → update (queue_at before) page (without_client client old) other ≡ without_client client (queue_at before other)
      by other (inl here) = rw here (put_same (queue_at before) page (without_client client old))
      by other (inr ne) = put_other (queue_at before) page (without_client client old) other ne ∙ sym (without_none client (queue_at before other) (elsewhere_none before is client page there other ne))
