-- A queue is followed place by place.
use Rattle.std.proofs.Common.{◌≡◌, ◌≢◌, ◌⊎◌, ℕ, ◌+◌, ◌<◌, Bool, true, false, true≢false, not, ◌||◌, ◌&&◌, ◌==◌, if◌then◌else◌, List, [], ◌∷◌, ◌++◌, length, take, Option, Some, None, zero, suc, refl, sym, ap, ◌∙◌, subst, inl, inr, arith, slice_get}
use Rattle.std.proofs.lemmas.Bool.{cases_eq}
use Rattle.std.proofs.lemmas.List.{take_at}
use Rattle.std.specs.Option.{option_map, unwrap_or}
use Rattle.cb_page.specs.Clients.{Clients, has}
use Rattle.cb_protocol.specs.Server.{WaitingAsk, has_ask}
use Rattle.cb_asks.specs.Queues.{client_at}
use Rattle.cb_asks.proofs.Steps.{apart_is, same_is}
use Rattle.cb_waits.specs.Graph.{Edges, waits}
use Rattle.cb_waits.specs.Follows.{FollowsQueue, waited_for}
use Rattle.cb_waits.proofs.Rows.{none_left, none_right}

none_some : {client : ℕ} → ◌≡◌ {A = Option ℕ} None (Some client) → ⊥
none_some {client} e = grind arith

some_same : {one other : ℕ} → Some one ≡ Some other → one ≡ other
some_same {one} {other} e = ap (λ (o : Option ℕ). unwrap_or o one) e

-- a client with no ask in a queue is at none of its places
none_in : (client : ℕ) (queue : List WaitingAsk) (place : ℕ) → has_ask client queue ≡ false → client_at queue place ≡ Some client → ⊥
none_in client [] place none at = none_some at
none_in client (ask ∷ queue) zero none at =
    true≢false (sym (ap (λ n. n == client) (some_same at) ∙ same_is client) ∙ none_left (ask.client == client) (has_ask client queue) none)
none_in client (ask ∷ queue) (suc place) none at = none_in client queue place (none_right (ask.client == client) (has_ask client queue) none) at

-- one place more from the front
taken : (client : ℕ) (queue : List WaitingAsk) (place : ℕ) (ask : WaitingAsk) → slice_get queue place ≡ Some ask
    → has_ask client (take (suc place) queue) ≡ (has_ask client (take place queue) || (ask.client == client))
taken client [] place ask is = grind arith
taken client (first ∷ queue) zero ask is = grind arith
taken client (first ∷ queue) (suc place) ask is = grind (arith, taken client queue place ask is)

-- a place of a queue has a client
pub place_has : (queue : List WaitingAsk) (place : ℕ) → place < length queue → client_at queue place ≡ None → ⊥
place_has [] place lt none = omega arith
place_has (ask ∷ queue) zero lt none = none_some (sym none)
place_has (ask ∷ queue) (suc place) lt none = place_has queue place (omega arith) none

-- one more place
taken_at : (client other : ℕ) (queue : List WaitingAsk) (place : ℕ) → client_at queue place ≡ Some other
    → has_ask client (take (suc place) queue) ≡ (has_ask client (take place queue) || (other == client))
taken_at client other queue place at = go (slice_get queue place) refl
  where
    go : (ask : Option WaitingAsk) → slice_get queue place ≡ ask → has_ask client (take (suc place) queue) ≡ (has_ask client (take place queue) || (other == client))
    go None e = absurd (none_some (sym (ap (option_map (λ (ask : WaitingAsk). ask.client)) e) ∙ at))
    go (Some ask) e = taken client queue place ask e
        ∙ ap (λ n. has_ask client (take place queue) || (n == client)) (some_same (sym (ap (option_map (λ (ask : WaitingAsk). ask.client)) e) ∙ at))

-- behind somebody, an ask waits for those ahead
behind : (held_up_by : ℕ → Bool) (queue : List WaitingAsk) (place client other : ℕ) → client_at queue place ≡ Some client
    → waited_for held_up_by (take (suc place) queue) other ≡ has_ask other (take (suc place) queue)
behind held_up_by [] place client other at = absurd (none_some at)
behind held_up_by (ask ∷ queue) place client other at = refl

-- the places of an ask between two others
at_front : (front back : List WaitingAsk) (ask : WaitingAsk) → client_at (front ++ ask ∷ back) (length front) ≡ Some ask.client
at_front [] back ask = refl
at_front (first ∷ front) back ask = at_front front back ask

before_end : (front back : List WaitingAsk) (ask : WaitingAsk) → length front < length (front ++ ask ∷ back)
before_end [] back ask = omega arith
before_end (first ∷ front) back ask = let l = before_end front back ask in omega arith

later_not : (front back : List WaitingAsk) (ask : WaitingAsk) → has_ask ask.client back ≡ false
    → (later : ℕ) → length front < later → client_at (front ++ ask ∷ back) later ≡ Some ask.client → ⊥
later_not [] back ask once zero lt at = omega arith
later_not [] back ask once (suc later) lt at = none_in ask.client back later once at
later_not (first ∷ front) back ask once zero lt at = omega arith
later_not (first ∷ front) back ask once (suc later) lt at = later_not front back ask once later (omega arith) at

-- the first places of a queue were followed
pub record Followed (before : Edges) (queue : List WaitingAsk) (held_up_by : Clients) (end : ℕ) (after : Edges) : Type 0 where
  pub done : (place client : ℕ) → place < end → client_at queue place ≡ Some client
      → ((later : ℕ) → place < later → later < end → client_at queue later ≡ Some client → ⊥)
      → (other : ℕ) → waits after client other ≡ (not (client == other) && waited_for (has held_up_by) (take place queue) other)
  pub rest : (client other : ℕ) → ((place : ℕ) → place < end → client_at queue place ≡ Some client → ⊥)
      → waits after client other ≡ waits before client other

but_itself : (client other : ℕ) (row : Bool) → (if other == client then false else row) ≡ (not (client == other) && row)
but_itself client other row = by (cases_eq other client)
  where
    by : (other ≡ client) ⊎ (other ≢ client) → (if other == client then false else row) ≡ (not (client == other) && row)
    by (inl same) = rw same (ap (λ b. if b then false else row) (same_is client) ∙ sym (ap (λ b. not b && row) (same_is client)))
    by (inr ne) = ap (λ b. if b then false else row) (apart_is other client ne) ∙ sym (ap (λ b. not b && row) (apart_is client other (λ e. ne (sym e))))

-- and one more
pub follow_more : (before now after : Edges) (queue : List WaitingAsk) (held_up_by row : Clients) (at client : ℕ) → Followed before queue held_up_by at now
    → client_at queue at ≡ Some client
    → ((other : ℕ) → has row other ≡ waited_for (has held_up_by) (take at queue) other)
    → ((other : ℕ) → waits after client other ≡ (if other == client then false else has row other))
    → ((waiting other : ℕ) → waiting ≢ client → waits after waiting other ≡ waits now waiting other)
    → Followed before queue held_up_by (at + 1) after
follow_more before now after queue held_up_by row at client f here is_row own others = record {
  done = λ place asking lt there once other. done place asking lt there once other (cases_eq place at);
  rest = λ asking other none. others asking other (λ same. none at (omega arith) (here ∙ ap Some (sym same)))
      ∙ f.rest asking other (λ place lt there. none place (omega arith) there);
}
  where
    done : (place asking : ℕ) → place < at + 1 → client_at queue place ≡ Some asking
        → ((later : ℕ) → place < later → later < at + 1 → client_at queue later ≡ Some asking → ⊥)
        → (other : ℕ) → (place ≡ at) ⊎ (place ≢ at) → waits after asking other ≡ (not (asking == other) && waited_for (has held_up_by) (take place queue) other)
    done place asking lt there once other (inl same) =
        let asks : asking ≡ client = some_same (sym there ∙ ap (client_at queue) same ∙ here) in
        ap (λ n. waits after n other) asks ∙ own other ∙ but_itself client other (has row other)
        ∙ ap (λ b. not (client == other) && b) (is_row other)
        ∙ sym (ap (λ n. not (n == other) && waited_for (has held_up_by) (take place queue) other) asks
        ∙ ap (λ n. not (client == other) && waited_for (has held_up_by) (take n queue) other) same)
    done place asking lt there once other (inr ne) =
        others asking other (λ same. once at (omega arith) (omega arith) (here ∙ ap Some (sym same)))
        ∙ f.done place asking (omega arith) there (λ later past lt2 found. once later past (omega arith) found) other

pub row_more : (held_up_by : ℕ → Bool) (ahead : Clients) (queue : List WaitingAsk) (place client other : ℕ) → client_at queue place ≡ Some client
    → has ahead other ≡ has_ask other (take (suc place) queue) → has ahead other ≡ waited_for held_up_by (take (suc place) queue) other
row_more held_up_by ahead queue place client other at e = e ∙ sym (behind held_up_by queue place client other at)

pub ahead_more : (ahead after : Clients) (queue : List WaitingAsk) (place client : ℕ) → client_at queue place ≡ Some client
    → ((other : ℕ) → has ahead other ≡ has_ask other (take place queue))
    → ((other : ℕ) → has after other ≡ (if other == client then true else has ahead other))
    → (other : ℕ) → has after other ≡ has_ask other (take (suc place) queue)
ahead_more ahead after queue place client at was put other =
    put other ∙ ap (λ b. if other == client then true else b) (was other) ∙ either (has_ask other (take place queue)) (cases_eq other client)
    ∙ sym (taken_at other client queue place at)
  where
    or_true : (b : Bool) → (b || true) ≡ true
    or_true true = refl
    or_true false = refl

    or_false : (b : Bool) → (b || false) ≡ b
    or_false true = refl
    or_false false = refl

    either : (b : Bool) → (other ≡ client) ⊎ (other ≢ client) → (if other == client then true else b) ≡ (b || (client == other))
    either b (inl same) = rw same (ap (λ t. if t then true else b) (same_is client) ∙ sym (ap (λ t. b || t) (same_is client) ∙ or_true b))
    either b (inr ne) = ap (λ t. if t then true else b) (apart_is other client ne) ∙ sym (ap (λ t. b || t) (apart_is client other (λ e. ne (sym e))) ∙ or_false b)

-- once all places were
pub follow_all : (before after : Edges) (queue : List WaitingAsk) (held_up_by : Clients) → Followed before queue held_up_by (length queue) after → FollowsQueue before queue held_up_by after
follow_all before after queue held_up_by f = record {
  asks = λ front back ask e once other.
      f.done (length front) ask.client (subst (λ (l : List WaitingAsk). length front < length l) (sym e) (before_end front back ask))
      (ap (λ (l : List WaitingAsk). client_at l (length front)) e ∙ at_front front back ask)
      (λ later past lt found. later_not front back ask once later past (ap (λ (l : List WaitingAsk). client_at l later) (sym e) ∙ found)) other
      ∙ ap (λ (l : List WaitingAsk). not (ask.client == other) && waited_for (has held_up_by) l other)
      (ap (λ (l : List WaitingAsk). take (length front) l) e ∙ take_at front (ask ∷ back) (length front) refl);
  rest = λ client other none. f.rest client other (λ place lt found. none_in client queue place none found);
}
