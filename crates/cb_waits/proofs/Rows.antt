-- A client waits for others only by its ask, so at that ask's page alone.
use Rattle.std.proofs.Common.{◌≡◌, ◌≢◌, ℕ, ◌<◌, ◌+◌, Bool, true, false, not, ◌||◌, ◌&&◌, ◌==◌, List, [], ◌∷◌, ◌++◌, zero, suc, refl, sym, ap, ◌∙◌, inl, inr, arith}
use Rattle.std.proofs.lemmas.Bool.{cases_eq}
use Rattle.std.proofs.lemmas.Bool.Decides.{nat_tests}
use Rattle.cb_protocol.specs.Deadlock.{OneAsk, ask_count}
use Rattle.cb_protocol.specs.Server.{Server, WaitingAsk, has_ask}
use Rattle.cb_protocol.specs.WaitsFor.{first_waits_for, holds_up, is_behind, waits_for, waits_for_below}
use Rattle.cb_waits.specs.Follows.{waited_for}

pub none_left : (x y : Bool) → (x || y) ≡ false → x ≡ false
none_left false y e = refl
none_left true y e = cc

pub none_right : (x y : Bool) → (x || y) ≡ false → y ≡ false
none_right false y e = e
none_right true y e = cc

and_false : (x : Bool) → (x && false) ≡ false
and_false true = refl
and_false false = refl

and_true : (x : Bool) → (x && true) ≡ x
and_true true = refl
and_true false = refl

or_none : (x : Bool) → (x || false || false) ≡ x
or_none true = refl
or_none false = refl

or_false : (x : Bool) → (x || false) ≡ x
or_false true = refl
or_false false = refl

or_true : (x : Bool) → (x || true) ≡ true
or_true true = refl
or_true false = refl

pub same_client : (c : ℕ) → (c == c) ≡ true
same_client c = grind (arith, nat_tests)

-- without an ask in the queue nobody is waited for there
pub not_behind : (queue : List WaitingAsk) (client other : ℕ) → has_ask client queue ≡ false
    → is_behind queue client other ≡ false
not_behind [] client other e = refl
not_behind (ask ∷ queue) client other e =
    let none = none_right (ask.client == client) (has_ask client queue) e in
    rw (none, not_behind queue client other none) (or_false _ ∙ and_false (ask.client == other))

pub not_first : (server : Server) (page : ℕ) (queue : List WaitingAsk) (client other : ℕ)
    → has_ask client queue ≡ false → first_waits_for server page queue client other ≡ false
not_first server page [] client other e = refl
not_first server page (ask ∷ queue) client other e =
    rw (none_left (ask.client == client) (has_ask client queue) e) refl

waits_nowhere : (server : Server) (client other end : ℕ)
    → ((page : ℕ) → page < end → has_ask client (server.queue page) ≡ false)
    → waits_for_below server client other end ≡ false
waits_nowhere server client other zero none = refl
waits_nowhere server client other (suc page) none =
    let here = none page (omega arith) in
    rw (
      waits_nowhere server client other page (λ q l. none q (omega (arith, l))),
      not_behind (server.queue page) client other here,
      not_first server page (server.queue page) client other here,
    ) refl

waits_there : (server : Server) (client other page end : ℕ) → page < end
    → ((q : ℕ) → q ≢ page → has_ask client (server.queue q) ≡ false)
    → waits_for_below server client other end
    ≡ (is_behind (server.queue page) client other
    || first_waits_for server page (server.queue page) client other)
waits_there server client other page zero l none = absurd (omega (arith, l))
waits_there server client other page (suc last) l none = elim (cases_eq last page) [
  | inl e ↦ rw (waits_nowhere server client other last (λ q k. none q (λ f. omega (arith, e, f, k))), e) refl
  | inr ne ↦
      let here = none last ne in
      rw (
        waits_there server client other page last (omega (arith, l, ne)) none,
        not_behind (server.queue last) client other here,
        not_first server last (server.queue last) client other here,
      ) (or_none _)
]

-- a client without an ask waits for nobody
pub no_ask_no_edge : (server : Server) (client other : ℕ)
    → ((page : ℕ) → has_ask client (server.queue page) ≡ false)
    → waits_for server client other ≡ false
no_ask_no_edge server client other none =
    ap (λ (b : Bool). not (client == other) && b) (waits_nowhere server client other server.pages (λ q l. none q))
    ∙ and_false (not (client == other))

-- it waits by its ask's page alone
pub edge_by_page : (server : Server) (client other page : ℕ) → page < server.pages
    → ((q : ℕ) → q ≢ page → has_ask client (server.queue q) ≡ false)
    → waits_for server client other ≡ (not (client == other)
    && (is_behind (server.queue page) client other
    || first_waits_for server page (server.queue page) client other))
edge_by_page server client other page l none =
    ap (λ (b : Bool). not (client == other) && b) (waits_there server client other page server.pages l none)

-- who stands in a queue
there : (front back : List WaitingAsk) (ask : WaitingAsk) (client : ℕ) → ask.client ≡ client
    → has_ask client (front ++ ask ∷ back) ≡ true
there [] back ask client e = ap (λ (b : Bool). b || has_ask client back) (ap (λ (c : ℕ). c == client) e ∙ same_client client)
there (first ∷ front) back ask client e =
    ap (λ (b : Bool). (first.client == client) || b) (there front back ask client e) ∙ or_true (first.client == client)

-- a client is behind exactly those ahead of its ask
behind_those_ahead : (front back : List WaitingAsk) (ask : WaitingAsk) (other : ℕ)
    → has_ask ask.client front ≡ false → has_ask ask.client back ≡ false
    → is_behind (front ++ ask ∷ back) ask.client other ≡ has_ask other front
behind_those_ahead [] back ask other f b =
    rw (b, not_behind back ask.client other b) (or_false _ ∙ and_false (ask.client == other))
behind_those_ahead (first ∷ front) back ask other f b =
    rw (
      there front back ask ask.client refl,
      behind_those_ahead front back ask other (none_right (first.client == ask.client) (has_ask ask.client front) f) b,
      and_true (first.client == other),
    ) refl

-- an ask's edges at its page, by its place in the queue
edges_by_place : (server : Server) (page : ℕ) (front back : List WaitingAsk) (ask : WaitingAsk) (other : ℕ)
    → has_ask ask.client front ≡ false → has_ask ask.client back ≡ false
    → (is_behind (front ++ ask ∷ back) ask.client other
    || first_waits_for server page (front ++ ask ∷ back) ask.client other)
    ≡ waited_for (holds_up server page ask) front other
edges_by_place server page [] back ask other f b =
    rw (behind_those_ahead [] back ask other f b, same_client ask.client) refl
edges_by_place server page (first ∷ front) back ask other f b =
    rw (
      behind_those_ahead (first ∷ front) back ask other f b,
      none_left (first.client == ask.client) (has_ask ask.client front) f,
    ) (or_false _)

-- an ask counted is an ask that waits
counted : (client : ℕ) (queue : List WaitingAsk) → ask_count client queue ≡ 0 → has_ask client queue ≡ false
counted client [] e = refl
counted client (ask ∷ queue) e = elim (cases_eq ask.client client) [
  | inl same ↦ absurd (grind (arith, nat_tests, same, e))
  | inr ne ↦ rw (counted client queue (grind (arith, nat_tests, ne, e))) (grind (arith, nat_tests, ne))
]

count_split : (client : ℕ) (front back : List WaitingAsk) (ask : WaitingAsk)
    → ask_count client (front ++ ask ∷ back)
    ≡ ask_count client front + (ask_count client (ask ∷ []) + ask_count client back)
count_split client [] back ask = grind arith
count_split client (first ∷ front) back ask = let rest = count_split client front back ask in grind arith

own_count : (ask : WaitingAsk) → ask_count ask.client (ask ∷ []) ≡ 1
own_count ask = rw (same_client ask.client) refl

-- The edges of an ask by its place: a client has one ask at all.
pub edges_of_ask : (server : Server) → OneAsk server.queue → (page : ℕ) → page < server.pages
    → (front back : List WaitingAsk) (ask : WaitingAsk) → server.queue page ≡ front ++ ask ∷ back
    → (other : ℕ) → waits_for server ask.client other
    ≡ (not (ask.client == other) && waited_for (holds_up server page ask) front other)
edges_of_ask server one page l front back ask e other =
    let total = ap (λ (q : List WaitingAsk). ask_count ask.client q) e ∙ count_split ask.client front back ask in
    let own = own_count ask in
    let here = one.here page ask.client in
    let before = counted ask.client front (omega (arith, total, own, here)) in
    let behind = counted ask.client back (omega (arith, total, own, here)) in
    edge_by_page server ask.client other page l
    (λ q ne. counted ask.client (server.queue q) (let apart = one.apart page q ask.client (λ s. ne (sym s)) in omega (arith, apart, total, own)))
    ∙ ap (λ (b : Bool). not (ask.client == other) && b)
    (ap (λ (q : List WaitingAsk). is_behind q ask.client other || first_waits_for server page q ask.client other) e
    ∙ edges_by_place server page front back ask other before behind)
