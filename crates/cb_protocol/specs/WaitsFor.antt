-- Which client waits for which: the waits-for graph, whose cycles are deadlocks (textbook:
-- Bernstein, Hadzilacos and Goodman, Concurrency Control and Recovery in Database Systems, chapter
-- 3). First as a relation and a path in it, then as a test.
use Rattle.std.specs.Prelude.{◌≡◌, ◌≢◌, ◌⊎◌, ◌<◌, ℕ, Bool, true, false, not, ◌&&◌, ◌||◌, ◌==◌, List}
use Rattle.std.specs.Prelude.{[], ◌∷◌, Some, None, zero, suc}
use Rattle.cb_protocol.specs.Basics.{is_exactly, is_none}
use Rattle.cb_protocol.specs.Server.{Server, WaitingAsk, has_ask, is_live_permission}

-- the client has an ask in the queue
abbrev pub HasAsk : (client : ℕ) → List WaitingAsk → Type 0
HasAsk client [] = ⊥
HasAsk client (ask ∷ queue) = (ask.client ≡ client) ⊎ HasAsk client queue

-- the client's ask stands behind the other's in the queue
abbrev pub Behind : (client other : ℕ) → List WaitingAsk → Type 0
Behind client other [] = ⊥
Behind client other (ask ∷ queue) =
    ((ask.client ≡ other) × HasAsk client queue) ⊎ Behind client other queue

-- the client's ask is first, and the other holds it up
abbrev pub FirstAsk : (WaitingAsk → ℕ → Type 0) → (client other : ℕ) → List WaitingAsk → Type 0
FirstAsk HeldUpBy client other [] = ⊥
FirstAsk HeldUpBy client other (ask ∷ queue) = (ask.client ≡ client) × HeldUpBy ask other

-- A client holds up an ask that is the first for a page: it has write permission; or the ask is to
-- write, and the client uses the page (TODS 1997: a copy called back counts from its InUse on). A
-- permission that is merely kept counts only where its holder uses the page (this project's rule).
abbrev pub HoldsUp : Server → (page : ℕ) → WaitingAsk → (client : ℕ) → Type 0
HoldsUp server page ask client =
    ((server.store.holder page ≡ Some client)
    × ((is_live_permission server client page ≡ true) ⊎ (server.in_use client page ≡ true)))
    ⊎ ((ask.write_grant ≢ None) × (server.in_use client page ≡ true))

-- a client waits for another one
abbrev pub WaitsFor : Server → (client other : ℕ) → Type 0
WaitsFor server client other = (client ≢ other) × ((page : ℕ)
    × (Behind client other (server.queue page)
    ⊎ FirstAsk (HoldsUp server page) client other (server.queue page)))

-- a path of one or more edges of a relation
pub data Path (Edge : ℕ → ℕ → Type 0) : ℕ → ℕ → Type 0 where
  OneEdge : {from to : ℕ} → Edge from to → Path Edge from to
  MoreEdges : {from next to : ℕ} → Edge from next → Path Edge next to → Path Edge from to

-- a client waits, in one or more steps, for itself
abbrev pub LiesOnCycle : (ℕ → ℕ → Type 0) → (client : ℕ) → Type 0
LiesOnCycle Edge client = Path Edge client client

-- nobody lies on a cycle
abbrev pub NoCycle : Server → Type 0
NoCycle server = (client : ℕ) → LiesOnCycle (WaitsFor server) client → ⊥

-- only clients that there are ask, and only for pages that there are
abbrev pub AsksInRange : Server → Type 0
AsksInRange server = (page client : ℕ) → HasAsk client (server.queue page)
    → (client < server.clients) × (page < server.pages)

-- The test, in the same order: the client's ask stands behind the other's in the queue
abbrev pub is_behind : List WaitingAsk → (client other : ℕ) → Bool
is_behind [] client other = false
is_behind (ask ∷ queue) client other =
    ((ask.client == other) && has_ask client queue) || is_behind queue client other

-- a client holds up an ask that is the first for a page
abbrev pub holds_up : Server → (page : ℕ) → WaitingAsk → (client : ℕ) → Bool
holds_up server page ask client =
    (is_exactly (server.store.holder page) client
    && (is_live_permission server client page || server.in_use client page))
    || (not (is_none ask.write_grant) && server.in_use client page)

-- the client's ask is first, and the other holds it up
abbrev pub first_waits_for : Server → (page : ℕ) → List WaitingAsk → (client other : ℕ) → Bool
first_waits_for server page [] client other = false
first_waits_for server page (ask ∷ queue) client other =
    (ask.client == client) && holds_up server page ask other

-- at a page before `end`
abbrev pub waits_for_below : Server → (client other end : ℕ) → Bool
waits_for_below server client other zero = false
waits_for_below server client other (suc page) =
    waits_for_below server client other page
    || is_behind (server.queue page) client other
    || first_waits_for server page (server.queue page) client other

-- a client waits for another one
abbrev pub waits_for : Server → (client other : ℕ) → Bool
waits_for server client other =
    not (client == other) && waits_for_below server client other server.pages

-- there is a path whose inner clients are before `end` (textbook: Warshall's theorem on Boolean
-- matrices)
abbrev pub has_path_through : (ℕ → ℕ → Bool) → (end from to : ℕ) → Bool
has_path_through edge zero from to = edge from to
has_path_through edge (suc client) from to =
    has_path_through edge client from to
    || (has_path_through edge client from client && has_path_through edge client client to)

-- A client lies on a cycle. The law that this is exact is `cycle_test_is_exact`.
abbrev pub on_cycle : Server → (client : ℕ) → Bool
on_cycle server client = has_path_through (waits_for server) server.clients client client
