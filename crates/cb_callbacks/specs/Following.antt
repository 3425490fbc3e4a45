-- The view once a page has changed, and once all have.
use Rattle.std.specs.Prelude.{◌≡◌, ◌≢◌, ℕ, ◌<◌, true, false, not, ◌&&◌, ◌==◌, List, ◌∷◌, ◌++◌}
use Rattle.cb_protocol.specs.Server.{Server, WaitingAsk, has_ask}
use Rattle.cb_protocol.specs.WaitsFor.{holds_up, waits_for}
use Rattle.cb_waits.specs.Follows.{waited_for}
use Rattle.cb_waits.specs.Graph.{Edges, waits}

-- each ask that waits at the page, the last of its client there, waits by its place
abbrev pub WaitByPlace : Server → (page : ℕ) → Edges → Type 0
WaitByPlace server page view = (front back : List WaitingAsk) (ask : WaitingAsk)
    → server.queue page ≡ front ++ ask ∷ back → has_ask ask.client back ≡ false
    → (other : ℕ) → waits view ask.client other
    ≡ (not (ask.client == other) && waited_for (holds_up server page ask) front other)

-- Each ask that waits at the page waits by its place; all others as before.
pub record FollowsPage (before : Edges) (server : Server) (page : ℕ) (after : Edges) : Type 0 where
  pub asks : WaitByPlace server page after
  pub rest : (waiting other : ℕ) → has_ask waiting (server.queue page) ≡ false
      → waits after waiting other ≡ waits before waiting other

-- Who waits at a page before `end` waits as the server says; who waits at none of these, as before.
pub record FollowsPages (before : Edges) (server : Server) (end : ℕ) (after : Edges) : Type 0 where
  pub asks : (waiting page : ℕ) → page < end → has_ask waiting (server.queue page) ≡ true
      → (other : ℕ) → waits after waiting other ≡ waits_for server waiting other
  pub rest : (waiting other : ℕ)
      → ((page : ℕ) → page < end → has_ask waiting (server.queue page) ≡ false)
      → waits after waiting other ≡ waits before waiting other

-- Who waits, waits as the server says; the client, if it doesn't, for nobody; all others as before.
pub record FollowsAll (before : Edges) (server : Server) (client : ℕ) (after : Edges) : Type 0 where
  pub asks : (waiting page : ℕ) → page < server.pages → has_ask waiting (server.queue page) ≡ true
      → (other : ℕ) → waits after waiting other ≡ waits_for server waiting other
  pub left : ((page : ℕ) → has_ask client (server.queue page) ≡ false)
      → (other : ℕ) → waits after client other ≡ false
  pub rest : (waiting other : ℕ) → waiting ≢ client
      → ((page : ℕ) → has_ask waiting (server.queue page) ≡ false)
      → waits after waiting other ≡ waits before waiting other
