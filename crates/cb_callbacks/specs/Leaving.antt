-- The view once an ask has left its queue.
use Rattle.std.specs.Prelude.{◌≡◌, ◌≢◌, ℕ, false}
use Rattle.cb_callbacks.specs.Following.{WaitByPlace}
use Rattle.cb_protocol.specs.Server.{Server, has_ask}
use Rattle.cb_waits.specs.Graph.{Edges, waits}

-- Each ask that waits at the page waits by its place; the client, if it has none there, for nobody;
-- all others as before.
pub record FollowsLeft (before : Edges) (server : Server) (client page : ℕ) (after : Edges)
    : Type 0 where
  pub asks : WaitByPlace server page after
  pub left : has_ask client (server.queue page) ≡ false
      → (other : ℕ) → waits after client other ≡ false
  pub rest : (waiting other : ℕ) → waiting ≢ client
      → has_ask waiting (server.queue page) ≡ false
      → waits after waiting other ≡ waits before waiting other
