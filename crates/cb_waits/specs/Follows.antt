-- How a view follows the queues of asks.
use Rattle.std.specs.Prelude.{◌≡◌, ℕ, Bool, false, not, ◌&&◌, ◌==◌, List, [], ◌∷◌, ◌++◌}
use Rattle.cb_page.specs.Clients.{Clients, has}
use Rattle.cb_protocol.specs.Server.{Server, WaitingAsk, has_ask}
use Rattle.cb_protocol.specs.WaitsFor.{waits_for}
use Rattle.cb_waits.specs.Graph.{Edges, waits}

-- the view has exactly the server's edges
abbrev pub Follows : Edges → Server → Type 0
Follows view server =
    (client other : ℕ) → waits view client other ≡ waits_for server client other

-- those that an ask waits for: those ahead of it in its queue; of a first ask, those that hold it
-- up
abbrev pub waited_for : (held_up_by : ℕ → Bool) → (ahead : List WaitingAsk) → ℕ → Bool
waited_for held_up_by [] other = held_up_by other
waited_for held_up_by (first ∷ rest) other = has_ask other (first ∷ rest)

-- Each ask of a queue waits by its place; a client with no ask there keeps its row.
pub record FollowsQueue (before : Edges) (queue : List WaitingAsk) (held_up_by : Clients)
    (after : Edges) : Type 0 where
  pub asks : (front back : List WaitingAsk) (ask : WaitingAsk) → queue ≡ front ++ ask ∷ back
      → has_ask ask.client back ≡ false
      → (other : ℕ) → waits after ask.client other
      ≡ (not (ask.client == other) && waited_for (has held_up_by) front other)
  pub rest : (client other : ℕ) → has_ask client queue ≡ false
      → waits after client other ≡ waits before client other
