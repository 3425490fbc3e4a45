-- The first ask of a page.
use Rattle.std.specs.Prelude.{◌≡◌, ℕ, List, [], ◌∷◌}
use Rattle.cb_asks.specs.Asks.{queue_at}
use Rattle.cb_server_state.specs.declared.server_state.ServerState.{ServerState}
use Rattle.cb_protocol.specs.Server.{WaitingAsk, after_first}

-- the ask is the first for the page
abbrev pub IsFirst : ServerState → (page : ℕ) → WaitingAsk → Type 0
IsFirst state page ask =
    queue_at state.asks page ≡ ask ∷ after_first (queue_at state.asks page)

-- the client's ask is the first
abbrev pub StartsWith : (client : ℕ) → List WaitingAsk → Type 0
StartsWith client [] = ⊥
StartsWith client (ask ∷ queue) = ask.client ≡ client
