-- Paths of waits, and sets that are closed under them.
use Rattle.std.proofs.Common.{◌≡◌, ℕ, true}
use Rattle.cb_page.specs.Clients.{Clients, has}
use Rattle.cb_waits.specs.Graph.{Path, OneEdge, MoreEdges}

-- one more edge at the end of a path
pub along : {Edge : ℕ → ℕ → Type 0} {client next other : ℕ} → Path Edge client next → Edge next other → Path Edge client other
along (OneEdge first) last = MoreEdges first (OneEdge last)
along (MoreEdges first path) last = MoreEdges first (along path last)

-- a set that holds those for whom the client waits, and is closed, holds all to whom a path leads
pub closed_holds : {Edge : ℕ → ℕ → Type 0} (set : Clients) → ((client other : ℕ) → has set client ≡ true → Edge client other → has set other ≡ true)
    → (client other : ℕ) → ((next : ℕ) → Edge client next → has set next ≡ true) → Path Edge client other → has set other ≡ true
closed_holds set closed client other direct (OneEdge last) = direct other last
closed_holds set closed client other direct (MoreEdges {next = next} first path) = closed_holds set closed next other (λ after edge. closed next after (direct next first) edge) path
