-- The waits-for graph and its cycles.
pub use Rattle.cb_protocol.specs.WaitsFor.{LiesOnCycle, MoreEdges, OneEdge, Path}
use Rattle.std.specs.Prelude.{◌≡◌, ℕ, Bool, true, List, slice_index_or}
use Rattle.cb_page.specs.Clients.{Clients, has, set_of}

-- for each client those that it waits for
abbrev pub Edges : Type 0
Edges = List Clients

-- whether a client waits for another
abbrev pub waits : Edges → ℕ → ℕ → Bool
waits edges client other = has (slice_index_or edges client (set_of 0)) other

abbrev pub Waits : Edges → ℕ → ℕ → Type 0
Waits edges client other = waits edges client other ≡ true
