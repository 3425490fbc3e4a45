-- Which incarnations a server knows, as numbers that are to be kept on disk speak of them.
use Rattle.std.specs.Prelude.{◌≡◌, ◌<◌, ◌≤◌, ℕ}
use Rattle.cb_commit.specs.Stores.{StoreState}
use Rattle.cb_page.specs.Bounds.{Bounds}
use Rattle.cb_protocol.specs.AnyMessages.{Input, MessageComes, input_steps}
use Rattle.cb_protocol.specs.Messages.{Hello}
use Rattle.cb_protocol.specs.Server.{Server, server_after}
use Rattle.cb_protocol.specs.WaitsFor.{on_cycle}
use Rattle.cb_server.specs.ServerValue.{IsResumed, ServerValue, server_of}

-- the current incarnation of each client is below that number
abbrev pub KnowsBelow : Server → ℕ → Type 0
KnowsBelow server below = (client : ℕ) → (server.session client).current < below

-- the current incarnation of each client is at most that number
abbrev pub KnowsUpTo : Server → ℕ → Type 0
KnowsUpTo server most = (client : ℕ) → (server.session client).current ≤ most

-- the input is no Hello of an incarnation from that number on
abbrev pub GreetsBelow : Input → ℕ → Type 0
GreetsBelow input below = (client incarnation : ℕ)
    → input ≡ MessageComes client incarnation Hello → incarnation < below

-- A server comes to know an incarnation by its Hello alone.
abbrev pub HellosAloneAreKnown : Type 0
HellosAloneAreKnown = (server : Server) (input : Input) (below : ℕ)
    → KnowsBelow server below → GreetsBelow input below
    → KnowsBelow (server_after server (input_steps on_cycle server input)) below

-- a server as a life begins knows the floor alone
abbrev pub ResumedKnowTheFloor : Type 0
ResumedKnowTheFloor = (bounds : Bounds) (store : StoreState) (floor below : ℕ)
    (value : ServerValue) → IsResumed bounds store floor value → floor < below
    → KnowsBelow (server_of value) below
