-- What one step keeps as it was: of the other clients at the server, and of the other side in the
-- world.
use Rattle.std.specs.Prelude.{◌≡◌, ◌≢◌, ◌≤◌, ◌⊎◌, ℕ, true, if◌then◌else◌, List, ◌++◌, Option, Some}
use Rattle.std.specs.Prelude.{None}
use Rattle.cb_protocol.specs.Basics.{Limits}
use Rattle.cb_protocol.specs.Messages.{Body, Message, to_server}
use Rattle.cb_protocol.specs.Server.{DeadlockTest, Server, server_after}
use Rattle.cb_protocol.specs.Flush.{server_flush}
use Rattle.cb_protocol.specs.Resend.{server_again}
use Rattle.cb_protocol.specs.ServerMessages.{server_take}
use Rattle.cb_protocol.specs.World.{World, Event, ClientCalls, TakePacket, Restart, packet_at, step}

-- What the server keeps of a client by a step: its incarnation, transaction, outcome and marks; its
-- rows, with their grants; its permissions; its doom. It may have been doomed, and have got rows,
-- each with a new grant number, and permissions for pages of which it has a row.
pub record KeepsClient (before after : Server) (client : ℕ) : Type 0 where
  pub incarnation : (after.session client).current ≡ (before.session client).current
  pub begun : (after.session client).txn ≡ (before.session client).txn
  pub ended : (after.session client).ended ≡ (before.session client).ended
  pub outcome : after.outcome client ≡ before.outcome client
  pub doomed : before.doomed client ≡ true → after.doomed client ≡ true
  pub mark : (page : ℕ) → after.in_use client page ≡ before.in_use client page
  pub row : (page grant : ℕ) → (before.session client).row page ≡ Some grant
      → (after.session client).row page ≡ Some grant
  pub new_row : (page grant : ℕ) → (after.session client).row page ≡ Some grant
      → ((before.session client).row page ≡ Some grant)
      ⊎ (((before.session client).row page ≡ None) × (before.next_grant ≤ grant))
  pub permission : (page : ℕ) → before.store.holder page ≡ Some client
      → after.store.holder page ≡ Some client
  pub new_permission : (page : ℕ) → after.store.holder page ≡ Some client
      → (before.store.holder page ≡ Some client)
      ⊎ ((grant : ℕ) × ((after.session client).row page ≡ Some grant))
  pub next_grant : before.next_grant ≤ after.next_grant

-- A server's step for a message of one client keeps what every other client has; resending and a
-- flush keep what all have. Of any server, and for any test of deadlock.
abbrev pub OthersKeepRowsAndPermissions : DeadlockTest → Type 0
OthersKeepRowsAndPermissions cycle = (server : Server) →
    ((sender incarnation : ℕ) (body : Body) (client : ℕ) → client ≢ sender
    → KeepsClient server (server_after server (server_take cycle server sender incarnation body))
    client)
    × ((client : ℕ) → KeepsClient server (server_after server (server_again server)) client)
    × ((number client : ℕ)
    → KeepsClient server (server_after server (server_flush server number)) client)

-- packets are never taken out or changed: an event only adds some
abbrev pub PacketsOnlyGrow : Limits → DeadlockTest → Type 0
PacketsOnlyGrow limits cycle = (world : World) (event : Event) (let_go : Option ℕ)
    → (added : List Message)
    × ((step limits cycle world event let_go).world.packets ≡ world.packets ++ added)

-- a client, the server, or nobody
pub data Whose : Type 0 where
  OfClient : ℕ → Whose
  OfServer : Whose
  OfNobody : Whose

-- who takes a packet
abbrev pub taker : Option Message → Whose
taker None = OfNobody
taker (Some message) = if to_server message.body then OfServer else OfClient message.client

-- whose step an event is: a client's or the server's, or nobody's where there is no such packet
abbrev pub whose : World → Event → Whose
whose world (ClientCalls client call) = OfClient client
whose world (TakePacket packet) = taker (packet_at world.packets packet)
whose world (Restart client) = OfClient client
whose world _ = OfServer

-- the client, its incarnation and state, is the same
abbrev pub SameClient : (before after : World) → (client : ℕ) → Type 0
SameClient before after client =
    (after.client client ≡ before.client client)
    × (after.incarnation client ≡ before.incarnation client)

-- all is the same but what that step is of
abbrev pub OthersUnchanged : (before after : World) → Whose → Type 0
OthersUnchanged before after (OfClient client) =
    (after.server ≡ before.server)
    × ((other : ℕ) → other ≢ client → SameClient before after other)
OthersUnchanged before after OfServer =
    (after.client ≡ before.client) × (after.incarnation ≡ before.incarnation)
OthersUnchanged before after OfNobody =
    (after.server ≡ before.server)
    × (after.client ≡ before.client) × (after.incarnation ≡ before.incarnation)

-- a client's step changes that client alone, a step of the server no client
abbrev pub StepsAreAlone : Limits → DeadlockTest → Type 0
StepsAreAlone limits cycle = (world : World) (event : Event) (let_go : Option ℕ)
    → OthersUnchanged world (step limits cycle world event let_go).world (whose world event)
