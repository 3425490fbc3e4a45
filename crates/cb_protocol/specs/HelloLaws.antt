-- What a greater Hello leaves of its client at the server: nothing of the older incarnation. This
-- project's rule.
use Rattle.std.specs.Prelude.{◌≡◌, ◌≢◌, ◌<◌, ℕ, false, Some, None}
use Rattle.cb_protocol.specs.Basics.{IsIn}
use Rattle.cb_protocol.specs.Messages.{Hello, Welcome}
use Rattle.cb_protocol.specs.Server.{DeadlockTest, Server, server_after}
use Rattle.cb_protocol.specs.ServerMessages.{server_take}
use Rattle.cb_protocol.specs.WaitsFor.{HasAsk}
use Rattle.cb_protocol.specs.World.{messages_sent}

-- the client is as one that only greeted: no row, permission, mark, ask, doom or transaction
pub record OnlyGreeted (server : Server) (client incarnation : ℕ) : Type 0 where
  pub current : (server.session client).current ≡ incarnation
  pub no_row : (page : ℕ) → (server.session client).row page ≡ None
  pub no_permission : (page : ℕ) → server.store.holder page ≢ Some client
  pub no_mark : (page : ℕ) → server.in_use client page ≡ false
  pub no_ask : (page : ℕ) → HasAsk client (server.queue page) → ⊥
  pub not_doomed : server.doomed client ≡ false
  pub none_begun : (server.session client).txn ≡ 0
  pub none_ended : (server.session client).ended ≡ 0
  pub no_outcome : server.outcome client ≡ None

-- At any server a Hello of a greater incarnation is welcomed, and leaves its client as one that
-- only greeted.
abbrev pub GreaterHelloStartsAnew : Type 0
GreaterHelloStartsAnew = (cycle : DeadlockTest) (server : Server) (client incarnation : ℕ)
    → (server.session client).current < incarnation
    → let steps = server_take cycle server client incarnation Hello in
    OnlyGreeted (server_after server steps) client incarnation
    × IsIn (record { client = client; incarnation = incarnation; body = Welcome })
    (messages_sent steps)
