-- What a message leaves of its own client at a server that doesn't keep write permissions.
use Rattle.std.specs.Prelude.{◌≡◌, ◌≢◌, ◌≤◌, ◌+◌, ◌⊎◌, ℕ, false, Some}
use Rattle.cb_protocol.specs.Messages.{Body, GiveBack, Hello}
use Rattle.cb_protocol.specs.Server.{DeadlockTest, Server, server_after}
use Rattle.cb_protocol.specs.ServerMessages.{server_take}

-- Each row stays, but one that is given back; each permission stays, unless the transaction that
-- was current has ended.
pub record KeepsOwn (before after : Server) (client : ℕ) (body : Body) : Type 0 where
  pub row : (page grant : ℕ) → body ≢ GiveBack page grant
      → (before.session client).row page ≡ Some grant
      → (after.session client).row page ≡ Some grant
  pub permission : (page : ℕ) → before.store.holder page ≡ Some client
      → (after.store.holder page ≡ Some client)
      ⊎ ((before.session client).txn ≤ (after.session client).ended)

-- So does every message other than Hello. (A client's current transaction is the one after the last
-- that ended, or that one.)
abbrev pub OwnStays : Type 0
OwnStays = (cycle : DeadlockTest) (server : Server) (client incarnation : ℕ) (body : Body)
    → server.store.keep_write ≡ false
    → (server.session client).txn ≤ (server.session client).ended + 1 → body ≢ Hello
    → KeepsOwn server (server_after server (server_take cycle server client incarnation body))
    client body
