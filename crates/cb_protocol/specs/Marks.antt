-- In-use marks and write permissions at the server: of whom they are, what sets them, and when they
-- end. At each server that a new one becomes by whatever messages. This project's rules.
use Rattle.std.specs.Prelude.{◌≡◌, ◌≢◌, ◌<◌, ◌↔◌, ◌⊎◌, ℕ, true, Some, None}
use Rattle.cb_protocol.specs.AnyMessages.{Input, MessageComes, input_steps}
use Rattle.cb_protocol.specs.Deadlock.{InputInRange, ReachedServer}
use Rattle.cb_protocol.specs.Messages.{Body, Drop, GiveBack, Hello, InUse}
use Rattle.cb_protocol.specs.Server.{Server, WaitingAsk, is_live_permission, server_after}
use Rattle.cb_protocol.specs.ServerMessages.{named_txn}
use Rattle.cb_protocol.specs.WaitsFor.{HoldsUp, on_cycle}

-- the client has a copy of the page
abbrev pub HasAnyRow : Server → (client page : ℕ) → Type 0
HasAnyRow server client page = (grant : ℕ) × ((server.session client).row page ≡ Some grant)

-- the client's transaction has begun and not ended
abbrev pub HasLiveTxn : Server → (client : ℕ) → Type 0
HasLiveTxn server client = (server.session client).ended < (server.session client).txn

-- A mark is of a client with a copy of the page and a live transaction.
abbrev pub MarksLive : Type 0
MarksLive = (server : Server) → ReachedServer server → (client page : ℕ)
    → server.in_use client page ≡ true → HasAnyRow server client page × HasLiveTxn server client

-- this message of the client comes, of its current incarnation
abbrev pub Comes : Server → Input → (client : ℕ) → Body → Type 0
Comes server input client body = input ≡ MessageComes client (server.session client).current body

-- the client says that a transaction that has not ended uses its copy of the page
abbrev pub SaysInUse : Server → Input → (client page : ℕ) → Type 0
SaysInUse server input client page = (txn : ℕ) × ((grant : ℕ)
    × Comes server input client (InUse txn page grant)
    × ((server.session client).row page ≡ Some grant) × ((server.session client).ended < txn))

-- the client gives its copy of the page back
abbrev pub GivesBack : Server → Input → (client page : ℕ) → Type 0
GivesBack server input client page = (grant : ℕ)
    × Comes server input client (GiveBack page grant)
    × ((server.session client).row page ≡ Some grant)

-- the client's transaction is the one that it was, and lives
abbrev pub SameLiveTxn : (old new : Server) → (client : ℕ) → Type 0
SameLiveTxn old new client = ((new.session client).current ≡ (old.session client).current)
    × ((new.session client).txn ≡ (old.session client).txn) × HasLiveTxn new client

-- After a step a client has a mark on a page exactly where it just said so, or where it had it
-- before, its transaction goes on, and it didn't give the copy back. No other mark comes or goes.
abbrev pub MarksSetAndTaken : Type 0
MarksSetAndTaken = (old : Server) → ReachedServer old → (input : Input) → InputInRange old input
    → let new = server_after old (input_steps on_cycle old input) in (client page : ℕ)
    → (new.in_use client page ≡ true)
    ↔ (SaysInUse old input client page
    ⊎ ((old.in_use client page ≡ true) × SameLiveTxn old new client
    × (GivesBack old input client page → ⊥)))

-- With kept write permission a write holder has a copy of the page. Without it a doomed writer may
-- have given the copy back.
abbrev pub KeptHoldersHaveRows : Type 0
KeptHoldersHaveRows = (server : Server) → ReachedServer server → server.store.keep_write ≡ true
    → (client page : ℕ) → server.store.holder page ≡ Some client → HasAnyRow server client page

-- A client whose transaction ended as dropped has no permission left: none after its Drop or
-- a greater Hello, none but the new transaction's own after a message of a later transaction.
pub record DroppedKeepNothing (old new : Server) (input : Input) (client page : ℕ) : Type 0 where
  pub by_drop : (txn : ℕ) → Comes old input client (Drop txn) → (old.session client).ended < txn
      → new.store.holder page ≢ Some client
  pub by_hello : (incarnation : ℕ) → input ≡ MessageComes client incarnation Hello
      → (old.session client).current < incarnation → new.store.holder page ≢ Some client
  pub by_later : (body : Body) → Comes old input client body
      → HasLiveTxn old client → (old.session client).txn < named_txn body
      → new.store.holder page ≡ Some client → is_live_permission new client page ≡ true

-- so after every input
abbrev pub DroppedHoldNothing : Type 0
DroppedHoldNothing = (old : Server) → ReachedServer old
    → (input : Input) → InputInRange old input → (client page : ℕ)
    → DroppedKeepNothing old (server_after old (input_steps on_cycle old input)) input client page

-- the client has write permission for the page, and of its current transaction
abbrev pub HoldsForCurrentTxn : Server → (client page : ℕ) → Type 0
HoldsForCurrentTxn server client page = (server.store.holder page ≡ Some client)
    × (server.store.tag page ≡ (server.session client).txn)

-- the client uses the page, and the ask is to write, or the permission is the client's
abbrev pub UsesInTheWay : Server → (client page : ℕ) → WaitingAsk → Type 0
UsesInTheWay server client page ask = (server.in_use client page ≡ true)
    × ((ask.write_grant ≢ None) ⊎ (server.store.holder page ≡ Some client))

-- With kept write permission a first ask is held up by exactly the clients with a copy of the page
-- and a live transaction that have write permission for it, or use the page in the ask's way.
abbrev pub KeptHoldsUp : Type 0
KeptHoldsUp = (server : Server) → ReachedServer server → server.store.keep_write ≡ true
    → (page : ℕ) (ask : WaitingAsk) (client : ℕ) → HoldsUp server page ask client
    ↔ (HasAnyRow server client page × HasLiveTxn server client
    × (HoldsForCurrentTxn server client page ⊎ UsesInTheWay server client page ask))
