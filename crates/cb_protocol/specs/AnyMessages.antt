-- What the server keeps whatever messages come, from honest clients or not.
use Rattle.std.specs.Prelude.{◌≡◌, ◌<◌, ◌+◌, ℕ, List, [], ◌∷◌, map, Some, ⊤}
use Rattle.cb_protocol.specs.Basics.{Bytes, IsIn, Limits}
use Rattle.cb_protocol.specs.Flush.{server_flush}
use Rattle.cb_protocol.specs.Messages.{Body, write_of_page}
use Rattle.cb_protocol.specs.Resend.{server_again}
use Rattle.cb_protocol.specs.Serial.{EachOnce, TransactionName}
use Rattle.cb_protocol.specs.Server.{DeadlockTest, AppliedCommit, Server, ServerStep, new_server}
use Rattle.cb_protocol.specs.Server.{server_after}
use Rattle.cb_protocol.specs.ServerMessages.{server_take}
use Rattle.cb_protocol.specs.Session.{new_bytes, new_version}
use Rattle.cb_protocol.specs.World.{Opening, opening_store}

-- the names of the committed transactions, the newest first
abbrev pub committed_names : List AppliedCommit → List TransactionName
committed_names commits = map
    (λ commit. record {
      client = commit.client;
      incarnation = commit.incarnation;
      txn = commit.txn;
    }) commits

-- The directory rule (TODS 1997; grants are this project's). That a client has at most one row a
-- page, and that a row's version is the store's, lies in the form of `Session`.
pub record DirectoryRule (server : Server) : Type 0 where
  -- a page with a write holder has rows of no other client
  pub sole : (page holder client grant : ℕ) → server.store.holder page ≡ Some holder
      → (server.session client).row page ≡ Some grant → client ≡ holder
  -- grant numbers are distinct
  pub distinct : (client other page other_page grant : ℕ)
      → (server.session client).row page ≡ Some grant
      → (server.session other).row other_page ≡ Some grant
      → (client ≡ other) × (page ≡ other_page)

-- the bytes of the pages after these commits, the newest first
abbrev pub bytes_after : (ℕ → Bytes) → List AppliedCommit → (page : ℕ) → Bytes
bytes_after opening [] page = opening page
bytes_after opening (last ∷ earlier) page =
    new_bytes (write_of_page last.writes page) (bytes_after opening earlier page)

-- the versions of the pages after them
abbrev pub version_after : (ℕ → ℕ) → List AppliedCommit → (page : ℕ) → ℕ
version_after opening [] page = opening page
version_after opening (last ∷ earlier) page =
    new_version (write_of_page last.writes page) last.number (version_after opening earlier page)

-- the commits have the numbers after the opening's up to the last, one by one; the newest first
abbrev pub Numbered : (opening : ℕ) → List AppliedCommit → (last : ℕ) → Type 0
Numbered opening [] last = last ≡ opening
Numbered opening (commit ∷ earlier) last =
    (commit.number ≡ last)
    × ((before : ℕ) × (last ≡ before + 1) × Numbered opening earlier before)

-- The ledger: the store is the opening store with the commits written over it, in order, and no
-- transaction commits twice.
pub record Ledger (opening : Opening) (server : Server) : Type 0 where
  pub numbered : Numbered opening.number server.commits server.store.last_commit
  pub bytes : (page : ℕ) → server.store.bytes page ≡ bytes_after opening.bytes server.commits page
  pub version : (page : ℕ)
      → server.store.version page ≡ version_after opening.version server.commits page
  pub once : EachOnce (committed_names server.commits)

-- that transaction's commit is in the list, with that number
abbrev pub IsCommit : List AppliedCommit → (client incarnation txn number : ℕ) → Type 0
IsCommit commits client incarnation txn number = (commit : AppliedCommit) × IsIn commit commits
    × (commit.client ≡ client) × (commit.incarnation ≡ incarnation)
    × (commit.txn ≡ txn) × (commit.number ≡ number)

-- what a server is called with: a message of a client that there is, resending, commits on disk
pub data Input : Type 0 where
  MessageComes : (client incarnation : ℕ) → Body → Input
  SendsAgain : Input
  ReachesDisk : (number : ℕ) → Input

-- what it does
abbrev pub input_steps : DeadlockTest → Server → Input → List ServerStep
input_steps cycle server (MessageComes client incarnation body) =
    server_take cycle server client incarnation body
input_steps cycle server SendsAgain = server_again server
input_steps cycle server (ReachesDisk number) = server_flush server number

-- A server that was new over a store, and is reached by inputs that are allowed as it stands then.
pub data ReachedBy (limits : Limits) (cycle : DeadlockTest) (opening : Opening)
    (Allowed : Server → Input → Type 0) : Server → Type 0 where
  Opened : ReachedBy limits cycle opening Allowed
      (new_server limits.clients limits.pages (opening_store limits opening))
  AfterInput : {server : Server} → ReachedBy limits cycle opening Allowed server
      → (input : Input) → Allowed server input
      → ReachedBy limits cycle opening Allowed
      (server_after server (input_steps cycle server input))

-- all that is asked of a message: its client is one that there is
abbrev pub ComesFromClient : Limits → Server → Input → Type 0
ComesFromClient limits server (MessageComes client incarnation body) = client < limits.clients
ComesFromClient limits server _ = ⊤

-- directory rule and ledger hold of the server
abbrev pub RulesHold : Opening → Server → Type 0
RulesHold opening server = DirectoryRule server × Ledger opening server

-- over any opening store, whatever messages come
abbrev pub RulesAlwaysHold : Limits → DeadlockTest → Type 0
RulesAlwaysHold limits cycle = (opening : Opening) (server : Server)
    → ReachedBy limits cycle opening (ComesFromClient limits) server → RulesHold opening server
