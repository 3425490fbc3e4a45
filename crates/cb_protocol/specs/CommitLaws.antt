-- Laws of commits at the server, whatever messages come: which are applied, and of which Done is
-- said.
use Rattle.std.specs.Prelude.{◌≡◌, ◌≢◌, ◌<◌, ◌≤◌, ◌+◌, ℕ, false, List, ◌∷◌, Some}
use Rattle.cb_protocol.specs.AnyMessages.{Input, MessageComes, ReachesDisk, input_steps}
use Rattle.cb_protocol.specs.Basics.{IsIn}
use Rattle.cb_protocol.specs.Messages.{Commit, Done, Message, PageWrite}
use Rattle.cb_protocol.specs.Server.{DeadlockTest, Server, server_after}
use Rattle.cb_protocol.specs.ServerMessages.{begin_transaction}
use Rattle.cb_protocol.specs.World.{messages_sent}

-- each Done among the messages is of a commit up to that number
abbrev pub DonesUpTo : ℕ → List Message → Type 0
DonesUpTo last messages = (client incarnation txn number : ℕ)
    → IsIn (record { client = client; incarnation = incarnation; body = Done txn number }) messages
    → number ≤ last

-- the last commit that is on disk after an input: the disk alone says so
abbrev pub flushed_by : Server → Input → ℕ
flushed_by server (ReachesDisk number) = number
flushed_by server _ = server.flushed

-- At any server, at every input, Done is said only of commits that are on disk (this project's
-- rule).
abbrev pub DoneFromDiskAlone : Type 0
DoneFromDiskAlone = (cycle : DeadlockTest) (server : Server) (input : Input)
    → let steps = input_steps cycle server input in
    ((server_after server steps).flushed ≡ flushed_by server input)
    × DonesUpTo (flushed_by server input) (messages_sent steps)

-- the server as a message of that transaction finds it: one later than the current has begun
abbrev pub server_with : Server → (client txn : ℕ) → Server
server_with server client txn = server_after server (begin_transaction server client txn)

-- the client is write holder of each page written, and has the copy that the commit names
abbrev pub WritesPermitted : Server → (client : ℕ) → List PageWrite → Type 0
WritesPermitted server client writes = (write : PageWrite) → IsIn write writes
    → (server.store.holder write.page ≡ Some client)
    × ((server.session client).row write.page ≡ Some write.grant)

-- A commit that may be applied: of the current incarnation, of a transaction that neither ended nor
-- is doomed, of pages that it may write.
pub record MayBeApplied (server : Server) (client incarnation txn : ℕ)
    (writes : List PageWrite) : Type 0 where
  pub current : incarnation ≡ (server.session client).current
  pub lives : ((server_with server client txn).session client).ended < txn
  pub not_doomed : (server_with server client txn).doomed client ≡ false
  pub permitted : WritesPermitted (server_with server client txn) client writes

-- it is the next commit, and its transaction has ended by it
pub record IsApplied (before after : Server) (client incarnation txn : ℕ)
    (writes : List PageWrite) : Type 0 where
  pub listed : after.commits ≡ record {
    client = client;
    incarnation = incarnation;
    txn = txn;
    number = before.store.last_commit + 1;
    writes = writes;
  } ∷ before.commits
  pub ended : (after.session client).ended ≡ txn
  pub outcome : after.outcome client ≡ Some (before.store.last_commit + 1)

-- the server after that Commit came
abbrev pub server_after_commit : DeadlockTest → Server → (client incarnation txn : ℕ)
    → List PageWrite → Server
server_after_commit cycle server client incarnation txn writes =
    server_after server
    (input_steps cycle server (MessageComes client incarnation (Commit txn writes)))

-- At any server a Commit is applied where it may be, and else no commit is.
abbrev pub AppliedWhereItMay : Type 0
AppliedWhereItMay = (cycle : DeadlockTest) (server : Server)
    (client incarnation txn : ℕ) (writes : List PageWrite)
    → let after = server_after_commit cycle server client incarnation txn writes in
    (MayBeApplied server client incarnation txn writes
    → IsApplied server after client incarnation txn writes)
    × ((MayBeApplied server client incarnation txn writes → ⊥) → after.commits ≡ server.commits)

-- No other input applies a commit.
abbrev pub NoOtherApplies : Type 0
NoOtherApplies = (cycle : DeadlockTest) (server : Server) (input : Input)
    → ((client incarnation txn : ℕ) (writes : List PageWrite)
    → input ≢ MessageComes client incarnation (Commit txn writes))
    → (server_after server (input_steps cycle server input)).commits ≡ server.commits
