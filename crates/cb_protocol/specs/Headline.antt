-- What the protocol promises of every world that is reached.
use Rattle.std.specs.Prelude.{◌≡◌, ◌≤◌, ℕ, false, true, List, Some}
use Rattle.cb_protocol.specs.AnyMessages.{DirectoryRule, IsCommit, Ledger, committed_names}
use Rattle.cb_protocol.specs.Basics.{Bytes, IsIn, Limits}
use Rattle.cb_protocol.specs.Cache.{Open}
use Rattle.cb_protocol.specs.Messages.{Done, GiveBack}
use Rattle.cb_protocol.specs.Serial.{EachOnce, IsSerial, Operation, committed_operations}
use Rattle.cb_protocol.specs.Serial.{store_left}
use Rattle.cb_protocol.specs.Server.{DeadlockTest}
use Rattle.cb_protocol.specs.Transcript.{transcript_operations}
use Rattle.cb_protocol.specs.World.{Opening, ReachedWorld, World}

-- a client has a readable copy of a page (TODS 1997: a cached copy is the permission to read)
abbrev pub ReadableCopy : World → (client page : ℕ) → Bytes → Type 0
ReadableCopy world client page bytes = (world.client client).cache.content page ≡ Some bytes

-- its open transaction may write the page
abbrev pub MayWritePage : World → (client page : ℕ) → Type 0
MayWritePage world client page =
    ((world.client client).cache.status ≡ Open)
    × ((world.client client).cache.may_write page ≡ true)

-- Two readable copies of a page have the same bytes.
abbrev pub CopiesAgree : World → Type 0
CopiesAgree world = (client other page : ℕ) (bytes other_bytes : Bytes)
    → ReadableCopy world client page bytes → ReadableCopy world other page other_bytes
    → bytes ≡ other_bytes

-- While a client may write a page, no other has a readable copy of it.
abbrev pub WriterAlone : World → Type 0
WriterAlone world = (client other page : ℕ) (bytes : Bytes)
    → MayWritePage world client page → ReadableCopy world other page bytes → other ≡ client

-- the operations of the committed transactions, in commit order
abbrev pub committed_history : World → List (List Operation)
committed_history world = committed_operations
    (committed_names world.server.commits) (transcript_operations world.transcript)

-- They are a serial history on the opening store, and the server's store is what it leaves.
pub record CommittedIsSerial (opening : ℕ → Bytes) (world : World) : Type 0 where
  pub legal : IsSerial opening (committed_history world)
  pub leaves : (page : ℕ)
      → store_left opening (committed_history world) page ≡ world.server.store.bytes page

-- that client at that incarnation was told Done of the transaction, with the number of its commit
abbrev pub DoneSent : World → (client incarnation txn number : ℕ) → Type 0
DoneSent world client incarnation txn number =
    IsIn (record { client = client; incarnation = incarnation; body = Done txn number })
    world.packets

-- Each Done that was sent names a commit and its number.
abbrev pub DonesNameCommits : World → Type 0
DonesNameCommits world = (client incarnation txn number : ℕ)
    → DoneSent world client incarnation txn number
    → IsCommit world.server.commits client incarnation txn number

-- Done is said only of commits that were reported as on disk (textbook: durability).
pub record DonesOnDisk (world : World) : Type 0 where
  -- what was reported was committed
  pub committed : world.server.flushed ≤ world.server.store.last_commit
  -- and each Done that was sent is of a commit up to that
  pub on_disk : (client incarnation txn number : ℕ)
      → DoneSent world client incarnation txn number → number ≤ world.server.flushed

-- the client's present incarnation holds a copy of the page by this grant
abbrev pub Holds : World → (client page grant : ℕ) → Type 0
Holds world client page grant = (world.client client).cache.held page ≡ Some grant

-- the client's present incarnation gave that grant back
abbrev pub GaveBack : World → (client page grant : ℕ) → Type 0
GaveBack world client page grant =
    IsIn (record {
      client = client;
      incarnation = world.incarnation client;
      body = GiveBack page grant;
    }) world.packets

-- the client's transaction did not write the page
abbrev pub NotWritten : World → (client page : ℕ) → Type 0
NotWritten world client page = (world.client client).cache.wrote page ≡ false

-- Why the copies are right: what a client holds, the server has in its rows.
pub record BackedByServer (world : World) : Type 0 where
  -- a grant that is held has its row, and was never given back
  pub row : (client page grant : ℕ) → Holds world client page grant
      → (world.server.session client).row page ≡ Some grant
  pub never_back : (client page grant : ℕ) → Holds world client page grant
      → GaveBack world client page grant → ⊥
  -- who may write has the permission
  pub permission : (client page : ℕ) → MayWritePage world client page
      → world.server.store.holder page ≡ Some client
  -- a copy that was not written is the store's
  pub version : (client page grant : ℕ) → Holds world client page grant
      → NotWritten world client page
      → (world.client client).cache.version page ≡ world.server.store.version page
  pub bytes : (client page : ℕ) (bytes : Bytes) → ReadableCopy world client page bytes
      → NotWritten world client page → bytes ≡ world.server.store.bytes page

-- all of it
pub record Promise (opening : Opening) (world : World) : Type 0 where
  pub agree : CopiesAgree world
  pub alone : WriterAlone world
  pub serial : CommittedIsSerial opening.bytes world
  pub once : EachOnce (committed_names world.server.commits)
  pub directory : DirectoryRule world.server
  pub ledger : Ledger opening world.server
  pub dones : DonesNameCommits world
  pub disk : DonesOnDisk world
  pub backed : BackedByServer world

-- a sound opening store: no page is newer than its last commit
abbrev pub SoundOpening : Opening → Type 0
SoundOpening opening = (page : ℕ) → opening.version page ≤ opening.number

-- From the opening world, by whatever events, each world that is reached keeps the promise.
-- `cycle`: whoever is doomed, by whatever test.
abbrev pub Headline : Limits → DeadlockTest → Type 0
Headline limits cycle = (opening : Opening) (world : World) → SoundOpening opening
    → ReachedWorld limits cycle opening world → Promise opening world
