-- Pages that a transaction wrote: until its commit is applied nobody else has one, and from then on
-- until its Done comes they are the store's.
use Rattle.std.specs.Prelude.{◌≡◌, ◌≢◌, ◌≤◌, ℕ, if◌then◌else◌, ◌==◌, true, List, [], ◌∷◌}
use Rattle.std.specs.Prelude.{Option, Some, None}
use Rattle.cb_protocol.specs.AnyMessages.{ComesFromClient, IsCommit, ReachedBy, committed_names}
use Rattle.cb_protocol.specs.Basics.{Bytes, IsIn, Limits}
use Rattle.cb_protocol.specs.Cache.{Idle, Open}
use Rattle.cb_protocol.specs.CommitsOnTheirWay.{IsOnItsWay}
use Rattle.cb_protocol.specs.Headline.{DoneSent, Holds, NotWritten, ReadableCopy}
use Rattle.cb_protocol.specs.Messages.{Commit, PageWrite, write_of_page}
use Rattle.cb_protocol.specs.Serial.{Operation, Put, Saw, TransactionName, transaction_operations}
use Rattle.cb_protocol.specs.Server.{AppliedCommit, DeadlockTest, Server}
use Rattle.cb_protocol.specs.Transcript.{transcript_operations}
use Rattle.cb_protocol.specs.World.{Opening, World}

-- what these operations, the newest first, wrote of the page last
abbrev pub last_written : List Operation → (page : ℕ) → Option Bytes
last_written [] page = None
last_written (Saw seen bytes ∷ earlier) page = last_written earlier page
last_written (Put put bytes ∷ earlier) page =
    if put == page then Some bytes else last_written earlier page

-- the name of a client's last transaction
abbrev pub last_transaction : World → (client : ℕ) → TransactionName
last_transaction world client = record {
  client = client;
  incarnation = world.incarnation client;
  txn = (world.client client).cache.number;
}

-- what it read and wrote so far, by the transcript, the newest first
abbrev pub operations_so_far : World → (client : ℕ) → List Operation
operations_so_far world client = let name = last_transaction world client in
    transaction_operations (transcript_operations world.transcript)
    name.client name.incarnation name.txn

-- The client's transaction, open or committing, wrote the page, and last these bytes.
pub record HasWritten (world : World) (client page : ℕ) (bytes : Bytes) : Type 0 where
  pub goes_on : (world.client client).cache.status ≢ Idle
  pub last : last_written (operations_so_far world client) page ≡ Some bytes

-- the commit of the client's last transaction was applied
abbrev pub IsApplied : World → (client : ℕ) → Type 0
IsApplied world client =
    IsIn (last_transaction world client) (committed_names world.server.commits)

-- The client is alone with the page, in the directory and in the caches, and the store has it as it
-- was read: nobody wrote it since.
pub record IsAlone (world : World) (client page : ℕ) : Type 0 where
  pub holder : world.server.store.holder page ≡ Some client
  pub row : (other grant : ℕ) → (world.server.session other).row page ≡ Some grant
      → other ≡ client
  pub held : (other grant : ℕ) → Holds world other page grant → other ≡ client
  pub readable : (other : ℕ) (bytes : Bytes) → ReadableCopy world other page bytes
      → other ≡ client
  pub version : (world.client client).cache.version page ≡ world.server.store.version page

-- The page is as the transaction's commit wrote it: no later commit did, and nobody else may.
pub record IsTheStores (world : World) (client page : ℕ) (written : Bytes) : Type 0 where
  pub bytes : world.server.store.bytes page ≡ written
  pub version : (number : ℕ)
      → IsCommit world.server.commits client (world.incarnation client)
      (world.client client).cache.number number
      → world.server.store.version page ≡ number
  pub holder : (other : ℕ) → world.server.store.holder page ≡ Some other → other ≡ client
  -- whoever else has a readable copy by now, has these bytes
  pub readable : (other : ℕ) (copy : Bytes) → ReadableCopy world other page copy → copy ≡ written

-- A written page, from its write until its transaction's Done.
pub record WrittenPages (world : World) : Type 0 where
  -- its client has a copy with a row at the server, and reads its own bytes
  pub own : (client page : ℕ) (bytes : Bytes) → HasWritten world client page bytes
      → ReadableCopy world client page bytes
  pub row : (client page : ℕ) (bytes : Bytes) → HasWritten world client page bytes
      → (grant : ℕ) × Holds world client page grant
      × ((world.server.session client).row page ≡ Some grant)
  -- until the commit is applied, so while the transaction is open, nobody else has a copy
  pub before : (client page : ℕ) (bytes : Bytes) → HasWritten world client page bytes
      → (IsApplied world client → ⊥) → IsAlone world client page
  pub unended : (client : ℕ) → (world.client client).cache.status ≡ Open
      → IsApplied world client → ⊥
  -- from then on until Done comes, the store has the bytes that were written
  pub applied : (client page : ℕ) (bytes : Bytes) → HasWritten world client page bytes
      → IsApplied world client → IsTheStores world client page bytes
  -- a Done that was sent says that it was applied
  pub told : (client number : ℕ)
      → DoneSent world client (world.incarnation client) (world.client client).cache.number number
      → IsApplied world client
  -- The mark of written pages is exact: what is not marked was not written.
  pub mark : (client page : ℕ) (bytes : Bytes) → HasWritten world client page bytes
      → NotWritten world client page → ⊥
  pub marked : (client page : ℕ) → (world.client client).cache.wrote page ≡ true
      → (bytes : Bytes) × HasWritten world client page bytes

-- A Commit that is on its way, also after its client restarted: nobody but its incarnation has a
-- copy of a page that it writes.
abbrev pub WritesOnTheirWay : World → Type 0
WritesOnTheirWay world = (name : TransactionName) (writes : List PageWrite)
    → IsIn (record {
      client = name.client;
      incarnation = name.incarnation;
      body = Commit name.txn writes;
    }) world.packets
    → IsOnItsWay world name → (page : ℕ) (write : PageWrite)
    → write_of_page writes page ≡ Some write → (other grant : ℕ) → Holds world other page grant
    → (other ≡ name.client) × (world.incarnation other ≡ name.incarnation)

-- What the store has of a page is what the last commit that wrote it wrote: a commit's write stands
-- until a later commit writes the page.
pub record LastWriteStands (server : Server) : Type 0 where
  pub none_older : (commit : AppliedCommit) (page : ℕ) (write : PageWrite)
      → IsIn commit server.commits → write_of_page commit.writes page ≡ Some write
      → commit.number ≤ server.store.version page
  pub bytes : (commit : AppliedCommit) (page : ℕ) (write : PageWrite)
      → IsIn commit server.commits → write_of_page commit.writes page ≡ Some write
      → server.store.version page ≡ commit.number → server.store.bytes page ≡ write.bytes

-- So at every server, whatever messages come.
abbrev pub LastWritesStand : Type 0
LastWritesStand = (limits : Limits) (cycle : DeadlockTest) (opening : Opening) (server : Server)
    → ReachedBy limits cycle opening (ComesFromClient limits) server → LastWriteStands server
