-- A commit that is on its way, also after its client restarted: what the ended incarnation had
-- locked as it finished stays its own at the server.
use Rattle.std.specs.Prelude.{◌≡◌, ℕ, true, List, Some}
use Rattle.cb_protocol.specs.AnyMessages.{committed_names}
use Rattle.cb_protocol.specs.Basics.{IsIn, Limits}
use Rattle.cb_protocol.specs.Cache.{Committing}
use Rattle.cb_protocol.specs.Headline.{Holds, SoundOpening}
use Rattle.cb_protocol.specs.Messages.{Commit, PageWrite, write_of_page}
use Rattle.cb_protocol.specs.Serial.{TransactionName}
use Rattle.cb_protocol.specs.Server.{DeadlockTest}
use Rattle.cb_protocol.specs.World.{Moment, Opening, Plays, ReachedWorld, World, world_after}

-- The transaction finished and awaits its Done, as from its finish on until Done or a restart.
pub record HasFinished (world : World) (name : TransactionName) : Type 0 where
  pub incarnation : world.incarnation name.client ≡ name.incarnation
  pub txn : (world.client name.client).cache.number ≡ name.txn
  pub status : (world.client name.client).cache.status ≡ Committing

-- its client has locked the page, by a copy of this grant, and read it at this version
pub record HasLocked (world : World) (client page grant read_at : ℕ) : Type 0 where
  pub locked : (world.client client).cache.locked page ≡ true
  pub held : Holds world client page grant
  pub version : (world.client client).cache.version page ≡ read_at

-- The transaction's commit was not applied, and its incarnation is still the server's current one:
-- no greater Hello of its client was taken.
pub record IsOnItsWay (world : World) (name : TransactionName) : Type 0 where
  pub not_applied : IsIn name (committed_names world.server.commits) → ⊥
  pub current : (world.server.session name.client).current ≡ name.incarnation

-- the client has the page's row, with this grant, and the store has the page at this version
pub record RowStands (world : World) (client page grant read_at : ℕ) : Type 0 where
  pub row : (world.server.session client).row page ≡ Some grant
  pub version : world.server.store.version page ≡ read_at

-- Whatever happens after a transaction finished, its client's restart included: each page that it
-- had locked keeps its row and the version that was read, while its commit is on its way.
abbrev pub CommitsKeepTheirRows : Limits → DeadlockTest → Type 0
CommitsKeepTheirRows limits cycle = (opening : Opening) (finished : World)
    (moments : List Moment) (name : TransactionName) (page grant read_at : ℕ)
    → SoundOpening opening → ReachedWorld limits cycle opening finished
    → HasFinished finished name → HasLocked finished name.client page grant read_at
    → Plays limits cycle finished moments → IsOnItsWay (world_after finished moments) name
    → RowStands (world_after finished moments) name.client page grant read_at

-- Each page that a commit writes has its row, with the grant that the commit names, and its
-- permission: the client is the page's write holder.
pub record WritesAreBacked (world : World) (client : ℕ) (writes : List PageWrite) : Type 0 where
  pub row : (page : ℕ) (write : PageWrite) → write_of_page writes page ≡ Some write
      → (world.server.session client).row page ≡ Some write.grant
  pub permission : (page : ℕ) (write : PageWrite) → write_of_page writes page ≡ Some write
      → world.server.store.holder page ≡ Some client

-- Each Commit that was sent and is on its way finds the rows and permissions that it needs.
abbrev pub CommitsFindTheirRows : World → Type 0
CommitsFindTheirRows world = (name : TransactionName) (writes : List PageWrite)
    → IsIn (record {
      client = name.client;
      incarnation = name.incarnation;
      body = Commit name.txn writes;
    }) world.packets
    → IsOnItsWay world name → WritesAreBacked world name.client writes
