-- What is promised of the world over all lives of the server, at each moment.
use Rattle.std.specs.Prelude.{◌≡◌, ◌<◌, ◌≤◌, ℕ, List, ◌++◌, Some}
use Rattle.cb_protocol.specs.AnyMessages.{DirectoryRule, IsCommit, Numbered, bytes_after}
use Rattle.cb_protocol.specs.AnyMessages.{committed_names, version_after}
use Rattle.cb_protocol.specs.Basics.{Bytes, IsIn, Limits}
use Rattle.cb_protocol.specs.Headline.{DoneSent, GaveBack, Holds, MayWritePage, NotWritten}
use Rattle.cb_protocol.specs.Headline.{Promise, ReadableCopy, SoundOpening}
use Rattle.cb_protocol.specs.HelloLaws.{OnlyGreeted}
use Rattle.cb_protocol.specs.LivesWorld.{LeadsTo, Lives, LivesEvent, Reaches, first_life}
use Rattle.cb_protocol.specs.LivesWorld.{in_first_life, run_events}
use Rattle.cb_protocol.specs.Messages.{Hello, Message, Welcome}
use Rattle.cb_protocol.specs.Serial.{EachOnce, IsSerial, Operation, committed_operations}
use Rattle.cb_protocol.specs.Serial.{store_left}
use Rattle.cb_protocol.specs.Server.{AppliedCommit, DeadlockTest}
use Rattle.cb_protocol.specs.Transcript.{transcript_operations}
use Rattle.cb_protocol.specs.World.{Moment, Opening, Plays, World, new_world, world_after}

-- The client is of the present life: its incarnation is the floor or above, whether it was welcomed
-- or not. An incarnation below the floor is never welcomed in this life.
abbrev pub IsOfLife : Lives → (client : ℕ) → Type 0
IsOfLife lives client = lives.floor ≤ lives.world.incarnation client

-- Two readable copies of a page, both at clients of the present life, have the same bytes.
abbrev pub CopiesOfLifeAgree : Lives → Type 0
CopiesOfLifeAgree lives = (client other page : ℕ) (bytes other_bytes : Bytes)
    → IsOfLife lives client → IsOfLife lives other
    → ReadableCopy lives.world client page bytes → ReadableCopy lives.world other page other_bytes
    → bytes ≡ other_bytes

-- While a client of the present life may write a page, no other client of it has a readable copy.
abbrev pub WriterOfLifeAlone : Lives → Type 0
WriterOfLifeAlone lives = (client other page : ℕ) (bytes : Bytes)
    → IsOfLife lives client → IsOfLife lives other
    → MayWritePage lives.world client page → ReadableCopy lives.world other page bytes
    → other ≡ client

-- The commits that count, the newest first: all of the present life, and of each former life those
-- that were on disk when it ended.
abbrev pub lives_commits : Lives → List AppliedCommit
lives_commits lives = lives.world.server.commits ++ lives.former

-- for each of them the operations of its transaction, in commit order
abbrev pub lives_history : Lives → List (List Operation)
lives_history lives = committed_operations
    (committed_names (lives_commits lives)) (transcript_operations lives.world.transcript)

-- Their transactions are a serial history on the store with which the first life began, and the
-- present server's store is what that history leaves.
pub record LivesAreSerial (opening : ℕ → Bytes) (lives : Lives) : Type 0 where
  pub legal : IsSerial opening (lives_history lives)
  pub leaves : (page : ℕ)
      → store_left opening (lives_history lives) page ≡ lives.world.server.store.bytes page

-- Each Done that was ever sent, in whatever life, names a commit that counts, by its number.
pub record DonesStand (lives : Lives) : Type 0 where
  pub committed : (client incarnation txn number : ℕ)
      → DoneSent lives.world client incarnation txn number
      → IsCommit (lives_commits lives) client incarnation txn number
  -- that commit is among those that were reported to the server as on disk
  pub on_disk : (client incarnation txn number : ℕ)
      → DoneSent lives.world client incarnation txn number
      → number ≤ lives.world.server.flushed
  -- what was reported to it as on disk, it made
  pub disk : lives.world.server.flushed ≤ lives.world.server.store.last_commit

-- the server's message that welcomes that incarnation of the client
abbrev pub welcome_to : (client incarnation : ℕ) → Message
welcome_to client incarnation =
    record { client = client; incarnation = incarnation; body = Welcome }

-- that incarnation of the client was welcomed
abbrev pub WelcomeSent : World → (client incarnation : ℕ) → Type 0
WelcomeSent world client incarnation = IsIn (welcome_to client incarnation) world.packets

-- that incarnation of the client greeted
abbrev pub HelloSent : World → (client incarnation : ℕ) → Type 0
HelloSent world client incarnation =
    IsIn (record { client = client; incarnation = incarnation; body = Hello }) world.packets

-- What was sent, in whatever life, is of no incarnation that is still to come.
pub record PacketsArePast (lives : Lives) : Type 0 where
  -- Each message, from a client or to it, is of the client's present incarnation or an earlier one.
  -- So one of the floor or above is by or to a client that has come to it.
  pub past : (message : Message) → IsIn message lives.world.packets
      → message.incarnation ≤ lives.world.incarnation message.client
  -- who was welcomed had greeted
  pub greeted : (client incarnation : ℕ) → WelcomeSent lives.world client incarnation
      → HelloSent lives.world client incarnation

-- The incarnation whose transaction made this commit of the present life is of that life, and was
-- welcomed. So a client that isn't welcomed commits nothing, whatever it holds and whatever is on
-- its way.
pub record CommitWelcomed (lives : Lives) (commit : AppliedCommit) : Type 0 where
  pub of_life : lives.floor ≤ commit.incarnation
  -- its client has had that incarnation
  pub come : commit.incarnation ≤ lives.world.incarnation commit.client
  pub welcomed : WelcomeSent lives.world commit.client commit.incarnation

-- Who isn't of the present life has nothing at its server, and who wasn't welcomed by it commits
-- nothing in it.
pub record WelcomedAlone (lives : Lives) : Type 0 where
  -- Of each client the server takes messages of its current incarnation alone, and Hellos of
  -- a greater one. That is the floor or above, so the server takes nothing of a former life.
  pub current : (client : ℕ) → client < lives.world.server.clients
      → lives.floor ≤ (lives.world.server.session client).current
  -- of a client below the floor it has no row, permission, mark, ask or transaction
  pub nothing : (client : ℕ) → client < lives.world.server.clients
      → lives.world.incarnation client < lives.floor
      → OnlyGreeted lives.world.server client lives.floor
  -- and nobody commits whom it hasn't welcomed
  pub commits : (commit : AppliedCommit) → IsIn commit lives.world.server.commits
      → CommitWelcomed lives commit

-- The ledger over all lives: the commits that count are numbered one by one, from the number of the
-- first life's store on, and the server's store is that first store with their writes over it.
pub record LivesLedger (opening : Opening) (lives : Lives) : Type 0 where
  pub numbered : Numbered opening.number (lives_commits lives)
      lives.world.server.store.last_commit
  pub bytes : (page : ℕ) → lives.world.server.store.bytes page
      ≡ bytes_after opening.bytes (lives_commits lives) page
  pub version : (page : ℕ) → lives.world.server.store.version page
      ≡ version_after opening.version (lives_commits lives) page

-- What a client of the present life holds, the server has in its rows, permissions and store: line
-- by line as in `BackedByServer`, but for these clients alone.
pub record BackedOfLife (lives : Lives) : Type 0 where
  pub row : (client page grant : ℕ) → IsOfLife lives client → Holds lives.world client page grant
      → (lives.world.server.session client).row page ≡ Some grant
  pub never_back : (client page grant : ℕ) → IsOfLife lives client
      → Holds lives.world client page grant → GaveBack lives.world client page grant → ⊥
  pub permission : (client page : ℕ) → IsOfLife lives client
      → MayWritePage lives.world client page
      → lives.world.server.store.holder page ≡ Some client
  pub version : (client page grant : ℕ) → IsOfLife lives client
      → Holds lives.world client page grant → NotWritten lives.world client page
      → (lives.world.client client).cache.version page ≡ lives.world.server.store.version page
  pub bytes : (client page : ℕ) (bytes : Bytes) → IsOfLife lives client
      → ReadableCopy lives.world client page bytes → NotWritten lives.world client page
      → bytes ≡ lives.world.server.store.bytes page

-- All that is promised at one moment. `opening`: the store with which the first life began.
pub record LivesPromise (opening : Opening) (lives : Lives) : Type 0 where
  pub agree : CopiesOfLifeAgree lives
  pub alone : WriterOfLifeAlone lives
  pub serial : LivesAreSerial opening.bytes lives
  pub once : EachOnce (committed_names (lives_commits lives))
  pub dones : DonesStand lives
  pub packets : PacketsArePast lives
  pub welcomed : WelcomedAlone lives
  pub directory : DirectoryRule lives.world.server
  pub ledger : LivesLedger opening lives
  pub backed : BackedOfLife lives

-- Whatever events lead there from the first life's beginning, restarts of the server among them,
-- the promise holds. `cycle`: the test by which victims of deadlocks are picked, whatever it is.
abbrev pub LivesHeadline : Limits → DeadlockTest → Type 0
LivesHeadline limits cycle = (opening : Opening) (events : List LivesEvent) (lives : Lives)
    → SoundOpening opening → Reaches limits cycle opening events lives
    → LivesPromise opening lives

-- So with all limits, with kept write permission and without it.
abbrev pub LivesKeepThePromise : Type 0
LivesKeepThePromise = (limits : Limits) (cycle : DeadlockTest) → LivesHeadline limits cycle

-- In the first life this promise gives the one of one life, word for word.
abbrev pub OneLifeIsPromised : Type 0
OneLifeIsPromised = (opening : Opening) (world : World)
    → LivesPromise opening (in_first_life opening world) → Promise opening world

-- A run of the world of one life is a list of these events, without a restart of the server.
abbrev pub RunsAreOfOneLife : Limits → DeadlockTest → Type 0
RunsAreOfOneLife limits cycle = (opening : Opening) (moments : List Moment)
    → Plays limits cycle (new_world limits opening) moments
    → LeadsTo limits cycle (first_life limits opening) (run_events moments)
    (in_first_life opening (world_after (new_world limits opening) moments))
