-- What each event of the world over all lives keeps and sends; that what is on disk stands for
-- ever; that an event can happen; and that each life has the limits of all.
use Rattle.std.specs.Prelude.{◌≡◌, ◌<◌, ◌≤◌, ℕ, true, false, List, [], ◌∷◌, ◌++◌, Option, None}
use Rattle.std.specs.Prelude.{Some}
use Rattle.cb_protocol.specs.AnyMessages.{IsCommit}
use Rattle.cb_protocol.specs.Basics.{IsIn, Limits}
use Rattle.cb_protocol.specs.Cache.{new_cache}
use Rattle.cb_protocol.specs.Headline.{DoneSent, SoundOpening}
use Rattle.cb_protocol.specs.HelloLaws.{OnlyGreeted}
use Rattle.cb_protocol.specs.Lives.{WelcomeSent, lives_commits, welcome_to}
use Rattle.cb_protocol.specs.LivesWorld.{IsNewFloor, LeadsTo, Lives, LivesEvent, LivesEventAllowed}
use Rattle.cb_protocol.specs.LivesWorld.{MayBeOnDisk, Reaches, ServerRestarts, WithinLife}
use Rattle.cb_protocol.specs.LivesWorld.{lives_step}
use Rattle.cb_protocol.specs.Messages.{Commit, Hello, Message, to_server}
use Rattle.cb_protocol.specs.Server.{AppliedCommit, DeadlockTest, Server}
use Rattle.cb_protocol.specs.World.{Event, EventChoiceAllowed, Opening, TakePacket}
use Rattle.cb_protocol.specs.World.{opening_store, packet_at, step}
use Rattle.cb_laws.specs.Outcomes.{ToldCommitted, ToldGone, last_ended}

-- The server has as many clients and pages as the limits say, and keeps write permission where they
-- say so.
pub record HasLimits (limits : Limits) (server : Server) : Type 0 where
  pub clients : server.clients ≡ limits.clients
  pub pages : server.pages ≡ limits.pages
  pub keep_write : server.store.keep_write ≡ limits.keep_write

-- So has the present server at each moment over all lives.
abbrev pub ServersHaveLimits : Limits → DeadlockTest → Type 0
ServersHaveLimits limits cycle = (opening : Opening) (events : List LivesEvent) (lives : Lives)
    → SoundOpening opening → Reaches limits cycle opening events lives
    → HasLimits limits lives.world.server

-- Of the commits, the newest first, exactly those above that number are lost. The others are as
-- they were, in their order, and there is none besides.
pub record LosesAbove (number : ℕ) (before after : List AppliedCommit) : Type 0 where
  pub lost : List AppliedCommit
  pub all : before ≡ lost ++ after
  pub above : (commit : AppliedCommit) → IsIn commit lost → number < commit.number
  pub up_to : (commit : AppliedCommit) → IsIn commit after → commit.number ≤ number

-- What a restart of the server leaves, where the disk has the commits up to that number. The
-- packets, the clients and the transcript stay as they are: server and commits alone change.
pub record RestartLeaves (limits : Limits) (floor number : ℕ) (before after : Lives) : Type 0 where
  pub packets : after.world.packets ≡ before.world.packets
  pub client : after.world.client ≡ before.world.client
  pub incarnation : after.world.incarnation ≡ before.world.incarnation
  pub transcript : after.world.transcript ≡ before.world.transcript
  -- The new life has the floor that the event names: below it the new server heeds nothing.
  pub heeds : after.floor ≡ floor
  -- From the floor on nothing was sent yet but Hellos. A client that stands there already was never
  -- welcomed: its cache is that of a new one.
  pub hellos : (message : Message) → IsIn message before.world.packets
      → floor ≤ message.incarnation → message.body ≡ Hello
  pub unwelcomed : (client : ℕ) → floor ≤ before.world.incarnation client
      → (before.world.client client).cache ≡ new_cache
  -- of the commits that count, those stay that are on disk
  pub commits : LosesAbove number (lives_commits before) (lives_commits after)
  -- they are all of former lives: the new one has made none
  pub own : after.world.server.commits ≡ []
  -- the server goes on behind the last of them, and knows that they are on disk
  pub last : after.world.server.store.last_commit ≡ number
  pub flushed : after.world.server.flushed ≡ number
  -- it has nothing of any client but the floor, as its current incarnation
  pub nothing : (client : ℕ) → client < limits.clients
      → OnlyGreeted after.world.server client floor
  -- it has the limits of all lives
  pub fits : HasLimits limits after.world.server
  -- and its store is that with which the new life begins: nobody may write a page of it
  pub opening : after.world.server.store ≡ opening_store limits after.opening

-- So at each restart of the server.
abbrev pub RestartsLeaveTheDisk : Limits → DeadlockTest → Type 0
RestartsLeaveTheDisk limits cycle = (opening : Opening) (events : List LivesEvent) (lives : Lives)
    (floor number : ℕ) (let_go : Option ℕ)
    → SoundOpening opening → Reaches limits cycle opening events lives
    → LivesEventAllowed limits lives (ServerRestarts floor number) let_go
    → RestartLeaves limits floor number lives
    (lives_step limits cycle lives (ServerRestarts floor number) let_go)

-- The event is that the server takes a Hello of that incarnation of the client.
abbrev pub TakesHello : Lives → Event → (client incarnation : ℕ) → Type 0
TakesHello lives event client incarnation = (packet : ℕ) × (event ≡ TakePacket packet)
    × (packet_at lives.world.packets packet
    ≡ Some (record { client = client; incarnation = incarnation; body = Hello }))

-- What an event within a life sends: some messages, behind all that were sent before.
pub record SendsInLife (event : Event) (before after : Lives) : Type 0 where
  pub sent : List Message
  pub grows : after.world.packets ≡ before.world.packets ++ sent
  -- a client speaks as the incarnation that it has
  pub by_client : (message : Message) → IsIn message sent → to_server message.body ≡ true
      → message.incarnation ≡ before.world.incarnation message.client
  -- The server speaks to incarnations of its own life alone, and to such as their clients have had:
  -- it says nothing to a client below the floor.
  pub by_server : (message : Message) → IsIn message sent → to_server message.body ≡ false
      → (before.floor ≤ message.incarnation)
      × (message.incarnation ≤ before.world.incarnation message.client)
  -- A Hello of the current incarnation is welcomed at once, and one of a greater incarnation, which
  -- is then the current one. So the first client that comes to the floor is welcomed.
  pub answered : (client incarnation : ℕ) → TakesHello before event client incarnation
      → (before.world.server.session client).current ≤ incarnation
      → IsIn (welcome_to client incarnation) sent
      × ((after.world.server.session client).current ≡ incarnation)
  -- an older Hello is answered by nothing, and changes nothing at the server
  pub older : (client incarnation : ℕ) → TakesHello before event client incarnation
      → incarnation < (before.world.server.session client).current
      → (sent ≡ []) × (after.world.server ≡ before.world.server)
  -- and nothing else is answered by a Welcome
  pub welcome : (client incarnation : ℕ) → IsIn (welcome_to client incarnation) sent
      → TakesHello before event client incarnation
      × ((before.world.server.session client).current ≤ incarnation)

-- So at each event within a life.
abbrev pub EventsSendInTheirLife : Limits → DeadlockTest → Type 0
EventsSendInTheirLife limits cycle = (opening : Opening) (events : List LivesEvent)
    (lives : Lives) (event : Event) (let_go : Option ℕ)
    → SoundOpening opening → Reaches limits cycle opening events lives
    → LivesEventAllowed limits lives (WithinLife event) let_go
    → SendsInLife event lives (lives_step limits cycle lives (WithinLife event) let_go)

-- Who made a commit that an event adds, and what it had sent and was told before that event.
pub record CommitsInLife (before : Lives) (commit : AppliedCommit) : Type 0 where
  -- it is behind all that the server made before
  pub later : before.world.server.store.last_commit < commit.number
  -- its incarnation is of this life, and was welcomed
  pub of_life : before.floor ≤ commit.incarnation
  pub welcomed : WelcomeSent before.world commit.client commit.incarnation
  -- and it had sent this very Commit
  pub asked : IsIn (record {
    client = commit.client;
    incarnation = commit.incarnation;
    body = Commit commit.txn commit.writes;
  }) before.world.packets

-- What an event within a life leaves as it was, and what it adds to the commits.
pub record KeepsInLife (limits : Limits) (cycle : DeadlockTest) (event : Event)
    (let_go : Option ℕ) (before after : Lives) : Type 0 where
  -- the world becomes what that of one life becomes by that event
  pub world : after.world ≡ (step limits cycle before.world event let_go).world
  -- the life stays the same, and so do the commits of former lives
  pub floor : after.floor ≡ before.floor
  pub opening : after.opening ≡ before.opening
  pub former : after.former ≡ before.former
  -- the commits of the life stay, in their order, with new ones in front of them
  pub added : List AppliedCommit
  pub commits : after.world.server.commits ≡ added ++ before.world.server.commits
  pub made : (commit : AppliedCommit) → IsIn commit added → CommitsInLife before commit
  -- no client's incarnation falls
  pub incarnation : (client : ℕ)
      → before.world.incarnation client ≤ after.world.incarnation client

-- So at each event within a life.
abbrev pub EventsKeepTheirLife : Limits → DeadlockTest → Type 0
EventsKeepTheirLife limits cycle = (opening : Opening) (events : List LivesEvent)
    (lives : Lives) (event : Event) (let_go : Option ℕ)
    → SoundOpening opening → Reaches limits cycle opening events lives
    → LivesEventAllowed limits lives (WithinLife event) let_go
    → KeepsInLife limits cycle event let_go lives
    (lives_step limits cycle lives (WithinLife event) let_go)

-- What is on disk stands, whatever comes after.
pub record StandsAfter (lives after : Lives) : Type 0 where
  -- each Done that was sent names a commit that counts
  pub dones : (client incarnation txn number : ℕ)
      → DoneSent lives.world client incarnation txn number
      → IsCommit (lives_commits after) client incarnation txn number
  -- so does the transaction of which a client was told last that it committed
  pub told : (client number : ℕ) → ToldCommitted lives client number
      → IsCommit (lives_commits after) client (lives.world.incarnation client)
      (last_ended (lives.world.client client)) number
  -- and the one of which it was told last that it was dropped or aborted never does
  pub gone : (client number : ℕ) → ToldGone lives client
      → IsCommit (lives_commits after) client (lives.world.incarnation client)
      (last_ended (lives.world.client client)) number → ⊥
  -- each commit that was reported as on disk counts
  pub flushed : (commit : AppliedCommit) → IsIn commit (lives_commits lives)
      → commit.number ≤ lives.world.server.flushed → IsIn commit (lives_commits after)

-- So after any events, restarts of the server among them.
abbrev pub DiskStandsForEver : Limits → DeadlockTest → Type 0
DiskStandsForEver limits cycle = (opening : Opening) (events later : List LivesEvent)
    (lives after : Lives) → SoundOpening opening → Reaches limits cycle opening events lives
    → LeadsTo limits cycle lives later after → StandsAfter lives after

-- Which events may come next; each allowed one goes on from here (`LivesGoOn`).
pub record CanGoOn (limits : Limits) (lives : Lives) : Type 0 where
  -- any event within the life, where the pool lets go a page that it may let go ..
  pub allowed : (event : Event) (let_go : Option ℕ)
      → EventChoiceAllowed limits lives.world event let_go
      → LivesEventAllowed limits lives (WithinLife event) let_go
  -- .. and there is always such a choice
  pub events : (event : Event)
      → (let_go : Option ℕ) × LivesEventAllowed limits lives (WithinLife event) let_go
  -- A restart of the server, with any floor above the present one and above each incarnation that
  -- the server admitted, where the disk has all that was reported, and any part of what was made
  -- behind that ..
  pub restarts : (floor number : ℕ) → lives.floor < floor
      → ((client : ℕ) → client < lives.world.server.clients
      → (lives.world.server.session client).current < floor)
      → lives.world.server.flushed ≤ number
      → number ≤ lives.world.server.store.last_commit
      → LivesEventAllowed limits lives (ServerRestarts floor number) None
  -- .. and there are such floors: from some number on they all are
  pub floors : (lowest : ℕ) × ((floor : ℕ) → lowest ≤ floor → IsNewFloor lives floor)
  -- A floor above the present one and above the incarnation of every client is one of them.
  pub unused : (floor : ℕ) → lives.floor < floor
      → ((client : ℕ) → lives.world.incarnation client < floor) → IsNewFloor lives floor
  -- nothing but what was reported may be on disk, or all that was made
  pub reported : MayBeOnDisk lives.world.server lives.world.server.flushed
  pub all : MayBeOnDisk lives.world.server lives.world.server.store.last_commit

-- So at each moment; and what is reached goes on by each event that may happen.
pub record LivesGoOn (limits : Limits) (cycle : DeadlockTest) : Type 0 where
  pub next : (opening : Opening) (events : List LivesEvent) (lives : Lives)
      → SoundOpening opening → Reaches limits cycle opening events lives → CanGoOn limits lives
  pub goes_on : (opening : Opening) (events : List LivesEvent) (lives : Lives)
      (event : LivesEvent) (let_go : Option ℕ)
      → Reaches limits cycle opening events lives → LivesEventAllowed limits lives event let_go
      → Reaches limits cycle opening (events ++ event ∷ [])
      (lives_step limits cycle lives event let_go)
