-- The version of a row. The server keeps none: a copy has the version with which its Granted came,
-- or that its client's own commit gave it, and that is always the store's.
use Rattle.std.specs.Prelude.{◌≡◌, ◌<◌, ◌⊎◌, ℕ, List, [], ◌++◌, Some}
use Rattle.cb_protocol.specs.AnyMessages.{ComesFromClient, Input, input_steps}
use Rattle.cb_protocol.specs.Basics.{Bytes, IsIn, Limits}
use Rattle.cb_protocol.specs.Headline.{SoundOpening}
use Rattle.cb_protocol.specs.Messages.{Granted, Message, PageWrite, write_of_page}
use Rattle.cb_protocol.specs.Server.{AppliedCommit, DeadlockTest, Server, new_server, server_after}
use Rattle.cb_protocol.specs.World.{Opening, World, messages_sent, opening_store}

-- that client's incarnation was sent a copy of the page, by that grant
abbrev pub GrantedSent : List Message → (client incarnation page grant version : ℕ) → Bytes
    → Type 0
GrantedSent messages client incarnation page grant version bytes = IsIn (record {
  client = client;
  incarnation = incarnation;
  body = Granted page grant version bytes;
}) messages

-- the client has the page's row, with this grant
abbrev pub HasRow : Server → (client page grant : ℕ) → Type 0
HasRow server client page grant = (server.session client).row page ≡ Some grant

-- these are the store's version and bytes of the page
abbrev pub IsAsStored : Server → (page version : ℕ) → Bytes → Type 0
IsAsStored server page version bytes =
    (version ≡ server.store.version page) × (bytes ≡ server.store.bytes page)

-- the commit of that number is of that client's incarnation, and wrote its copy of that grant
pub record WroteByGrant (commits : List AppliedCommit) (client incarnation page grant number : ℕ)
    : Type 0 where
  pub commit : AppliedCommit
  pub listed : IsIn commit commits
  pub by_client : commit.client ≡ client
  pub by_incarnation : commit.incarnation ≡ incarnation
  pub numbered : commit.number ≡ number
  pub write : PageWrite
  pub writes : write_of_page commit.writes page ≡ Some write
  pub by_grant : write.grant ≡ grant

-- The row's client itself wrote the page since, by the row's grant, and nobody did after it.
abbrev pub WroteSince : Server → (client page grant version : ℕ) → Type 0
WroteSince server client page grant version = (version < server.store.version page)
    × WroteByGrant server.commits client (server.session client).current page grant
    (server.store.version page)

-- What is sent for rows, of all that the server sent.
pub record RowVersions (server : Server) (messages : List Message) : Type 0 where
  -- each row was sent to its client's current incarnation
  pub sent : (client page grant : ℕ) → HasRow server client page grant
      → (version : ℕ) × (bytes : Bytes)
      × GrantedSent messages client (server.session client).current page grant version bytes
  -- a Granted of a row's grant is for that incarnation
  pub current : (client incarnation page grant version : ℕ) (bytes : Bytes)
      → GrantedSent messages client incarnation page grant version bytes
      → HasRow server client page grant
      → incarnation ≡ (server.session client).current
  -- and is as the store has the page now, save where its client itself wrote the page since
  pub version : (client incarnation page grant version : ℕ) (bytes : Bytes)
      → GrantedSent messages client incarnation page grant version bytes
      → HasRow server client page grant
      → IsAsStored server page version bytes ⊎ WroteSince server client page grant version

-- A server that was new over a store, with all that it ever sent, whatever messages came.
pub data SentByServer (limits : Limits) (cycle : DeadlockTest) (opening : Opening)
    : Server → List Message → Type 0 where
  SentNothing : SentByServer limits cycle opening
      (new_server limits.clients limits.pages (opening_store limits opening)) []
  SentAfter : {server : Server} {sent : List Message}
      → SentByServer limits cycle opening server sent
      → (input : Input) → ComesFromClient limits server input
      → SentByServer limits cycle opening
      (server_after server (input_steps cycle server input))
      (sent ++ messages_sent (input_steps cycle server input))

-- so at every server over a sound opening store, whatever messages came
abbrev pub ServersRowVersions : Type 0
ServersRowVersions = (limits : Limits) (cycle : DeadlockTest) (opening : Opening)
    (server : Server) (sent : List Message) → SoundOpening opening
    → SentByServer limits cycle opening server sent → RowVersions server sent

-- A copy that is on its way and that its client would take, since it is greater than all it saw, is
-- of a row that stands, and as the store has the page now.
abbrev pub CopiesOnTheirWay : World → Type 0
CopiesOnTheirWay world = (client page grant version : ℕ) (bytes : Bytes)
    → GrantedSent world.packets client (world.incarnation client) page grant version bytes
    → (world.client client).cache.seen page < grant
    → HasRow world.server client page grant × IsAsStored world.server page version bytes
