-- What a server's engine does for a message, and the room that it has for it.
use Rattle.std.specs.Prelude.{◌≡◌, ◌≤◌, ◌<◌, ◌+◌, ◌==◌, ◌&&◌, ℕ, Bool, true, false, List}
use Rattle.std.specs.Prelude.{[], ◌∷◌, ◌++◌}
use Rattle.std.specs.Prelude.{length, ⊤}
use Rattle.cb_asks.specs.Asks.{asks_below, room_at}
use Rattle.cb_callbacks.specs.Numbers as numbers
use Rattle.cb_callbacks.specs.Numbers.{IsLiveOne}
use Rattle.cb_commit.specs.History.{FitsInto}
use Rattle.cb_frame.specs.declared.frame.Body.{Body}
use Rattle.cb_frame.specs.declared.frame.Body.TheVariants as body
use Rattle.cb_frame.specs.declared.writes.Write.{Write}
use Rattle.cb_links.specs.declared.sessions.Standing.{Standing}
use Rattle.cb_outbox.specs.Messages.{short_of}
use Rattle.cb_outbox.specs.Saying.{Says}
use Rattle.cb_page.specs.Bounds.{Bounds}
use Rattle.cb_protocol.specs.Basics.{Limits, is_none}
use Rattle.cb_protocol.specs.Messages as protocol
use Rattle.cb_protocol.specs.Messages.{AbortNow}
use Rattle.cb_protocol.specs.Numbers.{HasGrantsLeft, messages_for_pages}
use Rattle.cb_protocol.specs.Ranges.{BodyFits}
use Rattle.cb_protocol.specs.Server.{DeadlockTest, Server, ServerStep, has_not_ended, server_after}
use Rattle.cb_protocol.specs.ServerMessages.{and_then, begin_transaction, commit_allowed}
use Rattle.cb_protocol.specs.ServerMessages.{direct_answer, may_proceed, named_txn}
use Rattle.cb_protocol.specs.ServerMessages.{read_asks_below}
use Rattle.cb_protocol.specs.Settling.{no_other_holder, send_to, settle_pages}
use Rattle.cb_protocol.specs.WaitsFor.{on_cycle}
use Rattle.cb_protocol.specs.World.{messages_sent}
use Rattle.cb_server_state.specs.States as states
use Rattle.cb_server_state.specs.States.{AreOf, IsAsLarge, Stays, server_of}
use Rattle.cb_server.specs.ServerValue.{most_frames}
use Rattle.cb_server.specs.declared.engine.Engine.{Engine}
use Rattle.cb_server.specs.declared.engine.Headway.{Headway}
use Rattle.cb_server.specs.declared.engine.Headway.TheVariants as headway
use Rattle.cb_server.specs.declared.engine.answers.Begun.{Begun}
use Rattle.cb_server.specs.declared.engine.answers.Begun.TheVariants as begun

-- the protocol's server that the engine has
abbrev pub server_in : Engine → Server
server_in engine = server_of engine.callbacks.state

-- there is such a client; such a page
abbrev pub HasClient : Engine → ℕ → Type 0
HasClient engine client = states.HasClient engine.callbacks.state client

abbrev pub HasPage : Engine → ℕ → Type 0
HasPage engine page = states.HasPage engine.callbacks.state page

-- its state is of these limits
abbrev pub HasLimits : Engine → Bounds → Type 0
HasLimits engine limits = AreOf limits engine.callbacks.state

-- the pages of a commit fit the store
abbrev pub FitsStore : Engine → List Write → Type 0
FitsStore engine writes = FitsInto engine.callbacks.state.commits.store writes

-- so many asks more can wait for the page without memory
abbrev pub places_at : Engine → ℕ → ℕ
places_at engine page = room_at engine.callbacks.state.asks page

-- Room for so many messages and copies of pages, of the store's size; and every ask to read that
-- waits can have a grant number.
pub record HasRoom (engine : Engine) (messages copies : ℕ) : Type 0 where
  pub frames : length engine.outbox.sent + messages ≤ engine.outbox.room
  pub copies_of_pages : copies ≤ engine.outbox.spare
  pub grants : HasGrantsLeft (server_in engine)
  pub size : IsAsLarge engine.outbox engine.callbacks.state

-- how many asks to read wait
abbrev pub read_asks_in_all : Engine → ℕ
read_asks_in_all engine = read_asks_below (server_in engine) (server_in engine).pages

-- how many asks wait
abbrev pub asks_in_all : Engine → ℕ
asks_in_all engine = asks_below (server_in engine) (server_in engine).pages

-- an ask of the client to read the page can be granted at once: nobody waits for any page, the
-- client has no copy, and no other client is the page's write holder
abbrev pub is_free : Engine → (client page : ℕ) → Bool
is_free engine client page =
    (asks_in_all engine == 0)
    && is_none (((server_in engine).session client).row page)
    && no_other_holder ((server_in engine).store.holder page) client

-- how many messages settling may send for all asks that wait: two for an ask to read, and for an
-- ask to write one to each client and one more to its own (this project's rule)
abbrev pub messages_in_all : Engine → ℕ
messages_in_all engine = messages_for_pages (server_in engine) (server_in engine).pages

-- room for all that settling sends, and a copy for each ask to read
abbrev pub CanSettle : Engine → Type 0
CanSettle engine = HasRoom engine (messages_in_all engine) (read_asks_in_all engine)

-- how many messages more a body can need: its answer, or what settling may send for its ask
abbrev pub messages_for_body : (clients : ℕ) → protocol.Body → ℕ
messages_for_body clients protocol.Hello = 1
messages_for_body clients (protocol.AskRead txn page) = 2
messages_for_body clients (protocol.AskWrite txn page grant) = clients + 1
messages_for_body clients (protocol.Commit txn writes) = 1
messages_for_body clients _ = 0

-- how many copies of pages more it can need
abbrev pub copies_for_body : protocol.Body → ℕ
copies_for_body (protocol.AskRead txn page) = 1
copies_for_body _ = 0

-- room for a body's answer, and for settling once it is answered
abbrev pub CanAnswer : Engine → protocol.Body → Type 0
CanAnswer engine body = HasRoom engine
    (messages_in_all engine + messages_for_body (server_in engine).clients body)
    (read_asks_in_all engine + copies_for_body body)

-- Room for one answer without page bytes.
pub record CanSay (engine : Engine) : Type 0 where
  pub frames : length engine.outbox.sent < engine.outbox.room

-- Room for one answer, with a copy of a page.
pub record CanGrant (engine : Engine) : Type 0 where
  pub say : CanSay engine
  pub copy : 0 < engine.outbox.spare
  pub size : IsAsLarge engine.outbox engine.callbacks.state

-- room for the answer to a body alone
abbrev pub CanSayTo : protocol.Body → Engine → Type 0
CanSayTo (protocol.AskRead txn page) engine = CanGrant engine
CanSayTo (protocol.AskWrite txn page grant) engine = CanSay engine
CanSayTo (protocol.Commit txn writes) engine = CanSay engine
CanSayTo _ engine = ⊤

-- The engine does these steps of the protocol's server, and says what they send.
pub record Makes (old : Engine) (steps : Server → List ServerStep) (new : Engine) : Type 0 where
  pub says : Says (server_in old) steps (server_in new) old.outbox new.outbox
  pub stays : Stays old.callbacks.state new.callbacks.state

-- There are no more spare pages than copies that one message can need: at most 32 asks to read
-- wait, and its own comes.
abbrev pub HasFewSpare : Engine → Type 0
HasFewSpare engine = engine.outbox.spare ≤ 33

-- how much room for frames one message can need, beside those that are to be sent already
abbrev pub most_room : Engine → ℕ
most_room engine = length engine.outbox.sent + most_frames (server_in engine)

-- there is no more
abbrev pub HasLittleRoom : Engine → Type 0
HasLittleRoom engine = engine.outbox.room ≤ most_room engine

-- So it does, in whatever room; it asks for no more than one message can need.
pub record Serves (old : Engine) (steps : Server → List ServerStep) (new : Engine) : Type 0 where
  pub becomes : server_in new ≡ server_after (server_in old) (steps (server_in old))
  pub sends : new.outbox.sent ≡ old.outbox.sent ++ messages_sent (steps (server_in old))
  pub stays : Stays old.callbacks.state new.callbacks.state
  pub page_size : new.outbox.page_size ≡ old.outbox.page_size
  pub few : HasFewSpare old → HasFewSpare new
  pub room : HasLittleRoom old → new.outbox.room ≤ most_room old

-- a message's transaction begins, and it is answered; settling is still to come
abbrev pub answer_to : DeadlockTest → ℕ → protocol.Body → Server → List ServerStep
answer_to cycle client body server =
    and_then server (begin_transaction server client (named_txn body))
    (λ begun. direct_answer cycle begun client body)

-- whether a number is lacking for it, once its transaction has begun
abbrev pub LacksNumber : Engine → ℕ → protocol.Body → Bool → Type 0
LacksNumber engine client body answer = numbers.LacksNumber (server_in engine) client body answer

-- whether a commit would be applied, once its transaction has begun
abbrev pub applies : Server → (client txn : ℕ) → List protocol.PageWrite → Bool
applies server client txn writes =
    let begun = server_after server (begin_transaction server client txn) in
    may_proceed begun client txn && commit_allowed begun client writes

-- Between two messages: nothing is to be sent yet, settling would do nothing, and each ask to read
-- that waits can have a grant number.
pub record IsReady (engine : Engine) : Type 0 where
  pub sent : engine.outbox.sent ≡ []
  pub settled : settle_pages on_cycle (server_in engine) (server_in engine).pages ≡ []
  pub grants : HasGrantsLeft (server_in engine)
  pub size : IsAsLarge engine.outbox engine.callbacks.state

-- A transaction has begun where it is a later one; nothing is sent, and no room is used up.
pub record Begins (old : Engine) (client txn : ℕ) (new : Engine) : Type 0 where
  pub makes : Makes old (λ server. begin_transaction server client txn) new
  pub outbox : new.outbox ≡ old.outbox
  pub places : (page : ℕ)
      → room_at old.callbacks.state.asks page ≤ room_at new.callbacks.state.asks page

-- Nothing changes but room.
pub record IsLeft (old new : Engine) : Type 0 where
  pub server : server_in new ≡ server_in old
  pub rest : new.callbacks.state
      ≡ record old.callbacks.state { asks = new.callbacks.state.asks }
  pub sent : new.outbox.sent ≡ old.outbox.sent
  pub page_size : new.outbox.page_size ≡ old.outbox.page_size
  pub few : HasFewSpare old → HasFewSpare new
  pub room : HasLittleRoom old → new.outbox.room ≤ most_room old

-- the client's incarnation that is current
abbrev pub IsCurrent : Engine → (client incarnation : ℕ) → Type 0
IsCurrent engine client incarnation =
    incarnation ≡ ((server_in engine).session client).current

-- so the transaction stands beside the client's last one, as it was asked before it begins
abbrev pub IsStanding : Engine → (client txn : ℕ) → Standing → Type 0
IsStanding engine client txn standing =
    numbers.IsStanding (server_in engine) client txn standing

-- A commit of the client's current incarnation is to be applied, whose transaction stands so: there
-- is a number for it, and room for its answer and for settling.
pub record Awaits (engine : Engine) (client incarnation txn : ℕ) (standing : Standing)
    (writes : List protocol.PageWrite) : Type 0 where
  pub current : IsCurrent engine client incarnation
  pub stands : IsStanding engine client txn standing
  pub room : CanAnswer engine (protocol.Commit txn writes)
  pub number : LacksNumber engine client (protocol.Commit txn writes) false
  pub allowed : applies (server_in engine) client txn writes ≡ true

-- the message is such a commit
abbrev pub AwaitsBody : Engine → (client incarnation : ℕ) → Standing → protocol.Body → Type 0
AwaitsBody engine client incarnation standing (protocol.Commit txn writes) =
    Awaits engine client incarnation txn standing writes
AwaitsBody engine client incarnation standing _ = ⊥

-- The message is such a commit, and nothing but room has changed.
pub record IsPutOff (old : Engine) (client incarnation : ℕ) (message : protocol.Body)
    (standing : Standing) (new : Engine) : Type 0 where
  pub waits : AwaitsBody new client incarnation standing message
  pub left : IsLeft old new
  pub callbacks : new.callbacks ≡ old.callbacks

-- the message was taken by these steps; or it is a commit that is still to be applied
abbrev pub Meets : Engine → (Server → List ServerStep) → (client incarnation : ℕ) → protocol.Body
    → Headway → Engine → Type 0
Meets old steps client incarnation message headway.Taken new = Serves old steps new
Meets old steps client incarnation message (headway.Applies standing) new =
    IsPutOff old client incarnation message standing new

-- How a message's transaction stands once it has begun.
abbrev pub Stands : Begun → Server → (client txn : ℕ) → Type 0
Stands begun.Live server client txn = IsLiveOne server client txn false
Stands begun.Doomed server client txn = IsLiveOne server client txn true
Stands begun.Ended server client txn = has_not_ended server client txn ≡ false

-- Its transaction has begun, and stands so.
pub record HasBegun (old : Engine) (client txn : ℕ) (standing : Begun) (new : Engine)
    : Type 0 where
  pub begins : Begins old client txn new
  pub stands : Stands standing (server_in new) client txn

-- It has begun, is doomed, and its client was told so.
pub record HasHeardOfDoom (old : Engine) (client txn : ℕ) (new : Engine) : Type 0 where
  pub between : Engine
  pub has : HasBegun old client txn begun.Doomed between
  pub told : Makes between (λ server. send_to server client (AbortNow txn) ∷ []) new

-- its transaction has begun, and stands so; the client of a doomed one was told
abbrev pub HasBegunTold : Begun → Engine → (client txn : ℕ) → Engine → Type 0
HasBegunTold begun.Doomed old client txn new = HasHeardOfDoom old client txn new
HasBegunTold standing old client txn new = HasBegun old client txn standing new

-- the protocol's limits that a state is of; a pool's size says nothing of a server
abbrev pub limits_in : Engine → Limits
limits_in engine = record {
  clients = (server_in engine).clients;
  pages = (server_in engine).pages;
  page_size = engine.callbacks.state.commits.store.page_size;
  slots = 0;
  keep_write = (server_in engine).store.keep_write;
}

-- The body's numbers fit the state, and a commit's pages the store.
abbrev pub FitsIn : Engine → Body → Type 0
FitsIn engine (body.Short short) = BodyFits (limits_in engine) (short_of short)
FitsIn engine (body.Commit txn writes) = FitsStore engine writes
FitsIn engine (body.Granted page grant version bytes) = ⊤

-- the message asks to read
abbrev pub is_ask_read : protocol.Body → Bool
is_ask_read (protocol.AskRead txn page) = true
is_ask_read _ = false

-- the message is a Hello
abbrev pub is_hello : protocol.Body → Bool
is_hello protocol.Hello = true
is_hello _ = false
