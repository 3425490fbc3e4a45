-- What the calls of an object do, by the protocol: a server's, a client's.
use Rattle.std.specs.Prelude.{◌≡◌, ◌<◌, ◌≤◌, ℕ, Bool, true, false, List, [], ◌∷◌, Some, None}
use Rattle.cb_client.specs.ByTable.{Calls, as_before, over}
use Rattle.cb_client.specs.CallAnswers.{Answers, after_read, puts, read_ask}
use Rattle.cb_client.specs.FramesTaken as client_taking
use Rattle.cb_client_core.specs.ClientState.{new_state}
use Rattle.cb_commit.specs.Stores.{zeros}
use Rattle.cb_handle.specs.Clients.{IsOutcome, IsStatus, MayWrite}
use Rattle.cb_handle.specs.Fetching.{Fetches}
use Rattle.cb_handle.specs.Opened.{no_rows, store_of, with_row}
use Rattle.cb_handle.specs.Servers as server
use Rattle.cb_handle.specs.Servers.{BeginsOver, HasNext, IsNew, IsUnchanged, page_of_batch}
use Rattle.cb_handle.specs.Servers.{server_of}
use Rattle.cb_handle.specs.declared.object.Object.{Object}
use Rattle.cb_handle.specs.declared.object.Object.TheVariants as object
use Rattle.cb_outbox.specs.Messages.{messages_of}
use Rattle.cb_page.specs.Bounds.{Bounds}
use Rattle.cb_page.specs.Numbers.{IsNumber}
use Rattle.cb_protocol.specs.AnyMessages.{ReachesDisk, SendsAgain}
use Rattle.cb_protocol.specs.Answers as table
use Rattle.cb_protocol.specs.ClientCalls.{CallAgain, CallBegin, CallDrop, CallFinish, CallHello}
use Rattle.cb_protocol.specs.ClientCalls.{CallPeek, CallRead, CallWant, CallWrite}
use Rattle.cb_protocol.specs.Flush.{can_flush}

-- ---- objects as they begin

-- a new server over a store of zeros, which said nothing
abbrev pub Servers : Bounds → Object → Type 0
Servers limits (object.Server new) =
    IsNew limits (zeros limits) new.server × (new.said ≡ []) × (new.batch ≡ None)
Servers limits _ = ⊥

-- a client at the start of an incarnation, which said nothing
abbrev pub Clients : (number incarnation : ℕ) → Bounds → Object → Type 0
Clients number incarnation limits (object.Client new) =
    (new.client ≡ new_state number incarnation limits) × (new.said ≡ [])
Clients number incarnation limits _ = ⊥

-- a store of these limits whose last commit has this number, without rows yet, whose server begins
-- in the life of this floor; where that is 0, in none
abbrev pub Opens : Bounds → (number floor : ℕ) → Object → Type 0
Opens limits number floor (object.Opening new) = new ≡ no_rows limits number floor
Opens limits number floor _ = ⊥

-- the row of the next page was put behind the others
abbrev pub AddsRow : Object → (version : ℕ) → (bytes : List ℕ) → Object → Type 0
AddsRow (object.Opening old) version bytes (object.Opening new) = new ≡ with_row old version bytes
AddsRow _ _ _ _ = ⊥

-- the server that begins over the store of the rows, in the life that was asked for, if one was; it
-- said nothing
abbrev pub Serves : Object → Object → Type 0
Serves (object.Opening old) (object.Server new) =
    BeginsOver old.limits (store_of old) old.floor new.server
    × (new.said ≡ []) × (new.batch ≡ None)
Serves _ _ = ⊥

-- ---- calls of either

-- nothing changes but a server's room
abbrev pub IsLeft : Object → Object → Type 0
IsLeft (object.Server old) (object.Server new) =
    IsUnchanged old.server new.server × (new.said ≡ old.said) × (new.batch ≡ old.batch)
IsLeft old new = new ≡ old

-- The bytes begin with a frame, of that many bytes, which is taken by the protocol's table, with
-- nothing unfetched before; all that is said to it is to be fetched.
abbrev pub Takes : Object → List ℕ → (used : ℕ) → Object → Type 0
Takes (object.Server old) bytes used (object.Server new) =
    server.TakesBytes old.server bytes used (messages_of new.said) new.server
    × (old.said ≡ []) × (new.batch ≡ old.batch)
Takes (object.Client old) bytes used (object.Client new) =
    ((capacity : ℕ)
    × client_taking.TakesBytes old.client bytes used (messages_of new.said) capacity new.client)
    × (old.said ≡ [])
Takes _ _ _ _ = ⊥

-- the oldest frame is fetched, and nothing else changes
abbrev pub FetchesOne : Object → (before room : List ℕ) → (size client : ℕ) → Object → Type 0
FetchesOne (object.Server old) before room size client (object.Server new) =
    Fetches old.said before room size client new.said × (new.server ≡ old.server)
    × (new.batch ≡ old.batch)
FetchesOne (object.Client old) before room size client (object.Client new) =
    Fetches old.said before room size client new.said × (new.client ≡ old.client)
FetchesOne _ _ _ _ _ _ = ⊥

-- what may be lost is said again, by the protocol
abbrev pub SaysAgain : Object → Object → Type 0
SaysAgain (object.Server old) (object.Server new) =
    server.Does old.server SendsAgain (messages_of new.said) new.server
    × (old.said ≡ []) × (new.batch ≡ old.batch)
SaysAgain (object.Client old) (object.Client new) =
    Calls old.client CallAgain table.AnsweredOk (messages_of new.said) as_before new.client
    × (old.said ≡ [])
SaysAgain _ _ = ⊥

-- ---- calls of a server

-- the batch that is to be written next is made; the server and what it said are as before
abbrev pub MakesBatch : Object → (number pages : ℕ) → Object → Type 0
MakesBatch (object.Server old) number pages (object.Server new) =
    (new.server ≡ old.server) × (new.said ≡ old.said)
    × HasNext old.server new.batch number pages
MakesBatch _ _ _ _ = ⊥

-- that page of the batch has this number, this version and these bytes
abbrev pub ShowsPage : Object → (at : ℕ) → (bytes : List ℕ) → (page version : ℕ) → Type 0
ShowsPage (object.Server now) at bytes page version =
    page_of_batch now.batch at
    ≡ Some (record { page = page; version = version; bytes = bytes })
ShowsPage _ _ _ _ _ = ⊥

-- whether that commit was made and isn't on disk yet
abbrev pub CanFlush : Object → (number : ℕ) → Bool → Type 0
CanFlush (object.Server now) number can =
    (IsNumber number → can ≡ can_flush (server_of now.server) number)
    × (can ≡ true → IsNumber number)
CanFlush _ number can = can ≡ false

-- the commits up to this number reach the disk, and no batch is under way
abbrev pub Flushes : Object → (number : ℕ) → Object → Type 0
Flushes (object.Server old) number (object.Server new) =
    server.Does old.server (ReachesDisk number) (messages_of new.said) new.server
    × (can_flush (server_of old.server) number ≡ true) × (old.said ≡ []) × (new.batch ≡ None)
Flushes _ _ _ = ⊥

-- the commits up to this number, which is on disk, leave memory
abbrev pub Forgets : Object → (number : ℕ) → Object → Type 0
Forgets (object.Server old) number (object.Server new) =
    (new.server ≡ server.forgot old.server number)
    × (number ≤ (server_of old.server).flushed)
    × (new.said ≡ old.said) × (new.batch ≡ old.batch)
Forgets _ _ _ = ⊥

-- the client is greeted for, in its next incarnation
abbrev pub Leaves : Object → (client : ℕ) → Object → Type 0
Leaves (object.Server old) client (object.Server new) =
    server.Leaves old.server client (messages_of new.said) new.server
    × (old.said ≡ []) × (new.batch ≡ old.batch)
Leaves _ _ _ = ⊥

-- that is the incarnation which the client may greet with next
abbrev pub IsNextIncarnation : Object → (client incarnation : ℕ) → Type 0
IsNextIncarnation (object.Server now) client incarnation =
    incarnation ≡ server.next_incarnation now.server client
IsNextIncarnation _ _ _ = ⊥

-- ---- calls of a client

-- it greets the server
abbrev pub Greets : Object → Object → Type 0
Greets (object.Client old) (object.Client new) =
    Calls old.client CallHello table.AnsweredOk (messages_of new.said) as_before new.client
    × (old.said ≡ [])
Greets _ _ = ⊥

-- a transaction begins, and has this number
abbrev pub Begins : Object → (txn : ℕ) → Object → Type 0
Begins (object.Client old) txn (object.Client new) =
    Calls old.client CallBegin table.AnsweredOk [] as_before new.client
    × (new.client.txn ≡ Some txn) × (new.said ≡ old.said)
Begins _ _ _ = ⊥

-- the page's bytes are in the room, by the protocol's table; or the message that asks for it is
-- said, and the room is as before
abbrev pub Reads : Object → (page : ℕ) → (before room : List ℕ) → (here : Bool) → Object → Type 0
Reads (object.Client old) page before room true (object.Client new) =
    Answers old.client (CallRead page) (table.AnsweredBytes room) []
    × (new.client ≡ after_read old.client page) × (old.said ≡ []) × (new.said ≡ [])
Reads (object.Client old) page before room false (object.Client new) =
    Answers old.client (CallRead page) table.Asked (read_ask old.client page ∷ [])
    × (new.client ≡ after_read old.client page) × (old.said ≡ [])
    × (messages_of new.said ≡ read_ask old.client page ∷ []) × (room ≡ before)
Reads _ _ _ _ _ _ = ⊥

-- it may write the page at once; or the message that asks for that
abbrev pub Wants : Object → (page : ℕ) → (may : Bool) → Object → Type 0
Wants (object.Client old) page true (object.Client new) =
    Calls old.client (CallWant page) table.Permitted [] as_before new.client
    × (old.said ≡ []) × (new.said ≡ [])
Wants (object.Client old) page false (object.Client new) =
    Calls old.client (CallWant page) table.Asked (messages_of new.said) as_before new.client
    × (old.said ≡ [])
Wants _ _ _ _ = ⊥

-- the page has these bytes now
abbrev pub Writes : Object → (page : ℕ) → (bytes : List ℕ) → Object → Type 0
Writes (object.Client old) page bytes (object.Client new) =
    Calls old.client (CallWrite page bytes) table.AnsweredOk [] (puts page bytes) new.client
    × (new.said ≡ old.said)
Writes _ _ _ _ = ⊥

-- the transaction commits
abbrev pub Finishes : Object → Object → Type 0
Finishes (object.Client old) (object.Client new) =
    Calls old.client CallFinish table.AnsweredOk (messages_of new.said) as_before new.client
    × (old.said ≡ [])
Finishes _ _ = ⊥

-- the transaction ends without a commit
abbrev pub Drops : Object → Object → Type 0
Drops (object.Client old) (object.Client new) =
    Calls old.client CallDrop table.AnsweredOk (messages_of new.said) over new.client
    × (old.said ≡ [])
Drops _ _ = ⊥

-- what the client says of itself; 0 where there is none
abbrev pub ShowsStatus : Object → (status : ℕ) → Type 0
ShowsStatus (object.Client now) status = IsStatus now.client status
ShowsStatus _ status = status ≡ 0

-- how its last transaction ended, and by which commit; zeros where none did or there is no client
abbrev pub ShowsOutcome : Object → (how number : ℕ) → Type 0
ShowsOutcome (object.Client now) how number = IsOutcome now.client how number
ShowsOutcome _ how number = (how ≡ 0) × (number ≡ 0)

-- the bytes of its copy of the page, which is no reference to it
abbrev pub Peeks : Object → (page : ℕ) → (bytes : List ℕ) → Type 0
Peeks (object.Client now) page bytes =
    Calls now.client (CallPeek page) (table.AnsweredBytes bytes) [] as_before now.client
Peeks _ _ _ = ⊥

-- whether it may write the page now; never where no store has such a page
abbrev pub ShowsPermission : Object → (page : ℕ) → Bool → Type 0
ShowsPermission (object.Client now) page may =
    (page < 4096 → MayWrite now.client page may) × (4096 ≤ page → may ≡ false)
ShowsPermission _ page may = may ≡ false
