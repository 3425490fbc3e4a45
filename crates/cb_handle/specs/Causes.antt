-- What is in the way of each call: the refusal that it answers, by its number.
use Rattle.std.specs.Prelude.{if◌then◌else◌, ◌≡◌, ◌<◌, ◌⊎◌, ℕ, Bool, true, false, not, ◌==◌}
use Rattle.std.specs.Prelude.{◌&&◌, ◌||◌, nat_le, nat_lt, List, [], ◌∷◌, length, slice_index}
use Rattle.std.specs.Prelude.{Option, Some, None, Result, Ok, Err}
use Rattle.std.specs.Option.{option_map, option_or}
use Rattle.cb_cache.specs.CacheState.{content_at}
use Rattle.cb_client.specs.ByTable.{limits_at}
use Rattle.cb_client.specs.FramesTaken.{is_for}
use Rattle.cb_client.specs.declared.client_fault.ClientFault.TheVariants as fault
use Rattle.cb_client_core.specs.ClientState.{ClientState, client_of}
use Rattle.cb_client_core.specs.Room.{brings_in, room_at}
use Rattle.cb_commit.specs.Batches.{BatchState}
use Rattle.cb_frame.specs.Checks.{causes, frame_in_front, has_pages, kind_of}
use Rattle.cb_frame.specs.Spelling.{spelling}
use Rattle.cb_frame.specs.declared.frame.Frame.{Frame}
use Rattle.cb_handle.specs.Faults.{number_of}
use Rattle.cb_handle.specs.Opened.{OpeningState}
use Rattle.cb_handle.specs.Servers.{ServerValue, next_incarnation, page_of_batch, server_of}
use Rattle.cb_handle.specs.declared.object.Object.{Object}
use Rattle.cb_handle.specs.declared.object.Object.TheVariants as object
use Rattle.cb_handle.specs.declared.refusal.HandleRefusal.{HandleRefusal}
use Rattle.cb_handle.specs.declared.refusal.HandleRefusal.TheVariants as refusal
use Rattle.cb_outbox.specs.Messages.{body_of}
use Rattle.cb_page.specs.Bounds.{Bounds}
use Rattle.cb_page.specs.Faults.{first_fault}
use Rattle.cb_page.specs.Limits.{limit_causes}
use Rattle.cb_page.specs.Numbers.{is_number, max_number}
use Rattle.cb_page.specs.Flags.{has}
use Rattle.cb_protocol.specs.Answers as table
use Rattle.cb_protocol.specs.Basics.{Bytes, is_none}
use Rattle.cb_protocol.specs.Client.{bodies_said}
use Rattle.cb_protocol.specs.ClientCalls.{Call, CallBegin, CallDrop, CallFinish, CallRead}
use Rattle.cb_protocol.specs.ClientCalls.{CallWant, CallWrite, call_fault, client_again}
use Rattle.cb_protocol.specs.Flush.{can_flush, next_batch}
use Rattle.cb_server.specs.Taking.{MayWantMemory, lacks_number_for}

-- ---- how a call ends, by what is in its way

-- It is done where nothing is in the way, and refused by that else. Beside, it may be refused by
-- the numbers that `may` allows, though nothing is in the way: for want of memory.
abbrev pub Decides : {X : Type 0} → Option HandleRefusal → (may : ℕ → Type 0)
    → Result X HandleRefusal → Type 0
Decides cause may (Ok done) = cause ≡ None
Decides cause may (Err refused) =
    (cause ≡ Some refused) ⊎ ((cause ≡ None) × may (number_of refused))

-- the same of the number that is answered: 0 where it is done
abbrev pub IsAnswer : Option HandleRefusal → (may : ℕ → Type 0) → (number : ℕ) → Type 0
IsAnswer None may number = (number ≡ 0) ⊎ may number
IsAnswer (Some refused) may number = number ≡ number_of refused

-- no want of memory; or one at any time
abbrev pub never : ℕ → Type 0
never number = ⊥

abbrev pub memory : ℕ → Type 0
memory number = number ≡ 13

-- ---- what may be in the way of several calls

-- what was said before is to be fetched first
abbrev pub after_fetch : List Frame → Option HandleRefusal → Option HandleRefusal
after_fetch [] cause = cause
after_fetch (frame ∷ more) cause = Some refusal.Unfetched

-- the fault of the protocol's table of calls
abbrev pub fault_of : table.ClientFault → HandleRefusal
fault_of table.NotWelcome = refusal.Client fault.NotWelcome
fault_of table.NoTransaction = refusal.Client fault.NoTransaction
fault_of table.TransactionOpen = refusal.Client fault.TransactionOpen
fault_of table.Committing = refusal.Client fault.Committing
fault_of table.Waiting = refusal.Client fault.Waiting
fault_of table.PageRange = refusal.Client fault.PageRange
fault_of table.NotRead = refusal.Client fault.NotRead
fault_of table.NotHere = refusal.Client fault.NotHere
fault_of table.NotWritable = refusal.Client fault.NotWritable
fault_of table.WrongLength = refusal.Client fault.WrongLength
fault_of table.PoolFull = refusal.Client fault.PoolFull
fault_of table.Exhausted = refusal.Client fault.Exhausted

-- what the table refuses the call for
abbrev pub by_table : ClientState → Call → Option HandleRefusal
by_table client call =
    option_map fault_of (call_fault (limits_at client) (client_of client []) call)

-- the first fault of the bytes of a frame
abbrev pub in_bytes : Bounds → List ℕ → Option HandleRefusal
in_bytes limits bytes = option_map refusal.Frame (first_fault (causes limits bytes))

-- the first fault of limits
abbrev pub in_limits : Bounds → Option HandleRefusal
in_limits limits =
    option_map refusal.Limits (first_fault (limit_causes limits.clients limits.pages
    limits.page_size limits.slots limits.kin limits.kout))

-- the refusal where the test is true
abbrev pub refused_if : Bool → HandleRefusal → Option HandleRefusal
refused_if test refused = if test then Some refused else None

-- no store has a page of this number
abbrev pub past_pages : (page : ℕ) → Option HandleRefusal
past_pages page = refused_if (nat_le 4096 page) refusal.Range

-- the room isn't as long as the bytes; or there are none
abbrev pub shown_in : Option Bytes → (room : ℕ) → Option HandleRefusal
shown_in None room = Some refusal.Nothing
shown_in (Some bytes) room = refused_if (not (room == length bytes)) refusal.Room

-- ---- how an object begins

-- a server over zeros: the limits
abbrev pub server_cause : Bounds → Option HandleRefusal
server_cause limits = in_limits limits

-- a store whose last commit has this number, in a life of this floor: there are such numbers
abbrev pub no_opening : (number floor : ℕ) → Option HandleRefusal
no_opening number floor =
    refused_if (nat_lt max_number number || nat_lt max_number floor) refusal.Range

abbrev pub opening_cause : Bounds → (number floor : ℕ) → Option HandleRefusal
opening_cause limits number floor = option_or (in_limits limits) (no_opening number floor)

-- a client of that number, in that incarnation
abbrev pub unknown_client : Bounds → (number incarnation : ℕ) → Option HandleRefusal
unknown_client limits number incarnation =
    refused_if (nat_le limits.clients number || not (is_number incarnation)) refusal.Range

abbrev pub client_cause : Bounds → (number incarnation : ℕ) → Option HandleRefusal
client_cause limits number incarnation =
    option_or (in_limits limits) (unknown_client limits number incarnation)

-- ---- calls of either

-- the frame is for this client, which needs room for what it says to it, or for the page that it
-- brings
abbrev pub NeedsRoom : ClientState → Frame → Type 0
NeedsRoom client frame =
    (is_for client frame ≡ true)
    × ((0 < room_at client (body_of frame.body)) ⊎ (brings_in client (body_of frame.body) ≡ true))

-- taking a frame: what was said is to be fetched, or the bytes begin with no frame
abbrev pub take_cause : Object → List ℕ → Option HandleRefusal
take_cause (object.Server now) bytes = after_fetch now.said (in_bytes now.server.limits bytes)
take_cause (object.Client now) bytes =
    after_fetch now.said (in_bytes now.client.copies.limits bytes)
take_cause _ bytes = Some refusal.OtherKind

-- memory is wanted to read a frame of a kind that has page bytes
abbrev pub reading_may : List ℕ → (number : ℕ) → Type 0
reading_may bytes number =
    (number ≡ 263) × (has_pages (kind_of (slice_index bytes 1)) ≡ true)

-- at a server no number may be left for the frame, once it is read; or memory is wanted for one
-- that isn't let go
abbrev pub server_take_may : ServerValue → List ℕ → (number : ℕ) → Type 0
server_take_may server bytes number =
    reading_may bytes number
    ⊎ (((number ≡ 12) × (lacks_number_for server (frame_in_front server.limits bytes) ≡ true))
    ⊎ ((number ≡ 13) × (lacks_number_for server (frame_in_front server.limits bytes) ≡ false)
    × MayWantMemory server (frame_in_front server.limits bytes)))

-- at a client memory is wanted for a frame that needs room
abbrev pub client_take_may : ClientState → List ℕ → (number : ℕ) → Type 0
client_take_may client bytes number =
    reading_may bytes number
    ⊎ ((number ≡ 13) × NeedsRoom client (frame_in_front client.copies.limits bytes))

abbrev pub take_may : Object → List ℕ → (number : ℕ) → Type 0
take_may (object.Server now) bytes number = server_take_may now.server bytes number
take_may (object.Client now) bytes number = client_take_may now.client bytes number
take_may _ bytes number = ⊥

-- fetching a frame: there is one
abbrev pub said_cause : List Frame → Option HandleRefusal
said_cause [] = Some refusal.Nothing
said_cause (frame ∷ more) = None

abbrev pub fetch_cause : Object → Option HandleRefusal
fetch_cause (object.Server now) = said_cause now.said
fetch_cause (object.Client now) = said_cause now.said
fetch_cause _ = Some refusal.OtherKind

-- its bytes take memory; they may be more than there is room for, and are so many
abbrev pub said_may : List Frame → (room size number : ℕ) → Type 0
said_may [] room size number = ⊥
said_may (frame ∷ more) room size number =
    (number ≡ 13)
    ⊎ ((number ≡ 772) × (room < length (spelling frame)) × (size ≡ length (spelling frame)))

abbrev pub fetch_may : Object → (room size number : ℕ) → Type 0
fetch_may (object.Server now) room size number = said_may now.said room size number
fetch_may (object.Client now) room size number = said_may now.said room size number
fetch_may _ room size number = ⊥

-- saying again
abbrev pub again_cause : Object → Option HandleRefusal
again_cause (object.Server now) = after_fetch now.said None
again_cause (object.Client now) = after_fetch now.said None
again_cause _ = Some refusal.OtherKind

-- memory may be wanted, of a client where it says anything
abbrev pub saying_may : ClientState → (number : ℕ) → Type 0
saying_may client number =
    (number ≡ 13)
    × (bodies_said (client_again (limits_at client) (client_of client [])) ≡ [] → ⊥)

abbrev pub again_may : Object → (number : ℕ) → Type 0
again_may (object.Client now) number = saying_may now.client number
again_may _ number = number ≡ 13

-- ---- calls of a server, and of the rows that it opens over

-- the next page's row: as many bytes as a page has, a page that has no row yet, and no version
-- above the last commit's number
abbrev pub no_row : OpeningState → (version size : ℕ) → Option HandleRefusal
no_row opening version size =
    option_or (refused_if (not (size == opening.limits.page_size)
    || nat_le opening.limits.pages (length opening.rows)) refusal.Room)
    (refused_if (nat_lt opening.number version) refusal.Range)

abbrev pub row_cause : Object → (version size : ℕ) → Option HandleRefusal
row_cause (object.Opening now) version size = no_row now version size
row_cause _ version size = Some refusal.OtherKind

-- serving: each page has its row
abbrev pub serve_cause : Object → Option HandleRefusal
serve_cause (object.Opening now) =
    refused_if (not (length now.rows == now.limits.pages)) refusal.Room
serve_cause _ = Some refusal.OtherKind

-- a batch: some commit isn't on disk
abbrev pub all_on_disk : ServerValue → Option HandleRefusal
all_on_disk server = refused_if (is_none (next_batch (server_of server))) refusal.Nothing

abbrev pub batch_cause : Object → Option HandleRefusal
batch_cause (object.Server now) = all_on_disk now.server
batch_cause _ = Some refusal.OtherKind

-- a page of the batch, and a room as long as it
abbrev pub no_page : Option BatchState → (at room : ℕ) → Option HandleRefusal
no_page batch at room =
    shown_in (option_map (λ page. page.bytes) (page_of_batch batch at)) room

abbrev pub page_cause : Object → (at room : ℕ) → Option HandleRefusal
page_cause (object.Server now) at room = no_page now.batch at room
page_cause _ at room = Some refusal.OtherKind

-- what is on disk now: a commit that was made and isn't on disk yet
abbrev pub not_to_flush : ServerValue → (number : ℕ) → Option HandleRefusal
not_to_flush server number =
    refused_if (not (is_number number && can_flush (server_of server) number)) refusal.Range

abbrev pub flushed_cause : Object → (number : ℕ) → Option HandleRefusal
flushed_cause (object.Server now) number = after_fetch now.said (not_to_flush now.server number)
flushed_cause _ number = Some refusal.OtherKind

-- what leaves memory: a commit that is on disk
abbrev pub not_on_disk : ServerValue → (number : ℕ) → Option HandleRefusal
not_on_disk server number =
    refused_if (not (is_number number && nat_le number (server_of server).flushed)) refusal.Range

abbrev pub forget_cause : Object → (number : ℕ) → Option HandleRefusal
forget_cause (object.Server now) number = not_on_disk now.server number
forget_cause _ number = Some refusal.OtherKind

-- the next incarnation: there is such a client, and an incarnation is left for it
abbrev pub next_cause : ServerValue → (client : ℕ) → Option HandleRefusal
next_cause server client =
    refused_if (nat_le server.limits.clients client
    || nat_lt max_number (next_incarnation server client)) refusal.Range

abbrev pub incarnation_cause : Object → (client : ℕ) → Option HandleRefusal
incarnation_cause (object.Server now) client = next_cause now.server client
incarnation_cause _ client = Some refusal.OtherKind

-- a client leaves
abbrev pub leave_cause : Object → (client : ℕ) → Option HandleRefusal
leave_cause (object.Server now) client = after_fetch now.said (next_cause now.server client)
leave_cause _ client = Some refusal.OtherKind

-- ---- calls of a client

-- greeting
abbrev pub hello_cause : Object → Option HandleRefusal
hello_cause (object.Client now) = after_fetch now.said None
hello_cause _ = Some refusal.OtherKind

-- beginning a transaction
abbrev pub begin_cause : Object → Option HandleRefusal
begin_cause (object.Client now) = by_table now.client CallBegin
begin_cause _ = Some refusal.OtherKind

-- reading a page into a room
abbrev pub client_read_cause : ClientState → (page room : ℕ) → Option HandleRefusal
client_read_cause client page room =
    option_or (refused_if (not (room == client.copies.limits.page_size)) refusal.Room)
    (by_table client (CallRead page))

abbrev pub read_cause : Object → (page room : ℕ) → Option HandleRefusal
read_cause (object.Client now) page room =
    option_or (past_pages page) (after_fetch now.said (client_read_cause now.client page room))
read_cause _ page room = Some refusal.OtherKind

-- wanting to write it
abbrev pub want_cause : Object → (page : ℕ) → Option HandleRefusal
want_cause (object.Client now) page =
    option_or (past_pages page) (after_fetch now.said (by_table now.client (CallWant page)))
want_cause _ page = Some refusal.OtherKind

-- writing it
abbrev pub write_cause : Object → (page : ℕ) → Bytes → Option HandleRefusal
write_cause (object.Client now) page bytes =
    option_or (past_pages page) (by_table now.client (CallWrite page bytes))
write_cause _ page bytes = Some refusal.OtherKind

-- committing, for which memory may be wanted where a page was written
abbrev pub finish_cause : Object → Option HandleRefusal
finish_cause (object.Client now) = after_fetch now.said (by_table now.client CallFinish)
finish_cause _ = Some refusal.OtherKind

abbrev pub committing_may : ClientState → (number : ℕ) → Type 0
committing_may client number =
    (number ≡ 13) × (((page : ℕ) → has client.copies.wrote page ≡ false) → ⊥)

abbrev pub finish_may : Object → (number : ℕ) → Type 0
finish_may (object.Client now) number = committing_may now.client number
finish_may _ number = ⊥

-- ending without a commit
abbrev pub drop_cause : Object → Option HandleRefusal
drop_cause (object.Client now) = after_fetch now.said (by_table now.client CallDrop)
drop_cause _ = Some refusal.OtherKind

-- looking at the client's copy of a page
abbrev pub peek_cause : Object → (page room : ℕ) → Option HandleRefusal
peek_cause (object.Client now) page room =
    option_or (past_pages page) (shown_in (content_at now.client.copies page) room)
peek_cause _ page room = Some refusal.OtherKind
