-- What each call of an application answers, by the protocol's table.
use Rattle.std.specs.Prelude.{if◌then◌else◌, ◌≡◌, ◌&&◌, ℕ, Bool, List, [], ◌∷◌, Option, Some, None}
use Rattle.std.specs.Prelude.{Result, Ok, Err, ⊤, true, slice_set, unwrap_or}
use Rattle.std.specs.Option.{is_some}
use Rattle.cb_cache.specs.CacheState.{content_at, copy_at, referred_to}
use Rattle.cb_frame.specs.Grammar.{Fits}
use Rattle.cb_frame.specs.declared.frame.Body.TheVariants.{Short}
use Rattle.cb_frame.specs.declared.frame.Frame.{Frame}
use Rattle.cb_page.specs.Bounds.{Bounds}
use Rattle.cb_frame.specs.declared.frame.ShortFrame.{ShortFrame}
use Rattle.cb_outbox.specs.Messages.{message_of, short_of}
use Rattle.cb_protocol.specs.Answers as table
use Rattle.cb_protocol.specs.Basics.{Bytes, is_none}
use Rattle.cb_protocol.specs.Client.{bodies_said}
use Rattle.cb_protocol.specs.ClientCalls.{Call, CallBegin, CallFinish, CallRead, CallWant}
use Rattle.cb_protocol.specs.ClientCalls.{CallWrite, call_fault, client_call, say_commit}
use Rattle.cb_protocol.specs.Messages.{AskRead, Message}
use Rattle.cb_protocol.specs.Serial.{Operation, Put, Saw}
use Rattle.cb_client_core.specs.ClientState.{ClientState, client_of}
use Rattle.cb_client.specs.ByTable.{Calls, IsRefused, Refuses, RefusesOrLacks}
use Rattle.cb_client.specs.ByTable.{as_before, limits_at, messages_from}
use Rattle.cb_client_core.specs.declared.stage.PendingAsk.TheVariants as asks
use Rattle.cb_client.specs.declared.answers.ReadAnswer.{ReadAnswer}
use Rattle.cb_client.specs.declared.answers.ReadAnswer.TheVariants as read
use Rattle.cb_client.specs.declared.answers.WantAnswer.{WantAnswer}
use Rattle.cb_client.specs.declared.answers.WantAnswer.TheVariants as want
use Rattle.cb_client.specs.declared.client_fault.ClientFault.{ClientFault}

-- the message that a frame without page bytes carries
abbrev pub short_message : ShortFrame → Message
short_message frame = record {
  client = frame.client;
  incarnation = frame.incarnation;
  body = short_of frame.body;
}

-- the transaction put these bytes into the page
abbrev pub puts : (page : ℕ) → Bytes → List Operation → List Operation
puts page bytes operations = Put page bytes ∷ operations

-- such a frame fits the limits
abbrev pub ShortFrameFits : Bounds → ShortFrame → Type 0
ShortFrameFits limits frame = Fits limits (record {
  client = frame.client;
  incarnation = frame.incarnation;
  body = Short frame.body;
})

-- so does the frame by which a permission is asked for
abbrev pub WantFits : Bounds → WantAnswer → Type 0
WantFits limits want.Permitted = ⊤
WantFits limits (want.Asked frame) = ShortFrameFits limits frame

-- the transaction saw these bytes in the page
abbrev pub sees : (page : ℕ) → Bytes → List Operation → List Operation
sees page bytes operations = Saw page bytes ∷ operations

-- the bytes of the page's copy; none where they are not in the pool
abbrev pub bytes_at : ClientState → (page : ℕ) → Bytes
bytes_at client page = unwrap_or (content_at client.copies page) []

-- a grant with its version
abbrev pub copy_by : Option ℕ → (version : ℕ) → Option (ℕ × ℕ)
copy_by None version = None
copy_by (Some grant) version = Some (grant, version)

-- the grant of the page's copy and its version, if it is held
abbrev pub held_copy : ClientState → (page : ℕ) → Option (ℕ × ℕ)
held_copy client page =
    copy_by (copy_at client.copies page).held (copy_at client.copies page).version

-- a transaction begins, with the number answered
abbrev pub Begins : (old : ClientState) → Result ℕ ClientFault → (new : ClientState) → Type 0
Begins old (Ok txn) new =
    (new.txn ≡ Some txn) × Calls old CallBegin table.AnsweredOk [] as_before new
Begins old (Err refused) new = Refuses old CallBegin refused new

-- the table's answer to the call, and what it says
pub record Answers (old : ClientState) (call : Call) (answered : table.AnswerWord)
    (messages : List Message) : Type 0 where
  pub word : (operations : List Operation)
      → (client_call (limits_at old) (client_of old operations) call).word ≡ answered
  pub said : (operations : List Operation)
      → messages_from old
      (bodies_said (client_call (limits_at old) (client_of old operations) call).steps)
      ≡ messages

-- the message by which a page is asked for
abbrev pub read_ask : ClientState → (page : ℕ) → Message
read_ask client page = record {
  client = client.no;
  incarnation = client.incarnation;
  body = AskRead (unwrap_or client.txn 0) page;
}

-- a read is answered with the page's bytes, or they are asked for, or it is refused
abbrev pub AnswersRead : ClientState → (page : ℕ) → Result ReadAnswer ClientFault → Type 0
AnswersRead old page (Ok (read.Bytes bytes)) =
    Answers old (CallRead page) (table.AnsweredBytes bytes.now) []
AnswersRead old page (Ok read.Asked) =
    Answers old (CallRead page) table.Asked (read_ask old page ∷ [])
AnswersRead old page (Err refused) = IsRefused old (CallRead page) refused

-- the client once it has read the page, which is a reference, and once it has asked for it
abbrev pub page_read : ClientState → (page : ℕ) → ClientState
page_read client page = record client {
  copies = referred_to client.copies page;
  locks = record client.locks { locked = slice_set client.locks.locked page true };
}

abbrev pub page_asked : ClientState → (page : ℕ) → ClientState
page_asked client page = record client { ask = asks.Read page }

-- What a client is after a read: read where the bytes are in the pool, else asked; as it was where
-- the table refuses it.
abbrev pub after_read : ClientState → (page : ℕ) → ClientState
after_read client page =
    if is_none (call_fault (limits_at client) (client_of client []) (CallRead page))
    then if is_some (content_at client.copies page) then page_read client page
    else page_asked client page
    else client

-- The page can be read without the server: its bytes are in the pool, and a read isn't refused.
abbrev pub reads_here : ClientState → (page : ℕ) → Bool
reads_here client page = is_some (content_at client.copies page)
    && is_none (call_fault (limits_at client) (client_of client []) (CallRead page))

-- what a client is that reads the page where it can without the server: read, else as it was
abbrev pub after_read_here : ClientState → (page : ℕ) → ClientState
after_read_here client page = if reads_here client page then page_read client page else client

-- the page may be written, or the permission is asked for, or the call is refused
abbrev pub Wants : (old : ClientState) → (page : ℕ) → Result WantAnswer ClientFault
    → (new : ClientState) → Type 0
Wants old page (Ok want.Permitted) new =
    Calls old (CallWant page) table.Permitted [] as_before new
Wants old page (Ok (want.Asked frame)) new =
    Calls old (CallWant page) table.Asked (short_message frame ∷ []) as_before new
Wants old page (Err refused) new = Refuses old (CallWant page) refused new

-- the page has these bytes now, or the call is refused
abbrev pub Writes : (old : ClientState) → (page : ℕ) → Bytes → Result ⊤ ClientFault
    → (new : ClientState) → Type 0
Writes old page bytes (Ok done) new =
    Calls old (CallWrite page bytes) table.AnsweredOk [] (puts page bytes) new
Writes old page bytes (Err refused) new = Refuses old (CallWrite page bytes) refused new

-- the transaction commits, by the frame answered, or the call is refused
abbrev pub Finishes : (old : ClientState) → Result Frame ClientFault → (new : ClientState) → Type 0
Finishes old (Ok frame) new =
    Calls old CallFinish table.AnsweredOk (message_of frame ∷ []) as_before new
Finishes old (Err refused) new = RefusesOrLacks old CallFinish refused new

-- the frame says the commit of the client's transaction: the pages that it wrote, with their bytes
abbrev pub SaysCommit : ClientState → Frame → Type 0
SaysCommit client frame = (operations : List Operation)
    → messages_from client
    (bodies_said (say_commit (limits_at client) (client_of client operations)))
    ≡ message_of frame ∷ []

-- it commits, by that very frame, or the table refuses the call: never for want of memory
abbrev pub FinishesWith : (old : ClientState) → Frame → Result ⊤ ClientFault → (new : ClientState)
    → Type 0
FinishesWith old frame (Ok done) new = Finishes old (Ok frame) new
FinishesWith old frame (Err refused) new = Refuses old CallFinish refused new
