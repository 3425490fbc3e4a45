-- What a read leaves and answers.
use Rattle.std.proofs.Common.{◌≡◌, ℕ, List, [], ◌∷◌, Option, Some, None, if◌then◌else◌, length, refl, sym, ◌∙◌, ap, option_to_list}
use Rattle.std.specs.Option.{is_some, option_map}
use Rattle.cb_cache.specs.CacheState.{content_at}
use Rattle.cb_client.specs.ByTable.{IsRefused, limits_at, messages_from}
use Rattle.cb_client.specs.CallAnswers.{Answers, after_read, page_asked, page_read, read_ask, short_message}
use Rattle.cb_client.specs.declared.client_fault.ClientFault.{ClientFault}
use Rattle.cb_client_core.specs.ClientState.{ClientState, IsClient, ask_of, client_of}
use Rattle.cb_client_core.specs.declared.stage.PendingAsk.{PendingAsk}
use Rattle.cb_client_core.specs.declared.stage.PendingAsk.TheVariants as asks
use Rattle.cb_frame.specs.declared.frame.Body.TheVariants.{Short}
use Rattle.cb_frame.specs.declared.frame.Frame.{Frame}
use Rattle.cb_frame.specs.declared.frame.ShortFrame.{ShortFrame}
use Rattle.cb_outbox.specs.Messages.{messages_of}
use Rattle.cb_protocol.proofs.Cases.{call_accepted, call_refused}
use Rattle.cb_protocol.proofs.ClientRanges.{sized}
use Rattle.cb_protocol.specs.Answers as table
use Rattle.cb_protocol.specs.Basics.{Bytes, is_none}
use Rattle.cb_protocol.specs.Client.{bodies_said}
use Rattle.cb_protocol.specs.ClientCalls.{CallRead, Reply, call_fault, client_call, read_page, say_ask}
use Rattle.cb_protocol.specs.Messages.{Message}
use Rattle.cb_protocol.specs.Serial.{Operation}

-- the message of the ask that is out
pub ask_message : (client : ClientState) (page : ℕ) → client.ask ≡ asks.Read page
    → messages_from client (bodies_said (say_ask (client_of client []) (client_of client []).ask)) ≡ read_ask client page ∷ []
ask_message client page e = ap (λ (x : PendingAsk). messages_from client (bodies_said (say_ask (client_of client []) (ask_of x)))) e

-- what the client says of its ask
abbrev SaysAsk : ClientState → Option ShortFrame → Type 0
SaysAsk client said = (operations : List Operation)
    → messages_from client (bodies_said (say_ask (client_of client operations) (client_of client operations).ask)) ≡ option_to_list (option_map short_message said)

-- the frame of a short one
abbrev framed : ShortFrame → Frame
framed frame = record { client = frame.client; incarnation = frame.incarnation; body = Short frame.body }

-- so its frame is said
pub ask_said : (client : ClientState) (page : ℕ) (ask : ShortFrame) (frame : Frame) (said : List Frame) → client.ask ≡ asks.Read page → SaysAsk client (Some ask)
    → frame ≡ framed ask → said ≡ frame ∷ [] → messages_of said ≡ read_ask client page ∷ []
ask_said client page ask frame said out says is kept =
    ap (λ (l : List Frame). messages_of l) (kept ∙ ap (λ (x : Frame). x ∷ []) is) ∙ sym (says []) ∙ ask_message client page out

-- and there is one
pub ask_there : (client : ClientState) (page : ℕ) → client.ask ≡ asks.Read page → SaysAsk client None → ⊥
ask_there client page out says = absurd (let e : [] ≡ read_ask client page ∷ [] = sym (says []) ∙ ask_message client page out in cc)

-- the client after a read, by what the table finds
abbrev read_so : ClientState → (page : ℕ) → Option table.ClientFault → Option Bytes → ClientState
read_so client page refused content = if is_none refused then if is_some content then page_read client page else page_asked client page else client

-- a refused read changes nothing
pub read_refused : (client : ClientState) (page : ℕ) (refused : ClientFault) → IsRefused client (CallRead page) refused → after_read client page ≡ client
unfolding call_fault
read_refused client page refused is = ap (λ (x : Option table.ClientFault). read_so client page x (content_at client.copies page)) (is.refuses [])

-- what the table answers to a read, by what it finds
abbrev answer_so : ClientState → (page : ℕ) → Option table.ClientFault → Option Bytes → table.AnswerWord
answer_so client page (Some reason) content = table.Refused reason
answer_so client page None content = (read_page (client_of client []) page content).word

answered_so : (client : ClientState) (page : ℕ) (refused : Option table.ClientFault) → call_fault (limits_at client) (client_of client []) (CallRead page) ≡ refused
    → (client_call (limits_at client) (client_of client []) (CallRead page)).word ≡ answer_so client page refused (content_at client.copies page)
answered_so client page (Some reason) e = ap (λ (x : Reply). x.word) (call_refused (limits_at client) (client_of client []) (CallRead page) reason e)
answered_so client page None e = ap (λ (x : Reply). x.word) (call_accepted (limits_at client) (client_of client []) (CallRead page) e)

-- so a page whose bytes are answered is in the pool, and one that is asked for is out
found_so : (client : ClientState) (page : ℕ) (bytes : Bytes) (refused : Option table.ClientFault) (content : Option Bytes) → answer_so client page refused content ≡ table.AnsweredBytes bytes → content ≡ Some bytes
found_so client page bytes (Some reason) content e = absurd cc
found_so client page bytes None None e = absurd cc
found_so client page bytes None (Some found) e = cc

asked_so : (client : ClientState) (page : ℕ) (refused : Option table.ClientFault) (content : Option Bytes) → answer_so client page refused content ≡ table.Asked → read_so client page refused content ≡ page_asked client page
asked_so client page (Some reason) content e = absurd cc
asked_so client page None (Some bytes) e = absurd cc
asked_so client page None None e = refl

-- the bytes that a read answers are as many as a page has
pub read_sized : (client : ClientState) (page : ℕ) (bytes : Bytes) (messages : List Message) → IsClient client → Answers client (CallRead page) (table.AnsweredBytes bytes) messages → length bytes ≡ client.copies.limits.page_size
read_sized client page bytes messages is answers =
    let refused : Option table.ClientFault = call_fault (limits_at client) (client_of client []) (CallRead page) in
    let found : content_at client.copies page ≡ Some bytes
    = found_so client page bytes refused (content_at client.copies page) (sym (answered_so client page refused refl) ∙ answers.word []) in
    (sized (limits_at client) (client_of client is.reached.operations) is.reached.arises).content page bytes found

-- an ask is out once a read asked for the page
pub read_asked : (client : ClientState) (page : ℕ) (messages : List Message) → Answers client (CallRead page) table.Asked messages → after_read client page ≡ page_asked client page
unfolding call_fault
read_asked client page messages answers =
    let refused : Option table.ClientFault = call_fault (limits_at client) (client_of client []) (CallRead page) in
    asked_so client page refused (content_at client.copies page) (sym (answered_so client page refused refl) ∙ answers.word [])

pub ask_is_out : (client next : ClientState) (page : ℕ) (messages : List Message) → Answers client (CallRead page) table.Asked messages → next ≡ after_read client page → next.ask ≡ asks.Read page
ask_is_out client next page messages answers e = ap (λ (x : ClientState). x.ask) (e ∙ read_asked client page messages answers)

-- of the same client, incarnation and transaction
pub ask_stays : (client next : ClientState) (page : ℕ) (messages : List Message) → Answers client (CallRead page) table.Asked messages → next ≡ after_read client page → read_ask next page ∷ [] ≡ read_ask client page ∷ []
ask_stays client next page messages answers e = ap (λ (x : ClientState). read_ask x page ∷ []) (e ∙ read_asked client page messages answers)
