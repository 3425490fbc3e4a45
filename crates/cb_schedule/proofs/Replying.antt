-- What a client replies, by the table of calls.
use Rattle.std.proofs.Common.{◌≡◌, ◌≢◌, ℕ, if◌then◌else◌, List, [], ◌∷◌, Option, Some, None, Result, Ok, Err, refl, sym, ◌∙◌, ap, subst}
use Rattle.std.specs.Prelude.{IfOk, OnErr}
use Rattle.std.specs.Option.{is_some, option_map}
use Rattle.std.specs.List.{AllByRecursion}
use Rattle.std.proofs.lemmas.Result.{IfOk-weaker, on_err_weaker}
use Rattle.cb_client.specs.ByTable.{Called, Calls, IsRefusal, IsRefused, RefusesOrLacks, as_before, limits_at, messages_from, references_of, refusal, with_read}
use Rattle.cb_client.specs.CallAnswers.{Answers, ShortFrameFits, after_read, page_asked, page_read, read_ask, short_message}
use Rattle.cb_client.specs.ClientState.{ClientState, ask_of, client_of}
use Rattle.cb_client.specs.declared.client_fault.ClientFault.{ClientFault}
use Rattle.cb_client.specs.declared.client_fault.ClientFault.TheVariants as fault
use Rattle.cb_client_core.specs.declared.stage.PendingAsk.{PendingAsk}
use Rattle.cb_client_core.specs.declared.stage.PendingAsk.TheVariants as asks
use Rattle.cb_cache.specs.CacheState.{content_at}
use Rattle.cb_frame.specs.Grammar.{Fits}
use Rattle.cb_frame.specs.declared.frame.Body.TheVariants.{Short}
use Rattle.cb_frame.specs.declared.frame.Frame.{Frame}
use Rattle.cb_frame.specs.declared.frame.ShortFrame.{ShortFrame}
use Rattle.cb_outbox.specs.Messages.{message_of, messages_of}
use Rattle.cb_protocol.proofs.Cases.{call_accepted, call_refused}
use Rattle.cb_protocol.specs.Answers as table
use Rattle.cb_protocol.specs.Basics.{Bytes, is_none}
use Rattle.cb_protocol.specs.Client.{bodies_said, client_after}
use Rattle.cb_protocol.specs.ClientCalls.{Call, CallRead, Reply as TableReply, call_fault, client_call, read_page, reply_with, say_ask}
use Rattle.cb_protocol.specs.Messages.{Message}
use Rattle.cb_protocol.specs.Serial.{Operation}
use Rattle.cb_transcript.specs.ProtocolEvents.{word_of}
use Rattle.cb_transcript.specs.declared.answer.AnswerWord.{AnswerWord}
use Rattle.cb_transcript.specs.declared.answer.AnswerWord.TheVariants as word
use Rattle.cb_schedule.specs.ByWorld.{AsksFor, Replies}
use Rattle.cb_schedule.specs.declared.reply.Reply.{Reply}

-- the same word, and the frames of the messages
pub replies_by : (old new : ClientState) (call : Call) (reply : Reply) (word : table.AnswerWord) (frames : List Frame) (history : List Operation → List Operation)
    → Calls old call word (messages_of frames) history new → word_of reply.word ≡ word → reply.said.items ≡ frames → AllByRecursion (Fits old.copies.limits) frames → Replies old call reply new
replies_by old new call reply word frames history calls e f fits = record {
  history = history;
  calls = subst (λ (x : table.AnswerWord). Calls old call x (messages_of reply.said.items) history new) (sym e)
      (subst (λ (x : List Frame). Calls old call word (messages_of x) history new) (sym f) calls);
  fits = subst (λ (x : List Frame). AllByRecursion (Fits old.copies.limits) x) (sym f) fits;
}

-- a reply of one frame
abbrev pub OfOneFrame : AnswerWord → Frame → Reply → Type 0
OfOneFrame answered frame reply = (reply.word ≡ answered) × (reply.said.items ≡ frame ∷ [])

pub one_reply : {X : Type 0} (old new : ClientState) (call : Call) (answered : AnswerWord) (frame : Frame) (history : List Operation → List Operation) (result : Result Reply X)
    → Calls old call (word_of answered) (message_of frame ∷ []) history new → Fits old.copies.limits frame
    → IfOk result (λ reply. (reply.word ≡ answered) × (reply.said.items ≡ frame ∷ [])) → IfOk result (λ reply. Replies old call reply new)
one_reply old new call answered frame history result calls fits said =
    IfOk-weaker result (OfOneFrame answered frame) (λ reply. Replies old call reply new) (λ reply is. replies_by old new call reply (word_of answered) (frame ∷ []) history calls (ap word_of is.0) is.1 (fits, tt)) said

-- the frame of a short one
abbrev pub framed : ShortFrame → Frame
framed frame = record { client = frame.client; incarnation = frame.incarnation; body = Short frame.body }

-- a reply of one frame without page bytes
pub short_reply : {X : Type 0} (old new : ClientState) (call : Call) (answered : AnswerWord) (frame : Frame) (short : ShortFrame) (history : List Operation → List Operation) (result : Result Reply X)
    → frame ≡ framed short → Calls old call (word_of answered) (short_message short ∷ []) history new → ShortFrameFits old.copies.limits short
    → IfOk result (λ reply. (reply.word ≡ answered) × (reply.said.items ≡ frame ∷ [])) → IfOk result (λ reply. Replies old call reply new)
short_reply old new call answered frame short history result e calls fits said =
    one_reply old new call answered frame history result
    (subst (λ (x : Frame). Calls old call (word_of answered) (message_of x ∷ []) history new) (sym e) calls)
    (subst (λ (x : Frame). Fits old.copies.limits x) (sym e) fits) said

-- a refused call answers so, and nothing changes
table_refuses : (old : ClientState) (call : Call) (reason : table.ClientFault) → IsRefusal old call (Some reason) → Calls old call (table.Refused reason) [] as_before old
table_refuses old call reason is = record {
  word = λ operations. ap (λ (x : TableReply). x.word) (at operations);
  makes = record {
    said = λ operations. ap (λ (x : TableReply). messages_from old (bodies_said x.steps)) (at operations);
    after = λ operations. ap (λ (x : TableReply). client_after old.copies.limits.keep_write (client_of old operations) x.steps) (at operations);
    limits = refl;
    no = refl;
    incarnation = refl;
  };
  references = refl;
}
  where
    at : (operations : List Operation) → client_call (limits_at old) (client_of old operations) call ≡ reply_with (table.Refused reason) []
    at operations = call_refused (limits_at old) (client_of old operations) call reason (is operations)

injected : (x y : table.AnswerWord) → Some x ≡ Some y → x ≡ y
injected x y e = cc

-- a reply that says the refusal which a fault is
abbrev pub OfRefusal : ClientFault → Reply → Type 0
OfRefusal refused reply = (reply.said.items ≡ []) × (Some (word_of reply.word) ≡ option_map table.Refused (refusal refused))

refused_reply : (old : ClientState) (call : Call) (refused : ClientFault) (reply : Reply) → IsRefused old call refused → OfRefusal refused reply → Replies old call reply old
refused_reply old call refused reply is said =
    let answered : word_of reply.word ≡ table.Refused is.reason = injected _ _ (said.1 ∙ ap (λ (x : Option table.ClientFault). option_map table.Refused x) is.named) in
    replies_by old old call reply (table.Refused is.reason) [] as_before (table_refuses old call is.reason is.refuses) answered said.0 tt

-- a refusal
pub refusal_reply : {X : Type 0} (old new : ClientState) (call : Call) (refused : ClientFault) (result : Result Reply X) → IsRefused old call refused → new ≡ old
    → IfOk result (λ reply. (reply.said.items ≡ []) × (Some (word_of reply.word) ≡ option_map table.Refused (refusal refused))) → IfOk result (λ reply. Replies old call reply new)
refusal_reply old new call refused result is same said =
    subst (λ (x : ClientState). IfOk result (λ reply. Replies old call reply x)) (sym same)
    (IfOk-weaker result (OfRefusal refused) (λ reply. Replies old call reply old) (λ reply of. refused_reply old call refused reply is of) said)

-- want of memory is said by no reply
lacks_none : (said : table.AnswerWord) → Some said ≡ option_map table.Refused (refusal fault.Memory) → ⊥
lacks_none said e = cc

-- a refusal, or a want of memory, of which nothing is said
pub refused_or_lacks : {X : Type 0} (old new : ClientState) (call : Call) (refused : ClientFault) (result : Result Reply X) → RefusesOrLacks old call refused new
    → IfOk result (λ reply. (reply.said.items ≡ []) × (Some (word_of reply.word) ≡ option_map table.Refused (refusal refused))) → IfOk result (λ reply. Replies old call reply new)
refused_or_lacks old new call fault.Memory result is said = IfOk-weaker result (OfRefusal fault.Memory) (λ reply. Replies old call reply new) (λ reply of. absurd (lacks_none _ of.1)) said
refused_or_lacks old new call refused result is said = refusal_reply old new call refused result is.0 is.1 said

-- A call that is answered by anything but a refusal is one that the table accepts.
accepted : (old : ClientState) (call : Call) (said : table.AnswerWord) → ((operations : List Operation) → (client_call (limits_at old) (client_of old operations) call).word ≡ said)
    → ((reason : table.ClientFault) → said ≢ table.Refused reason) → IsRefusal old call None
accepted old call said at other = λ operations. by operations (call_fault (limits_at old) (client_of old operations) call) refl
  where
    by : (operations : List Operation) (found : Option table.ClientFault) → call_fault (limits_at old) (client_of old operations) call ≡ found → call_fault (limits_at old) (client_of old operations) call ≡ None
    by operations None e = e
    by operations (Some reason) e =
        absurd (other reason (sym (at operations) ∙ ap (λ (x : TableReply). x.word) (call_refused (limits_at old) (client_of old operations) call reason e)))

-- a refusal of the table is no want of memory
pub refusal_told : {X E : Type 0} (old : ClientState) (call : Call) (refused : ClientFault) (result : Result X E) → IsRefused old call refused → OnErr result (refusal refused ≡ None) → OnErr result (IsRefusal old call None)
refusal_told old call refused result is fails = on_err_weaker result (λ lacks. absurd (apart is.reason (sym is.named ∙ lacks))) fails
  where
    apart : (reason : table.ClientFault) → Some reason ≡ None → ⊥
    apart reason e = cc

-- so what is no refusal of the table is of a call that it accepts
pub lack_told : {X E : Type 0} (old new : ClientState) (call : Call) (refused : ClientFault) (result : Result X E) → RefusesOrLacks old call refused new → OnErr result (refusal refused ≡ None) → OnErr result (IsRefusal old call None)
lack_told old new call fault.Memory result is fails = on_err_weaker result (λ lacks. is.0) fails
lack_told old new call refused result is fails = refusal_told old call refused result is.0 fails

-- what holds anyhow holds where a call fails
pub on_any_err : {T E P : Type 0} (r : Result T E) → P → OnErr r P
on_any_err (Ok value) p = tt
on_any_err (Err e) p = p

-- where memory for what it says is refused, the call was accepted
pub said_nothing : {X E : Type 0} (old : ClientState) (call : Call) (answered : table.AnswerWord) (result : Result X E) → ((operations : List Operation) → (client_call (limits_at old) (client_of old operations) call).word ≡ answered)
    → ((reason : table.ClientFault) → answered ≢ table.Refused reason) → OnErr result (IsRefusal old call None)
said_nothing old call said result at other = on_any_err result (accepted old call said at other)

-- the message of the ask that is out
ask_message : (client : ClientState) (page : ℕ) → client.ask ≡ asks.Read page
    → messages_from client (bodies_said (say_ask (client_of client []) (client_of client []).ask)) ≡ read_ask client page ∷ []
ask_message client page e = ap (λ (x : PendingAsk). messages_from client (bodies_said (say_ask (client_of client []) (ask_of x)))) e

-- it is there
pub ask_there : (client : ClientState) (page : ℕ) → client.ask ≡ asks.Read page
    → messages_from client (bodies_said (say_ask (client_of client []) (client_of client []).ask)) ≡ [] → ⊥
ask_there client page e none = not_nothing _ _ (sym (ask_message client page e) ∙ none)
  where
    not_nothing : (first : Message) (more : List Message) → first ∷ more ≡ [] → ⊥
    not_nothing first more same = cc

-- the ask that is out is said
pub asks_for : {X : Type 0} (client : ClientState) (page : ℕ) (frame : Frame) (short : ShortFrame) (result : Result Reply X) → client.ask ≡ asks.Read page
    → messages_from client (bodies_said (say_ask (client_of client []) (client_of client []).ask)) ≡ short_message short ∷ [] → ShortFrameFits client.copies.limits short → frame ≡ framed short
    → IfOk result (λ reply. (reply.word ≡ word.Asked) × (reply.said.items ≡ frame ∷ [])) → IfOk result (AsksFor client page)
asks_for client page frame short result out message fits e said = IfOk-weaker result (OfOneFrame word.Asked frame) (AsksFor client page) (λ reply is. record {
  word = is.0;
  said = ap messages_of (is.1 ∙ ap (λ (x : Frame). x ∷ []) e) ∙ (sym message ∙ ask_message client page out);
  fits = subst (λ (x : List Frame). AllByRecursion (Fits client.copies.limits) x) (sym (is.1 ∙ ap (λ (x : Frame). x ∷ []) e)) (fits, tt);
}) said

-- the client after a read, by what the table finds
abbrev read_so : ClientState → (page : ℕ) → Option table.ClientFault → Option Bytes → ClientState
read_so client page refused content = if is_none refused then if is_some content then page_read client page else page_asked client page else client

-- a refused read changes nothing
pub read_refused : (client : ClientState) (page : ℕ) (refused : ClientFault) → IsRefused client (CallRead page) refused → after_read client page ≡ client
unfolding call_fault
read_refused client page refused is = ap (λ (x : Option table.ClientFault). read_so client page x (content_at client.copies page)) (is.refuses [])

-- what the table answers to a read, by what it finds
abbrev answer_so : ClientState → (page : ℕ) → Option table.ClientFault → Option Bytes → table.AnswerWord
answer_so client page (Some reason) content = table.Refused reason
answer_so client page None content = (read_page (client_of client []) page content).word

answered_so : (client : ClientState) (page : ℕ) (refused : Option table.ClientFault) → call_fault (limits_at client) (client_of client []) (CallRead page) ≡ refused
    → (client_call (limits_at client) (client_of client []) (CallRead page)).word ≡ answer_so client page refused (content_at client.copies page)
answered_so client page (Some reason) e = ap (λ (x : TableReply). x.word) (call_refused (limits_at client) (client_of client []) (CallRead page) reason e)
answered_so client page None e = ap (λ (x : TableReply). x.word) (call_accepted (limits_at client) (client_of client []) (CallRead page) e)

-- so a page that was asked for is out
asked_so : (client : ClientState) (page : ℕ) (refused : Option table.ClientFault) (content : Option Bytes) → answer_so client page refused content ≡ table.Asked → read_so client page refused content ≡ page_asked client page
asked_so client page (Some reason) content e = absurd (no_refusal e)
  where
    no_refusal : table.Refused reason ≡ table.Asked → ⊥
    no_refusal same = cc
asked_so client page None (Some bytes) e = absurd (no_bytes e)
  where
    no_bytes : table.AnsweredBytes bytes ≡ table.Asked → ⊥
    no_bytes same = cc
asked_so client page None None e = refl

pub read_asked : (client : ClientState) (page : ℕ) (messages : List Message) → Answers client (CallRead page) table.Asked messages → after_read client page ≡ page_asked client page
unfolding call_fault
read_asked client page messages answers =
    let refused : Option table.ClientFault = call_fault (limits_at client) (client_of client []) (CallRead page) in
    asked_so client page refused (content_at client.copies page) (sym (answered_so client page refused refl) ∙ answers.word [])

-- The call was answered so, and that is what the table answers and says.
pub called_so : (old new : ClientState) (call : Call) (word : table.AnswerWord) (messages : List Message) → (called : Called old call new) → Answers old call word messages
    → Calls old call word messages called.history new
called_so old new call word messages called answers = record {
  word = answers.word;
  makes = record {
    said = answers.said;
    after = called.calls.makes.after;
    limits = called.calls.makes.limits;
    no = called.calls.makes.no;
    incarnation = called.calls.makes.incarnation;
  };
  references = called.calls.references ∙ ap (λ (a : table.AnswerWord). with_read old a call (references_of old)) (sym (called.calls.word []) ∙ answers.word []);
}

-- a read that found the page's bytes
pub read_reply : (old new : ClientState) (page : ℕ) (bytes : Bytes) (copy : Bytes) (reply : Reply) → Called old (CallRead page) (after_read old page) → Answers old (CallRead page) (table.AnsweredBytes bytes) []
    → new ≡ after_read old page → copy ≡ bytes → reply.word ≡ word.Bytes copy → reply.said.items ≡ [] → Replies old (CallRead page) reply new
read_reply old new page bytes copy reply called answers same copied answered said =
    subst (λ (x : ClientState). Replies old (CallRead page) reply x) (sym same)
    (replies_by old (after_read old page) (CallRead page) reply (table.AnsweredBytes bytes) [] called.history (called_so old (after_read old page) (CallRead page) (table.AnsweredBytes bytes) [] called answers)
    (ap word_of answered ∙ ap table.AnsweredBytes copied) said tt)

-- a read that asked for the page
pub asked_reply : {X : Type 0} (old new : ClientState) (page : ℕ) (result : Result Reply X) → Called old (CallRead page) (after_read old page) → Answers old (CallRead page) table.Asked (read_ask old page ∷ [])
    → new ≡ after_read old page → IfOk result (AsksFor new page) → IfOk result (λ reply. Replies old (CallRead page) reply new)
asked_reply old new page result called answers same said =
    let out : new ≡ page_asked old page = same ∙ read_asked old page (read_ask old page ∷ []) answers in
    let calls : Calls old (CallRead page) table.Asked (read_ask old page ∷ []) called.history new
    = subst (λ (x : ClientState). Calls old (CallRead page) table.Asked (read_ask old page ∷ []) called.history x) (sym same)
    (called_so old (after_read old page) (CallRead page) table.Asked (read_ask old page ∷ []) called answers) in
    IfOk-weaker result (AsksFor new page) (λ reply. Replies old (CallRead page) reply new) (λ reply is.
    let asked : AsksFor (page_asked old page) page reply = subst (λ (x : ClientState). AsksFor x page reply) out is in record {
      history = called.history;
      calls = subst (λ (x : table.AnswerWord). Calls old (CallRead page) x (messages_of reply.said.items) called.history new) (sym (ap word_of asked.word))
          (subst (λ (x : List Message). Calls old (CallRead page) table.Asked x called.history new) (sym asked.said) calls);
      fits = asked.fits;
    }) said

-- the ask is out
pub ask_is_out : (old new : ClientState) (page : ℕ) → Answers old (CallRead page) table.Asked (read_ask old page ∷ []) → new ≡ after_read old page → new.ask ≡ asks.Read page
ask_is_out old new page answers same = ap (λ (x : ClientState). x.ask) (same ∙ read_asked old page (read_ask old page ∷ []) answers)
