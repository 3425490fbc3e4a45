-- Every message that a client says fits the limits, and so does its frame.
use Rattle.std.proofs.lemmas.Bool.Decides.{nat_tests}
use Rattle.std.proofs.Common.{◌==◌, ◌<◌, true, Option, None, IfSome, option_to_list, unwrap_or, sym, ◌∙◌, ◌≡◌, ◌+◌, ℕ, List, [], ◌∷◌, map, Some, refl, subst, arith}
use Rattle.std.specs.List.{AllByRecursion}
use Rattle.cb_page.specs.Bounds.{Bounds}
use Rattle.cb_page.specs.Rising.{RisesFrom}
use Rattle.cb_cache.specs.CacheState.{copy_at, limits_of}
use Rattle.cb_frame.specs.Grammar as grammar
use Rattle.cb_frame.specs.declared.frame.Body.{Body}
use Rattle.cb_frame.specs.declared.frame.Body.TheVariants as body
use Rattle.cb_frame.specs.declared.frame.Frame.{Frame}
use Rattle.cb_frame.specs.declared.frame.ShortBody.{ShortBody}
use Rattle.cb_frame.specs.declared.frame.ShortBody.TheVariants as short
use Rattle.cb_frame.specs.declared.writes.Write.{Write}
use Rattle.cb_outbox.specs.Messages.{body_of, message_of, messages_of, page_writes, short_of}
use Rattle.cb_protocol.proofs.ClientInvariant.{ClientKeeps, tidy}
use Rattle.cb_protocol.proofs.ClientRanges.{client_messages_in_range, sized}
use Rattle.cb_protocol.specs.Answers as table
use Rattle.cb_protocol.specs.Cache as protocol_cache
use Rattle.cb_protocol.specs.Serial.{Operation}
use Rattle.std.specs.Option.{option_map}
use Rattle.cb_page.specs.Numbers.{IsNumber}
use Rattle.cb_frame.specs.declared.frame.ShortFrame.{ShortFrame}
use Rattle.cb_client.specs.CallAnswers.{ShortFrameFits, short_message}
use Rattle.cb_client_core.specs.declared.stage.PendingAsk.{PendingAsk}
use Rattle.cb_client_core.specs.declared.stage.PendingAsk.TheVariants as asks
use Rattle.cb_protocol.specs.Client.{bodies_said, is_asking}
use Rattle.cb_protocol.specs.ClientAlone.{ReceivesCall, ReceivesMessage}
use Rattle.cb_protocol.specs.ClientCalls.{Call, CallWant, client_call, say_ask, say_ask_write}
use Rattle.cb_protocol.specs.ClientMessages.{client_take}
use Rattle.cb_protocol.specs.Messages as protocol
use Rattle.cb_protocol.specs.Ranges.{Above, AllBodiesFit, AllMessagesFit, BodyFits, InputFits, MessageFits, WritesFit}
use Rattle.cb_client_core.specs.ClientState.{ClientState, IsClient, ask_of, client_of}
use Rattle.cb_client.specs.ByTable.{Calls, Takes, as_before, limits_at, messages_from}

-- a body without page bytes
short_fits : (b : Bounds) (s : ShortBody) → BodyFits (limits_of b) (short_of s) → grammar.ShortFits b s
short_fits b short.Hello h = h
short_fits b (short.AskRead txn page) h = h
short_fits b (short.AskWrite txn page grant) h = h
short_fits b (short.GiveBack page grant) h = h
short_fits b (short.InUse txn page grant) h = h
short_fits b (short.Drop txn) h = h
short_fits b short.Welcome h = h
short_fits b (short.MayWrite txn page grant) h = h
short_fits b (short.Callback page grant) h = h
short_fits b (short.Done txn number) h = h
short_fits b (short.AbortNow txn) h = h
short_fits b (short.Downgraded page grant txn) h = h
short_fits b (short.Downgrade page grant txn) h = h

-- the pages of a commit
writes_fit : (b : Bounds) (ws : List Write) → WritesFit (limits_of b) (page_writes ws) → AllByRecursion (grammar.WriteFits b) ws
writes_fit b [] h = tt
writes_fit b (w ∷ ws) h = (record { page = h.0.0; grant = h.0.1; bytes = h.0.2 }, writes_fit b ws h.2)

rises : (b : Bounds) (page : ℕ) (ws : List Write) → Above page (page_writes ws) → WritesFit (limits_of b) (page_writes ws) → RisesFrom (page + 1) (map grammar.page_of ws)
rises b page [] a h = tt
rises b page (w ∷ ws) a h = (let lt = a.0 in omega (arith, lt), rises b w.page ws h.1 h.2)

from_zero : (b : Bounds) (ws : List Write) → WritesFit (limits_of b) (page_writes ws) → RisesFrom 0 (map grammar.page_of ws)
from_zero b [] h = tt
from_zero b (w ∷ ws) h = (omega arith, rises b w.page ws h.1 h.2)

body_fits : (b : Bounds) (x : Body) → BodyFits (limits_of b) (body_of x) → grammar.BodyFits b x
body_fits b (body.Short s) h = short_fits b s h
body_fits b (body.Commit txn ws) h = (h.0, writes_fit b ws h.1, from_zero b ws h.1)
body_fits b (body.Granted page grant version bytes) h = h

pub frame_fits : (b : Bounds) (frame : Frame) → MessageFits (limits_of b) (message_of frame) → grammar.Fits b frame
frame_fits b frame h = record { client = h.0; incarnation = h.1; body = body_fits b frame.body h.2 }

-- what a client says in answer to a call
pub from_client : (v : ClientState) → IsClient v → (bodies : List protocol.Body) → AllBodiesFit (limits_at v) bodies → AllMessagesFit (limits_at v) (messages_from v bodies)
from_client v is [] h = tt
from_client v is (x ∷ bodies) h = ((is.no, is.incarnation, h.0), from_client v is bodies h.1)

pub calls_fit : (v w : ClientState) (call : Call) {word : _} {said : List protocol.Message} {history : _} → IsClient v → Calls v call word said history w → AllMessagesFit (limits_at v) said
calls_fit v w call {word} {said} {history} is c =
    let ops = is.reached.operations in
    subst (λ (messages : List protocol.Message). AllMessagesFit (limits_at v) messages) (c.makes.said ops)
    (from_client v is (bodies_said (client_call (limits_at v) (client_of v ops) call).steps)
    (client_messages_in_range (limits_at v) (client_of v ops) (ReceivesCall call) is.reached.arises tt tt))

-- a body that came, as the protocol says that it fits
short_came : (b : Bounds) (s : ShortBody) → grammar.ShortFits b s → BodyFits (limits_of b) (short_of s)
short_came b short.Hello h = h
short_came b (short.AskRead txn page) h = h
short_came b (short.AskWrite txn page grant) h = h
short_came b (short.GiveBack page grant) h = h
short_came b (short.InUse txn page grant) h = h
short_came b (short.Drop txn) h = h
short_came b short.Welcome h = h
short_came b (short.MayWrite txn page grant) h = h
short_came b (short.Callback page grant) h = h
short_came b (short.Done txn number) h = h
short_came b (short.AbortNow txn) h = h
short_came b (short.Downgraded page grant txn) h = h
short_came b (short.Downgrade page grant txn) h = h

above : (page next : ℕ) (ws : List Write) → page < next → RisesFrom next (map grammar.page_of ws) → Above page (page_writes ws)
above page next [] lt r = tt
above page next (w ∷ ws) lt r =
    let first = r.0 in
    let more : page < w.page = omega (arith, lt, first) in
    (more, above page (w.page + 1) ws (omega (arith, more)) r.1)

writes_came : (b : Bounds) (next : ℕ) (ws : List Write) → AllByRecursion (grammar.WriteFits b) ws → RisesFrom next (map grammar.page_of ws) → WritesFit (limits_of b) (page_writes ws)
writes_came b next [] h r = tt
writes_came b next (w ∷ ws) h r = ((h.0.page, h.0.grant, h.0.bytes), above w.page (w.page + 1) ws (omega arith) r.1, writes_came b (w.page + 1) ws h.1 r.1)

body_came : (b : Bounds) (x : Body) → grammar.BodyFits b x → BodyFits (limits_of b) (body_of x)
body_came b (body.Short s) h = short_came b s h
body_came b (body.Commit txn ws) h = (h.0, writes_came b 0 ws h.1 h.2)
body_came b (body.Granted page grant version bytes) h = h

-- what a client says to a message that fits
takes_fit : (v w : ClientState) (message : protocol.Body) {said : List protocol.Message} → IsClient v → BodyFits (limits_at v) message → Takes v message said w → AllMessagesFit (limits_at v) said
takes_fit v w message {said} is came t =
    let ops = is.reached.operations in
    subst (λ (messages : List protocol.Message). AllMessagesFit (limits_at v) messages) (t.makes.said ops)
    (from_client v is (bodies_said (client_take (limits_at v) (client_of v ops) message t.let_go))
    (client_messages_in_range (limits_at v) (client_of v ops) (ReceivesMessage message t.let_go) is.reached.arises (t.allowed ops) came))

-- one frame said
pub call_frame_fits : (v w : ClientState) (call : Call) {word : _} {history : _} (frame : Frame) → IsClient v → Calls v call word (message_of frame ∷ []) history w → grammar.Fits v.copies.limits frame
call_frame_fits v w call {word} {history} frame is c = frame_fits v.copies.limits frame (calls_fit v w call is c).0

-- and many
all_fit : (b : Bounds) (frames : List Frame) → AllMessagesFit (limits_of b) (messages_of frames) → AllByRecursion (grammar.Fits b) frames
all_fit b [] h = tt
all_fit b (frame ∷ frames) h = (frame_fits b frame h.0, all_fit b frames h.1)

pub call_frames_fit : (v w : ClientState) (call : Call) {word : _} {history : _} (frames : List Frame) → IsClient v → Calls v call word (messages_of frames) history w → AllByRecursion (grammar.Fits v.copies.limits) frames
call_frames_fit v w call {word} {history} frames is c = all_fit v.copies.limits frames (calls_fit v w call is c)

-- and the frames that it says to one
pub body_frames_fit : (v w : ClientState) (came : Body) (said : List Frame) → IsClient v → grammar.BodyFits v.copies.limits came → Takes v (body_of came) (messages_of said) w → AllByRecursion (grammar.Fits v.copies.limits) said
body_frames_fit v w came said is fits t = all_fit v.copies.limits said (takes_fit v w (body_of came) is (body_came v.copies.limits came fits) t)

-- the transaction that waits has a number
number : (v : ClientState) → IsClient v → is_asking (ask_of v.ask) ≡ true → IsNumber (unwrap_or v.txn 0)
number v is e =
    let keeps = tidy (limits_at v) (InputFits (limits_at v)) (client_of v is.reached.operations) is.reached.arises in
    let begun = keeps.begun (λ z. absurd (let y : protocol_cache.Open ≡ protocol_cache.Idle = sym (keeps.asking e) ∙ z in cc)) in
    let most = (sized (limits_at v) (client_of v is.reached.operations) is.reached.arises).number in
    (omega (arith, begun), most)

same : (q : ℕ) → (q == q) ≡ true
same q = grind (arith, nat_tests)

-- the ask that is out
asks_fit : (v : ClientState) (ops : List Operation) → IsClient v → (a : PendingAsk) → v.ask ≡ a → AllBodiesFit (limits_at v) (bodies_said (say_ask (client_of v ops) (ask_of a)))
asks_fit v ops is asks.Nothing e = tt
asks_fit v ops is (asks.Read page) e = ((number v is (rw e refl), tidied.read_within page (rw e (same page))), tt)
  where
    tidied : ClientKeeps (limits_at v) (client_of v is.reached.operations)
    tidied = tidy (limits_at v) (InputFits (limits_at v)) (client_of v is.reached.operations) is.reached.arises
asks_fit v ops is (asks.Write page) e = by (copy_at v.copies page).held refl
  where
    tidied : ClientKeeps (limits_at v) (client_of v is.reached.operations)
    tidied = tidy (limits_at v) (InputFits (limits_at v)) (client_of v is.reached.operations) is.reached.arises

    by : (held : Option ℕ) → (copy_at v.copies page).held ≡ held → AllBodiesFit (limits_at v) (bodies_said (say_ask_write (client_of v ops) page held))
    by None h = tt
    by (Some grant) h = ((number v is (rw e refl), tidied.write_within page (rw e (same page)), (sized (limits_at v) (client_of v is.reached.operations) is.reached.arises).held page grant h), tt)

pub ask_frame_fits : (v : ClientState) (said : Option ShortFrame) → IsClient v
    → ((ops : List Operation) → messages_from v (bodies_said (say_ask (client_of v ops) (client_of v ops).ask)) ≡ option_to_list (option_map short_message said))
    → IfSome said (ShortFrameFits v.copies.limits)
ask_frame_fits v None is e = tt
ask_frame_fits v (Some frame) is e = frame_fits v.copies.limits (record { client = frame.client; incarnation = frame.incarnation; body = body.Short frame.body })
    (subst (λ (messages : List protocol.Message). AllMessagesFit (limits_at v) messages) (e []) (from_client v is (bodies_said (say_ask (client_of v []) (client_of v []).ask)) (asks_fit v [] is v.ask refl))).0

-- the frame by which a permission is asked for
pub want_fits : (v w : ClientState) (page : ℕ) (frame : ShortFrame) → IsClient v → Calls v (CallWant page) table.Asked (short_message frame ∷ []) as_before w → ShortFrameFits v.copies.limits frame
want_fits v w page frame is c = frame_fits v.copies.limits (record { client = frame.client; incarnation = frame.incarnation; body = body.Short frame.body }) (calls_fit v w (CallWant page) is c).0
