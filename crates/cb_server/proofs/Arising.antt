-- A server arises by frames that fit, and what it says fits.
use Rattle.std.proofs.Common.{◌≡◌, ℕ, ◌+◌, ◌<◌, false, List, [], ◌∷◌, map, slice_index_or, length, sym, ap, ◌∙◌, subst, arith}
use Rattle.std.proofs.lemmas.List.Elements.{All-from_recursion}
use Rattle.std.specs.List.{AllByRecursion}
use Rattle.cb_server_state.specs.States.{server_of, AreOf, Stays, limits_of, opening_of}
use Rattle.cb_server_state.specs.declared.server_state.ServerState.{ServerState}
use Rattle.cb_commit.specs.History.{WritesInto}
use Rattle.cb_commit.specs.Stores.{IsOf, IsSound, IsStored, StoreState, no_page}
use Rattle.cb_frame.specs.Grammar as grammar
use Rattle.cb_frame.specs.declared.frame.Body.{Body}
use Rattle.cb_frame.specs.declared.frame.Body.TheVariants as body
use Rattle.cb_frame.specs.declared.frame.Frame.{Frame}
use Rattle.cb_frame.specs.declared.frame.ShortBody.{ShortBody}
use Rattle.cb_frame.specs.declared.frame.ShortBody.TheVariants as short
use Rattle.cb_frame.specs.declared.writes.Write.{Write}
use Rattle.cb_outbox.specs.Messages.{body_of, message_of, messages_of, page_writes, short_of}
use Rattle.cb_page.specs.Bounds.{Bounds}
use Rattle.cb_page.specs.Rising.{RisesFrom}
use Rattle.cb_protocol.proofs.GrantNumbers.{grants_left_at_first, grants_never_run_out}
use Rattle.cb_protocol.proofs.ServerRangesKept.{server_messages_in_range}
use Rattle.cb_protocol.specs.AnyMessages.{AfterInput, Input, MessageComes, Opened, ReachedBy, ReachesDisk, SendsAgain, input_steps}
use Rattle.cb_protocol.specs.Basics.{Limits}
use Rattle.cb_protocol.specs.Messages.{Message}
use Rattle.cb_protocol.specs.Numbers.{HasGrantsLeft, IsTaken}
use Rattle.cb_protocol.specs.Ranges.{Above, AllMessagesFit, BodyFits, InputTaken, MessageFits, StoreFits, WritesFit}
use Rattle.cb_protocol.specs.Server.{Server, server_after}
use Rattle.cb_protocol.specs.WaitsFor.{on_cycle}
use Rattle.cb_protocol.specs.World.{Opening, messages_sent}
use Rattle.cb_server.specs.Answering.{FitsIn, limits_in, server_in}
use Rattle.cb_server.specs.ServerValue.{IsServer}
use Rattle.cb_server.specs.declared.engine.Engine.{Engine}

-- grant numbers never run out
is_taken : (L : Limits) (s : Server) (i : Input) → InputTaken L s i → IsTaken s i
is_taken L s (MessageComes c n b) t = t.1
is_taken L s SendsAgain t = tt
is_taken L s (ReachesDisk n) t = tt

pub has_grants : (L : Limits) (o : Opening) (s : Server) → ReachedBy L on_cycle o (InputTaken L) s → HasGrantsLeft s
has_grants L o s Opened = grants_left_at_first L o
has_grants L o s (AfterInput {server = k} r i t) = (grants_never_run_out on_cycle k i (has_grants L o k r) (is_taken L k i t)).0

pub of_stays : (limits : Bounds) (before after : ServerState) → AreOf limits before → Stays before after → AreOf limits after
of_stays limits before after is s = record {
  clients = s.clients ∙ is.clients;
  store = record { count = s.pages ∙ is.store.count; page_size = s.page_size ∙ is.store.page_size };
  keep_write = s.keep_write ∙ is.keep_write;
}

-- where only room for asks has changed
pub of_left : (limits : Bounds) (old mid : ServerState) → mid ≡ record old { asks = mid.asks } → AreOf limits old → AreOf limits mid
of_left limits old mid rest is = record {
  clients = ap (λ (h : ServerState). length h.sessions) rest ∙ is.clients;
  store = record {
    count = ap (λ (h : ServerState). length h.commits.store.pages) rest ∙ is.store.count;
    page_size = ap (λ (h : ServerState). h.commits.store.page_size) rest ∙ is.store.page_size;
  };
  keep_write = ap (λ (h : ServerState). h.keep_write) rest ∙ is.keep_write;
}

-- one input more
pub arises : (limits : Bounds) (before after : ServerState) (input : Input) → IsServer (record { limits = limits; state = before }) → InputTaken (limits_of limits) (server_of before) input
    → Stays before after
    → server_of after ≡ server_after (server_of before) (input_steps on_cycle (server_of before) input) → IsServer (record { limits = limits; state = after })
arises limits before after input is taken stays e = record {
  of = of_stays limits before after is.of stays;
  opening = subst (λ (o : StoreState). StoreFits (limits_of limits) (opening_of o)) (sym stays.opening) is.opening;
  reached = subst (λ (o : StoreState). ReachedBy (limits_of limits) on_cycle (opening_of o) (InputTaken (limits_of limits)) (server_of after)) (sym stays.opening)
      (subst (λ (s : Server). ReachedBy (limits_of limits) on_cycle (opening_of before.commits.opening) (InputTaken (limits_of limits)) s) (sym e)
      (AfterInput is.reached input taken));
}

-- a sound store of these limits fits them
pub store_fits : (limits : Bounds) (store : StoreState) → IsSound store → IsOf limits store → StoreFits (limits_of limits) (opening_of store)
store_fits limits store sound of = record {
  number = sound.number;
  version = λ page lt. (stored page lt).version;
  bytes = λ page lt. (stored page lt).size ∙ of.page_size;
}
  where
    stored : (page : ℕ) → page < limits.pages → IsStored store.page_size store.number (slice_index_or store.pages page no_page)
    stored page lt = sound.pages page no_page (subst (λ (n : ℕ). page < n) (sym of.count) lt)

-- a frame that fits carries a message that fits
short_comes : (b : Bounds) (s : ShortBody) → grammar.ShortFits b s → BodyFits (limits_of b) (short_of s)
short_comes b short.Hello h = h
short_comes b (short.AskRead txn page) h = h
short_comes b (short.AskWrite txn page grant) h = h
short_comes b (short.GiveBack page grant) h = h
short_comes b (short.InUse txn page grant) h = h
short_comes b (short.Drop txn) h = h
short_comes b short.Welcome h = h
short_comes b (short.MayWrite txn page grant) h = h
short_comes b (short.Callback page grant) h = h
short_comes b (short.Done txn number) h = h
short_comes b (short.AbortNow txn) h = h
short_comes b (short.Downgraded page grant txn) h = h
short_comes b (short.Downgrade page grant txn) h = h

above : (page : ℕ) (ws : List Write) (n : ℕ) → page < n → RisesFrom n (map grammar.page_of ws) → Above page (page_writes ws)
above page [] n l r = tt
above page (w ∷ ws) n l r = (let first = r.0 in omega (arith, first, l), above page ws (w.page + 1) (let first = r.0 in omega (arith, first, l)) r.1)

writes_come : (b : Bounds) (ws : List Write) (n : ℕ) → AllByRecursion (grammar.WriteFits b) ws → RisesFrom n (map grammar.page_of ws) → WritesFit (limits_of b) (page_writes ws)
writes_come b [] n h r = tt
writes_come b (w ∷ ws) n h r = ((h.0.page, h.0.grant, h.0.bytes), above w.page ws (w.page + 1) (omega arith) r.1, writes_come b ws (w.page + 1) h.1 r.1)

body_comes : (b : Bounds) (x : Body) → grammar.BodyFits b x → BodyFits (limits_of b) (body_of x)
body_comes b (body.Short s) h = short_comes b s h
body_comes b (body.Commit txn ws) h = (h.0, writes_come b ws 0 h.1 h.2)
body_comes b (body.Granted page grant version bytes) h = h

pub frame_comes : (b : Bounds) (frame : Frame) → grammar.Fits b frame → MessageFits (limits_of b) (message_of frame)
frame_comes b frame h = (h.client, h.incarnation, body_comes b frame.body h.body)

-- so does its body into the tables
short_fits_in : (e : Engine) (b : Bounds) (s : ShortBody) → AreOf b e.callbacks.state → grammar.ShortFits b s → BodyFits (limits_in e) (short_of s)
short_fits_in e b s of h = go s (subst (λ (n : ℕ). Fitting n s) (sym of.store.count) (fitting s h))
  where
    -- all that a short body asks of the limits is how many pages there are
    Fitting : ℕ → ShortBody → Type 0
    Fitting n s = BodyFits (record { clients = 0; pages = n; page_size = 0; slots = 0; keep_write = false }) (short_of s)

    fitting : (s : ShortBody) → grammar.ShortFits b s → Fitting b.pages s
    fitting short.Hello h = h
    fitting (short.AskRead txn page) h = h
    fitting (short.AskWrite txn page grant) h = h
    fitting (short.GiveBack page grant) h = h
    fitting (short.InUse txn page grant) h = h
    fitting (short.Drop txn) h = h
    fitting short.Welcome h = h
    fitting (short.MayWrite txn page grant) h = h
    fitting (short.Callback page grant) h = h
    fitting (short.Done txn number) h = h
    fitting (short.AbortNow txn) h = h
    fitting (short.Downgraded page grant txn) h = h
    fitting (short.Downgrade page grant txn) h = h

    go : (s : ShortBody) → Fitting (server_in e).pages s → BodyFits (limits_in e) (short_of s)
    go short.Hello h = h
    go (short.AskRead txn page) h = h
    go (short.AskWrite txn page grant) h = h
    go (short.GiveBack page grant) h = h
    go (short.InUse txn page grant) h = h
    go (short.Drop txn) h = h
    go short.Welcome h = h
    go (short.MayWrite txn page grant) h = h
    go (short.Callback page grant) h = h
    go (short.Done txn number) h = h
    go (short.AbortNow txn) h = h
    go (short.Downgraded page grant txn) h = h
    go (short.Downgrade page grant txn) h = h

into : (b : Bounds) (store : StoreState) (ws : List Write) → IsOf b store → AllByRecursion (grammar.WriteFits b) ws → AllByRecursion (WritesInto store) ws
into b store [] of h = tt
into b store (w ∷ ws) of h =
    (record { page = subst (λ (n : ℕ). w.page < n) (sym of.count) h.0.page; bytes = h.0.bytes ∙ sym of.page_size }, into b store ws of h.1)

pub body_fits_in : (e : Engine) (b : Bounds) (x : Body) → AreOf b e.callbacks.state → grammar.BodyFits b x → FitsIn e x
body_fits_in e b (body.Short s) of h = short_fits_in e b s of h
body_fits_in e b (body.Commit txn ws) of h = record { pages = All-from_recursion (WritesInto e.callbacks.state.commits.store) ws (into b e.callbacks.state.commits.store ws of.store h.1); rising = h.2 }
body_fits_in e b (body.Granted page grant version bytes) of h = tt

-- and what is said fits
short_fits : (b : Bounds) (s : ShortBody) → BodyFits (limits_of b) (short_of s) → grammar.ShortFits b s
short_fits b short.Hello h = h
short_fits b (short.AskRead txn page) h = h
short_fits b (short.AskWrite txn page grant) h = h
short_fits b (short.GiveBack page grant) h = h
short_fits b (short.InUse txn page grant) h = h
short_fits b (short.Drop txn) h = h
short_fits b short.Welcome h = h
short_fits b (short.MayWrite txn page grant) h = h
short_fits b (short.Callback page grant) h = h
short_fits b (short.Done txn number) h = h
short_fits b (short.AbortNow txn) h = h
short_fits b (short.Downgraded page grant txn) h = h
short_fits b (short.Downgrade page grant txn) h = h

writes_fit : (b : Bounds) (ws : List Write) → WritesFit (limits_of b) (page_writes ws) → AllByRecursion (grammar.WriteFits b) ws
writes_fit b [] h = tt
writes_fit b (w ∷ ws) h = (record { page = h.0.0; grant = h.0.1; bytes = h.0.2 }, writes_fit b ws h.2)

rises : (b : Bounds) (page : ℕ) (ws : List Write) → Above page (page_writes ws) → WritesFit (limits_of b) (page_writes ws) → RisesFrom (page + 1) (map grammar.page_of ws)
rises b page [] a h = tt
rises b page (w ∷ ws) a h = (let lt = a.0 in omega (arith, lt), rises b w.page ws h.1 h.2)

from_zero : (b : Bounds) (ws : List Write) → WritesFit (limits_of b) (page_writes ws) → RisesFrom 0 (map grammar.page_of ws)
from_zero b [] h = tt
from_zero b (w ∷ ws) h = (omega arith, rises b w.page ws h.1 h.2)

body_fits : (b : Bounds) (x : Body) → BodyFits (limits_of b) (body_of x) → grammar.BodyFits b x
body_fits b (body.Short s) h = short_fits b s h
body_fits b (body.Commit txn ws) h = (h.0, writes_fit b ws h.1, from_zero b ws h.1)
body_fits b (body.Granted page grant version bytes) h = h

all_fit : (b : Bounds) (frames : List Frame) → AllMessagesFit (limits_of b) (messages_of frames) → AllByRecursion (grammar.Fits b) frames
all_fit b [] h = tt
all_fit b (frame ∷ frames) h = (record { client = h.0.0; incarnation = h.0.1; body = body_fits b frame.body h.0.2 }, all_fit b frames h.1)

pub said_fits : (limits : Bounds) (kept : ServerState) (input : Input) (frames : List Frame) → IsServer (record { limits = limits; state = kept }) → InputTaken (limits_of limits) (server_of kept) input
    → messages_of frames ≡ messages_sent (input_steps on_cycle (server_of kept) input) → AllByRecursion (grammar.Fits limits) frames
said_fits limits kept input frames is taken e =
    all_fit limits frames (subst (λ (l : List Message). AllMessagesFit (limits_of limits) l) (sym e)
    (server_messages_in_range (limits_of limits) on_cycle (opening_of kept.commits.opening) (server_of kept) input is.opening is.reached taken))
