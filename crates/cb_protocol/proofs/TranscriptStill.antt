-- Which steps leave the transcript and the transaction's number as they are, and what a call adds.
use Rattle.std.proofs.Common.{Bool, List, None, Option, Some, [], ap, arith, false, if◌then◌else◌, nat_lt, not, refl, sym, true, ℕ, ◌&&◌, ◌++◌, ◌==◌, ◌∙◌, ◌∷◌, ◌≡◌}
use Rattle.std.specs.Prelude.{⊤}
use Rattle.cb_protocol.proofs.ClientSteps.{performed_by_steps, cache_after_steps, cache_of}
use Rattle.cb_protocol.proofs.ClientCalls.{plain_append_ask}
use Rattle.cb_protocol.proofs.Machine.{performed_after}
use Rattle.cb_protocol.proofs.ClientReady.{Plain, PlainChange, plain_lets_go, plain_pages}
use Rattle.cb_protocol.specs.Cache.{Begin, Cache, CacheChange, Fill, Install, Lock, WriteBytes, Read, TakeDone, TakePermission, YieldPermission, cache_after}
use Rattle.cb_protocol.specs.Client.{Aborted, ClientStep, SetAsk, Client, EndTransaction, Committed, Dropped, LastOutcome, ChangeCache, NoAsk, MarkDue, MarkDueDowngrade, Say, MarkWanted, WriteAsk, client_after, asks_to_write, is_fixed, asks_to_read}
use Rattle.cb_protocol.specs.Answers.{Asked, ClientFault, AnsweredBytes, AnsweredOk, Nothing, Permitted, Refused, AnswerWord}
use Rattle.cb_protocol.specs.ClientCalls.{CallAgain, CallBegin, Call, CallDrop, CallFinish, CallHello, CallPeek, CallRead, CallWant, CallWrite, accept_call, client_again, client_call, causes, first_refusal, peek_word, read_page, accept_or_refuse, reply_with, say_ask_write}
use Rattle.cb_protocol.specs.ClientEnd.{drop_transaction, end_pages, give_back, refuse_grant}
use Rattle.cb_protocol.specs.ClientMessages.{take_downgrade, take_granted, take_granted_held, take_welcomed, let_page_go, of_committing_txn, of_open_txn, client_take}
use Rattle.cb_protocol.specs.Basics.{is_exactly, Bytes, Limits}
use Rattle.cb_protocol.specs.Messages.{AbortNow, Body, Callback, Done, Downgrade, Downgraded, Granted, InUse, MayWrite, Welcome}
use Rattle.cb_protocol.specs.Serial.{Put, Saw, PerformedOperation}
use Rattle.cb_protocol.specs.Server.{after_first}
use Rattle.cb_protocol.specs.Transcript.{transaction_at, call_operation, transcript_operations, incarnation_at}
use Rattle.cb_protocol.specs.World.{ClientCalls, TranscriptEntry}
use Rattle.cb_protocol.specs.ClientCalls.{call_fault}

abbrev pub StillChange : CacheChange → Type 0
StillChange Begin = ⊥
StillChange (Read p b) = ⊥
StillChange (WriteBytes p b) = ⊥
StillChange _ = ⊤

abbrev pub Still : List ClientStep → Type 0
Still [] = ⊤
Still (ChangeCache m ∷ steps) = StillChange m × Still steps
Still (_ ∷ steps) = Still steps

still_line : (ls : List PerformedOperation) (c i x : ℕ) (m : CacheChange) → StillChange m → performed_after ls c i x m ≡ ls
still_line ls c i x m a = grind arith

still_count : (keep_write : Bool) (k : Cache) (m : CacheChange) → StillChange m → (cache_after keep_write k m).number ≡ k.number
still_count keep_write k m a = grind arith

pub still_lines : (keep_write : Bool) (ls : List PerformedOperation) (c i : ℕ) (k : Cache) (steps : List ClientStep) → Still steps → performed_by_steps keep_write ls c i k steps ≡ ls
still_lines keep_write ls c i k [] a = refl
still_lines keep_write ls c i k (ChangeCache m ∷ steps) a = still_lines keep_write (performed_after ls c i k.number m) c i (cache_after keep_write k m) steps a.1 ∙ still_line ls c i k.number m a.0
still_lines keep_write ls c i k (Say b ∷ steps) a = still_lines keep_write ls c i k steps a
still_lines keep_write ls c i k (SetAsk x ∷ steps) a = still_lines keep_write ls c i k steps a
still_lines keep_write ls c i k (MarkWanted p ∷ steps) a = still_lines keep_write ls c i k steps a
still_lines keep_write ls c i k (MarkDue p ∷ steps) a = still_lines keep_write ls c i k steps a
still_lines keep_write ls c i k (MarkDueDowngrade p y ∷ steps) a = still_lines keep_write ls c i k steps a
still_lines keep_write ls c i k (EndTransaction l ∷ steps) a = still_lines keep_write ls c i k steps a

still_cache : (keep_write : Bool) (k : Cache) (steps : List ClientStep) → Still steps → (cache_after_steps keep_write k steps).number ≡ k.number
still_cache keep_write k [] a = refl
still_cache keep_write k (ChangeCache m ∷ steps) a = still_cache keep_write (cache_after keep_write k m) steps a.1 ∙ still_count keep_write k m a.0
still_cache keep_write k (Say b ∷ steps) a = still_cache keep_write k steps a
still_cache keep_write k (SetAsk x ∷ steps) a = still_cache keep_write k steps a
still_cache keep_write k (MarkWanted p ∷ steps) a = still_cache keep_write k steps a
still_cache keep_write k (MarkDue p ∷ steps) a = still_cache keep_write k steps a
still_cache keep_write k (MarkDueDowngrade p y ∷ steps) a = still_cache keep_write k steps a
still_cache keep_write k (EndTransaction l ∷ steps) a = still_cache keep_write k steps a

pub still_number : (keep_write : Bool) (k : Client) (steps : List ClientStep) → Still steps → (client_after keep_write k steps).cache.number ≡ k.cache.number
still_number keep_write k steps a = ap (λ (x : Cache). x.number) (cache_of keep_write k steps) ∙ still_cache keep_write k.cache steps a

plain_change : (m : CacheChange) → PlainChange m → StillChange m
plain_change m a = grind arith

plain_still : (steps : List ClientStep) → Plain steps → Still steps
plain_still [] a = tt
plain_still (ChangeCache m ∷ steps) a = (plain_change m a.0, plain_still steps a.1)
plain_still (Say b ∷ steps) a = plain_still steps a
plain_still (SetAsk x ∷ steps) a = absurd a
plain_still (MarkWanted p ∷ steps) a = absurd a
plain_still (MarkDue p ∷ steps) a = absurd a
plain_still (MarkDueDowngrade p y ∷ steps) a = absurd a
plain_still (EndTransaction l ∷ steps) a = absurd a

still_append : (xs ys : List ClientStep) → Still xs → Still ys → Still (xs ++ ys)
still_append [] ys a b = b
still_append (ChangeCache m ∷ xs) ys a b = (a.0, still_append xs ys a.1 b)
still_append (Say y ∷ xs) ys a b = still_append xs ys a b
still_append (SetAsk x ∷ xs) ys a b = still_append xs ys a b
still_append (MarkWanted p ∷ xs) ys a b = still_append xs ys a b
still_append (MarkDue p ∷ xs) ys a b = still_append xs ys a b
still_append (MarkDueDowngrade p y ∷ xs) ys a b = still_append xs ys a b
still_append (EndTransaction l ∷ xs) ys a b = still_append xs ys a b

still_drops : (L : Limits) (k : Client) (x : LastOutcome) → Still (drop_transaction L k x)
still_drops L k x = (tt, plain_still (end_pages k true L.pages) (plain_pages k true L.pages))

still_lets_go : (k : Client) (let_go : Option ℕ) (after_first : List ClientStep) → Still after_first → Still (let_page_go k let_go ++ after_first)
still_lets_go k let_go after_first a = still_append (let_page_go k let_go) after_first (plain_still (let_page_go k let_go) (plain_lets_go k let_go)) a

still_granted : (k : Client) (p g v : ℕ) (b : Bytes) (let_go : Option ℕ) (r : Option ℕ) → Still (take_granted k p g v b let_go r)
still_granted k p g v b let_go r = go r (nat_lt (k.cache.seen p) g && asks_to_read k.ask p)
  where
    held : (o : Option Bytes) (q : Bool) → Still (elim o [ Some y ↦ [] | None ↦ if q then let_page_go k let_go ++ SetAsk NoAsk ∷ ChangeCache (Fill p g b) ∷ [] else [] ])
    held (Some y) q = tt
    held None true = still_lets_go k let_go (SetAsk NoAsk ∷ ChangeCache (Fill p g b) ∷ []) (tt, tt)
    held None false = tt

    match : (q : Bool) → Still (if q then take_granted_held k p g v b let_go (k.cache.content p) else refuse_grant p g)
    match true = held (k.cache.content p) ((k.cache.version p == v) && asks_to_read k.ask p)
    match false = (tt, tt)

    go : (x : Option ℕ) (q : Bool) → Still (elim x [ Some y ↦ (if y == g then take_granted_held k p g v b let_go (k.cache.content p) else refuse_grant p g) | None ↦ (if q then let_page_go k let_go ++ SetAsk NoAsk ∷ ChangeCache (Install p g v b) ∷ ChangeCache (Lock p) ∷ [] else refuse_grant p g) ])
    go (Some y) q = match (y == g)
    go None true = still_lets_go k let_go (SetAsk NoAsk ∷ ChangeCache (Install p g v b) ∷ ChangeCache (Lock p) ∷ []) (tt, (tt, tt))
    go None false = (tt, tt)

still_hears : (L : Limits) (k : Client) (y : Body) (let_go : Option ℕ) → Still (take_welcomed L k y let_go)
still_hears L k (Granted p g v b) let_go = still_granted k p g v b let_go (k.cache.held p)
still_hears L k (MayWrite t p g) let_go = go (of_open_txn k t && asks_to_write k.ask p && is_exactly (k.cache.held p) g)
  where
    go : (r : Bool) → Still (if r then SetAsk NoAsk ∷ ChangeCache (TakePermission p) ∷ [] else [])
    go true = (tt, tt)
    go false = tt
still_hears L k (Callback p g) let_go = go (is_exactly (k.cache.held p) g) (k.cache.locked p)
  where
    go : (r u : Bool) → Still (if r then (if u then MarkDue p ∷ Say (InUse k.cache.number p g) ∷ [] else give_back p (Some g)) else refuse_grant p g)
    go true true = tt
    go true false = (tt, tt)
    go false u = (tt, tt)
still_hears L k (Done t n) let_go = go (of_committing_txn k t)
  where
    go : (q : Bool) → Still (if q then EndTransaction (Committed n) ∷ ChangeCache (TakeDone n) ∷ end_pages k false L.pages else [])
    go true = (tt, plain_still (end_pages k false L.pages) (plain_pages k false L.pages))
    go false = tt
still_hears L k (AbortNow t) let_go = go (of_open_txn k t)
  where
    go : (q : Bool) → Still (if q then drop_transaction L k Aborted else [])
    go true = still_drops L k Aborted
    go false = tt
still_hears L k (Downgrade p g t) let_go = go L.keep_write
  where
    down : (r u v : Bool) → Still (if not r then refuse_grant p g else if not u then Say (Downgraded p g t) ∷ [] else if v then MarkDueDowngrade p (record { grant = g; tag = t }) ∷ Say (InUse k.cache.number p g) ∷ [] else ChangeCache (YieldPermission p) ∷ Say (Downgraded p g t) ∷ [])
    down false u v = (tt, tt)
    down true false v = tt
    down true true true = tt
    down true true false = (tt, tt)

    go : (q : Bool) → Still (if q then take_downgrade k p g t else [])
    go true = down (is_exactly (k.cache.held p) g) (k.cache.may_write p && (k.cache.tag p == t)) (is_fixed k p)
    go false = tt
still_hears L k _ let_go = tt

pub still_takes : (L : Limits) (k : Client) (y : Body) (let_go : Option ℕ) → Still (client_take L k y let_go)
unfolding client_take
still_takes L k Welcome let_go = (tt, tt)
still_takes L k y let_go = go k.cache.welcomed
  where
    go : (q : Bool) → Still (if q then take_welcomed L k y let_go else [])
    go true = still_hears L k y let_go
    go false = tt

still_ask_write : (k : Client) (p : ℕ) (r : Option ℕ) → Still (say_ask_write k p r)
still_ask_write k p None = tt
still_ask_write k p (Some g) = tt

-- what a call adds to the transcript, and whether it begins a transaction
pub record Marks (L : Limits) (hs : List TranscriptEntry) (c : ℕ) (k : Client) (x : Call) (word : AnswerWord) (steps : List ClientStep) : Type 0 where
  pub performed : transcript_operations (record { event = ClientCalls c x; word = word } ∷ hs) ≡ performed_by_steps L.keep_write (transcript_operations hs) c (incarnation_at hs c) k.cache steps
  pub mine : transaction_at (record { event = ClientCalls c x; word = word } ∷ hs) c ≡ (client_after L.keep_write k steps).cache.number
  pub others : (d : ℕ) → (c == d) ≡ false → transaction_at (record { event = ClientCalls c x; word = word } ∷ hs) d ≡ transaction_at hs d
  pub restarts : (d : ℕ) → incarnation_at (record { event = ClientCalls c x; word = word } ∷ hs) d ≡ incarnation_at hs d

-- no line, and no transaction
abbrev Silent : List TranscriptEntry → ℕ → Call → AnswerWord → Type 0
Silent hs c x word = (call_operation hs c x word (transcript_operations hs) ≡ transcript_operations hs) × ((d : ℕ) → transaction_at (record { event = ClientCalls c x; word = word } ∷ hs) d ≡ transaction_at hs d)

silent : (L : Limits) (hs : List TranscriptEntry) (c : ℕ) (k : Client) (x : Call) (word : AnswerWord) (steps : List ClientStep) → transaction_at hs c ≡ k.cache.number → Silent hs c x word → Still steps → Marks L hs c k x word steps
silent L hs c k x word steps n s a = record {
  performed = s.0 ∙ sym (still_lines L.keep_write (transcript_operations hs) c (incarnation_at hs c) k.cache steps a);
  mine = s.1 c ∙ (n ∙ sym (still_number L.keep_write k steps a));
  others = λ d e. s.1 d;
  restarts = λ d. refl;
}

refused_silent : (hs : List TranscriptEntry) (c : ℕ) (x : Call) (f : ClientFault) → Silent hs c x (Refused f)
refused_silent hs c CallHello f = (refl, λ d. refl)
refused_silent hs c CallBegin f = (refl, λ d. refl)
refused_silent hs c (CallRead p) f = (refl, λ d. refl)
refused_silent hs c (CallWant p) f = (refl, λ d. refl)
refused_silent hs c (CallWrite p b) f = (refl, λ d. refl)
refused_silent hs c CallFinish f = (refl, λ d. refl)
refused_silent hs c CallDrop f = (refl, λ d. refl)
refused_silent hs c CallAgain f = (refl, λ d. refl)
refused_silent hs c (CallPeek p) f = (refl, λ d. refl)

accepts_marks : (L : Limits) (hs : List TranscriptEntry) (c : ℕ) (k : Client) (x : Call) → transaction_at hs c ≡ k.cache.number → Marks L hs c k x (accept_call L k x).word (accept_call L k x).steps
accepts_marks L hs c k CallHello n = silent L hs c k CallHello AnsweredOk _ n (refl, λ d. refl) tt
accepts_marks L hs c k CallBegin n = record { performed = refl; mine = grind arith; others = λ d e. grind arith; restarts = λ d. refl }
accepts_marks L hs c k (CallRead p) n = go (k.cache.content p)
  where
    go : (o : Option Bytes) → Marks L hs c k (CallRead p) (read_page k p o).word (read_page k p o).steps
    go (Some b) = record { performed = ap (λ (x : ℕ). record { client = c; incarnation = incarnation_at hs c; txn = x; operation = Saw p b } ∷ transcript_operations hs) n; mine = n; others = λ d e. refl; restarts = λ d. refl }
    go None = silent L hs c k (CallRead p) Asked _ n (refl, λ d. refl) tt
accepts_marks L hs c k (CallWant p) n = go (k.cache.may_write p)
  where
    go : (q : Bool) → Marks L hs c k (CallWant p) (if q then reply_with Permitted (MarkWanted p ∷ []) else reply_with Asked (MarkWanted p ∷ SetAsk (WriteAsk p) ∷ say_ask_write k p (k.cache.held p))).word
        (if q then reply_with Permitted (MarkWanted p ∷ []) else reply_with Asked (MarkWanted p ∷ SetAsk (WriteAsk p) ∷ say_ask_write k p (k.cache.held p))).steps
    go true = silent L hs c k (CallWant p) Permitted _ n (refl, λ d. refl) tt
    go false = silent L hs c k (CallWant p) Asked _ n (refl, λ d. refl) (still_ask_write k p (k.cache.held p))
accepts_marks L hs c k (CallWrite p b) n = record { performed = ap (λ (x : ℕ). record { client = c; incarnation = incarnation_at hs c; txn = x; operation = Put p b } ∷ transcript_operations hs) n; mine = n; others = λ d e. refl; restarts = λ d. refl }
accepts_marks L hs c k CallFinish n = silent L hs c k CallFinish AnsweredOk _ n (refl, λ d. refl) (tt, tt)
accepts_marks L hs c k CallDrop n = silent L hs c k CallDrop AnsweredOk _ n (refl, λ d. refl) (still_drops L k Dropped)
accepts_marks L hs c k CallAgain n = silent L hs c k CallAgain AnsweredOk _ n (refl, λ d. refl) (plain_still (client_again L k) (plain_append_ask L k))
accepts_marks L hs c k (CallPeek p) n = go (k.cache.content p)
  where
    go : (o : Option Bytes) → Marks L hs c k (CallPeek p) (peek_word o) []
    go (Some b) = silent L hs c k (CallPeek p) (AnsweredBytes b) _ n (refl, λ d. refl) tt
    go None = silent L hs c k (CallPeek p) Nothing _ n (refl, λ d. refl) tt

pub calls_marks : (L : Limits) (hs : List TranscriptEntry) (c : ℕ) (k : Client) (x : Call) → transaction_at hs c ≡ k.cache.number → Marks L hs c k x (client_call L k x).word (client_call L k x).steps
unfolding call_fault client_call
calls_marks L hs c k x n = go (first_refusal (causes L k x))
  where
    go : (f : Option ClientFault) → Marks L hs c k x (accept_or_refuse L k x f).word (accept_or_refuse L k x f).steps
    go (Some f) = silent L hs c k x (Refused f) [] n (refused_silent hs c x f) tt
    go None = accepts_marks L hs c k x n
