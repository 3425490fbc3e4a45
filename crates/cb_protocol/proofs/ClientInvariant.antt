-- What holds of a client alone, whatever calls and messages of its own made it.
use Rattle.std.proofs.Common.{Bool, List, None, Option, Some, [], arith, false, if◌then◌else◌, length, nat_le, nat_lt, not, refl, subst, suc, sym, true, zero, ℕ, ◌&&◌, ◌++◌, ◌<◌, ◌==◌, ◌∙◌, ◌∷◌, ◌≡◌, ◌≢◌, ◌||◌}
use Rattle.std.specs.Prelude.{⊤}
use Rattle.cb_protocol.specs.Cache.{Begin, Fill, Finish, Abandon, Idle, Install, LetGo, Lock, MakeBare, Open, WriteBytes, Read, RefuseGrant, TakeDone, TakePermission, TakeWelcome, YieldPermission, is_committing}
use Rattle.cb_protocol.specs.Client.{Aborted, ClientStep, Ask, SetAsk, Client, EndTransaction, Committed, Dropped, LastOutcome, ChangeCache, NoAsk, NoneEnded, DueDowngrade, MarkDue, MarkDueDowngrade, ReadAsk, Say, MarkWanted, WriteAsk, client_after, asks_to_write, after_client_step, has_room, is_fixed, is_asking, new_client, asks_to_read}
use Rattle.cb_protocol.specs.Answers.{Asked, ClientFault, NotWritable, PageRange, Permitted, PoolFull, Waiting, WrongLength}
use Rattle.cb_protocol.specs.Basics.{is_exactly, Bytes, Limits, is_none, update}
use Rattle.cb_protocol.specs.ClientCalls.{CallAgain, CallBegin, Call, Cause, CallDrop, CallFinish, CallHello, CallPeek, CallRead, CallWant, CallWrite, accept_call, page_causes, client_again, client_call, cause_of, causes, first_refusal, read_causes, read_page, accept_or_refuse, reply_with, open_causes, say_ask, say_ask_write, say_commit, say_drop}
use Rattle.cb_protocol.specs.ClientEnd.{drop_transaction, end_page, end_pages, give_back, refuse_grant}
use Rattle.std.specs.Prelude.{⊤}
use Rattle.cb_protocol.proofs.PageComes.{brings_after, steps_granted, steps_held, steps_kept}
use Rattle.cb_protocol.specs.ClientMessages.{brings_page, ChoiceAllowed, MayLetGo, take_callback, take_downgrade, take_granted, take_welcomed, let_page_go, of_committing_txn, of_open_txn, client_take}
use Rattle.cb_protocol.specs.Messages.{AbortNow, AskRead, Body, Callback, Done, Downgrade, Downgraded, GiveBack, Granted, InUse, MayWrite, Welcome, Hello}
use Rattle.cb_protocol.specs.ClientAlone.{Arises, StartsNew, ClientInput, Continues, ReceivesCall, ReceivesMessage, InputAllowed, after_input}
use Rattle.cb_protocol.specs.ClientCalls.{call_fault}

-- the last transaction was dropped or aborted
abbrev pub is_gone : LastOutcome → Bool
is_gone Dropped = true
is_gone Aborted = true
is_gone _ = false

pub record ClientKeeps (L : Limits) (k : Client) : Type 0 where
  pub shut : k.cache.welcomed ≡ false → k.cache.status ≡ Idle
  pub due_locked : (p : ℕ) → k.due p ≡ true → k.cache.locked p ≡ true
  pub locked_held : (p : ℕ) → k.cache.locked p ≡ true → k.cache.held p ≢ None
  pub content_held : (p : ℕ) → k.cache.content p ≢ None → k.cache.held p ≢ None
  pub held_within : (p : ℕ) → k.cache.held p ≢ None → p < L.pages
  pub idle_unlocked : k.cache.status ≡ Idle → (p : ℕ) → k.cache.locked p ≡ false
  pub idle_unfixed : k.cache.status ≡ Idle → (p : ℕ) → is_fixed k p ≡ false
  pub begun : k.cache.status ≢ Idle → 0 < k.cache.number
  pub asking : is_asking k.ask ≡ true → k.cache.status ≡ Open
  pub read_within : (p : ℕ) → asks_to_read k.ask p ≡ true → p < L.pages
  pub write_within : (p : ℕ) → asks_to_write k.ask p ≡ true → p < L.pages
  pub gone : is_gone k.last_outcome ≡ true → 0 < k.cache.dropped

pub tidy_new : (L : Limits) → ClientKeeps L new_client
tidy_new L = grind arith

-- what a step needs to keep it
abbrev pub Decent : Limits → Client → ClientStep → Type 0
Decent L k (ChangeCache Begin) = (k.cache.status ≡ Idle) × (k.cache.welcomed ≡ true)
Decent L k (ChangeCache (Lock p)) = (k.cache.held p ≢ None) × (k.cache.status ≢ Idle)
Decent L k (ChangeCache (Read p b)) = (k.cache.held p ≢ None) × (k.cache.status ≢ Idle)
Decent L k (ChangeCache (WriteBytes p b)) = (k.cache.held p ≢ None) × (k.cache.status ≢ Idle)
Decent L k (ChangeCache Finish) = (k.cache.status ≡ Open) × (is_asking k.ask ≡ false)
Decent L k (ChangeCache Abandon) = ⊥
Decent L k (ChangeCache (TakeDone n)) = ⊥
Decent L k (ChangeCache (Install p g v b)) = p < L.pages
Decent L k (ChangeCache (Fill p g b)) = k.cache.held p ≢ None
Decent L k (ChangeCache (LetGo p)) = k.cache.locked p ≡ false
Decent L k (SetAsk (ReadAsk p)) = (k.cache.status ≡ Open) × (p < L.pages)
Decent L k (SetAsk (WriteAsk p)) = (k.cache.status ≡ Open) × (p < L.pages)
Decent L k (MarkWanted p) = k.cache.status ≢ Idle
Decent L k (MarkDue p) = k.cache.locked p ≡ true
Decent L k (EndTransaction l) = ⊥
Decent L k _ = ⊤

abbrev pub AllDecent : Limits → Client → List ClientStep → Type 0
AllDecent L k [] = ⊤
AllDecent L k (a ∷ steps) = Decent L k a × AllDecent L (after_client_step L.keep_write k a) steps

tidy_after : (L : Limits) (k : Client) (a : ClientStep) → ClientKeeps L k → Decent L k a → ClientKeeps L (after_client_step L.keep_write k a)
tidy_after L k (ChangeCache TakeWelcome) h f = grind arith
tidy_after L k (ChangeCache Begin) h f = grind arith
tidy_after L k (ChangeCache (Lock p)) h f = grind arith
tidy_after L k (ChangeCache (Read p b)) h f = grind arith
tidy_after L k (ChangeCache (TakePermission p)) h f = grind arith
tidy_after L k (ChangeCache (WriteBytes p b)) h f = grind arith
tidy_after L k (ChangeCache Finish) h f = grind arith
tidy_after L k (ChangeCache Abandon) h f = absurd f
tidy_after L k (ChangeCache (TakeDone n)) h f = absurd f
tidy_after L k (ChangeCache (Install p g v b)) h f = grind arith
tidy_after L k (ChangeCache (Fill p g b)) h f = grind arith
tidy_after L k (ChangeCache (RefuseGrant p g)) h f = grind arith
tidy_after L k (ChangeCache (LetGo p)) h f = grind arith
tidy_after L k (ChangeCache (MakeBare p)) h f = grind arith
tidy_after L k (ChangeCache (YieldPermission p)) h f = grind arith
tidy_after L k (Say b) h f = h
tidy_after L k (SetAsk NoAsk) h f = grind arith
tidy_after L k (SetAsk (ReadAsk p)) h f = grind arith
tidy_after L k (SetAsk (WriteAsk p)) h f = grind arith
tidy_after L k (MarkWanted p) h f = grind arith
tidy_after L k (MarkDue p) h f = grind arith
tidy_after L k (MarkDueDowngrade p y) h f = grind arith
tidy_after L k (EndTransaction l) h f = absurd f

tidy_all : (L : Limits) (k : Client) (steps : List ClientStep) → ClientKeeps L k → AllDecent L k steps → ClientKeeps L (client_after L.keep_write k steps)
tidy_all L k [] h f = h
tidy_all L k (a ∷ steps) h f = tidy_all L (after_client_step L.keep_write k a) steps (tidy_after L k a h f.0) f.1

-- the transaction ends as dropped; as committed
tidy_give_up : (L : Limits) (k : Client) (l : LastOutcome) → ClientKeeps L k → k.cache.status ≢ Idle → ClientKeeps L (client_after L.keep_write k (EndTransaction l ∷ ChangeCache Abandon ∷ []))
tidy_give_up L k l h o = grind arith

tidy_done : (L : Limits) (k : Client) (n : ℕ) → ClientKeeps L k → k.cache.status ≢ Idle → ClientKeeps L (client_after L.keep_write k (EndTransaction (Committed n) ∷ ChangeCache (TakeDone n) ∷ []))
tidy_done L k n h o = grind arith

decent_append : (L : Limits) (k : Client) (xs ys : List ClientStep) → AllDecent L k xs → AllDecent L (client_after L.keep_write k xs) ys → AllDecent L k (xs ++ ys)
decent_append L k [] ys a b = b
decent_append L k (x ∷ xs) ys a b = (a.0, decent_append L (after_client_step L.keep_write k x) xs ys a.1 b)

pub acted_append : (keep_write : Bool) (k : Client) (xs ys : List ClientStep) → client_after keep_write k (xs ++ ys) ≡ client_after keep_write (client_after keep_write k xs) ys
acted_append keep_write k [] ys = refl
acted_append keep_write k (x ∷ xs) ys = acted_append keep_write (after_client_step keep_write k x) xs ys

-- messages alone
abbrev pub OnlySays : List ClientStep → Type 0
OnlySays [] = ⊤
OnlySays (Say b ∷ steps) = OnlySays steps
OnlySays (_ ∷ steps) = ⊥

pub says_append : (xs ys : List ClientStep) → OnlySays xs → OnlySays ys → OnlySays (xs ++ ys)
says_append [] ys a b = b
says_append (Say x ∷ xs) ys a b = says_append xs ys a b
says_append (ChangeCache m ∷ xs) ys a b = absurd a
says_append (SetAsk x ∷ xs) ys a b = absurd a
says_append (MarkWanted p ∷ xs) ys a b = absurd a
says_append (MarkDue p ∷ xs) ys a b = absurd a
says_append (MarkDueDowngrade p y ∷ xs) ys a b = absurd a
says_append (EndTransaction l ∷ xs) ys a b = absurd a

pub says_same : (keep_write : Bool) (k : Client) (steps : List ClientStep) → OnlySays steps → client_after keep_write k steps ≡ k
says_same keep_write k [] a = refl
says_same keep_write k (Say x ∷ xs) a = says_same keep_write k xs a
says_same keep_write k (ChangeCache m ∷ xs) a = absurd a
says_same keep_write k (SetAsk x ∷ xs) a = absurd a
says_same keep_write k (MarkWanted p ∷ xs) a = absurd a
says_same keep_write k (MarkDue p ∷ xs) a = absurd a
says_same keep_write k (MarkDueDowngrade p y ∷ xs) a = absurd a
says_same keep_write k (EndTransaction l ∷ xs) a = absurd a

pub only_ask_write : (k : Client) (p : ℕ) (r : Option ℕ) → OnlySays (say_ask_write k p r)
only_ask_write k p None = tt
only_ask_write k p (Some g) = tt

pub only_ask : (k : Client) (a : Ask) → OnlySays (say_ask k a)
only_ask k NoAsk = tt
only_ask k (ReadAsk p) = tt
only_ask k (WriteAsk p) = only_ask_write k p (k.cache.held p)

pub only_drop : (k : Client) (l : LastOutcome) → OnlySays (say_drop k l)
only_drop k NoneEnded = tt
only_drop k (Committed n) = tt
only_drop k Dropped = tt
only_drop k Aborted = tt

pub only_again : (L : Limits) (k : Client) → OnlySays (client_again L k)
only_again L k = go k.cache.welcomed (is_committing k.cache.status)
  where
    commit : (u : Bool) → OnlySays (if u then say_commit L k else [])
    commit true = tt
    commit false = tt

    go : (r u : Bool) → OnlySays (if r then say_drop k k.last_outcome ++ (say_ask k k.ask ++ (if u then say_commit L k else [])) else Say Hello ∷ [])
    go true u = says_append (say_drop k k.last_outcome) _ (only_drop k k.last_outcome) (says_append (say_ask k k.ask) _ (only_ask k k.ask) (commit u))
    go false u = tt

-- the pages given up at the transaction's end
record Loose (k l : Client) : Type 0 where
  status : l.cache.status ≡ k.cache.status
  unlocked : (p : ℕ) → l.cache.locked p ≡ false

loose_page : (L : Limits) (k l : Client) (d : Bool) (p : ℕ) (r : Option ℕ) → ((q : ℕ) → l.cache.locked q ≡ false) → AllDecent L l (end_page k d p r) × ((q : ℕ) → (client_after L.keep_write l (end_page k d p r)).cache.locked q ≡ false)
loose_page L k l d p None f = (tt, f)
loose_page L k l d p (Some g) f = go (d && k.cache.wrote p) (k.due p || is_none (k.cache.content p)) d (k.due_downgrade p)
  where
    go : (u v x : Bool) (r : Option DueDowngrade) → AllDecent L l (if u then Say (GiveBack p g) ∷ [] else if v then ChangeCache (LetGo p) ∷ Say (GiveBack p g) ∷ [] else if x then [] else elim r [ None ↦ [] | Some y ↦ ChangeCache (YieldPermission p) ∷ Say (Downgraded p y.grant y.tag) ∷ [] ])
        × ((q : ℕ) → (client_after L.keep_write l (if u then Say (GiveBack p g) ∷ [] else if v then ChangeCache (LetGo p) ∷ Say (GiveBack p g) ∷ [] else if x then [] else elim r [ None ↦ [] | Some y ↦ ChangeCache (YieldPermission p) ∷ Say (Downgraded p y.grant y.tag) ∷ [] ])).cache.locked q ≡ false)
    go true v x r = ((tt, tt), f)
    go false true x r = ((f p, (tt, tt)), f)
    go false false true r = (tt, f)
    go false false false None = (tt, f)
    go false false false (Some y) = ((tt, (tt, tt)), f)

loose_pages : (L : Limits) (k l : Client) (d : Bool) (n : ℕ) → ((q : ℕ) → l.cache.locked q ≡ false) → AllDecent L l (end_pages k d n) × ((q : ℕ) → (client_after L.keep_write l (end_pages k d n)).cache.locked q ≡ false)
loose_pages L k l d zero f = (tt, f)
loose_pages L k l d (suc n) f =
    let a = loose_pages L k l d n f in
    let b = loose_page L k (client_after L.keep_write l (end_pages k d n)) d n (k.cache.held n) a.1 in
    (decent_append L l (end_pages k d n) (end_page k d n (k.cache.held n)) a.0 b.0, rw acted_append b.1)

tidy_pages : (L : Limits) (k l : Client) (d : Bool) → ClientKeeps L l → ((q : ℕ) → l.cache.locked q ≡ false) → ClientKeeps L (client_after L.keep_write l (end_pages k d L.pages))
tidy_pages L k l d h f = tidy_all L l (end_pages k d L.pages) h (loose_pages L k l d L.pages f).0

tidy_drops : (L : Limits) (k : Client) (l : LastOutcome) → ClientKeeps L k → k.cache.status ≢ Idle → ClientKeeps L (client_after L.keep_write k (drop_transaction L k l))
tidy_drops L k l h o = tidy_pages L k _ true (tidy_give_up L k l h o) (λ q. refl)

-- a call that was not refused
pub not_first : (xs ys : List Cause) → first_refusal (xs ++ ys) ≡ None → (first_refusal xs ≡ None) × (first_refusal ys ≡ None)
not_first [] ys e = (refl, e)
not_first (x ∷ xs) ys e = grind (arith, not_first xs ys)

pub record Runs (k : Client) : Type 0 where
  pub welcomed : k.cache.welcomed ≡ true
  pub open_now : k.cache.status ≡ Open

pub runs : (k : Client) → first_refusal (open_causes k) ≡ None → Runs k
runs k e = record { welcomed = grind arith; open_now = grind arith }

pub record Free (L : Limits) (k : Client) (p : ℕ) : Type 0 where
  pub running : Runs k
  pub quiet : is_asking k.ask ≡ false
  pub within : p < L.pages

pub free : (L : Limits) (k : Client) (p : ℕ) (more : List Cause) → first_refusal (page_causes L k p ++ more) ≡ None → Free L k p
free L k p more e = let a = not_first (page_causes L k p) more e in
    let b = not_first (open_causes k) (cause_of (is_asking k.ask) Waiting ∷ cause_of (nat_le L.pages p) PageRange ∷ []) a.0 in
    let f : first_refusal (cause_of (is_asking k.ask) Waiting ∷ cause_of (nat_le L.pages p) PageRange ∷ []) ≡ None = b.1 in
    record { running = runs k b.0; quiet = grind arith; within = grind arith }

-- the page is in the pool
pub there : (L : Limits) (k : Client) (p : ℕ) (more : List Cause) → first_refusal (page_causes L k p ++ (read_causes k p ++ more)) ≡ None → k.cache.content p ≢ None
there L k p more e = let a = not_first (page_causes L k p) (read_causes k p ++ more) e in let b = not_first (read_causes k p) more a.1 in let f : first_refusal (read_causes k p) ≡ None = b.0 in grind arith

pub not_idle : (k : Client) → k.cache.status ≡ Open → k.cache.status ≢ Idle
not_idle k e f = absurd (let z : Open ≡ Idle = sym e ∙ f in cc)

tidy_asks_write : (L : Limits) (k : Client) (p : ℕ) → ClientKeeps L k → k.cache.status ≡ Open → p < L.pages → ClientKeeps L (client_after L.keep_write k (MarkWanted p ∷ SetAsk (WriteAsk p) ∷ say_ask_write k p (k.cache.held p)))
tidy_asks_write L k p h o l = subst (λ (x : Client). ClientKeeps L x) (sym (says_same L.keep_write _ (say_ask_write k p (k.cache.held p)) (only_ask_write k p (k.cache.held p)))) (tidy_all L k (MarkWanted p ∷ SetAsk (WriteAsk p) ∷ []) h (not_idle k o, ((o, l), tt)))

tidy_accepts : (L : Limits) (k : Client) (x : Call) → ClientKeeps L k → first_refusal (causes L k x) ≡ None → ClientKeeps L (client_after L.keep_write k (accept_call L k x).steps)
tidy_accepts L k CallHello h e = h
tidy_accepts L k CallBegin h e = tidy_all L k (ChangeCache Begin ∷ []) h ((grind arith, grind arith), tt)
tidy_accepts L k (CallRead p) h e = go (k.cache.content p) refl
  where
    f : Free L k p
    f = free L k p (cause_of (is_none (k.cache.content p) && not (has_room L k)) PoolFull ∷ []) e

    go : (o : Option Bytes) → k.cache.content p ≡ o → ClientKeeps L (client_after L.keep_write k (read_page k p o).steps)
    go (Some b) q = tidy_all L k (ChangeCache (Read p b) ∷ []) h ((h.content_held p (λ z. absurd (let w : Some b ≡ None = sym q ∙ z in cc)), not_idle k f.running.open_now), tt)
    go None q = tidy_all L k (SetAsk (ReadAsk p) ∷ Say (AskRead k.cache.number p) ∷ []) h ((f.running.open_now, f.within), (tt, tt))
tidy_accepts L k (CallWant p) h e = go (k.cache.may_write p)
  where
    f : Free L k p
    f = free L k p (read_causes k p) e

    go : (q : Bool) → ClientKeeps L (client_after L.keep_write k (if q then reply_with Permitted (MarkWanted p ∷ []) else reply_with Asked (MarkWanted p ∷ SetAsk (WriteAsk p) ∷ say_ask_write k p (k.cache.held p))).steps)
    go true = tidy_all L k (MarkWanted p ∷ []) h (not_idle k f.running.open_now, tt)
    go false = tidy_asks_write L k p h f.running.open_now f.within
tidy_accepts L k (CallWrite p b) h e = tidy_all L k (ChangeCache (WriteBytes p b) ∷ []) h ((h.content_held p (there L k p (cause_of (not (k.cache.may_write p)) NotWritable ∷ cause_of (not (length b == L.page_size)) WrongLength ∷ []) e), not_idle k f.running.open_now), tt)
  where
    f : Free L k p
    f = free L k p (read_causes k p ++ cause_of (not (k.cache.may_write p)) NotWritable ∷ cause_of (not (length b == L.page_size)) WrongLength ∷ []) e
tidy_accepts L k CallFinish h e = let a = not_first (open_causes k) (cause_of (is_asking k.ask) Waiting ∷ []) e in let r = runs k a.0 in
    let f : first_refusal (cause_of (is_asking k.ask) Waiting ∷ []) ≡ None = a.1 in tidy_all L k (ChangeCache Finish ∷ say_commit L k) h ((r.open_now, grind arith), (tt, tt))
tidy_accepts L k CallDrop h e = tidy_drops L k Dropped h (not_idle k (runs k e).open_now)
tidy_accepts L k CallAgain h e = subst (λ (x : Client). ClientKeeps L x) (sym (says_same L.keep_write k (client_again L k) (only_again L k))) h
tidy_accepts L k (CallPeek p) h e = h

pub tidy_calls : (L : Limits) (k : Client) (x : Call) → ClientKeeps L k → ClientKeeps L (client_after L.keep_write k (client_call L k x).steps)
unfolding call_fault client_call
tidy_calls L k x h = go (first_refusal (causes L k x)) refl
  where
    go : (f : Option ClientFault) → first_refusal (causes L k x) ≡ f → ClientKeeps L (client_after L.keep_write k (accept_or_refuse L k x f).steps)
    go (Some y) e = h
    go None e = tidy_accepts L k x h e

-- a message comes
record KeptBy (k l : Client) (p : ℕ) : Type 0 where
  status : l.cache.status ≡ k.cache.status
  held : l.cache.held p ≡ k.cache.held p

lets_go_keeps : (L : Limits) (k : Client) (p : ℕ) (let_go : Option ℕ) → MayLetGo L k p let_go → AllDecent L k (let_page_go k let_go) × KeptBy k (client_after L.keep_write k (let_page_go k let_go)) p
lets_go_keeps L k p None u = (tt, record { status = refl; held = refl })
lets_go_keeps L k p (Some q) u = go (k.cache.locked q) refl (k.cache.held q)
  where
    apart : q ≢ p
    apart = u.0

    go : (r : Bool) → k.cache.locked q ≡ r → (h : Option ℕ) → AllDecent L k (if r then ChangeCache (MakeBare q) ∷ [] else give_back q h) × KeptBy k (client_after L.keep_write k (if r then ChangeCache (MakeBare q) ∷ [] else give_back q h)) p
    go true e h = ((tt, tt), record { status = refl; held = refl })
    go false e None = (tt, record { status = refl; held = refl })
    go false e (Some g) = ((e, (tt, tt)), record { status = refl; held = grind (arith, apart) })

tidy_fill : (L : Limits) (k : Client) (p g : ℕ) (b : Bytes) (let_go : Option ℕ) → ClientKeeps L k → MayLetGo L k p let_go → k.cache.held p ≢ None → ClientKeeps L (client_after L.keep_write k (let_page_go k let_go ++ SetAsk NoAsk ∷ ChangeCache (Fill p g b) ∷ []))
tidy_fill L k p g b let_go h u n = let a = lets_go_keeps L k p let_go u in
    tidy_all L k _ h (decent_append L k (let_page_go k let_go) (SetAsk NoAsk ∷ ChangeCache (Fill p g b) ∷ []) a.0 (tt, (λ e. n (sym a.1.held ∙ e), tt)))

tidy_install : (L : Limits) (k : Client) (p g v : ℕ) (b : Bytes) (let_go : Option ℕ) → ClientKeeps L k → MayLetGo L k p let_go → asks_to_read k.ask p ≡ true → ClientKeeps L (client_after L.keep_write k (let_page_go k let_go ++ SetAsk NoAsk ∷ ChangeCache (Install p g v b) ∷ ChangeCache (Lock p) ∷ []))
tidy_install L k p g v b let_go h u r = let a = lets_go_keeps L k p let_go u in
    tidy_all L k _ h (decent_append L k (let_page_go k let_go) (SetAsk NoAsk ∷ ChangeCache (Install p g v b) ∷ ChangeCache (Lock p) ∷ []) a.0 (tt, (h.read_within p r, ((held (client_after L.keep_write k (let_page_go k let_go)), λ e. not_idle k (h.asking out) (sym a.1.status ∙ e)), tt))))
  where
    out : is_asking k.ask ≡ true
    out = grind arith

    held : (l : Client) → update l.cache.held p (Some g) p ≢ None
    held l e = grind arith

tidy_refuse : (L : Limits) (k : Client) (p g : ℕ) → ClientKeeps L k → ClientKeeps L (client_after L.keep_write k (refuse_grant p g))
tidy_refuse L k p g h = tidy_all L k (refuse_grant p g) h (tt, (tt, tt))

tidy_granted : (L : Limits) (k : Client) (p g v : ℕ) (b : Bytes) (let_go : Option ℕ) → ClientKeeps L k
    → (brings_page (take_granted k p g v b let_go (k.cache.held p)) ≡ true → MayLetGo L k p let_go)
    → ClientKeeps L (client_after L.keep_write k (take_granted k p g v b let_go (k.cache.held p)))
tidy_granted L k p g v b let_go h u = go (k.cache.held p) refl (nat_lt (k.cache.seen p) g && asks_to_read k.ask p) refl u
  where
    held : k.cache.held p ≢ None → (o : Option Bytes) (q : Bool) → (brings_page (steps_held k p g b let_go o q) ≡ true → MayLetGo L k p let_go)
        → ClientKeeps L (client_after L.keep_write k (steps_held k p g b let_go o q))
    held n (Some y) q u = h
    held n None true u = tidy_fill L k p g b let_go h (u (brings_after k let_go (SetAsk NoAsk ∷ ChangeCache (Fill p g b) ∷ []) refl)) n
    held n None false u = h

    match : k.cache.held p ≢ None → (q : Bool) → (brings_page (steps_kept k p g v b let_go q) ≡ true → MayLetGo L k p let_go)
        → ClientKeeps L (client_after L.keep_write k (steps_kept k p g v b let_go q))
    match n true u = held n (k.cache.content p) ((k.cache.version p == v) && asks_to_read k.ask p) u
    match n false u = tidy_refuse L k p g h

    go : (x : Option ℕ) → k.cache.held p ≡ x → (q : Bool) → (nat_lt (k.cache.seen p) g && asks_to_read k.ask p) ≡ q
        → (brings_page (steps_granted k p g v b let_go x q) ≡ true → MayLetGo L k p let_go)
        → ClientKeeps L (client_after L.keep_write k (steps_granted k p g v b let_go x q))
    go (Some y) e q f u = match (λ z. absurd (let w : Some y ≡ None = sym e ∙ z in cc)) (y == g) u
    go None e true f u = tidy_install L k p g v b let_go h (u (brings_after k let_go (SetAsk NoAsk ∷ ChangeCache (Install p g v b) ∷ ChangeCache (Lock p) ∷ []) refl)) (grind arith)
    go None e false f u = tidy_refuse L k p g h

tidy_called_back : (L : Limits) (k : Client) (p g : ℕ) → ClientKeeps L k → ClientKeeps L (client_after L.keep_write k (take_callback k p g))
tidy_called_back L k p g h = go (is_exactly (k.cache.held p) g) (k.cache.locked p) refl
  where
    go : (r u : Bool) → k.cache.locked p ≡ u → ClientKeeps L (client_after L.keep_write k (if r then (if u then MarkDue p ∷ Say (InUse k.cache.number p g) ∷ [] else give_back p (Some g)) else refuse_grant p g))
    go true true e = tidy_all L k (MarkDue p ∷ Say (InUse k.cache.number p g) ∷ []) h (e, (tt, tt))
    go true false e = tidy_all L k (give_back p (Some g)) h (e, (tt, tt))
    go false u e = tidy_refuse L k p g h

tidy_downgraded : (L : Limits) (k : Client) (p g t : ℕ) → ClientKeeps L k → ClientKeeps L (client_after L.keep_write k (take_downgrade k p g t))
tidy_downgraded L k p g t h = go (is_exactly (k.cache.held p) g) (k.cache.may_write p && (k.cache.tag p == t)) (is_fixed k p)
  where
    go : (r u v : Bool) → ClientKeeps L (client_after L.keep_write k (if not r then refuse_grant p g else if not u then Say (Downgraded p g t) ∷ [] else if v then MarkDueDowngrade p (record { grant = g; tag = t }) ∷ Say (InUse k.cache.number p g) ∷ [] else ChangeCache (YieldPermission p) ∷ Say (Downgraded p g t) ∷ []))
    go false u v = tidy_refuse L k p g h
    go true false v = h
    go true true true = tidy_all L k (MarkDueDowngrade p (record { grant = g; tag = t }) ∷ Say (InUse k.cache.number p g) ∷ []) h (tt, (tt, tt))
    go true true false = tidy_all L k (ChangeCache (YieldPermission p) ∷ Say (Downgraded p g t) ∷ []) h (tt, (tt, tt))

tidy_may_write : (L : Limits) (k : Client) (p g : ℕ) (r : Bool) → ClientKeeps L k → ClientKeeps L (client_after L.keep_write k (if r then SetAsk NoAsk ∷ ChangeCache (TakePermission p) ∷ [] else []))
tidy_may_write L k p g true h = tidy_all L k (SetAsk NoAsk ∷ ChangeCache (TakePermission p) ∷ []) h (tt, (tt, tt))
tidy_may_write L k p g false h = h

-- the choice, where a welcomed client takes the message
abbrev pub WelcomedChoice : Limits → Client → Body → Option ℕ → Type 0
WelcomedChoice L k (Granted p g v b) let_go = brings_page (take_granted k p g v b let_go (k.cache.held p)) ≡ true → MayLetGo L k p let_go
WelcomedChoice L k _ let_go = ⊤

pub welcomed_choice : (L : Limits) (k : Client) (b : Body) (let_go : Option ℕ) → k.cache.welcomed ≡ true → ChoiceAllowed L k b let_go → WelcomedChoice L k b let_go
unfolding client_take
welcomed_choice L k (Granted p g v b) let_go e u = λ f. u (rw e f)
welcomed_choice L k _ let_go e u = tt

tidy_hears : (L : Limits) (k : Client) (b : Body) (let_go : Option ℕ) → ClientKeeps L k → WelcomedChoice L k b let_go → ClientKeeps L (client_after L.keep_write k (take_welcomed L k b let_go))
tidy_hears L k (Granted p g v b) let_go h u = tidy_granted L k p g v b let_go h u
tidy_hears L k (MayWrite t p g) let_go h u = tidy_may_write L k p g (of_open_txn k t && asks_to_write k.ask p && is_exactly (k.cache.held p) g) h
tidy_hears L k (Callback p g) let_go h u = tidy_called_back L k p g h
tidy_hears L k (Done t n) let_go h u = go (of_committing_txn k t) refl
  where
    go : (r : Bool) → of_committing_txn k t ≡ r → ClientKeeps L (client_after L.keep_write k (if r then EndTransaction (Committed n) ∷ ChangeCache (TakeDone n) ∷ end_pages k false L.pages else []))
    go true e = tidy_pages L k _ false (tidy_done L k n h (λ z. grind arith)) (λ q. refl)
    go false e = h
tidy_hears L k (AbortNow t) let_go h u = go (of_open_txn k t) refl
  where
    go : (r : Bool) → of_open_txn k t ≡ r → ClientKeeps L (client_after L.keep_write k (if r then drop_transaction L k Aborted else []))
    go true e = tidy_drops L k Aborted h (λ z. grind arith)
    go false e = h
tidy_hears L k (Downgrade p g t) let_go h u = go L.keep_write
  where
    go : (r : Bool) → ClientKeeps L (client_after L.keep_write k (if r then take_downgrade k p g t else []))
    go true = tidy_downgraded L k p g t h
    go false = h
tidy_hears L k _ let_go h u = h

pub tidy_takes : (L : Limits) (k : Client) (b : Body) (let_go : Option ℕ) → ClientKeeps L k → ChoiceAllowed L k b let_go → ClientKeeps L (client_after L.keep_write k (client_take L k b let_go))
unfolding client_take
tidy_takes L k Welcome let_go h u = tidy_all L k (ChangeCache TakeWelcome ∷ []) h (tt, tt)
tidy_takes L k b let_go h u = go k.cache.welcomed refl
  where
    go : (q : Bool) → k.cache.welcomed ≡ q → ClientKeeps L (client_after L.keep_write k (if q then take_welcomed L k b let_go else []))
    go true e = tidy_hears L k b let_go h (welcomed_choice L k b let_go e u)
    go false e = h

pub tidy_input : (L : Limits) (k : Client) (i : ClientInput) → ClientKeeps L k → InputAllowed L k i → ClientKeeps L (after_input L k i)
tidy_input L k (ReceivesCall c) h u = tidy_calls L k c h
tidy_input L k (ReceivesMessage b let_go) h u = tidy_takes L k b let_go h u

pub tidy : (L : Limits) (Allowed : ClientInput → Type 0) (k : Client) → Arises L Allowed k → ClientKeeps L k
tidy L Allowed k StartsNew = tidy_new L
tidy L Allowed k (Continues l i a u o) = tidy_input L l i (tidy L Allowed l a) u
