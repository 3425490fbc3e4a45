-- What a client does at a call is allowed, step by step.
use Rattle.std.proofs.Common.{Bool, List, None, Option, Some, [], arith, false, if◌then◌else◌, length, nat_le, nat_lt, not, refl, subst, sym, true, ℕ, ◌&&◌, ◌++◌, ◌<◌, ◌==◌, ◌∙◌, ◌∷◌, ◌≡◌, ◌≢◌}
use Rattle.std.proofs.lemmas.List.{append-nil}
use Rattle.cb_protocol.proofs.ClientSteps.{ClientStepsMay, cache_after_steps}
use Rattle.cb_protocol.proofs.CommitWrites.{commit_lists}
use Rattle.cb_protocol.proofs.ClientReady.{AllFit, Plain, Ready, plain_all, plain_append, plain_lets_go, plain_pages}
use Rattle.cb_protocol.proofs.ClientTakes.{Apt, drops_may, may_append}
use Rattle.cb_protocol.specs.Cache.{Cache, Committing, Fill, Finish, Idle, Install, Lock, Open, TransactionState, TakeDone, TakePermission, YieldPermission, is_committing}
use Rattle.cb_protocol.specs.Client.{Aborted, ClientStep, Ask, SetAsk, Client, EndTransaction, Committed, Dropped, LastOutcome, ChangeCache, NoAsk, NoneEnded, MarkDue, MarkDueDowngrade, ReadAsk, Say, MarkWanted, WriteAsk, asks_to_write, has_room, is_fixed, is_asking, asks_to_read}
use Rattle.cb_protocol.specs.Answers.{Asked, ClientFault, NotWritable, PageRange, Permitted, PoolFull, Waiting, WrongLength}
use Rattle.cb_protocol.specs.ClientCalls.{CallAgain, CallBegin, Call, Cause, CallDrop, CallFinish, CallHello, CallPeek, CallRead, CallWant, CallWrite, accept_call, page_causes, client_again, client_call, cause_of, causes, first_refusal, read_causes, read_page, accept_or_refuse, reply_with, open_causes, say_ask, say_ask_write, say_commit, say_drop}
use Rattle.cb_protocol.specs.ClientEnd.{drop_transaction, end_pages, give_back, refuse_grant}
use Rattle.cb_protocol.specs.ClientMessages.{take_downgrade, take_granted, take_granted_held, take_welcomed, let_page_go, of_committing_txn, of_open_txn, client_take}
use Rattle.cb_protocol.specs.Basics.{is_exactly, Bytes, Limits, is_none}
use Rattle.cb_protocol.specs.Messages.{AbortNow, Body, Callback, Done, Downgrade, Downgraded, Granted, Hello, InUse, MayWrite, Welcome}
use Rattle.cb_protocol.specs.ClientCalls.{call_fault}

-- the checks of a call that was not refused
none_first : (c : Cause) (cs : List Cause) → first_refusal (c ∷ cs) ≡ None → (c.holds ≡ false) × (first_refusal cs ≡ None)
none_first c cs e = grind arith

pub first_append : (xs ys : List Cause) → first_refusal (xs ++ ys) ≡ None → (first_refusal xs ≡ None) × (first_refusal ys ≡ None)
first_append [] ys e = (refl, e)
first_append (x ∷ xs) ys e = grind (arith, first_append xs ys)

pub record Runs (k : Client) : Type 0 where
  pub welcomed : k.cache.welcomed ≡ true
  pub open_now : k.cache.status ≡ Open

runs : (k : Client) → first_refusal (open_causes k) ≡ None → Runs k
runs k e = record { welcomed = grind arith; open_now = grind arith }

pub record Free (L : Limits) (k : Client) (p : ℕ) : Type 0 where
  pub running : Runs k
  pub quiet : is_asking k.ask ≡ false
  pub within : p < L.pages

pub free : (L : Limits) (k : Client) (p : ℕ) → first_refusal (page_causes L k p) ≡ None → Free L k p
free L k p e = let a = first_append (open_causes k) (cause_of (is_asking k.ask) Waiting ∷ cause_of (nat_le L.pages p) PageRange ∷ []) e in
    let f : first_refusal (cause_of (is_asking k.ask) Waiting ∷ cause_of (nat_le L.pages p) PageRange ∷ []) ≡ None = a.1 in
    record { running = runs k a.0; quiet = grind arith; within = grind arith }

pub record HasRead (k : Client) (p : ℕ) : Type 0 where
  pub locked : k.cache.locked p ≡ true
  pub here : k.cache.content p ≢ None

pub has_read : (k : Client) (p : ℕ) → first_refusal (read_causes k p) ≡ None → HasRead k p
has_read k p e = record { locked = grind arith; here = grind arith }

says_ask_write_may : (L : Limits) (Came : Body → Type 0) (k : Client) (p : ℕ) (r : Option ℕ) → k.cache.welcomed ≡ true → k.cache.status ≡ Open → k.cache.may_write p ≡ false → ClientStepsMay L.keep_write Came k.cache (say_ask_write k p r)
says_ask_write_may L Came k p None w o m = tt
says_ask_write_may L Came k p (Some g) w o m = ((w, (refl, o, λ e. absurd cc)), tt)

says_commit_may : (L : Limits) (Came : Body → Type 0) (k : Client) → Apt k.cache → Ready L Came k → k.cache.welcomed ≡ true → k.cache.status ≡ Committing → ClientStepsMay L.keep_write Came k.cache (say_commit L k)
says_commit_may L Came k h r w c = ((w, (refl, c, commit_lists k L.pages h r.within)), tt)

finish_may : (L : Limits) (Came : Body → Type 0) (k : Client) → Apt k.cache → Ready L Came k → k.cache.welcomed ≡ true → k.cache.status ≡ Open → ClientStepsMay L.keep_write Came k.cache (ChangeCache Finish ∷ say_commit L k)
finish_may L Came k h r w o = let l = commit_lists k L.pages h r.within in ((w, o), ((w, (refl, refl, record { no_other = l.no_other; each = l.each })), tt))

says_drop_may : (L : Limits) (Came : Body → Type 0) (k : Client) (x : LastOutcome) → Apt k.cache → k.cache.welcomed ≡ true → ClientStepsMay L.keep_write Came k.cache (say_drop k x)
says_drop_may L Came k x h w = go x
  where
    still : k.cache.dropped ≡ k.cache.number → k.cache.status ≡ Idle
    still e = status k.cache.status refl
      where
        status : (s : TransactionState) → k.cache.status ≡ s → k.cache.status ≡ Idle
        status Idle q = q
        status Open q = let l = h.going (λ z. absurd (let c : Open ≡ Idle = sym q ∙ z in cc)) in absurd (omega arith)
        status Committing q = let l = h.going (λ z. absurd (let c : Committing ≡ Idle = sym q ∙ z in cc)) in absurd (omega arith)

    go : (x : LastOutcome) → ClientStepsMay L.keep_write Came k.cache (say_drop k x)
    go NoneEnded = tt
    go (Committed n) = tt
    go Dropped = ((w, (h.dropped_by, still)), tt)
    go Aborted = ((w, (h.dropped_by, still)), tt)

-- a list of messages, all of which may be said
abbrev Spoken : Bool → (Body → Type 0) → Cache → List ClientStep → Type 0
Spoken keep_write Came k steps = ClientStepsMay keep_write Came k steps × (cache_after_steps keep_write k steps ≡ k)

spoken_append : (keep_write : Bool) (Came : Body → Type 0) (k : Cache) (xs ys : List ClientStep) → Spoken keep_write Came k xs → ClientStepsMay keep_write Came k ys → ClientStepsMay keep_write Came k (xs ++ ys)
spoken_append keep_write Came k xs ys a b = may_append keep_write Came k xs ys a.0 (subst (λ (x : Cache). ClientStepsMay keep_write Came x ys) (sym a.1) b)

same_drop : (keep_write : Bool) (k : Client) (x : LastOutcome) → cache_after_steps keep_write k.cache (say_drop k x) ≡ k.cache
same_drop keep_write k NoneEnded = refl
same_drop keep_write k (Committed n) = refl
same_drop keep_write k Dropped = refl
same_drop keep_write k Aborted = refl

same_write : (keep_write : Bool) (k : Client) (p : ℕ) (r : Option ℕ) → cache_after_steps keep_write k.cache (say_ask_write k p r) ≡ k.cache
same_write keep_write k p None = refl
same_write keep_write k p (Some g) = refl

same_ask : (keep_write : Bool) (k : Client) (a : Ask) → cache_after_steps keep_write k.cache (say_ask k a) ≡ k.cache
same_ask keep_write k NoAsk = refl
same_ask keep_write k (ReadAsk p) = refl
same_ask keep_write k (WriteAsk p) = same_write keep_write k p (k.cache.held p)

out_write : (p : ℕ) (a : Ask) → a ≡ WriteAsk p → (is_asking a ≡ true) × (asks_to_write a p ≡ true)
out_write p a e = grind arith

says_ask_may : (L : Limits) (Came : Body → Type 0) (k : Client) (a : Ask) → k.ask ≡ a → Ready L Came k → k.cache.welcomed ≡ true → ClientStepsMay L.keep_write Came k.cache (say_ask k a)
says_ask_may L Came k NoAsk e r w = tt
says_ask_may L Came k (ReadAsk p) e r w = ((w, omega arith), tt)
says_ask_may L Came k (WriteAsk p) e r w = let o = out_write p k.ask e in says_ask_write_may L Came k p (k.cache.held p) w (r.asking o.0) (r.ask_may p o.1)

again_may : (L : Limits) (Came : Body → Type 0) (k : Client) → (k.cache.welcomed ≡ true → Apt k.cache) → Ready L Came k → ClientStepsMay L.keep_write Came k.cache (client_again L k)
again_may L Came k h r = go k.cache.welcomed refl
  where
    commits : (q : Bool) → is_committing k.cache.status ≡ q → k.cache.welcomed ≡ true → ClientStepsMay L.keep_write Came k.cache (if q then say_commit L k else [])
    commits true e w = says_commit_may L Came k (h w) r w (grind arith)
    commits false e w = tt

    go : (q : Bool) → k.cache.welcomed ≡ q → ClientStepsMay L.keep_write Came k.cache (if q then say_drop k k.last_outcome ++ (say_ask k k.ask ++ (if is_committing k.cache.status then say_commit L k else [])) else Say Hello ∷ [])
    go true w = spoken_append L.keep_write Came k.cache (say_drop k k.last_outcome) (say_ask k k.ask ++ (if is_committing k.cache.status then say_commit L k else [])) (says_drop_may L Came k k.last_outcome (h w) w, same_drop L.keep_write k k.last_outcome)
        (spoken_append L.keep_write Came k.cache (say_ask k k.ask) (if is_committing k.cache.status then say_commit L k else []) (says_ask_may L Came k k.ask refl r w, same_ask L.keep_write k k.ask) (commits (is_committing k.cache.status) refl w))
    go false w = ((tt, tt), tt)

accepts_may : (L : Limits) (Came : Body → Type 0) (k : Client) (x : Call) → (k.cache.welcomed ≡ true → Apt k.cache) → Ready L Came k → first_refusal (causes L k x) ≡ None → ClientStepsMay L.keep_write Came k.cache (accept_call L k x).steps
accepts_may L Came k CallHello h r e = ((tt, tt), tt)
accepts_may L Came k CallBegin h r e = ((grind arith, grind arith), tt)
accepts_may L Came k (CallRead p) h r e = go (k.cache.content p) refl
  where
    f : Free L k p
    f = free L k p (first_append (page_causes L k p) (cause_of (is_none (k.cache.content p) && not (has_room L k)) PoolFull ∷ []) e).0

    go : (o : Option Bytes) → k.cache.content p ≡ o → ClientStepsMay L.keep_write Came k.cache (read_page k p o).steps
    go (Some b) q = ((f.running.welcomed, f.running.open_now, q), tt)
    go None q = ((f.running.welcomed, omega arith), tt)
accepts_may L Came k (CallWant p) h r e = go (k.cache.may_write p) refl
  where
    f : Free L k p
    f = free L k p (first_append (page_causes L k p) (read_causes k p) e).0

    go : (q : Bool) → k.cache.may_write p ≡ q → ClientStepsMay L.keep_write Came k.cache (if q then reply_with Permitted (MarkWanted p ∷ []) else reply_with Asked (MarkWanted p ∷ SetAsk (WriteAsk p) ∷ say_ask_write k p (k.cache.held p))).steps
    go true q = tt
    go false q = says_ask_write_may L Came k p (k.cache.held p) f.running.welcomed f.running.open_now q
accepts_may L Came k (CallWrite p b) h r e = ((f.running.welcomed, f.running.open_now, permitted, i.locked, some (k.cache.content p) refl), tt)
  where
    last : List Cause
    last = cause_of (not (k.cache.may_write p)) NotWritable ∷ cause_of (not (length b == L.page_size)) WrongLength ∷ []

    a : (first_refusal (page_causes L k p) ≡ None) × (first_refusal (read_causes k p ++ cause_of (not (k.cache.may_write p)) NotWritable ∷ cause_of (not (length b == L.page_size)) WrongLength ∷ []) ≡ None)
    a = first_append (page_causes L k p) (read_causes k p ++ cause_of (not (k.cache.may_write p)) NotWritable ∷ cause_of (not (length b == L.page_size)) WrongLength ∷ []) e

    d : (first_refusal (read_causes k p) ≡ None) × (first_refusal (cause_of (not (k.cache.may_write p)) NotWritable ∷ cause_of (not (length b == L.page_size)) WrongLength ∷ []) ≡ None)
    d = first_append (read_causes k p) (cause_of (not (k.cache.may_write p)) NotWritable ∷ cause_of (not (length b == L.page_size)) WrongLength ∷ []) a.1

    f : Free L k p
    f = free L k p a.0

    i : HasRead k p
    i = has_read k p d.0

    permitted : k.cache.may_write p ≡ true
    permitted = let z : first_refusal (cause_of (not (k.cache.may_write p)) NotWritable ∷ cause_of (not (length b == L.page_size)) WrongLength ∷ []) ≡ None = d.1 in grind arith

    some : (o : Option Bytes) → k.cache.content p ≡ o → (y : Bytes) × (k.cache.content p ≡ Some y)
    some None q = absurd (i.here q)
    some (Some y) q = (y, q)
accepts_may L Came k CallFinish h r e = let a = runs k (first_append (open_causes k) (cause_of (is_asking k.ask) Waiting ∷ []) e).0 in finish_may L Came k (h a.welcomed) r a.welcomed a.open_now
accepts_may L Came k CallDrop h r e = let a = runs k e in drops_may L Came k Dropped (h a.welcomed) r a.welcomed a.open_now
accepts_may L Came k CallAgain h r e = again_may L Came k h r
accepts_may L Came k (CallPeek p) h r e = tt

pub calls_may : (L : Limits) (Came : Body → Type 0) (k : Client) (x : Call) → (k.cache.welcomed ≡ true → Apt k.cache) → Ready L Came k → ClientStepsMay L.keep_write Came k.cache (client_call L k x).steps
unfolding call_fault client_call
calls_may L Came k x h r = go (first_refusal (causes L k x)) refl
  where
    go : (f : Option ClientFault) → first_refusal (causes L k x) ≡ f → ClientStepsMay L.keep_write Came k.cache (accept_or_refuse L k x f).steps
    go (Some y) e = tt
    go None e = accepts_may L Came k x h r e

-- and it keeps what holds of a client beside its cache
fit_ask : (L : Limits) (Came : Body → Type 0) (k : Client) (p : ℕ) (r : Option ℕ) (l : Client) → AllFit L Came l (say_ask_write k p r)
fit_ask L Came k p None l = tt
fit_ask L Came k p (Some g) l = (tt, tt)

pub plain_append_ask : (L : Limits) (k : Client) → Plain (client_again L k)
plain_append_ask L k = go k.cache.welcomed
  where
    drop : (x : LastOutcome) → Plain (say_drop k x)
    drop NoneEnded = tt
    drop (Committed n) = tt
    drop Dropped = tt
    drop Aborted = tt

    write : (p : ℕ) (r : Option ℕ) → Plain (say_ask_write k p r)
    write p None = tt
    write p (Some g) = tt

    ask : (a : Ask) → Plain (say_ask k a)
    ask NoAsk = tt
    ask (ReadAsk p) = tt
    ask (WriteAsk p) = write p (k.cache.held p)

    commit : (q : Bool) → Plain (if q then say_commit L k else [])
    commit true = tt
    commit false = tt

    go : (q : Bool) → Plain (if q then say_drop k k.last_outcome ++ (say_ask k k.ask ++ (if is_committing k.cache.status then say_commit L k else [])) else Say Hello ∷ [])
    go true = plain_append (say_drop k k.last_outcome) (say_ask k k.ask ++ (if is_committing k.cache.status then say_commit L k else [])) (drop k.last_outcome) (plain_append (say_ask k k.ask) (if is_committing k.cache.status then say_commit L k else []) (ask k.ask) (commit (is_committing k.cache.status)))
    go false = tt

plain_fit : (L : Limits) (Came : Body → Type 0) (k : Client) (steps : List ClientStep) → Plain steps → AllFit L Came k steps
plain_fit L Came k steps a = subst (λ (x : List ClientStep). AllFit L Came k x) (append-nil steps) (plain_all L Came k steps [] a (λ l e q. tt))

pub drops_fit : (L : Limits) (Came : Body → Type 0) (k : Client) (x : LastOutcome) → AllFit L Came k (drop_transaction L k x)
drops_fit L Came k x = (tt, (refl, (tt, plain_fit L Came _ (end_pages k true L.pages) (plain_pages k true L.pages))))

accepts_fit : (L : Limits) (Came : Body → Type 0) (k : Client) (x : Call) → first_refusal (causes L k x) ≡ None → AllFit L Came k (accept_call L k x).steps
accepts_fit L Came k CallHello e = (tt, tt)
accepts_fit L Came k CallBegin e = (tt, tt)
accepts_fit L Came k (CallRead p) e = go (k.cache.content p)
  where
    f : Free L k p
    f = free L k p (first_append (page_causes L k p) (cause_of (is_none (k.cache.content p) && not (has_room L k)) PoolFull ∷ []) e).0

    go : (o : Option Bytes) → AllFit L Came k (read_page k p o).steps
    go (Some b) = (tt, tt)
    go None = (f.running.open_now, (tt, tt))
accepts_fit L Came k (CallWant p) e = go (k.cache.may_write p) refl
  where
    f : Free L k p
    f = free L k p (first_append (page_causes L k p) (read_causes k p) e).0

    go : (q : Bool) → k.cache.may_write p ≡ q → AllFit L Came k (if q then reply_with Permitted (MarkWanted p ∷ []) else reply_with Asked (MarkWanted p ∷ SetAsk (WriteAsk p) ∷ say_ask_write k p (k.cache.held p))).steps
    go true q = (tt, tt)
    go false q = (tt, ((f.running.open_now, q), fit_ask L Came k p (k.cache.held p) _))
accepts_fit L Came k (CallWrite p b) e = ((free L k p (first_append (page_causes L k p) (read_causes k p ++ cause_of (not (k.cache.may_write p)) NotWritable ∷ cause_of (not (length b == L.page_size)) WrongLength ∷ []) e).0).within, tt)
accepts_fit L Came k CallFinish e = (quiet, (tt, tt))
  where
    quiet : is_asking k.ask ≡ false
    quiet = let a = (first_append (open_causes k) (cause_of (is_asking k.ask) Waiting ∷ []) e).1 in let f : first_refusal (cause_of (is_asking k.ask) Waiting ∷ []) ≡ None = a in grind arith
accepts_fit L Came k CallDrop e = drops_fit L Came k Dropped
accepts_fit L Came k CallAgain e = plain_fit L Came k (client_again L k) (plain_append_ask L k)
accepts_fit L Came k (CallPeek p) e = tt

pub calls_fit : (L : Limits) (Came : Body → Type 0) (k : Client) (x : Call) → AllFit L Came k (client_call L k x).steps
unfolding call_fault client_call
calls_fit L Came k x = go (first_refusal (causes L k x)) refl
  where
    go : (f : Option ClientFault) → first_refusal (causes L k x) ≡ f → AllFit L Came k (accept_or_refuse L k x f).steps
    go (Some y) e = tt
    go None e = accepts_fit L Came k x e

granted_fit : (L : Limits) (Came : Body → Type 0) (k : Client) (p g v : ℕ) (b : Bytes) (let_go : Option ℕ) (r : Option ℕ) → AllFit L Came k (take_granted k p g v b let_go r)
granted_fit L Came k p g v b let_go r = go r (nat_lt (k.cache.seen p) g && asks_to_read k.ask p)
  where
    held : (o : Option Bytes) (q : Bool) → AllFit L Came k (elim o [ Some y ↦ [] | None ↦ if q then let_page_go k let_go ++ SetAsk NoAsk ∷ ChangeCache (Fill p g b) ∷ [] else [] ])
    held (Some y) q = tt
    held None true = plain_all L Came k (let_page_go k let_go) (SetAsk NoAsk ∷ ChangeCache (Fill p g b) ∷ []) (plain_lets_go k let_go) (λ l e q. (tt, (tt, tt)))
    held None false = tt

    match : (q : Bool) → AllFit L Came k (if q then take_granted_held k p g v b let_go (k.cache.content p) else refuse_grant p g)
    match true = held (k.cache.content p) ((k.cache.version p == v) && asks_to_read k.ask p)
    match false = (tt, (tt, tt))

    go : (x : Option ℕ) (q : Bool) → AllFit L Came k (elim x [ Some y ↦ (if y == g then take_granted_held k p g v b let_go (k.cache.content p) else refuse_grant p g) | None ↦ (if q then let_page_go k let_go ++ SetAsk NoAsk ∷ ChangeCache (Install p g v b) ∷ ChangeCache (Lock p) ∷ [] else refuse_grant p g) ])
    go (Some y) q = match (y == g)
    go None true = plain_all L Came k (let_page_go k let_go) (SetAsk NoAsk ∷ ChangeCache (Install p g v b) ∷ ChangeCache (Lock p) ∷ []) (plain_lets_go k let_go) (λ l e q. (tt, (tt, (tt, tt))))
    go None false = (tt, (tt, tt))

hears_fit : (L : Limits) (Came : Body → Type 0) (k : Client) (y : Body) (let_go : Option ℕ) → Came y → AllFit L Came k (take_welcomed L k y let_go)
hears_fit L Came k (Granted p g v b) let_go c = granted_fit L Came k p g v b let_go (k.cache.held p)
hears_fit L Came k (MayWrite t p g) let_go c = go (of_open_txn k t && asks_to_write k.ask p && is_exactly (k.cache.held p) g)
  where
    go : (r : Bool) → AllFit L Came k (if r then SetAsk NoAsk ∷ ChangeCache (TakePermission p) ∷ [] else [])
    go true = (tt, (refl, tt))
    go false = tt
hears_fit L Came k (Callback p g) let_go c = go (is_exactly (k.cache.held p) g) (k.cache.locked p)
  where
    go : (r u : Bool) → AllFit L Came k (if r then (if u then MarkDue p ∷ Say (InUse k.cache.number p g) ∷ [] else give_back p (Some g)) else refuse_grant p g)
    go true true = (tt, (tt, tt))
    go true false = (tt, (tt, tt))
    go false u = (tt, (tt, tt))
hears_fit L Came k (Done t n) let_go c = go (of_committing_txn k t)
  where
    go : (q : Bool) → AllFit L Came k (if q then EndTransaction (Committed n) ∷ ChangeCache (TakeDone n) ∷ end_pages k false L.pages else [])
    go true = (tt, (refl, plain_fit L Came _ (end_pages k false L.pages) (plain_pages k false L.pages)))
    go false = tt
hears_fit L Came k (AbortNow t) let_go c = go (of_open_txn k t)
  where
    go : (q : Bool) → AllFit L Came k (if q then drop_transaction L k Aborted else [])
    go true = drops_fit L Came k Aborted
    go false = tt
hears_fit L Came k (Downgrade p g t) let_go c = go L.keep_write
  where
    down : (r u v : Bool) → AllFit L Came k (if not r then refuse_grant p g else if not u then Say (Downgraded p g t) ∷ [] else if v then MarkDueDowngrade p (record { grant = g; tag = t }) ∷ Say (InUse k.cache.number p g) ∷ [] else ChangeCache (YieldPermission p) ∷ Say (Downgraded p g t) ∷ [])
    down false u v = (tt, (tt, tt))
    down true false v = (tt, tt)
    down true true true = (c, (tt, tt))
    down true true false = (tt, (tt, tt))

    go : (q : Bool) → AllFit L Came k (if q then take_downgrade k p g t else [])
    go true = down (is_exactly (k.cache.held p) g) (k.cache.may_write p && (k.cache.tag p == t)) (is_fixed k p)
    go false = tt
hears_fit L Came k _ let_go c = tt

pub takes_fit : (L : Limits) (Came : Body → Type 0) (k : Client) (y : Body) (let_go : Option ℕ) → Came y → AllFit L Came k (client_take L k y let_go)
unfolding client_take
takes_fit L Came k Welcome let_go c = (tt, tt)
takes_fit L Came k y let_go c = go k.cache.welcomed
  where
    go : (q : Bool) → AllFit L Came k (if q then take_welcomed L k y let_go else [])
    go true = hears_fit L Came k y let_go c
    go false = tt
