-- Which steps of a client leave its transaction as it is, and what each call and message makes of it.
use Rattle.std.proofs.Common.{Bool, List, None, Option, Some, [], arith, false, if◌then◌else◌, nat_lt, not, refl, suc, true, zero, ℕ, ◌&&◌, ◌++◌, ◌==◌, ◌||◌, ◌∙◌, ◌∷◌, ◌≡◌}
use Rattle.std.specs.Prelude.{⊤}
use Rattle.cb_protocol.specs.Answers.{Asked, Permitted}
use Rattle.cb_protocol.specs.Basics.{Bytes, Limits, is_exactly, is_none}
use Rattle.cb_protocol.specs.Cache.{Abandon, Begin, Cache, CacheChange, Fill, Finish, Install, Lock, MakeBare, TakeDone, TakePermission, YieldPermission, cache_after}
use Rattle.cb_protocol.specs.Client.{Ask, ChangeCache, Client, ClientStep, Dropped, Aborted, Committed, DueDowngrade, EndTransaction, LastOutcome, MarkDue, MarkDueDowngrade, MarkWanted, NoAsk, NoneEnded, ReadAsk, Say, SetAsk, WriteAsk, after_client_step, asks_to_read, asks_to_write, client_after, is_fixed}
use Rattle.cb_protocol.specs.ClientCalls.{CallRead, CallWant, accept_call, read_page, reply_with, say_ask, say_ask_write, say_drop}
use Rattle.cb_protocol.specs.ClientEnd.{end_page, end_pages, give_back, give_down, refuse_grant}
use Rattle.cb_protocol.specs.ClientMessages.{let_page_go, of_open_txn, take_downgrade, take_granted, take_granted_held, take_welcomed}
use Rattle.cb_protocol.specs.Messages.{AbortNow, Body, Callback, Commit, Done, Downgrade, Downgraded, GiveBack, Granted, InUse, MayWrite}

-- no transaction begins, commits or ends
abbrev pub RestChange : CacheChange → Type 0
RestChange Begin = ⊥
RestChange Finish = ⊥
RestChange Abandon = ⊥
RestChange (TakeDone n) = ⊥
RestChange _ = ⊤

-- nor is a Commit said
abbrev pub NoCommit : Body → Type 0
NoCommit (Commit t ws) = ⊥
NoCommit _ = ⊤

abbrev pub Rests : List ClientStep → Type 0
Rests [] = ⊤
Rests (ChangeCache m ∷ steps) = RestChange m × Rests steps
Rests (EndTransaction l ∷ steps) = ⊥
Rests (Say b ∷ steps) = NoCommit b × Rests steps
Rests (_ ∷ steps) = Rests steps

-- the transaction, and how the last one ended, are as they were
pub record SameTransaction (k l : Client) : Type 0 where
  pub number : l.cache.number ≡ k.cache.number
  pub status : l.cache.status ≡ k.cache.status
  pub outcome : l.last_outcome ≡ k.last_outcome

pub same_of : (k : Client) → SameTransaction k k
same_of k = record { number = refl; status = refl; outcome = refl }

pub same_more : (k l m : Client) → SameTransaction k l → SameTransaction l m → SameTransaction k m
same_more k l m a b = record { number = b.number ∙ a.number; status = b.status ∙ a.status; outcome = b.outcome ∙ a.outcome }

rest_number : (keep_write : Bool) (k : Cache) (m : CacheChange) → RestChange m → (cache_after keep_write k m).number ≡ k.number
rest_number keep_write k m a = grind arith

rest_status : (keep_write : Bool) (k : Cache) (m : CacheChange) → RestChange m → (cache_after keep_write k m).status ≡ k.status
rest_status keep_write k m a = grind arith

-- after such steps
pub rests_same : (keep_write : Bool) (k : Client) (steps : List ClientStep) → Rests steps → SameTransaction k (client_after keep_write k steps)
rests_same keep_write k [] a = same_of k
rests_same keep_write k (ChangeCache m ∷ steps) a = same_more k (after_client_step keep_write k (ChangeCache m)) _ (record { number = rest_number keep_write k.cache m a.0; status = rest_status keep_write k.cache m a.0; outcome = refl }) (rests_same keep_write (after_client_step keep_write k (ChangeCache m)) steps a.1)
rests_same keep_write k (Say b ∷ steps) a = rests_same keep_write k steps a.1
rests_same keep_write k (SetAsk x ∷ steps) a = same_more k (after_client_step keep_write k (SetAsk x)) _ (record { number = refl; status = refl; outcome = refl }) (rests_same keep_write (after_client_step keep_write k (SetAsk x)) steps a)
rests_same keep_write k (MarkWanted p ∷ steps) a = same_more k (after_client_step keep_write k (MarkWanted p)) _ (record { number = refl; status = refl; outcome = refl }) (rests_same keep_write (after_client_step keep_write k (MarkWanted p)) steps a)
rests_same keep_write k (MarkDue p ∷ steps) a = same_more k (after_client_step keep_write k (MarkDue p)) _ (record { number = refl; status = refl; outcome = refl }) (rests_same keep_write (after_client_step keep_write k (MarkDue p)) steps a)
rests_same keep_write k (MarkDueDowngrade p y ∷ steps) a = same_more k (after_client_step keep_write k (MarkDueDowngrade p y)) _ (record { number = refl; status = refl; outcome = refl }) (rests_same keep_write (after_client_step keep_write k (MarkDueDowngrade p y)) steps a)
rests_same keep_write k (EndTransaction l ∷ steps) a = absurd a

pub rest_append : (xs ys : List ClientStep) → Rests xs → Rests ys → Rests (xs ++ ys)
rest_append [] ys a b = b
rest_append (ChangeCache m ∷ xs) ys a b = (a.0, rest_append xs ys a.1 b)
rest_append (Say y ∷ xs) ys a b = (a.0, rest_append xs ys a.1 b)
rest_append (SetAsk x ∷ xs) ys a b = rest_append xs ys a b
rest_append (MarkWanted p ∷ xs) ys a b = rest_append xs ys a b
rest_append (MarkDue p ∷ xs) ys a b = rest_append xs ys a b
rest_append (MarkDueDowngrade p y ∷ xs) ys a b = rest_append xs ys a b
rest_append (EndTransaction l ∷ xs) ys a b = absurd a

rest_give_back : (p : ℕ) (g : Option ℕ) → Rests (give_back p g)
rest_give_back p None = tt
rest_give_back p (Some g) = (tt, (tt, tt))

rest_give_down : (p : ℕ) (d : Option DueDowngrade) → Rests (give_down p d)
rest_give_down p None = tt
rest_give_down p (Some d) = (tt, (tt, tt))

rest_lets_go : (k : Client) (let_go : Option ℕ) → Rests (let_page_go k let_go)
rest_lets_go k None = tt
rest_lets_go k (Some p) = go (k.cache.locked p)
  where
    go : (r : Bool) → Rests (if r then ChangeCache (MakeBare p) ∷ [] else give_back p (k.cache.held p))
    go true = (tt, tt)
    go false = rest_give_back p (k.cache.held p)

rest_end_page : (k : Client) (dropped : Bool) (p : ℕ) (g : Option ℕ) → Rests (end_page k dropped p g)
rest_end_page k dropped p None = tt
rest_end_page k dropped p (Some g) = go (dropped && k.cache.wrote p) (k.due p || is_none (k.cache.content p)) dropped
  where
    go : (r u d : Bool) → Rests (if r then Say (GiveBack p g) ∷ [] else if u then give_back p (Some g) else if d then [] else give_down p (k.due_downgrade p))
    go true u d = (tt, tt)
    go false true d = (tt, (tt, tt))
    go false false true = tt
    go false false false = rest_give_down p (k.due_downgrade p)

-- the pages at a transaction's end
pub rest_end_pages : (k : Client) (dropped : Bool) (n : ℕ) → Rests (end_pages k dropped n)
rest_end_pages k dropped zero = tt
rest_end_pages k dropped (suc n) = rest_append (end_pages k dropped n) (end_page k dropped n (k.cache.held n)) (rest_end_pages k dropped n) (rest_end_page k dropped n (k.cache.held n))

rest_granted : (k : Client) (p g v : ℕ) (b : Bytes) (let_go : Option ℕ) (r : Option ℕ) → Rests (take_granted k p g v b let_go r)
rest_granted k p g v b let_go r = go r (nat_lt (k.cache.seen p) g && asks_to_read k.ask p)
  where
    held : (o : Option Bytes) (q : Bool) → Rests (elim o [ Some y ↦ [] | None ↦ if q then let_page_go k let_go ++ SetAsk NoAsk ∷ ChangeCache (Fill p g b) ∷ [] else [] ])
    held (Some y) q = tt
    held None true = rest_append (let_page_go k let_go) (SetAsk NoAsk ∷ ChangeCache (Fill p g b) ∷ []) (rest_lets_go k let_go) (tt, tt)
    held None false = tt

    match : (q : Bool) → Rests (if q then take_granted_held k p g v b let_go (k.cache.content p) else refuse_grant p g)
    match true = held (k.cache.content p) ((k.cache.version p == v) && asks_to_read k.ask p)
    match false = (tt, (tt, tt))

    go : (x : Option ℕ) (q : Bool) → Rests (elim x [ Some y ↦ (if y == g then take_granted_held k p g v b let_go (k.cache.content p) else refuse_grant p g) | None ↦ (if q then let_page_go k let_go ++ SetAsk NoAsk ∷ ChangeCache (Install p g v b) ∷ ChangeCache (Lock p) ∷ [] else refuse_grant p g) ])
    go (Some y) q = match (y == g)
    go None true = rest_append (let_page_go k let_go) (SetAsk NoAsk ∷ ChangeCache (Install p g v b) ∷ ChangeCache (Lock p) ∷ []) (rest_lets_go k let_go) (tt, (tt, tt))
    go None false = (tt, (tt, tt))

-- the body is neither a Done nor an AbortNow
abbrev pub EndsNothing : Body → Type 0
EndsNothing (Done t n) = ⊥
EndsNothing (AbortNow t) = ⊥
EndsNothing _ = ⊤

-- a message that ends no transaction
pub rest_hears : (L : Limits) (k : Client) (y : Body) (let_go : Option ℕ) → EndsNothing y → Rests (take_welcomed L k y let_go)
rest_hears L k (Granted p g v b) let_go a = rest_granted k p g v b let_go (k.cache.held p)
rest_hears L k (MayWrite t p g) let_go a = go (of_open_txn k t && asks_to_write k.ask p && is_exactly (k.cache.held p) g)
  where
    go : (r : Bool) → Rests (if r then SetAsk NoAsk ∷ ChangeCache (TakePermission p) ∷ [] else [])
    go true = (tt, tt)
    go false = tt
rest_hears L k (Callback p g) let_go a = go (is_exactly (k.cache.held p) g) (k.cache.locked p)
  where
    go : (r u : Bool) → Rests (if r then (if u then MarkDue p ∷ Say (InUse k.cache.number p g) ∷ [] else give_back p (Some g)) else refuse_grant p g)
    go true true = (tt, tt)
    go true false = (tt, (tt, tt))
    go false u = (tt, (tt, tt))
rest_hears L k (Done t n) let_go a = absurd a
rest_hears L k (AbortNow t) let_go a = absurd a
rest_hears L k (Downgrade p g t) let_go a = go L.keep_write
  where
    down : (r u v : Bool) → Rests (if not r then refuse_grant p g else if not u then Say (Downgraded p g t) ∷ [] else if v then MarkDueDowngrade p (record { grant = g; tag = t }) ∷ Say (InUse k.cache.number p g) ∷ [] else ChangeCache (YieldPermission p) ∷ Say (Downgraded p g t) ∷ [])
    down false u v = (tt, (tt, tt))
    down true false v = (tt, tt)
    down true true true = (tt, tt)
    down true true false = (tt, (tt, tt))

    go : (q : Bool) → Rests (if q then take_downgrade k p g t else [])
    go true = down (is_exactly (k.cache.held p) g) (k.cache.may_write p && (k.cache.tag p == t)) (is_fixed k p)
    go false = tt
rest_hears L k _ let_go a = tt

rest_ask_write : (k : Client) (p : ℕ) (r : Option ℕ) → Rests (say_ask_write k p r)
rest_ask_write k p None = tt
rest_ask_write k p (Some g) = (tt, tt)

-- what is said again, but for the Commit
pub rest_ask : (k : Client) (a : Ask) → Rests (say_ask k a)
rest_ask k NoAsk = tt
rest_ask k (ReadAsk p) = (tt, tt)
rest_ask k (WriteAsk p) = rest_ask_write k p (k.cache.held p)

pub rest_drop : (k : Client) (o : LastOutcome) → Rests (say_drop k o)
rest_drop k NoneEnded = tt
rest_drop k (Committed n) = tt
rest_drop k Dropped = (tt, tt)
rest_drop k Aborted = (tt, tt)

-- a read and a want
pub rest_read : (L : Limits) (k : Client) (p : ℕ) → Rests (accept_call L k (CallRead p)).steps
rest_read L k p = go (k.cache.content p)
  where
    go : (o : Option Bytes) → Rests (read_page k p o).steps
    go (Some b) = (tt, tt)
    go None = (tt, tt)

pub rest_want : (L : Limits) (k : Client) (p : ℕ) → Rests (accept_call L k (CallWant p)).steps
rest_want L k p = go (k.cache.may_write p)
  where
    go : (q : Bool) → Rests (if q then reply_with Permitted (MarkWanted p ∷ []) else reply_with Asked (MarkWanted p ∷ SetAsk (WriteAsk p) ∷ say_ask_write k p (k.cache.held p))).steps
    go true = tt
    go false = rest_ask_write k p (k.cache.held p)
