-- Whatever its state, a client says only what goes to the server: no Done is of a client.
use Rattle.std.proofs.Common.{Bool, List, None, Option, Some, [], false, if◌then◌else◌, inl, inr, nat_lt, not, refl, subst, suc, true, zero, ℕ, ◌&&◌, ◌++◌, ◌==◌, ◌||◌, ◌∷◌, ◌≡◌}
use Rattle.std.specs.Prelude.{⊤}
use Rattle.cb_protocol.specs.Basics.{Bytes, IsIn, Limits, is_exactly, is_none}
use Rattle.cb_protocol.specs.Cache.{Fill, Install, Lock, MakeBare, TakeDone, TakePermission, YieldPermission, is_committing}
use Rattle.cb_protocol.specs.Client.{Aborted, Ask, ChangeCache, Client, ClientStep, Committed, Dropped, DueDowngrade, EndTransaction, LastOutcome, MarkDue, MarkDueDowngrade, MarkWanted, NoAsk, NoneEnded, ReadAsk, Say, SetAsk, WriteAsk, asks_to_read, asks_to_write, bodies_said, is_fixed}
use Rattle.cb_protocol.specs.ClientCalls.{Call, CallAgain, CallBegin, CallDrop, CallFinish, CallHello, CallPeek, CallRead, CallWant, CallWrite, accept_call, accept_or_refuse, call_fault, client_again, client_call, commit_again, read_page, reply_with, say_ask, say_ask_write, say_commit, say_drop}
use Rattle.cb_protocol.specs.ClientEnd.{drop_transaction, end_page, end_pages, give_back, give_down, refuse_grant}
use Rattle.cb_protocol.specs.ClientMessages.{client_take, let_page_go, of_committing_txn, of_open_txn, take_downgrade, take_granted, take_granted_held, take_welcomed}
use Rattle.cb_protocol.specs.Messages.{AbortNow, Body, Callback, Done, Downgrade, Downgraded, GiveBack, Granted, Hello, InUse, MayWrite, Message, Welcome, to_server}
use Rattle.cb_protocol.specs.Answers.{Asked, ClientFault, Permitted}
use Rattle.cb_protocol.specs.World.{messages_said}

-- each message said goes to the server
abbrev pub ToServer : List ClientStep → Type 0
ToServer [] = ⊤
ToServer (Say b ∷ steps) = (to_server b ≡ true) × ToServer steps
ToServer (_ ∷ steps) = ToServer steps

to_append : (xs ys : List ClientStep) → ToServer xs → ToServer ys → ToServer (xs ++ ys)
to_append [] ys a b = b
to_append (ChangeCache m ∷ xs) ys a b = to_append xs ys a b
to_append (Say y ∷ xs) ys a b = (a.0, to_append xs ys a.1 b)
to_append (SetAsk x ∷ xs) ys a b = to_append xs ys a b
to_append (MarkWanted p ∷ xs) ys a b = to_append xs ys a b
to_append (MarkDue p ∷ xs) ys a b = to_append xs ys a b
to_append (MarkDueDowngrade p y ∷ xs) ys a b = to_append xs ys a b
to_append (EndTransaction l ∷ xs) ys a b = to_append xs ys a b

to_give_back : (p : ℕ) (g : Option ℕ) → ToServer (give_back p g)
to_give_back p None = tt
to_give_back p (Some g) = (refl, tt)

to_give_down : (p : ℕ) (d : Option DueDowngrade) → ToServer (give_down p d)
to_give_down p None = tt
to_give_down p (Some d) = (refl, tt)

to_lets_go : (k : Client) (let_go : Option ℕ) → ToServer (let_page_go k let_go)
to_lets_go k None = tt
to_lets_go k (Some p) = go (k.cache.locked p)
  where
    go : (r : Bool) → ToServer (if r then ChangeCache (MakeBare p) ∷ [] else give_back p (k.cache.held p))
    go true = tt
    go false = to_give_back p (k.cache.held p)

to_end_page : (k : Client) (dropped : Bool) (p : ℕ) (g : Option ℕ) → ToServer (end_page k dropped p g)
to_end_page k dropped p None = tt
to_end_page k dropped p (Some g) = go (dropped && k.cache.wrote p) (k.due p || is_none (k.cache.content p)) dropped
  where
    go : (r u d : Bool) → ToServer (if r then Say (GiveBack p g) ∷ [] else if u then give_back p (Some g) else if d then [] else give_down p (k.due_downgrade p))
    go true u d = (refl, tt)
    go false true d = (refl, tt)
    go false false true = tt
    go false false false = to_give_down p (k.due_downgrade p)

to_end_pages : (k : Client) (dropped : Bool) (n : ℕ) → ToServer (end_pages k dropped n)
to_end_pages k dropped zero = tt
to_end_pages k dropped (suc n) = to_append (end_pages k dropped n) (end_page k dropped n (k.cache.held n)) (to_end_pages k dropped n) (to_end_page k dropped n (k.cache.held n))

to_granted : (k : Client) (p g v : ℕ) (b : Bytes) (let_go : Option ℕ) (r : Option ℕ) → ToServer (take_granted k p g v b let_go r)
to_granted k p g v b let_go r = go r (nat_lt (k.cache.seen p) g && asks_to_read k.ask p)
  where
    held : (o : Option Bytes) (q : Bool) → ToServer (elim o [ Some y ↦ [] | None ↦ if q then let_page_go k let_go ++ SetAsk NoAsk ∷ ChangeCache (Fill p g b) ∷ [] else [] ])
    held (Some y) q = tt
    held None true = to_append (let_page_go k let_go) (SetAsk NoAsk ∷ ChangeCache (Fill p g b) ∷ []) (to_lets_go k let_go) tt
    held None false = tt

    match : (q : Bool) → ToServer (if q then take_granted_held k p g v b let_go (k.cache.content p) else refuse_grant p g)
    match true = held (k.cache.content p) ((k.cache.version p == v) && asks_to_read k.ask p)
    match false = (refl, tt)

    go : (x : Option ℕ) (q : Bool) → ToServer (elim x [ Some y ↦ (if y == g then take_granted_held k p g v b let_go (k.cache.content p) else refuse_grant p g) | None ↦ (if q then let_page_go k let_go ++ SetAsk NoAsk ∷ ChangeCache (Install p g v b) ∷ ChangeCache (Lock p) ∷ [] else refuse_grant p g) ])
    go (Some y) q = match (y == g)
    go None true = to_append (let_page_go k let_go) (SetAsk NoAsk ∷ ChangeCache (Install p g v b) ∷ ChangeCache (Lock p) ∷ []) (to_lets_go k let_go) tt
    go None false = (refl, tt)

to_hears : (L : Limits) (k : Client) (y : Body) (let_go : Option ℕ) → ToServer (take_welcomed L k y let_go)
to_hears L k (Granted p g v b) let_go = to_granted k p g v b let_go (k.cache.held p)
to_hears L k (MayWrite t p g) let_go = go (of_open_txn k t && asks_to_write k.ask p && is_exactly (k.cache.held p) g)
  where
    go : (r : Bool) → ToServer (if r then SetAsk NoAsk ∷ ChangeCache (TakePermission p) ∷ [] else [])
    go true = tt
    go false = tt
to_hears L k (Callback p g) let_go = go (is_exactly (k.cache.held p) g) (k.cache.locked p)
  where
    go : (r u : Bool) → ToServer (if r then (if u then MarkDue p ∷ Say (InUse k.cache.number p g) ∷ [] else give_back p (Some g)) else refuse_grant p g)
    go true true = (refl, tt)
    go true false = (refl, tt)
    go false u = (refl, tt)
to_hears L k (Done t n) let_go = go (of_committing_txn k t)
  where
    go : (q : Bool) → ToServer (if q then EndTransaction (Committed n) ∷ ChangeCache (TakeDone n) ∷ end_pages k false L.pages else [])
    go true = to_end_pages k false L.pages
    go false = tt
to_hears L k (AbortNow t) let_go = go (of_open_txn k t)
  where
    go : (q : Bool) → ToServer (if q then drop_transaction L k Aborted else [])
    go true = (refl, to_end_pages k true L.pages)
    go false = tt
to_hears L k (Downgrade p g t) let_go = go L.keep_write
  where
    down : (r u v : Bool) → ToServer (if not r then refuse_grant p g else if not u then Say (Downgraded p g t) ∷ [] else if v then MarkDueDowngrade p (record { grant = g; tag = t }) ∷ Say (InUse k.cache.number p g) ∷ [] else ChangeCache (YieldPermission p) ∷ Say (Downgraded p g t) ∷ [])
    down false u v = (refl, tt)
    down true false v = (refl, tt)
    down true true true = (refl, tt)
    down true true false = (refl, tt)

    go : (q : Bool) → ToServer (if q then take_downgrade k p g t else [])
    go true = down (is_exactly (k.cache.held p) g) (k.cache.may_write p && (k.cache.tag p == t)) (is_fixed k p)
    go false = tt
to_hears L k _ let_go = tt

-- at a message
pub takes_speak : (L : Limits) (k : Client) (y : Body) (let_go : Option ℕ) → ToServer (client_take L k y let_go)
unfolding client_take
takes_speak L k Welcome let_go = tt
takes_speak L k y let_go = go k.cache.welcomed
  where
    go : (q : Bool) → ToServer (if q then take_welcomed L k y let_go else [])
    go true = to_hears L k y let_go
    go false = tt

to_ask_write : (k : Client) (p : ℕ) (r : Option ℕ) → ToServer (say_ask_write k p r)
to_ask_write k p None = tt
to_ask_write k p (Some g) = (refl, tt)

to_ask : (k : Client) (a : Ask) → ToServer (say_ask k a)
to_ask k NoAsk = tt
to_ask k (ReadAsk p) = (refl, tt)
to_ask k (WriteAsk p) = to_ask_write k p (k.cache.held p)

to_drop : (k : Client) (o : LastOutcome) → ToServer (say_drop k o)
to_drop k NoneEnded = tt
to_drop k (Committed n) = tt
to_drop k Dropped = (refl, tt)
to_drop k Aborted = (refl, tt)

to_again : (L : Limits) (k : Client) → ToServer (client_again L k)
to_again L k = go k.cache.welcomed
  where
    commits : (r : Bool) → ToServer (if r then say_commit L k else [])
    commits true = (refl, tt)
    commits false = tt

    go : (r : Bool) → ToServer (if r then say_drop k k.last_outcome ++ (say_ask k k.ask ++ commit_again L k) else Say Hello ∷ [])
    go true = to_append (say_drop k k.last_outcome) (say_ask k k.ask ++ commit_again L k) (to_drop k k.last_outcome) (to_append (say_ask k k.ask) (commit_again L k) (to_ask k k.ask) (commits (is_committing k.cache.status)))
    go false = (refl, tt)

to_accept : (L : Limits) (k : Client) (x : Call) → ToServer (accept_call L k x).steps
to_accept L k CallHello = (refl, tt)
to_accept L k CallBegin = tt
to_accept L k (CallRead p) = go (k.cache.content p)
  where
    go : (o : Option Bytes) → ToServer (read_page k p o).steps
    go (Some b) = tt
    go None = (refl, tt)
to_accept L k (CallWant p) = go (k.cache.may_write p)
  where
    go : (q : Bool) → ToServer (if q then reply_with Permitted (MarkWanted p ∷ []) else reply_with Asked (MarkWanted p ∷ SetAsk (WriteAsk p) ∷ say_ask_write k p (k.cache.held p))).steps
    go true = tt
    go false = to_ask_write k p (k.cache.held p)
to_accept L k (CallWrite p b) = tt
to_accept L k CallFinish = (refl, tt)
to_accept L k CallDrop = (refl, to_end_pages k true L.pages)
to_accept L k CallAgain = to_again L k
to_accept L k (CallPeek p) = tt

-- at a call
pub calls_speak : (L : Limits) (k : Client) (x : Call) → ToServer (client_call L k x).steps
unfolding client_call
calls_speak L k x = go (call_fault L k x)
  where
    go : (f : Option ClientFault) → ToServer (accept_or_refuse L k x f).steps
    go (Some f) = tt
    go None = to_accept L k x

-- so no Done is among it
pub speaks_no_done : (steps : List ClientStep) (c i d j t n : ℕ) → ToServer steps → IsIn (record { client = c; incarnation = i; body = Done t n }) (messages_said d j (bodies_said steps)) → ⊥
speaks_no_done [] c i d j t n a x = absurd x
speaks_no_done (ChangeCache m ∷ steps) c i d j t n a x = speaks_no_done steps c i d j t n a x
speaks_no_done (Say b ∷ steps) c i d j t n a x = elim x [
  | inl q ↦ (let e : to_server (Done t n) ≡ true = subst (λ (f : Message). to_server f.body ≡ true) q a.0 in absurd cc)
  | inr y ↦ speaks_no_done steps c i d j t n a.1 y
]
speaks_no_done (SetAsk y ∷ steps) c i d j t n a x = speaks_no_done steps c i d j t n a x
speaks_no_done (MarkWanted p ∷ steps) c i d j t n a x = speaks_no_done steps c i d j t n a x
speaks_no_done (MarkDue p ∷ steps) c i d j t n a x = speaks_no_done steps c i d j t n a x
speaks_no_done (MarkDueDowngrade p y ∷ steps) c i d j t n a x = speaks_no_done steps c i d j t n a x
speaks_no_done (EndTransaction l ∷ steps) c i d j t n a x = speaks_no_done steps c i d j t n a x
