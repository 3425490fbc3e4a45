-- What a client does while its transaction goes on: walked once, for every law about single steps.
use Rattle.std.proofs.Common.{Bool, List, None, Option, Some, [], arith, false, if◌then◌else◌, length, nat_lt, not, refl, true, ℕ, ◌&&◌, ◌++◌, ◌==◌, ◌∷◌, ◌≡◌, ◌≢◌}
use Rattle.std.specs.Prelude.{⊤}
use Rattle.cb_protocol.proofs.ClientInvariant.{not_first}
use Rattle.cb_protocol.proofs.PageComes.{brings_after, steps_granted, steps_held, steps_kept}
use Rattle.cb_protocol.specs.Answers.{Asked, ClientFault, NotWritable, Permitted, WrongLength}
use Rattle.cb_protocol.specs.Basics.{Bytes, Limits, is_exactly, is_none}
use Rattle.cb_protocol.specs.Cache.{Abandon, Fill, Install, LetGo, Lock, MakeBare, TakeDone, TakePermission, WriteBytes, YieldPermission, is_committing}
use Rattle.cb_protocol.specs.Client.{Aborted, Ask, ChangeCache, Client, ClientStep, Committed, Dropped, EndTransaction, LastOutcome, MarkDue, MarkDueDowngrade, MarkWanted, NoAsk, NoneEnded, ReadAsk, Say, SetAsk, WriteAsk, asks_to_read, asks_to_write, is_fixed}
use Rattle.cb_protocol.specs.ClientAlone.{EndsDropped, GoesOn, ReceivesCall, ReceivesMessage, ending}
use Rattle.cb_protocol.specs.ClientCalls.{Call, Cause, page_causes, read_causes, cause_of, CallAgain, CallBegin, CallDrop, CallFinish, CallHello, CallPeek, CallRead, CallWant, CallWrite, accept_call, accept_or_refuse, call_fault, causes, client_again, client_call, first_refusal, open_causes, read_page, reply_with, say_ask, say_ask_write, say_commit, say_drop}
use Rattle.cb_protocol.specs.ClientEnd.{drop_transaction, end_pages, give_back, refuse_grant}
use Rattle.cb_protocol.specs.ClientMessages.{brings_page, client_take, let_page_go, of_committing_txn, of_open_txn, take_callback, take_downgrade, take_granted, take_welcomed}
use Rattle.cb_protocol.specs.ClientLaws.{IsHere}
use Rattle.cb_protocol.specs.Messages.{AbortNow, Body, Callback, Done, Downgrade, Downgraded, Granted, Hello, InUse, MayWrite, Welcome}

-- The pages that steps may take from the pool, give up, or let a transaction want or write.
pub record Leave : Type 1 where
  pub bare : ℕ → Type 0
  pub gone : ℕ → Type 0
  pub wanted : ℕ → Type 0

-- a step while the transaction of client k goes on
abbrev pub OnStep : Client → Leave → ClientStep → Type 0
OnStep k v (ChangeCache Abandon) = ⊥
OnStep k v (ChangeCache (TakeDone n)) = ⊥
OnStep k v (ChangeCache (LetGo q)) = v.gone q
OnStep k v (ChangeCache (Install q g x b)) = k.cache.held q ≡ None
OnStep k v (ChangeCache (MakeBare q)) = v.bare q
OnStep k v (ChangeCache (WriteBytes q b)) = v.wanted q
OnStep k v (MarkWanted q) = v.wanted q
OnStep k v (EndTransaction l) = ⊥
OnStep k v _ = ⊤

abbrev pub OnSteps : Client → Leave → List ClientStep → Type 0
OnSteps k v [] = ⊤
OnSteps k v (a ∷ steps) = OnStep k v a × OnSteps k v steps

on_append : (k : Client) (v : Leave) (xs ys : List ClientStep) → OnSteps k v xs → OnSteps k v ys → OnSteps k v (xs ++ ys)
on_append k v [] ys a b = b
on_append k v (x ∷ xs) ys a b = (a.0, on_append k v xs ys a.1 b)

-- messages alone
on_ask_write : (k : Client) (v : Leave) (q : ℕ) (r : Option ℕ) → OnSteps k v (say_ask_write k q r)
on_ask_write k v q None = tt
on_ask_write k v q (Some x) = (tt, tt)

on_again : (L : Limits) (k : Client) (v : Leave) → OnSteps k v (client_again L k)
on_again L k v = go k.cache.welcomed (is_committing k.cache.status)
  where
    drop : (l : LastOutcome) → OnSteps k v (say_drop k l)
    drop NoneEnded = tt
    drop (Committed n) = tt
    drop Dropped = (tt, tt)
    drop Aborted = (tt, tt)

    ask : (a : Ask) → OnSteps k v (say_ask k a)
    ask NoAsk = tt
    ask (ReadAsk q) = (tt, tt)
    ask (WriteAsk q) = on_ask_write k v q (k.cache.held q)

    commit : (u : Bool) → OnSteps k v (if u then say_commit L k else [])
    commit true = (tt, tt)
    commit false = tt

    go : (r u : Bool) → OnSteps k v (if r then say_drop k k.last_outcome ++ (say_ask k k.ask ++ (if u then say_commit L k else [])) else Say Hello ∷ [])
    go true u = on_append k v (say_drop k k.last_outcome) _ (drop k.last_outcome) (on_append k v (say_ask k k.ask) _ (ask k.ask) (commit u))
    go false u = (tt, tt)

-- a call other than a drop
on_reads : (k : Client) (v : Leave) (q : ℕ) (r : Option Bytes) → OnSteps k v (read_page k q r).steps
on_reads k v q None = (tt, (tt, tt))
on_reads k v q (Some b) = (tt, tt)

on_wants : (k : Client) (v : Leave) (q : ℕ) (u : Bool) → v.wanted q
    → OnSteps k v (if u then reply_with Permitted (MarkWanted q ∷ []) else reply_with Asked (MarkWanted q ∷ SetAsk (WriteAsk q) ∷ say_ask_write k q (k.cache.held q))).steps
on_wants k v q true w = (w, tt)
on_wants k v q false w = (w, (tt, on_ask_write k v q (k.cache.held q)))

-- a page that may be wanted or written
here_read : (k : Client) (q : ℕ) → first_refusal (read_causes k q) ≡ None → IsHere k q
here_read k q f = record { bytes = grind arith; read = grind arith }

on_accepted : (L : Limits) (k : Client) (v : Leave) (c : Call) → ((q : ℕ) → IsHere k q → v.wanted q) → first_refusal (causes L k c) ≡ None → c ≢ CallDrop
    → OnSteps k v (accept_call L k c).steps
on_accepted L k v CallHello w f n = (tt, tt)
on_accepted L k v CallBegin w f n = (tt, tt)
on_accepted L k v (CallRead q) w f n = on_reads k v q (k.cache.content q)
on_accepted L k v (CallWant q) w f n = on_wants k v q (k.cache.may_write q) (w q (here_read k q (not_first (page_causes L k q) (read_causes k q) f).1))
on_accepted L k v (CallWrite q b) w f n = (w q (here_read k q (not_first (read_causes k q) more (not_first (page_causes L k q) (read_causes k q ++ more) f).1).0), tt)
  where
    more : List Cause
    more = cause_of (not (k.cache.may_write q)) NotWritable ∷ cause_of (not (length b == L.page_size)) WrongLength ∷ []
on_accepted L k v CallFinish w f n = (tt, (tt, tt))
on_accepted L k v CallDrop w f n = absurd (n refl)
on_accepted L k v CallAgain w f n = on_again L k v
on_accepted L k v (CallPeek q) w f n = tt

on_other : (L : Limits) (k : Client) (v : Leave) (c : Call) → ((q : ℕ) → IsHere k q → v.wanted q) → c ≢ CallDrop → OnSteps k v (client_call L k c).steps
unfolding call_fault client_call
on_other L k v c w n = go (first_refusal (causes L k c)) refl
  where
    go : (f : Option ClientFault) → first_refusal (causes L k c) ≡ f → OnSteps k v (accept_or_refuse L k c f).steps
    go (Some y) f = tt
    go None f = on_accepted L k v c w f n

on_drop : (L : Limits) (k : Client) (v : Leave) → ending L k (ReceivesCall CallDrop) ≡ GoesOn → OnSteps k v (client_call L k CallDrop).steps
unfolding call_fault client_call
on_drop L k v e = go (first_refusal (open_causes k)) e
  where
    go : (f : Option ClientFault) → (if is_none f then EndsDropped else GoesOn) ≡ GoesOn → OnSteps k v (accept_or_refuse L k CallDrop f).steps
    go (Some y) e = tt
    go None e = absurd cc

pub on_call : (L : Limits) (k : Client) (v : Leave) (c : Call) → ((q : ℕ) → IsHere k q → v.wanted q) → ending L k (ReceivesCall c) ≡ GoesOn
    → OnSteps k v (client_call L k c).steps
on_call L k v CallDrop w e = on_drop L k v e
on_call L k v CallHello w e = on_other L k v CallHello w (λ z. absurd cc)
on_call L k v CallBegin w e = on_other L k v CallBegin w (λ z. absurd cc)
on_call L k v (CallRead q) w e = on_other L k v (CallRead q) w (λ z. absurd cc)
on_call L k v (CallWant q) w e = on_other L k v (CallWant q) w (λ z. absurd cc)
on_call L k v (CallWrite q b) w e = on_other L k v (CallWrite q b) w (λ z. absurd cc)
on_call L k v CallFinish w e = on_other L k v CallFinish w (λ z. absurd cc)
on_call L k v CallAgain w e = on_other L k v CallAgain w (λ z. absurd cc)
on_call L k v (CallPeek q) w e = on_other L k v (CallPeek q) w (λ z. absurd cc)

-- a message that ends no transaction
on_lets_go : (k : Client) (v : Leave) (let_go : Option ℕ) → ((q : ℕ) → let_go ≡ Some q → v.bare q) → ((q : ℕ) → k.cache.locked q ≡ false → v.gone q)
    → OnSteps k v (let_page_go k let_go)
on_lets_go k v None f n = tt
on_lets_go k v (Some q) f n = go (k.cache.locked q) refl (k.cache.held q)
  where
    go : (r : Bool) → k.cache.locked q ≡ r → (h : Option ℕ) → OnSteps k v (if r then ChangeCache (MakeBare q) ∷ [] else give_back q h)
    go true e h = (f q refl, tt)
    go false e None = tt
    go false e (Some x) = (n q e, (tt, tt))

-- what the pool lets go, where a page comes in
abbrev pub LetsGoWhere : Leave → Option ℕ → List ClientStep → Type 0
LetsGoWhere v let_go steps = brings_page steps ≡ true → (q : ℕ) → let_go ≡ Some q → v.bare q

-- at a message, welcomed or not
abbrev pub WelcomedLets : Leave → Client → Body → Option ℕ → Type 0
WelcomedLets v k (Granted p g x b) let_go = LetsGoWhere v let_go (take_granted k p g x b let_go (k.cache.held p))
WelcomedLets v k _ let_go = ⊤

abbrev pub MessageLets : Leave → Limits → Client → Body → Option ℕ → Type 0
MessageLets v L k (Granted p g x b) let_go = LetsGoWhere v let_go (client_take L k (Granted p g x b) let_go)
MessageLets v L k _ let_go = ⊤

welcomed_lets : (v : Leave) (L : Limits) (k : Client) (b : Body) (let_go : Option ℕ) → k.cache.welcomed ≡ true → MessageLets v L k b let_go → WelcomedLets v k b let_go
unfolding client_take
welcomed_lets v L k (Granted p g x b) let_go w u = λ f. u (rw w f)
welcomed_lets v L k _ let_go w u = tt

on_granted : (k : Client) (v : Leave) (p g x : ℕ) (b : Bytes) (let_go : Option ℕ) → ((q : ℕ) → k.cache.locked q ≡ false → v.gone q)
    → LetsGoWhere v let_go (take_granted k p g x b let_go (k.cache.held p)) → OnSteps k v (take_granted k p g x b let_go (k.cache.held p))
on_granted k v p g x b let_go n u = go (k.cache.held p) refl (nat_lt (k.cache.seen p) g && asks_to_read k.ask p) u
  where
    held : (o : Option Bytes) (q : Bool) → LetsGoWhere v let_go (steps_held k p g b let_go o q) → OnSteps k v (steps_held k p g b let_go o q)
    held (Some y) q u = tt
    held None true u = on_append k v (let_page_go k let_go) _ (on_lets_go k v let_go (u (brings_after k let_go (SetAsk NoAsk ∷ ChangeCache (Fill p g b) ∷ []) refl)) n) (tt, (tt, tt))
    held None false u = tt

    match : (q : Bool) → LetsGoWhere v let_go (steps_kept k p g x b let_go q) → OnSteps k v (steps_kept k p g x b let_go q)
    match true u = held (k.cache.content p) ((k.cache.version p == x) && asks_to_read k.ask p) u
    match false u = (tt, (tt, tt))

    go : (r : Option ℕ) → k.cache.held p ≡ r → (q : Bool) → LetsGoWhere v let_go (steps_granted k p g x b let_go r q) → OnSteps k v (steps_granted k p g x b let_go r q)
    go (Some y) e q u = match (y == g) u
    go None e true u = on_append k v (let_page_go k let_go) _ (on_lets_go k v let_go (u (brings_after k let_go (SetAsk NoAsk ∷ ChangeCache (Install p g x b) ∷ ChangeCache (Lock p) ∷ []) refl)) n) (tt, (e, (tt, tt)))
    go None e false u = (tt, (tt, tt))

on_called : (k : Client) (v : Leave) (p g : ℕ) → ((q : ℕ) → k.cache.locked q ≡ false → v.gone q) → OnSteps k v (take_callback k p g)
on_called k v p g n = go (is_exactly (k.cache.held p) g) (k.cache.locked p) refl
  where
    go : (r u : Bool) → k.cache.locked p ≡ u → OnSteps k v (if r then (if u then MarkDue p ∷ Say (InUse k.cache.number p g) ∷ [] else give_back p (Some g)) else refuse_grant p g)
    go true true e = (tt, (tt, tt))
    go true false e = (n p e, (tt, tt))
    go false u e = (tt, (tt, tt))

on_downgraded : (k : Client) (v : Leave) (p g t : ℕ) → OnSteps k v (take_downgrade k p g t)
on_downgraded k v p g t = go (is_exactly (k.cache.held p) g) (k.cache.may_write p && (k.cache.tag p == t)) (is_fixed k p)
  where
    go : (r u w : Bool) → OnSteps k v (if not r then refuse_grant p g else if not u then Say (Downgraded p g t) ∷ [] else if w then MarkDueDowngrade p (record { grant = g; tag = t }) ∷ Say (InUse k.cache.number p g) ∷ [] else ChangeCache (YieldPermission p) ∷ Say (Downgraded p g t) ∷ [])
    go false u w = (tt, (tt, tt))
    go true false w = (tt, tt)
    go true true true = (tt, (tt, tt))
    go true true false = (tt, (tt, tt))

on_welcomed : (L : Limits) (k : Client) (v : Leave) (b : Body) (let_go : Option ℕ) → ((q : ℕ) → k.cache.locked q ≡ false → v.gone q)
    → WelcomedLets v k b let_go → ending L k (ReceivesMessage b let_go) ≡ GoesOn → k.cache.welcomed ≡ true
    → OnSteps k v (take_welcomed L k b let_go)
on_welcomed L k v (Granted p g x b) let_go n u e w = on_granted k v p g x b let_go n u
on_welcomed L k v (MayWrite t p g) let_go n u e w = go (of_open_txn k t && asks_to_write k.ask p && is_exactly (k.cache.held p) g)
  where
    go : (r : Bool) → OnSteps k v (if r then SetAsk NoAsk ∷ ChangeCache (TakePermission p) ∷ [] else [])
    go true = (tt, (tt, tt))
    go false = tt
on_welcomed L k v (Callback p g) let_go n u e w = on_called k v p g n
on_welcomed L k v (Done t m) let_go n u e w = go (of_committing_txn k t) refl
  where
    wrong : of_committing_txn k t ≡ true → ⊥
    wrong f = grind arith

    go : (r : Bool) → of_committing_txn k t ≡ r → OnSteps k v (if r then EndTransaction (Committed m) ∷ ChangeCache (TakeDone m) ∷ end_pages k false L.pages else [])
    go true f = absurd (wrong f)
    go false f = tt
on_welcomed L k v (AbortNow t) let_go n u e w = go (of_open_txn k t) refl
  where
    wrong : of_open_txn k t ≡ true → ⊥
    wrong f = grind arith

    go : (r : Bool) → of_open_txn k t ≡ r → OnSteps k v (if r then drop_transaction L k Aborted else [])
    go true f = absurd (wrong f)
    go false f = tt
on_welcomed L k v (Downgrade p g t) let_go n u e w = go L.keep_write
  where
    go : (r : Bool) → OnSteps k v (if r then take_downgrade k p g t else [])
    go true = on_downgraded k v p g t
    go false = tt
on_welcomed L k v _ let_go n u e w = tt

pub on_message : (L : Limits) (k : Client) (v : Leave) (b : Body) (let_go : Option ℕ) → ((q : ℕ) → k.cache.locked q ≡ false → v.gone q)
    → MessageLets v L k b let_go → ending L k (ReceivesMessage b let_go) ≡ GoesOn → OnSteps k v (client_take L k b let_go)
unfolding client_take
on_message L k v Welcome let_go n u e = (tt, tt)
on_message L k v b let_go n u e = go k.cache.welcomed refl
  where
    go : (r : Bool) → k.cache.welcomed ≡ r → OnSteps k v (if r then take_welcomed L k b let_go else [])
    go true w = on_welcomed L k v b let_go n (welcomed_lets v L k b let_go w u) e w
    go false w = tt
