-- What a transaction uses stays while it goes on.
use Rattle.std.proofs.Common.{◌≡◌, ◌≢◌, ◌⊎◌, ◌&&◌, ◌==◌, ◌++◌, inl, inr, ℕ, Bool, true, false, ◌<◌, nat_le, nat_lt, if◌then◌else◌, not, List, [], ◌∷◌, Option, Some, None, refl, sym, ◌∙◌, ap, subst, arith, drop}
use Rattle.std.specs.Prelude.{⊤}
use Rattle.std.proofs.lemmas.Bool.Decides.{nat_tests}
use Rattle.cb_protocol.proofs.Cases.{call_accepted, call_refused, takes_welcomed}
use Rattle.cb_protocol.proofs.ClientInvariant.{not_first}
use Rattle.cb_protocol.proofs.ClientReady.{Plain, PlainChange, plain_pages}
use Rattle.cb_protocol.proofs.PageComes.{brings_after, steps_granted, steps_held, steps_kept}
use Rattle.cb_protocol.specs.Answers.{Asked, ClientFault, NoTransaction, NotWelcome, PageRange, Permitted, PoolFull, Waiting}
use Rattle.cb_protocol.specs.Basics.{Bytes, Limits, is_exactly, is_none}
use Rattle.cb_protocol.specs.Cache.{Abandon, Begin, CacheChange, Committing, Fill, Finish, Idle, Install, LetGo, Lock, MakeBare, Open, Read, RefuseGrant, TakeDone, TakePermission, TransactionState, WriteBytes, YieldPermission, is_idle}
use Rattle.cb_protocol.specs.Client.{Aborted, Ask, ChangeCache, Client, ClientStep, Committed, EndTransaction, MarkDue, MarkDueDowngrade, MarkWanted, NoAsk, ReadAsk, Say, SetAsk, WriteAsk, after_client_step, asks_to_read, asks_to_write, client_after, has_room, is_asking, is_fixed}
use Rattle.cb_protocol.specs.ClientCalls.{CallFinish, CallRead, CallWant, Cause, call_fault, cause_of, causes, client_call, first_refusal, open_causes, page_causes, reply_with, say_ask_write}
use Rattle.cb_protocol.specs.ClientEnd.{drop_transaction, end_pages, give_back, refuse_grant}
use Rattle.cb_protocol.specs.ClientMessages.{ChoiceAllowed, MayLetGo, brings_page, client_take, let_page_go, of_committing_txn, of_open_txn, take_callback, take_downgrade, take_granted, take_welcomed}
use Rattle.cb_protocol.specs.Messages.{AbortNow, Body, Callback, Done, Downgrade, Downgraded, Granted, InUse, MayWrite, Welcome}
use Rattle.cb_worker.specs.Keeping.{AsksNoPage, KeepsFixed, KeepsUsed, StaysFixed, Uses}

-- a step that ends no transaction and writes nothing, and takes or brings bytes of such pages alone
abbrev pub On : (ℕ → Type 0) → ClientStep → Type 0
On v (ChangeCache Begin) = ⊥
On v (ChangeCache Finish) = ⊥
On v (ChangeCache Abandon) = ⊥
On v (ChangeCache (TakeDone n)) = ⊥
On v (ChangeCache (LetGo q)) = v q
On v (ChangeCache (MakeBare q)) = v q
On v (ChangeCache (Install q g x b)) = v q
On v (ChangeCache (Fill q g b)) = v q
On v (ChangeCache (WriteBytes q b)) = ⊥
On v (SetAsk a) = (q : ℕ) → asks_to_read a q ≡ false
On v (EndTransaction l) = ⊥
On v _ = ⊤

abbrev pub AllOn : (ℕ → Type 0) → List ClientStep → Type 0
AllOn v [] = ⊤
AllOn v (a ∷ steps) = On v a × AllOn v steps

all_append : (v : ℕ → Type 0) (xs ys : List ClientStep) → AllOn v xs → AllOn v ys → AllOn v (xs ++ ys)
all_append v [] ys a b = b
all_append v (x ∷ xs) ys a b = (a.0, all_append v xs ys a.1 b)

-- a transaction goes on by such a step
status_step : (keep_write : Bool) (k : Client) (v : ℕ → Type 0) (a : ClientStep) → On v a → (after_client_step keep_write k a).cache.status ≡ k.cache.status
status_step keep_write k v (ChangeCache Begin) o = absurd o
status_step keep_write k v (ChangeCache Finish) o = absurd o
status_step keep_write k v (ChangeCache Abandon) o = absurd o
status_step keep_write k v (ChangeCache (TakeDone n)) o = absurd o
status_step keep_write k v (ChangeCache _) o = refl
status_step keep_write k v (EndTransaction l) o = absurd o
status_step keep_write k v _ o = refl

-- and writes no page, and ends none
wrote_step : (keep_write : Bool) (k : Client) (v : ℕ → Type 0) (p : ℕ) (a : ClientStep) → On v a → (after_client_step keep_write k a).cache.wrote p ≡ k.cache.wrote p
wrote_step keep_write k v p (ChangeCache Abandon) o = absurd o
wrote_step keep_write k v p (ChangeCache (TakeDone n)) o = absurd o
wrote_step keep_write k v p (ChangeCache (WriteBytes q b)) o = absurd o
wrote_step keep_write k v p (ChangeCache _) o = refl
wrote_step keep_write k v p _ o = refl

outcome_step : (keep_write : Bool) (k : Client) (v : ℕ → Type 0) (a : ClientStep) → On v a → (after_client_step keep_write k a).last_outcome ≡ k.last_outcome
outcome_step keep_write k v (EndTransaction l) o = absurd o
outcome_step keep_write k v _ o = refl

-- a page that is fixed stays so
fixed_step : (keep_write : Bool) (k : Client) (v : ℕ → Type 0) (p : ℕ) (a : ClientStep) → On v a → is_fixed k p ≡ true → is_fixed (after_client_step keep_write k a) p ≡ true
fixed_step keep_write k v p (ChangeCache Abandon) o e = absurd o
fixed_step keep_write k v p (ChangeCache (TakeDone n)) o e = absurd o
fixed_step keep_write k v p (ChangeCache (WriteBytes q b)) o e = absurd o
fixed_step keep_write k v p (MarkWanted q) o e = grind arith
fixed_step keep_write k v p (EndTransaction x) o e = absurd o
fixed_step keep_write k v p (ChangeCache _) o e = e
fixed_step keep_write k v p _ o e = e

-- and its bytes do, where they are of another page
record Has (l : Client) (p g : ℕ) (b : Bytes) : Type 0 where
  held : l.cache.held p ≡ Some g
  locked : l.cache.locked p ≡ true
  content : l.cache.content p ≡ Some b

has_step : (keep_write : Bool) (k : Client) (p g : ℕ) (b : Bytes) (a : ClientStep) → On (λ q. q ≢ p) a → Has k p g b → Has (after_client_step keep_write k a) p g b
has_step keep_write k p g b (ChangeCache Abandon) o h = absurd o
has_step keep_write k p g b (ChangeCache (TakeDone n)) o h = absurd o
has_step keep_write k p g b (ChangeCache (LetGo q)) o h = let x = h.held in let y = h.content in record { held = grind arith; locked = h.locked; content = grind arith }
has_step keep_write k p g b (ChangeCache (MakeBare q)) o h = let y = h.content in record { held = h.held; locked = h.locked; content = grind arith }
has_step keep_write k p g b (ChangeCache (Install q m x c)) o h = let x = h.held in let y = h.content in record { held = grind arith; locked = h.locked; content = grind arith }
has_step keep_write k p g b (ChangeCache (Fill q m c)) o h = let y = h.content in record { held = h.held; locked = h.locked; content = grind arith }
has_step keep_write k p g b (ChangeCache (WriteBytes q c)) o h = absurd o
has_step keep_write k p g b (ChangeCache (Lock q)) o h = let y = h.locked in record { held = h.held; locked = grind arith; content = h.content }
has_step keep_write k p g b (ChangeCache (Read q c)) o h = let y = h.locked in record { held = h.held; locked = grind arith; content = h.content }
has_step keep_write k p g b (ChangeCache _) o h = record { held = h.held; locked = h.locked; content = h.content }
has_step keep_write k p g b (EndTransaction l) o h = absurd o
has_step keep_write k p g b _ o h = record { held = h.held; locked = h.locked; content = h.content }

-- nor is a page asked for
asks_step : (keep_write : Bool) (k : Client) (v : ℕ → Type 0) (a : ClientStep) → On v a → AsksNoPage k → AsksNoPage (after_client_step keep_write k a)
asks_step keep_write k v (SetAsk a) o n = o
asks_step keep_write k v (EndTransaction l) o n = absurd o
asks_step keep_write k v (ChangeCache c) o n = n
asks_step keep_write k v _ o n = n

-- so by steps
pub stays_so : (keep_write : Bool) (k : Client) (v : ℕ → Type 0) (steps : List ClientStep) → AllOn v steps → (client_after keep_write k steps).cache.status ≡ k.cache.status
stays_so keep_write k v [] o = refl
stays_so keep_write k v (a ∷ steps) o = stays_so keep_write (after_client_step keep_write k a) v steps o.1 ∙ status_step keep_write k v a o.0

pub wrote_so : (keep_write : Bool) (k : Client) (v : ℕ → Type 0) (p : ℕ) (steps : List ClientStep) → AllOn v steps → (client_after keep_write k steps).cache.wrote p ≡ k.cache.wrote p
wrote_so keep_write k v p [] o = refl
wrote_so keep_write k v p (a ∷ steps) o = wrote_so keep_write (after_client_step keep_write k a) v p steps o.1 ∙ wrote_step keep_write k v p a o.0

pub outcome_so : (keep_write : Bool) (k : Client) (v : ℕ → Type 0) (steps : List ClientStep) → AllOn v steps → (client_after keep_write k steps).last_outcome ≡ k.last_outcome
outcome_so keep_write k v [] o = refl
outcome_so keep_write k v (a ∷ steps) o = outcome_so keep_write (after_client_step keep_write k a) v steps o.1 ∙ outcome_step keep_write k v a o.0

pub fixed_so : (keep_write : Bool) (k : Client) (v : ℕ → Type 0) (p : ℕ) (steps : List ClientStep) → AllOn v steps → is_fixed k p ≡ true → is_fixed (client_after keep_write k steps) p ≡ true
fixed_so keep_write k v p [] o e = e
fixed_so keep_write k v p (a ∷ steps) o e = fixed_so keep_write (after_client_step keep_write k a) v p steps o.1 (fixed_step keep_write k v p a o.0 e)

has_so : (keep_write : Bool) (k : Client) (p g : ℕ) (b : Bytes) (steps : List ClientStep) → AllOn (λ q. q ≢ p) steps → Has k p g b → Has (client_after keep_write k steps) p g b
has_so keep_write k p g b [] o h = h
has_so keep_write k p g b (a ∷ steps) o h = has_so keep_write (after_client_step keep_write k a) p g b steps o.1 (has_step keep_write k p g b a o.0 h)

asks_so : (keep_write : Bool) (k : Client) (v : ℕ → Type 0) (steps : List ClientStep) → AllOn v steps → AsksNoPage k → AsksNoPage (client_after keep_write k steps)
asks_so keep_write k v [] o n = n
asks_so keep_write k v (a ∷ steps) o n = asks_so keep_write (after_client_step keep_write k a) v steps o.1 (asks_step keep_write k v a o.0 n)

pub uses_so : (keep_write : Bool) (k : Client) (p g : ℕ) (b : Bytes) (steps : List ClientStep) → AllOn (λ q. q ≢ p) steps → Uses k p g b → Uses (client_after keep_write k steps) p g b
uses_so keep_write k p g b steps o u =
    let h = has_so keep_write k p g b steps o (record { held = u.reading.0; locked = u.reading.1; content = u.content }) in
    record { reading = (h.held, h.locked); content = h.content; safe = by u.safe }
  where
    by : (is_fixed k p ≡ true) ⊎ AsksNoPage k → (is_fixed (client_after keep_write k steps) p ≡ true) ⊎ AsksNoPage (client_after keep_write k steps)
    by (inl f) = inl (fixed_so keep_write k (λ q. q ≢ p) p steps o f)
    by (inr n) = inr (asks_so keep_write k (λ q. q ≢ p) steps o n)

-- a message: what may go of which pages
module _ (k : Client) (v : ℕ → Type 0) (gone : (q : ℕ) → k.cache.locked q ≡ false → v q) (come : (q : ℕ) → k.cache.held q ≡ None → v q) (fill : (q : ℕ) → k.cache.content q ≡ None → v q) where
  on_back : (p g : ℕ) → k.cache.locked p ≡ false → AllOn v (give_back p (Some g))
  on_back p g e = (gone p e, (tt, tt))

  on_lets_go : (let_go : Option ℕ) → ((q : ℕ) → let_go ≡ Some q → v q) → AllOn v (let_page_go k let_go)
  on_lets_go None f = tt
  on_lets_go (Some q) f = go (k.cache.locked q) (k.cache.held q)
    where
      go : (r : Bool) (h : Option ℕ) → AllOn v (if r then ChangeCache (MakeBare q) ∷ [] else give_back q h)
      go true h = (f q refl, tt)
      go false None = tt
      go false (Some g) = (f q refl, (tt, tt))

  pub on_granted : (p g x : ℕ) (b : Bytes) (let_go : Option ℕ) → (brings_page (take_granted k p g x b let_go (k.cache.held p)) ≡ true → (q : ℕ) → let_go ≡ Some q → v q)
      → AllOn v (take_granted k p g x b let_go (k.cache.held p))
  on_granted p g x b let_go lets = go (k.cache.held p) refl (nat_lt (k.cache.seen p) g && asks_to_read k.ask p) lets
    where
      no_ask : (q : ℕ) → asks_to_read NoAsk q ≡ false
      no_ask q = refl

      held : (o : Option Bytes) → k.cache.content p ≡ o → (r : Bool) → (brings_page (steps_held k p g b let_go o r) ≡ true → (q : ℕ) → let_go ≡ Some q → v q) → AllOn v (steps_held k p g b let_go o r)
      held (Some y) e r lets = tt
      held None e true lets = all_append v (let_page_go k let_go) _ (on_lets_go let_go (lets (brings_after k let_go (SetAsk NoAsk ∷ ChangeCache (Fill p g b) ∷ []) refl))) (no_ask, (fill p e, tt))
      held None e false lets = tt

      kept : (r : Bool) → (brings_page (steps_kept k p g x b let_go r) ≡ true → (q : ℕ) → let_go ≡ Some q → v q) → AllOn v (steps_kept k p g x b let_go r)
      kept true lets = held (k.cache.content p) refl ((k.cache.version p == x) && asks_to_read k.ask p) lets
      kept false lets = (tt, (tt, tt))

      go : (h : Option ℕ) → k.cache.held p ≡ h → (r : Bool) → (brings_page (steps_granted k p g x b let_go h r) ≡ true → (q : ℕ) → let_go ≡ Some q → v q) → AllOn v (steps_granted k p g x b let_go h r)
      go (Some y) e r lets = kept (y == g) lets
      go None e true lets = all_append v (let_page_go k let_go) _ (on_lets_go let_go (lets (brings_after k let_go (SetAsk NoAsk ∷ ChangeCache (Install p g x b) ∷ ChangeCache (Lock p) ∷ []) refl))) (no_ask, (come p e, (tt, tt)))
      go None e false lets = (tt, (tt, tt))

  pub on_called : (p g : ℕ) → AllOn v (take_callback k p g)
  on_called p g = go (is_exactly (k.cache.held p) g) (k.cache.locked p) refl
    where
      go : (r u : Bool) → k.cache.locked p ≡ u → AllOn v (if r then (if u then MarkDue p ∷ Say (InUse k.cache.number p g) ∷ [] else give_back p (Some g)) else refuse_grant p g)
      go true true e = (tt, (tt, tt))
      go true false e = on_back p g e
      go false u e = (tt, (tt, tt))

  pub on_downgraded : (p g t : ℕ) → AllOn v (take_downgrade k p g t)
  on_downgraded p g t = go (is_exactly (k.cache.held p) g) (k.cache.may_write p && (k.cache.tag p == t)) (is_fixed k p)
    where
      go : (r u w : Bool) → AllOn v (if not r then refuse_grant p g else if not u then Say (Downgraded p g t) ∷ [] else if w then MarkDueDowngrade p (record { grant = g; tag = t }) ∷ Say (InUse k.cache.number p g) ∷ [] else ChangeCache (YieldPermission p) ∷ Say (Downgraded p g t) ∷ [])
      go false u w = (tt, (tt, tt))
      go true false w = (tt, tt)
      go true true true = (tt, (tt, tt))
      go true true false = (tt, (tt, tt))

-- steps of a transaction's end leave it over
pub plain_status : (keep_write : Bool) (k : Client) (steps : List ClientStep) → Plain steps → (client_after keep_write k steps).cache.status ≡ k.cache.status
plain_status keep_write k [] a = refl
plain_status keep_write k (ChangeCache m ∷ steps) a = plain_status keep_write (after_client_step keep_write k (ChangeCache m)) steps a.1 ∙ by m a.0
  where
    by : (m : CacheChange) → PlainChange m → (after_client_step keep_write k (ChangeCache m)).cache.status ≡ k.cache.status
    by (LetGo p) a = refl
    by (MakeBare p) a = refl
    by (YieldPermission p) a = refl
    by (RefuseGrant p g) a = refl
    by _ a = absurd a
plain_status keep_write k (Say b ∷ steps) a = plain_status keep_write k steps a
plain_status keep_write k (SetAsk x ∷ steps) a = absurd a
plain_status keep_write k (MarkWanted p ∷ steps) a = absurd a
plain_status keep_write k (MarkDue p ∷ steps) a = absurd a
plain_status keep_write k (MarkDueDowngrade p y ∷ steps) a = absurd a
plain_status keep_write k (EndTransaction l ∷ steps) a = absurd a

done_over : (keep_write : Bool) (L : Limits) (k : Client) (n : ℕ) → (client_after keep_write k (EndTransaction (Committed n) ∷ ChangeCache (TakeDone n) ∷ end_pages k false L.pages)).cache.status ≡ Idle
done_over keep_write L k n = plain_status keep_write (client_after keep_write k (EndTransaction (Committed n) ∷ ChangeCache (TakeDone n) ∷ [])) (end_pages k false L.pages) (plain_pages k false L.pages)

abort_over : (keep_write : Bool) (L : Limits) (k : Client) → (client_after keep_write k (drop_transaction L k Aborted)).cache.status ≡ Idle
abort_over keep_write L k = plain_status keep_write (client_after keep_write k (EndTransaction Aborted ∷ ChangeCache Abandon ∷ [])) (end_pages k true L.pages) (plain_pages k true L.pages)

-- what the pool lets go at a Granted
abbrev pub Lets : (ℕ → Type 0) → Limits → Client → Body → Option ℕ → Type 0
Lets v L k (Granted p g x b) let_go = brings_page (client_take L k (Granted p g x b) let_go) ≡ true → (q : ℕ) → let_go ≡ Some q → v q
Lets v L k _ let_go = ⊤

-- a message by which the transaction isn't over
module _ (L : Limits) (k : Client) (v : ℕ → Type 0) (let_go : Option ℕ) (gone : (q : ℕ) → k.cache.locked q ≡ false → v q) (come : (q : ℕ) → k.cache.held q ≡ None → v q) (fill : (q : ℕ) → k.cache.content q ≡ None → v q) where
  abbrev pub GoesOn : List ClientStep → Type 0
  GoesOn steps = (client_after L.keep_write k steps).cache.status ≢ Idle → AllOn v steps

  on_welcomed : (b : Body) → k.cache.welcomed ≡ true → Lets v L k b let_go → GoesOn (take_welcomed L k b let_go)
  on_welcomed (Granted p g x b) w lets = λ n. on_granted k v gone come fill p g x b let_go (λ f. lets (ap brings_page (takes_welcomed L k (Granted p g x b) let_go w (λ e. absurd cc)) ∙ f))
  on_welcomed (MayWrite t p g) w lets = go (of_open_txn k t && asks_to_write k.ask p && is_exactly (k.cache.held p) g)
    where
      go : (r : Bool) → GoesOn (if r then SetAsk NoAsk ∷ ChangeCache (TakePermission p) ∷ [] else [])
      go true = λ n. ((λ q. refl), (tt, tt))
      go false = λ n. tt
  on_welcomed (Callback p g) w lets = λ n. on_called k v gone come fill p g
  on_welcomed (Done t m) w lets = go (of_committing_txn k t)
    where
      go : (r : Bool) → GoesOn (if r then EndTransaction (Committed m) ∷ ChangeCache (TakeDone m) ∷ end_pages k false L.pages else [])
      go true = λ n. absurd (n (done_over L.keep_write L k m))
      go false = λ n. tt
  on_welcomed (AbortNow t) w lets = go (of_open_txn k t)
    where
      go : (r : Bool) → GoesOn (if r then drop_transaction L k Aborted else [])
      go true = λ n. absurd (n (abort_over L.keep_write L k))
      go false = λ n. tt
  on_welcomed (Downgrade p g t) w lets = go L.keep_write
    where
      go : (r : Bool) → GoesOn (if r then take_downgrade k p g t else [])
      go true = λ n. on_downgraded k v gone come fill p g t
      go false = λ n. tt
  on_welcomed _ w lets = λ n. tt

  pub on_message : (b : Body) → Lets v L k b let_go → GoesOn (client_take L k b let_go)
  unfolding client_take
  on_message Welcome lets = λ n. (tt, tt)
  on_message b lets = go k.cache.welcomed refl
    where
      go : (r : Bool) → k.cache.welcomed ≡ r → GoesOn (if r then take_welcomed L k b let_go else [])
      go true w = on_welcomed b w lets
      go false w = λ n. tt

and_false : (a b : Bool) → b ≡ false → (a && b) ≡ false
and_false true b e = e
and_false false b e = refl

-- nothing is brought where no page is asked for
brings_none : (L : Limits) (k : Client) (p g x : ℕ) (b : Bytes) (let_go : Option ℕ) → AsksNoPage k → brings_page (client_take L k (Granted p g x b) let_go) ≡ false
unfolding client_take
brings_none L k p g x b let_go n = go k.cache.welcomed (k.cache.held p) (k.cache.content p) ((k.cache.version p == x) && asks_to_read k.ask p) (nat_lt (k.cache.seen p) g && asks_to_read k.ask p) (and_false _ _ (n p)) (and_false _ _ (n p))
  where
    held : (o : Option Bytes) (r : Bool) → r ≡ false → brings_page (steps_held k p g b let_go o r) ≡ false
    held (Some y) r e = refl
    held None r e = rw e refl

    go : (w : Bool) (h : Option ℕ) (o : Option Bytes) (r s : Bool) → r ≡ false → s ≡ false
        → brings_page (if w then (elim h as (λ _. List ClientStep) [ Some y ↦ (if y == g then steps_held k p g b let_go o r else refuse_grant p g) | None ↦ (if s then let_page_go k let_go ++ SetAsk NoAsk ∷ ChangeCache (Install p g x b) ∷ ChangeCache (Lock p) ∷ [] else refuse_grant p g) ]) else []) ≡ false
    go false h o r s e f = refl
    go true (Some y) o r s e f = by (y == g)
      where
        by : (t : Bool) → brings_page (if t then steps_held k p g b let_go o r else refuse_grant p g) ≡ false
        by true = held o r e
        by false = refl
    go true None o r s e f = rw f refl

-- by a message, whatever page the pool lets go that it may
module _ (L : Limits) (k : Client) (let_go : Option ℕ) where
  nothing_lets : (b : Body) → Lets (λ q. ⊤) L k b let_go
  nothing_lets (Granted p g x b) = λ f q e. tt
  nothing_lets _ = tt

  others_let : (b : Body) → ChoiceAllowed L k b let_go → (p g : ℕ) (bytes : Bytes) → Uses k p g bytes → Lets (λ q. q ≢ p) L k b let_go
  others_let (Granted r h x b) allowed p g bytes u = λ brings q is. by u.safe brings q is
    where
      by : (is_fixed k p ≡ true) ⊎ AsksNoPage k → brings_page (client_take L k (Granted r h x b) let_go) ≡ true → (q : ℕ) → let_go ≡ Some q → q ≢ p
      by (inr none) brings q is same = absurd (let z : true ≡ false = sym brings ∙ brings_none L k r h x b let_go none in cc)
      by (inl fixed) brings q is same =
          let goes : MayLetGo L k r (Some q) = subst (λ (o : Option ℕ). MayLetGo L k r o) is (allowed brings) in
          absurd (let z : true ≡ false = sym fixed ∙ ap (λ (n : ℕ). is_fixed k n) (sym same) ∙ goes.2 in cc)
  others_let _ allowed p g bytes u = tt

  pub take_keeps : (b : Body) → ChoiceAllowed L k b let_go → KeepsUsed k (client_after L.keep_write k (client_take L k b let_go))
  take_keeps b allowed = record {
    stays = record {
      busy = λ n. subst (λ (s : TransactionState). s ≢ Idle) (stays_so L.keep_write k (λ q. ⊤) _ (any n)) n;
      fixed = λ p n f. fixed_so L.keep_write k (λ q. ⊤) p _ (any n) f;
      wrote = λ p n. wrote_so L.keep_write k (λ q. ⊤) p _ (any n);
    };
    uses = λ p g bytes n u. uses_so L.keep_write k p g bytes _ (others p g bytes u n) u;
  }
    where
      any : (client_after L.keep_write k (client_take L k b let_go)).cache.status ≢ Idle → AllOn (λ q. ⊤) (client_take L k b let_go)
      any = on_message L k (λ q. ⊤) let_go (λ q e. tt) (λ q e. tt) (λ q e. tt) b (nothing_lets b)

      others : (p g : ℕ) (bytes : Bytes) → Uses k p g bytes → (client_after L.keep_write k (client_take L k b let_go)).cache.status ≢ Idle → AllOn (λ q. q ≢ p) (client_take L k b let_go)
      others p g bytes u = on_message L k (λ q. q ≢ p) let_go
          (λ q e same. absurd (let z : true ≡ false = sym u.reading.1 ∙ ap k.cache.locked (sym same) ∙ e in cc))
          (λ q e same. absurd (let z : Some g ≡ None = sym u.reading.0 ∙ ap k.cache.held (sym same) ∙ e in cc))
          (λ q e same. absurd (let z : Some bytes ≡ None = sym u.content ∙ ap k.cache.content (sym same) ∙ e in cc))
          b (others_let b allowed p g bytes u)

-- nothing changes, and so do two changes
pub as_it_was : (k : Client) → KeepsUsed k k
as_it_was k = record { stays = record { busy = λ n. n; fixed = λ p n f. f; wrote = λ p n. refl }; uses = λ p g b n u. u }

then_stays : (one two three : Client) → StaysFixed one two → StaysFixed two three → StaysFixed one three
then_stays one two three p q = record {
  busy = λ n. p.busy (q.busy n);
  fixed = λ page n f. q.fixed page n (p.fixed page (q.busy n) f);
  wrote = λ page n. q.wrote page n ∙ p.wrote page (q.busy n);
}

pub then_keeps : (one two three : Client) → KeepsUsed one two → KeepsUsed two three → KeepsUsed one three
then_keeps one two three p q = record {
  stays = then_stays one two three p.stays q.stays;
  uses = λ page g b n u. q.uses page g b n (p.uses page g b (q.stays.busy n) u);
}

pub fixed_alone : (one two : Client) → KeepsUsed one two → KeepsFixed one two
fixed_alone one two p = record { stays = p.stays; uses = λ page g b n f u. p.uses page g b n u }

pub then_fixed : (one two three : Client) → KeepsFixed one two → KeepsFixed two three → KeepsFixed one three
then_fixed one two three p q = record {
  stays = then_stays one two three p.stays q.stays;
  uses = λ page g b n f u. q.uses page g b n (p.stays.fixed page (q.stays.busy n) f) (p.uses page g b (q.stays.busy n) f u);
}

-- by steps that take no bytes
pub steps_keep : (keep_write : Bool) (k : Client) (steps : List ClientStep) → ((v : ℕ → Type 0) → AllOn v steps) → KeepsUsed k (client_after keep_write k steps)
steps_keep keep_write k steps on = record {
  stays = record {
    busy = λ n. subst (λ (s : TransactionState). s ≢ Idle) (stays_so keep_write k (λ q. ⊤) steps (on (λ q. ⊤))) n;
    fixed = λ p n f. fixed_so keep_write k (λ q. ⊤) p steps (on (λ q. ⊤)) f;
    wrote = λ p n. wrote_so keep_write k (λ q. ⊤) p steps (on (λ q. ⊤));
  };
  uses = λ p g b n u. uses_so keep_write k p g b steps (on (λ q. q ≢ p)) u;
}

-- by a want, after which the page is fixed
pub want_on : (L : Limits) (k : Client) (page : ℕ) (v : ℕ → Type 0) → AllOn v (client_call L k (CallWant page)).steps
want_on L k page v = go (call_fault L k (CallWant page)) refl
  where
    wants : (b : Bool) (h : Option ℕ) → AllOn v (if b then reply_with Permitted (MarkWanted page ∷ []) else reply_with Asked (MarkWanted page ∷ SetAsk (WriteAsk page) ∷ say_ask_write k page h)).steps
    wants true h = (tt, tt)
    wants false None = (tt, ((λ q. refl), tt))
    wants false (Some g) = (tt, ((λ q. refl), (tt, tt)))

    go : (f : Option ClientFault) → call_fault L k (CallWant page) ≡ f → AllOn v (client_call L k (CallWant page)).steps
    go None e = rw (call_accepted L k (CallWant page) e) (wants (k.cache.may_write page) (k.cache.held page))
    go (Some f) e = rw (call_refused L k (CallWant page) f e) tt

pub want_fixes : (L : Limits) (k : Client) (page : ℕ) (keep_write : Bool) → call_fault L k (CallWant page) ≡ None → is_fixed (client_after keep_write k (client_call L k (CallWant page)).steps) page ≡ true
want_fixes L k page keep_write e = rw (call_accepted L k (CallWant page) e) (go (k.cache.may_write page) (k.cache.held page))
  where
    marked : is_fixed (after_client_step keep_write k (MarkWanted page)) page ≡ true
    marked = grind arith

    go : (b : Bool) (h : Option ℕ) → is_fixed (client_after keep_write k (if b then reply_with Permitted (MarkWanted page ∷ []) else reply_with Asked (MarkWanted page ∷ SetAsk (WriteAsk page) ∷ say_ask_write k page h)).steps) page ≡ true
    go true h = marked
    go false None = marked
    go false (Some g) = marked

-- by the commit of a transaction
busy_open : (w : Bool) (s : TransactionState) (f h : ClientFault) (rest : List Cause) → first_refusal (cause_of (not w) f ∷ cause_of (is_idle s) h ∷ rest) ≡ None → s ≢ Idle
busy_open false s f h rest e = absurd cc
busy_open true Idle f h rest e = absurd cc
busy_open true Open f h rest e = λ z. absurd cc
busy_open true Committing f h rest e = λ z. absurd cc

pub finish_keeps : (L : Limits) (k : Client) (keep_write : Bool) → KeepsUsed k (client_after keep_write k (client_call L k CallFinish).steps)
unfolding call_fault
finish_keeps L k keep_write = go (call_fault L k CallFinish) refl
  where
    go : (f : Option ClientFault) → call_fault L k CallFinish ≡ f → KeepsUsed k (client_after keep_write k (client_call L k CallFinish).steps)
    go None e = rw (call_accepted L k CallFinish e) (record {
      stays = record { busy = λ n. busy_open k.cache.welcomed k.cache.status NotWelcome NoTransaction (drop 2 (causes L k CallFinish)) e; fixed = λ p n f. f; wrote = λ p n. refl };
      uses = λ p g b n u. record { reading = u.reading; content = u.content; safe = u.safe };
    })
    go (Some f) e = rw (call_refused L k CallFinish f e) (as_it_was k)

-- where none goes on
pub over_keeps : (k l : Client) → l.cache.status ≡ Idle → KeepsFixed k l
over_keeps k l e = record { stays = record { busy = λ n. absurd (n e); fixed = λ p n f. absurd (n e); wrote = λ p n. absurd (n e) }; uses = λ p g b n f u. absurd (n e) }

-- by an ask, and by a read
pub asks_keeps : (k : Client) (a : Ask) → KeepsFixed k (record k { ask = a })
asks_keeps k a = record { stays = record { busy = λ n. n; fixed = λ p n f. f; wrote = λ p n. refl }; uses = λ p g b n f u. record { reading = u.reading; content = u.content; safe = inl f } }

pub locks_keep : (k : Client) (locked : ℕ → Bool) → ((p : ℕ) → k.cache.locked p ≡ true → locked p ≡ true) → KeepsUsed k (record k { cache = record k.cache { locked = locked } })
locks_keep k locked more = record {
  stays = record { busy = λ n. n; fixed = λ p n f. f; wrote = λ p n. refl };
  uses = λ p g b n u. record { reading = (u.reading.0, more p u.reading.1); content = u.content; safe = u.safe };
}

-- a page that can be read is one of the store's, and none is asked for
two_free : (a b : Bool) (f h : ClientFault) → first_refusal (cause_of a f ∷ cause_of b h ∷ []) ≡ None → (a ≡ false) × (b ≡ false)
two_free true b f h e = absurd cc
two_free false true f h e = absurd cc
two_free false false f h e = (refl, refl)

pub read_free : (L : Limits) (k : Client) (page : ℕ) → call_fault L k (CallRead page) ≡ None → (is_asking k.ask ≡ false) × (page < L.pages)
unfolding call_fault
read_free L k page e =
    let pages = (not_first (page_causes L k page) (cause_of (is_none (k.cache.content page) && not (has_room L k)) PoolFull ∷ []) e).0 in
    let both = two_free (is_asking k.ask) (nat_le L.pages page) Waiting PageRange (not_first (open_causes k) (cause_of (is_asking k.ask) Waiting ∷ cause_of (nat_le L.pages page) PageRange ∷ []) pages).1 in
    let past = both.1 in (both.0, grind (arith, nat_tests))

pub asks_none : (a : Ask) (q : ℕ) → is_asking a ≡ false → asks_to_read a q ≡ false
asks_none NoAsk q e = refl
asks_none (ReadAsk p) q e = absurd cc
asks_none (WriteAsk p) q e = absurd cc
