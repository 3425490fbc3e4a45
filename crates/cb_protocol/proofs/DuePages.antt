-- Each callback is answered at once, and a due page's grant is given back once.
use Rattle.std.proofs.Common.{Bool, List, None, Option, Some, [], ap, arith, false, if◌then◌else◌, inl, inr, nat_lt, not, refl, subst, sym, true, ℕ, ◌&&◌, ◌++◌, ◌==◌, ◌∙◌, ◌∷◌, ◌≡◌, ◌≢◌}
use Rattle.std.specs.Prelude.{⊤}
use Rattle.cb_protocol.proofs.ClientInvariant.{ClientKeeps}
use Rattle.cb_protocol.specs.Cache.{Begin, CacheChange, Fill, Abandon, Idle, Install, LetGo, Lock, MakeBare, TakeDone, TakePermission, YieldPermission, is_committing}
use Rattle.cb_protocol.specs.Client.{Aborted, ClientStep, Ask, SetAsk, Client, EndTransaction, Committed, Dropped, LastOutcome, ChangeCache, NoAsk, NoneEnded, MarkDue, MarkDueDowngrade, ReadAsk, Say, MarkWanted, WriteAsk, client_after, asks_to_write, after_client_step, is_fixed, asks_to_read, bodies_said}
use Rattle.cb_protocol.specs.Answers.{Asked, ClientFault, Permitted}
use Rattle.cb_protocol.specs.Basics.{is_exactly, Bytes, IsIn, Limits, update}
use Rattle.cb_protocol.specs.ClientCalls.{CallAgain, CallBegin, Call, CallDrop, CallFinish, CallHello, CallPeek, CallRead, CallWant, CallWrite, accept_call, client_again, client_call, causes, first_refusal, read_page, accept_or_refuse, reply_with, say_ask, say_ask_write, say_commit, say_drop}
use Rattle.cb_protocol.specs.ClientEnd.{drop_transaction, end_pages, give_back, refuse_grant}
use Rattle.cb_protocol.specs.ClientMessages.{take_callback, take_downgrade, take_granted, take_granted_held, take_welcomed, let_page_go, of_committing_txn, of_open_txn, client_take}
use Rattle.cb_protocol.specs.Messages.{AbortNow, Body, Callback, Done, Downgrade, Downgraded, GiveBack, Granted, Hello, InUse, MayWrite, Welcome}
use Rattle.cb_protocol.specs.ClientAlone.{CallbackAnsweredAtOnce, DowngradeAnsweredAtOnce, GoesOn, Reading, ReceivesMessage, StaysDue, Using, after_input, ending}
use Rattle.cb_protocol.specs.ClientCalls.{call_fault}

called_reading : (k : Client) (p g : ℕ) → Reading k p g → take_callback k p g ≡ MarkDue p ∷ Say (InUse k.cache.number p g) ∷ []
called_reading k p g r = grind (arith, r.0, r.1)

-- the grant is not held after it
called_other : (keep_write : Bool) (k : Client) (p g : ℕ) → (Reading k p g → ⊥) → (bodies_said (take_callback k p g) ≡ GiveBack p g ∷ []) × ((client_after keep_write k (take_callback k p g)).cache.held p ≢ Some g)
called_other keep_write k p g n = go (is_exactly (k.cache.held p) g) refl (k.cache.locked p) refl
  where
    go : (r : Bool) → is_exactly (k.cache.held p) g ≡ r → (u : Bool) → k.cache.locked p ≡ u
        → (bodies_said (if r then (if u then MarkDue p ∷ Say (InUse k.cache.number p g) ∷ [] else give_back p (Some g)) else refuse_grant p g) ≡ GiveBack p g ∷ [])
        × ((client_after keep_write k (if r then (if u then MarkDue p ∷ Say (InUse k.cache.number p g) ∷ [] else give_back p (Some g)) else refuse_grant p g)).cache.held p ≢ Some g)
    go true e true f = absurd (n (grind arith))
    go true e false f = (refl, grind arith)
    go false e u f = (refl, grind arith)

heard : (L : Limits) (k : Client) (p g : ℕ) (let_go : Option ℕ) → k.cache.welcomed ≡ true → client_take L k (Callback p g) let_go ≡ take_callback k p g
unfolding client_take
heard L k p g let_go w = grind arith

pub callback_answered_at_once : (L : Limits) → CallbackAnsweredAtOnce L
callback_answered_at_once L k p g let_go w = record { in_use = yes; back = no }
  where
    yes : Reading k p g → (bodies_said (client_take L k (Callback p g) let_go) ≡ InUse k.cache.number p g ∷ []) × (after_input L k (ReceivesMessage (Callback p g) let_go) ≡ record k { due = λ q. if q == p then true else k.due q })
    yes r = let e : client_take L k (Callback p g) let_go ≡ MarkDue p ∷ Say (InUse k.cache.number p g) ∷ [] = heard L k p g let_go w ∙ called_reading k p g r in
        (ap bodies_said e, ap (λ (x : List ClientStep). client_after L.keep_write k x) e)

    no : (Reading k p g → ⊥) → (bodies_said (client_take L k (Callback p g) let_go) ≡ GiveBack p g ∷ []) × ((after_input L k (ReceivesMessage (Callback p g) let_go)).cache.held p ≢ Some g)
    no n = subst (λ (x : List ClientStep). (bodies_said x ≡ GiveBack p g ∷ []) × ((client_after L.keep_write k x).cache.held p ≢ Some g)) (sym (heard L k p g let_go w)) (called_other L.keep_write k p g n)

-- a downgrade
heard_down : (L : Limits) (k : Client) (p g t : ℕ) (let_go : Option ℕ) → k.cache.welcomed ≡ true → client_take L k (Downgrade p g t) let_go ≡ (if L.keep_write then take_downgrade k p g t else [])
unfolding client_take
heard_down L k p g t let_go w = grind arith

kept_down : (L : Limits) (k : Client) (p g t : ℕ) (let_go : Option ℕ) → k.cache.welcomed ≡ true → L.keep_write ≡ true → client_take L k (Downgrade p g t) let_go ≡ take_downgrade k p g t
kept_down L k p g t let_go w e = heard_down L k p g t let_go w ∙ grind arith

down_using : (k : Client) (p g t : ℕ) → Using k p g t → take_downgrade k p g t ≡ MarkDueDowngrade p (record { grant = g; tag = t }) ∷ Say (InUse k.cache.number p g) ∷ []
down_using k p g t u = grind (arith, u.0, u.1, u.2, u.3)

down_held : (keep_write : Bool) (k : Client) (p g t : ℕ) → k.cache.held p ≡ Some g → (Using k p g t → ⊥)
    → (bodies_said (take_downgrade k p g t) ≡ Downgraded p g t ∷ []) × ((client_after keep_write k (take_downgrade k p g t)).cache.may_write p ≡ true → (client_after keep_write k (take_downgrade k p g t)).cache.tag p ≢ t)
down_held keep_write k p g t e n = go (is_exactly (k.cache.held p) g) refl (k.cache.may_write p && (k.cache.tag p == t)) refl (is_fixed k p) refl
  where
    held : is_exactly (k.cache.held p) g ≡ true
    held = grind arith

    go : (r : Bool) → is_exactly (k.cache.held p) g ≡ r → (u : Bool) → (k.cache.may_write p && (k.cache.tag p == t)) ≡ u → (v : Bool) → is_fixed k p ≡ v
        → (bodies_said (if not r then refuse_grant p g else if not u then Say (Downgraded p g t) ∷ [] else if v then MarkDueDowngrade p (record { grant = g; tag = t }) ∷ Say (InUse k.cache.number p g) ∷ [] else ChangeCache (YieldPermission p) ∷ Say (Downgraded p g t) ∷ []) ≡ Downgraded p g t ∷ [])
        × ((client_after keep_write k (if not r then refuse_grant p g else if not u then Say (Downgraded p g t) ∷ [] else if v then MarkDueDowngrade p (record { grant = g; tag = t }) ∷ Say (InUse k.cache.number p g) ∷ [] else ChangeCache (YieldPermission p) ∷ Say (Downgraded p g t) ∷ [])).cache.may_write p ≡ true
        → (client_after keep_write k (if not r then refuse_grant p g else if not u then Say (Downgraded p g t) ∷ [] else if v then MarkDueDowngrade p (record { grant = g; tag = t }) ∷ Say (InUse k.cache.number p g) ∷ [] else ChangeCache (YieldPermission p) ∷ Say (Downgraded p g t) ∷ [])).cache.tag p ≢ t)
    go false f u a v b = absurd (let z : true ≡ false = sym held ∙ f in cc)
    go true f false a v b = (refl, λ m. grind arith)
    go true f true a true b = absurd (n (e, grind arith, grind arith, b))
    go true f true a false b = (refl, λ m. grind arith)

down_other : (keep_write : Bool) (k : Client) (p g t : ℕ) → k.cache.held p ≢ Some g → (bodies_said (take_downgrade k p g t) ≡ GiveBack p g ∷ []) × ((client_after keep_write k (take_downgrade k p g t)).cache.held p ≢ Some g)
down_other keep_write k p g t n = subst (λ (x : List ClientStep). (bodies_said x ≡ GiveBack p g ∷ []) × ((client_after keep_write k x).cache.held p ≢ Some g)) (sym refused) (refl, n)
  where
    other : is_exactly (k.cache.held p) g ≡ false
    other = grind arith

    refused : take_downgrade k p g t ≡ refuse_grant p g
    refused = grind arith

pub downgrade_answered_at_once : (L : Limits) → DowngradeAnsweredAtOnce L
downgrade_answered_at_once L k p g t let_go w = (off, λ e. record { in_use = using_it e; down = held e; back = other e })
  where
    off : L.keep_write ≡ false → (bodies_said (client_take L k (Downgrade p g t) let_go) ≡ []) × (after_input L k (ReceivesMessage (Downgrade p g t) let_go) ≡ k)
    off e = let z : client_take L k (Downgrade p g t) let_go ≡ [] = heard_down L k p g t let_go w ∙ grind arith in (ap bodies_said z, ap (λ (x : List ClientStep). client_after L.keep_write k x) z)

    using_it : L.keep_write ≡ true → Using k p g t → (bodies_said (client_take L k (Downgrade p g t) let_go) ≡ InUse k.cache.number p g ∷ []) × (after_input L k (ReceivesMessage (Downgrade p g t) let_go) ≡ record k { due_downgrade = update k.due_downgrade p (Some (record { grant = g; tag = t })) })
    using_it e u = let z : client_take L k (Downgrade p g t) let_go ≡ MarkDueDowngrade p (record { grant = g; tag = t }) ∷ Say (InUse k.cache.number p g) ∷ [] = kept_down L k p g t let_go w e ∙ down_using k p g t u in
        (ap bodies_said z, ap (λ (x : List ClientStep). client_after L.keep_write k x) z)

    held : L.keep_write ≡ true → k.cache.held p ≡ Some g → (Using k p g t → ⊥) → (bodies_said (client_take L k (Downgrade p g t) let_go) ≡ Downgraded p g t ∷ [])
        × ((after_input L k (ReceivesMessage (Downgrade p g t) let_go)).cache.may_write p ≡ true → (after_input L k (ReceivesMessage (Downgrade p g t) let_go)).cache.tag p ≢ t)
    held e h n = subst (λ (x : List ClientStep). (bodies_said x ≡ Downgraded p g t ∷ []) × ((client_after L.keep_write k x).cache.may_write p ≡ true → (client_after L.keep_write k x).cache.tag p ≢ t)) (sym (kept_down L k p g t let_go w e)) (down_held L.keep_write k p g t h n)

    other : L.keep_write ≡ true → k.cache.held p ≢ Some g → (bodies_said (client_take L k (Downgrade p g t) let_go) ≡ GiveBack p g ∷ []) × ((after_input L k (ReceivesMessage (Downgrade p g t) let_go)).cache.held p ≢ Some g)
    other e n = subst (λ (x : List ClientStep). (bodies_said x ≡ GiveBack p g ∷ []) × ((client_after L.keep_write k x).cache.held p ≢ Some g)) (sym (kept_down L k p g t let_go w e)) (down_other L.keep_write k p g t n)

-- a due page is held and read
pub due_reading : (L : Limits) (k : Client) (p : ℕ) → ClientKeeps L k → k.due p ≡ true → (k.cache.status ≢ Idle) × ((g : ℕ) × Reading k p g)
due_reading L k p h e = (λ z. absurd (let a : k.cache.locked p ≡ false = h.idle_unlocked z p in let b : k.cache.locked p ≡ true = h.due_locked p e in let c : true ≡ false = sym b ∙ a in cc), go (k.cache.held p) refl)
  where
    go : (r : Option ℕ) → k.cache.held p ≡ r → (g : ℕ) × Reading k p g
    go None q = absurd (h.locked_held p (h.due_locked p e) q)
    go (Some g) q = (g, (q, h.due_locked p e))

-- a step that leaves the page due, and does not give back that grant
abbrev Spares : ℕ → ℕ → ClientStep → Type 0
Spares p g (ChangeCache Begin) = ⊥
Spares p g (ChangeCache Abandon) = ⊥
Spares p g (ChangeCache (TakeDone n)) = ⊥
Spares p g (ChangeCache (LetGo q)) = q ≢ p
Spares p g (ChangeCache (Install q h v b)) = q ≢ p
Spares p g (Say (GiveBack q h)) = q ≡ p → h ≢ g
Spares p g (EndTransaction l) = ⊥
Spares p g _ = ⊤

abbrev AllSpare : ℕ → ℕ → List ClientStep → Type 0
AllSpare p g [] = ⊤
AllSpare p g (a ∷ steps) = Spares p g a × AllSpare p g steps

-- what is due of k is due of l
record StillDue (k l : Client) (p g : ℕ) : Type 0 where
  held : l.cache.held p ≡ Some g
  locked : l.cache.locked p ≡ true
  due : l.due p ≡ true
  number : l.cache.number ≡ k.cache.number

spares_move : (keep_write : Bool) (k l : Client) (p g : ℕ) (m : CacheChange) → StillDue k l p g → Spares p g (ChangeCache m) → StillDue k (after_client_step keep_write l (ChangeCache m)) p g
spares_move keep_write k l p g m s f = grind arith

spares_after : (keep_write : Bool) (k l : Client) (p g : ℕ) (a : ClientStep) → StillDue k l p g → Spares p g a → StillDue k (after_client_step keep_write l a) p g
spares_after keep_write k l p g (ChangeCache m) s f = spares_move keep_write k l p g m s f
spares_after keep_write k l p g (Say b) s f = s
spares_after keep_write k l p g (SetAsk a) s f = grind arith
spares_after keep_write k l p g (MarkWanted q) s f = grind arith
spares_after keep_write k l p g (MarkDue q) s f = grind arith
spares_after keep_write k l p g (MarkDueDowngrade q y) s f = grind arith
spares_after keep_write k l p g (EndTransaction x) s f = absurd f

spares_all : (keep_write : Bool) (k l : Client) (p g : ℕ) (steps : List ClientStep) → StillDue k l p g → AllSpare p g steps → StillDue k (client_after keep_write l steps) p g
spares_all keep_write k l p g [] s f = s
spares_all keep_write k l p g (a ∷ steps) s f = spares_all keep_write k (after_client_step keep_write l a) p g steps (spares_after keep_write k l p g a s f.0) f.1

-- that grant is not among those given back
spares_says : (p g : ℕ) (b : Body) → Spares p g (Say b) → b ≢ GiveBack p g
spares_says p g b f e = grind arith

spares_said : (p g : ℕ) (steps : List ClientStep) → AllSpare p g steps → IsIn (GiveBack p g) (bodies_said steps) → ⊥
spares_said p g [] f i = i
spares_said p g (Say b ∷ steps) f i = elim i [ inl e ↦ spares_says p g b f.0 e | inr j ↦ spares_said p g steps f.1 j ]
spares_said p g (ChangeCache m ∷ steps) f i = spares_said p g steps f.1 i
spares_said p g (SetAsk x ∷ steps) f i = spares_said p g steps f.1 i
spares_said p g (MarkWanted q ∷ steps) f i = spares_said p g steps f.1 i
spares_said p g (MarkDue q ∷ steps) f i = spares_said p g steps f.1 i
spares_said p g (MarkDueDowngrade q y ∷ steps) f i = spares_said p g steps f.1 i
spares_said p g (EndTransaction l ∷ steps) f i = spares_said p g steps f.1 i

stays : (L : Limits) (k : Client) (p g : ℕ) (steps : List ClientStep) → ClientKeeps L k → k.due p ≡ true → k.cache.held p ≡ Some g → AllSpare p g steps → StaysDue k (client_after L.keep_write k steps) (bodies_said steps) p g
stays L k p g steps h d e f = let s : StillDue k k p g = record { held = e; locked = h.due_locked p d; due = d; number = refl } in
    let t = spares_all L.keep_write k k p g steps s f in ((t.held, t.locked), t.due, t.number, spares_said p g steps f)

spare_append : (p g : ℕ) (xs ys : List ClientStep) → AllSpare p g xs → AllSpare p g ys → AllSpare p g (xs ++ ys)
spare_append p g [] ys a b = b
spare_append p g (x ∷ xs) ys a b = (a.0, spare_append p g xs ys a.1 b)

-- messages of a client that are no GiveBack
spare_ask_write : (p g : ℕ) (k : Client) (q : ℕ) (r : Option ℕ) → AllSpare p g (say_ask_write k q r)
spare_ask_write p g k q None = tt
spare_ask_write p g k q (Some x) = (tt, tt)

spare_again : (p g : ℕ) (L : Limits) (k : Client) → AllSpare p g (client_again L k)
spare_again p g L k = go k.cache.welcomed (is_committing k.cache.status)
  where
    drop : (l : LastOutcome) → AllSpare p g (say_drop k l)
    drop NoneEnded = tt
    drop (Committed n) = tt
    drop Dropped = (tt, tt)
    drop Aborted = (tt, tt)

    ask : (a : Ask) → AllSpare p g (say_ask k a)
    ask NoAsk = tt
    ask (ReadAsk q) = (tt, tt)
    ask (WriteAsk q) = spare_ask_write p g k q (k.cache.held q)

    commit : (u : Bool) → AllSpare p g (if u then say_commit L k else [])
    commit true = (tt, tt)
    commit false = tt

    go : (r u : Bool) → AllSpare p g (if r then say_drop k k.last_outcome ++ (say_ask k k.ask ++ (if u then say_commit L k else [])) else Say Hello ∷ [])
    go true u = spare_append p g (say_drop k k.last_outcome) _ (drop k.last_outcome) (spare_append p g (say_ask k k.ask) _ (ask k.ask) (commit u))
    go false u = (tt, tt)

-- a call other than a drop
spare_reads : (p g : ℕ) (k : Client) (q : ℕ) (r : Option Bytes) → AllSpare p g (read_page k q r).steps
spare_reads p g k q None = (tt, (tt, tt))
spare_reads p g k q (Some b) = (tt, tt)

spare_wants : (p g : ℕ) (k : Client) (q : ℕ) (u : Bool) → AllSpare p g (if u then reply_with Permitted (MarkWanted q ∷ []) else reply_with Asked (MarkWanted q ∷ SetAsk (WriteAsk q) ∷ say_ask_write k q (k.cache.held q))).steps
spare_wants p g k q true = (tt, tt)
spare_wants p g k q false = (tt, (tt, spare_ask_write p g k q (k.cache.held q)))

goes_on_call : (L : Limits) (k : Client) (c : Call) (p g : ℕ) → ClientKeeps L k → k.due p ≡ true → k.cache.held p ≡ Some g → first_refusal (causes L k c) ≡ None → c ≢ CallDrop → AllSpare p g (accept_call L k c).steps
goes_on_call L k CallHello p g h d e f n = (tt, tt)
goes_on_call L k CallBegin p g h d e f n = absurd ((due_reading L k p h d).0 (grind arith))
goes_on_call L k (CallRead q) p g h d e f n = spare_reads p g k q (k.cache.content q)
goes_on_call L k (CallWant q) p g h d e f n = spare_wants p g k q (k.cache.may_write q)
goes_on_call L k (CallWrite q b) p g h d e f n = (tt, tt)
goes_on_call L k CallFinish p g h d e f n = (tt, (tt, tt))
goes_on_call L k CallDrop p g h d e f n = absurd (n refl)
goes_on_call L k CallAgain p g h d e f n = spare_again p g L k
goes_on_call L k (CallPeek q) p g h d e f n = tt

pub call_stays : (L : Limits) (k : Client) (c : Call) (p g : ℕ) → ClientKeeps L k → k.due p ≡ true → k.cache.held p ≡ Some g → c ≢ CallDrop → StaysDue k (client_after L.keep_write k (client_call L k c).steps) (bodies_said (client_call L k c).steps) p g
unfolding call_fault client_call
call_stays L k c p g h d e n = go (first_refusal (causes L k c)) refl
  where
    go : (f : Option ClientFault) → first_refusal (causes L k c) ≡ f → StaysDue k (client_after L.keep_write k (accept_or_refuse L k c f).steps) (bodies_said (accept_or_refuse L k c f).steps) p g
    go (Some y) f = stays L k p g [] h d e tt
    go None f = stays L k p g (accept_call L k c).steps h d e (goes_on_call L k c p g h d e f n)

-- a message that ends no transaction
spare_refuse : (p g q x : ℕ) → (q ≡ p → x ≢ g) → AllSpare p g (refuse_grant q x)
spare_refuse p g q x n = (tt, (n, tt))

spare_lets_go : (p g : ℕ) (k : Client) (let_go : Option ℕ) → k.cache.locked p ≡ true → AllSpare p g (let_page_go k let_go)
spare_lets_go p g k None l = tt
spare_lets_go p g k (Some q) l = go (k.cache.locked q) refl (k.cache.held q)
  where
    go : (r : Bool) → k.cache.locked q ≡ r → (h : Option ℕ) → AllSpare p g (if r then ChangeCache (MakeBare q) ∷ [] else give_back q h)
    go true e h = (tt, tt)
    go false e None = tt
    go false e (Some x) = let n : q ≢ p = grind arith in (n, ((λ z. absurd (n z)), tt))

spare_granted : (p g : ℕ) (k : Client) (q x v : ℕ) (b : Bytes) (let_go : Option ℕ) → k.cache.locked p ≡ true → k.cache.held p ≡ Some g → AllSpare p g (take_granted k q x v b let_go (k.cache.held q))
spare_granted p g k q x v b let_go l e = go (k.cache.held q) refl (nat_lt (k.cache.seen q) x && asks_to_read k.ask q)
  where
    held : (o : Option Bytes) (u : Bool) → AllSpare p g (elim o [ Some y ↦ [] | None ↦ if u then let_page_go k let_go ++ SetAsk NoAsk ∷ ChangeCache (Fill q x b) ∷ [] else [] ])
    held (Some y) u = tt
    held None true = spare_append p g (let_page_go k let_go) _ (spare_lets_go p g k let_go l) (tt, (tt, tt))
    held None false = tt

    match : (y : ℕ) → k.cache.held q ≡ Some y → (u : Bool) → (y == x) ≡ u → AllSpare p g (if u then take_granted_held k q x v b let_go (k.cache.content q) else refuse_grant q x)
    match y f true z = held (k.cache.content q) ((k.cache.version q == v) && asks_to_read k.ask q)
    match y f false z = spare_refuse p g q x (λ i j. grind arith)

    go : (r : Option ℕ) → k.cache.held q ≡ r → (u : Bool)
        → AllSpare p g (elim r [ Some y ↦ (if y == x then take_granted_held k q x v b let_go (k.cache.content q) else refuse_grant q x) | None ↦ (if u then let_page_go k let_go ++ SetAsk NoAsk ∷ ChangeCache (Install q x v b) ∷ ChangeCache (Lock q) ∷ [] else refuse_grant q x) ])
    go (Some y) f u = match y f (y == x) refl
    go None f true = let n : q ≢ p = grind arith in spare_append p g (let_page_go k let_go) _ (spare_lets_go p g k let_go l) (tt, (n, (tt, tt)))
    go None f false = spare_refuse p g q x (λ i j. grind arith)

spare_called : (p g : ℕ) (k : Client) (q x : ℕ) → k.cache.locked p ≡ true → k.cache.held p ≡ Some g → AllSpare p g (take_callback k q x)
spare_called p g k q x l e = go (is_exactly (k.cache.held q) x) refl (k.cache.locked q) refl
  where
    go : (r : Bool) → is_exactly (k.cache.held q) x ≡ r → (u : Bool) → k.cache.locked q ≡ u → AllSpare p g (if r then (if u then MarkDue q ∷ Say (InUse k.cache.number q x) ∷ [] else give_back q (Some x)) else refuse_grant q x)
    go true f true z = (tt, (tt, tt))
    go true f false z = let n : q ≢ p = grind arith in (n, ((λ i. absurd (n i)), tt))
    go false f u z = spare_refuse p g q x (λ i j. grind arith)

spare_downgraded : (p g : ℕ) (k : Client) (q x t : ℕ) → k.cache.held p ≡ Some g → AllSpare p g (take_downgrade k q x t)
spare_downgraded p g k q x t e = go (is_exactly (k.cache.held q) x) refl (k.cache.may_write q && (k.cache.tag q == t)) (is_fixed k q)
  where
    go : (r : Bool) → is_exactly (k.cache.held q) x ≡ r → (u v : Bool) → AllSpare p g (if not r then refuse_grant q x else if not u then Say (Downgraded q x t) ∷ [] else if v then MarkDueDowngrade q (record { grant = x; tag = t }) ∷ Say (InUse k.cache.number q x) ∷ [] else ChangeCache (YieldPermission q) ∷ Say (Downgraded q x t) ∷ [])
    go false f u v = spare_refuse p g q x (λ i j. grind arith)
    go true f false v = (tt, tt)
    go true f true true = (tt, (tt, tt))
    go true f true false = (tt, (tt, tt))

spare_hears : (p g : ℕ) (L : Limits) (k : Client) (b : Body) (let_go : Option ℕ) → k.cache.locked p ≡ true → k.cache.held p ≡ Some g → ending L k (ReceivesMessage b let_go) ≡ GoesOn → k.cache.welcomed ≡ true → AllSpare p g (take_welcomed L k b let_go)
spare_hears p g L k (Granted q x v b) let_go l e n w = spare_granted p g k q x v b let_go l e
spare_hears p g L k (MayWrite t q x) let_go l e n w = go (of_open_txn k t && asks_to_write k.ask q && is_exactly (k.cache.held q) x)
  where
    go : (r : Bool) → AllSpare p g (if r then SetAsk NoAsk ∷ ChangeCache (TakePermission q) ∷ [] else [])
    go true = (tt, (tt, tt))
    go false = tt
spare_hears p g L k (Callback q x) let_go l e n w = spare_called p g k q x l e
spare_hears p g L k (Done t m) let_go l e n w = go (of_committing_txn k t) refl
  where
    go : (r : Bool) → of_committing_txn k t ≡ r → AllSpare p g (if r then EndTransaction (Committed m) ∷ ChangeCache (TakeDone m) ∷ end_pages k false L.pages else [])
    go true f = absurd (wrong f)
      where
        wrong : of_committing_txn k t ≡ true → ⊥
        wrong f = grind arith
    go false f = tt
spare_hears p g L k (AbortNow t) let_go l e n w = go (of_open_txn k t) refl
  where
    go : (r : Bool) → of_open_txn k t ≡ r → AllSpare p g (if r then drop_transaction L k Aborted else [])
    go true f = absurd (wrong f)
      where
        wrong : of_open_txn k t ≡ true → ⊥
        wrong f = grind arith
    go false f = tt
spare_hears p g L k (Downgrade q x t) let_go l e n w = go L.keep_write
  where
    go : (r : Bool) → AllSpare p g (if r then take_downgrade k q x t else [])
    go true = spare_downgraded p g k q x t e
    go false = tt
spare_hears p g L k _ let_go l e n w = tt

spare_takes : (p g : ℕ) (L : Limits) (k : Client) (b : Body) (let_go : Option ℕ) → k.cache.locked p ≡ true → k.cache.held p ≡ Some g → ending L k (ReceivesMessage b let_go) ≡ GoesOn → AllSpare p g (client_take L k b let_go)
unfolding client_take
spare_takes p g L k Welcome let_go l e n = (tt, tt)
spare_takes p g L k b let_go l e n = go k.cache.welcomed refl
  where
    go : (r : Bool) → k.cache.welcomed ≡ r → AllSpare p g (if r then take_welcomed L k b let_go else [])
    go true w = spare_hears p g L k b let_go l e n w
    go false w = tt

pub message_stays : (L : Limits) (k : Client) (b : Body) (let_go : Option ℕ) (p g : ℕ) → ClientKeeps L k → k.due p ≡ true → k.cache.held p ≡ Some g → ending L k (ReceivesMessage b let_go) ≡ GoesOn → StaysDue k (client_after L.keep_write k (client_take L k b let_go)) (bodies_said (client_take L k b let_go)) p g
message_stays L k b let_go p g h d e n = stays L k p g (client_take L k b let_go) h d e (spare_takes p g L k b let_go (h.due_locked p d) e n)
