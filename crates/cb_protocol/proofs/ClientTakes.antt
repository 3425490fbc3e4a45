-- What a client does at a message is allowed, step by step.
use Rattle.std.proofs.Common.{Bool, List, None, Option, Some, [], arith, false, if◌then◌else◌, nat_lt, not, refl, subst, suc, sym, true, zero, ℕ, ◌&&◌, ◌++◌, ◌<◌, ◌==◌, ◌||◌, ◌∙◌, ◌∷◌, ◌≡◌, ◌≢◌, ◌≤◌}
use Rattle.cb_protocol.proofs.ClientSteps.{ClientStepsMay, cache_after_steps}
use Rattle.cb_protocol.proofs.ClientReady.{Ready}
use Rattle.cb_protocol.proofs.Invariant.{SessionFacts}
use Rattle.cb_protocol.specs.Cache.{Cache, Committing, Fill, Abandon, Idle, Install, LetGo, Lock, MakeBare, Open, TakeDone, TakePermission, YieldPermission, cache_after}
use Rattle.cb_protocol.specs.Client.{Aborted, ClientStep, Ask, SetAsk, Client, EndTransaction, Committed, LastOutcome, ChangeCache, NoAsk, DueDowngrade, MarkDue, MarkDueDowngrade, Say, MarkWanted, asks_to_write, is_fixed, is_asking, asks_to_read}
use Rattle.cb_protocol.specs.ClientEnd.{drop_transaction, end_page, end_pages, give_back, refuse_grant}
use Rattle.cb_protocol.proofs.ClientInvariant.{welcomed_choice}
use Rattle.cb_protocol.proofs.PageComes.{brings_after, steps_granted, steps_held, steps_kept}
use Rattle.cb_protocol.specs.ClientMessages.{brings_page, ChoiceAllowed, MayLetGo, take_callback, take_downgrade, take_granted, take_welcomed, let_page_go, of_committing_txn, of_open_txn, client_take}
use Rattle.cb_protocol.specs.Basics.{is_exactly, Bytes, Limits, is_none, update}
use Rattle.cb_protocol.specs.Messages.{AbortNow, Body, Callback, Done, Downgrade, Downgraded, GiveBack, Granted, InUse, MayWrite, Welcome}
use Rattle.cb_protocol.specs.Session.{Session, Store}

-- the facts of a cache alone
pub record Apt (k : Cache) : Type 0 where
  pub seen : (p g : ℕ) → k.held p ≡ Some g → g ≤ k.seen p
  pub kept : (p : ℕ) → k.held p ≡ None → k.content p ≡ None
  pub wrote_may : (p : ℕ) → k.wrote p ≡ true → k.may_write p ≡ true
  pub wrote_some : (p : ℕ) → k.wrote p ≡ true → k.content p ≢ None
  pub may_held : (p : ℕ) → k.may_write p ≡ true → k.held p ≢ None
  pub dropped_by : k.dropped ≤ k.number
  pub going : k.status ≢ Idle → k.dropped < k.number

pub apt : (c : ℕ) (s : Store) (t : Session) (k : Cache) → SessionFacts c s t k → Apt k
apt c s t k h = record { seen = h.seen; kept = h.kept; wrote_may = h.wrote_may; wrote_some = h.wrote_some; may_held = h.may_held; dropped_by = h.dropped_by; going = h.going }

may_refuse : (keep_write : Bool) (Came : Body → Type 0) (k : Cache) (p g : ℕ) → k.welcomed ≡ true → k.held p ≢ Some g → ClientStepsMay keep_write Came k (refuse_grant p g)
may_refuse keep_write Came k p g w n = grind arith

may_give_back : (keep_write : Bool) (Came : Body → Type 0) (k : Cache) (p : ℕ) → Apt k → k.welcomed ≡ true → k.locked p ≡ false → ClientStepsMay keep_write Came k (give_back p (k.held p))
may_give_back keep_write Came k p h w l = go (k.held p) refl
  where
    go : (r : Option ℕ) → k.held p ≡ r → ClientStepsMay keep_write Came k (give_back p r)
    go None e = tt
    go (Some g) e = ((w, l), ((w, (gone, h.seen p g e)), tt))
      where
        gone : update k.held p None p ≢ Some g
        gone = grind arith

pub may_append : (keep_write : Bool) (Came : Body → Type 0) (k : Cache) (xs ys : List ClientStep) → ClientStepsMay keep_write Came k xs → ClientStepsMay keep_write Came (cache_after_steps keep_write k xs) ys → ClientStepsMay keep_write Came k (xs ++ ys)
may_append keep_write Came k [] ys a b = b
may_append keep_write Came k (ChangeCache m ∷ xs) ys a b = (a.0, may_append keep_write Came (cache_after keep_write k m) xs ys a.1 b)
may_append keep_write Came k (Say y ∷ xs) ys a b = (a.0, may_append keep_write Came k xs ys a.1 b)
may_append keep_write Came k (SetAsk x ∷ xs) ys a b = may_append keep_write Came k xs ys a b
may_append keep_write Came k (MarkWanted p ∷ xs) ys a b = may_append keep_write Came k xs ys a b
may_append keep_write Came k (MarkDue p ∷ xs) ys a b = may_append keep_write Came k xs ys a b
may_append keep_write Came k (MarkDueDowngrade p y ∷ xs) ys a b = may_append keep_write Came k xs ys a b
may_append keep_write Came k (EndTransaction l ∷ xs) ys a b = may_append keep_write Came k xs ys a b

after_append : (keep_write : Bool) (k : Cache) (xs ys : List ClientStep) → cache_after_steps keep_write k (xs ++ ys) ≡ cache_after_steps keep_write (cache_after_steps keep_write k xs) ys
after_append keep_write k [] ys = refl
after_append keep_write k (ChangeCache m ∷ xs) ys = after_append keep_write (cache_after keep_write k m) xs ys
after_append keep_write k (Say y ∷ xs) ys = after_append keep_write k xs ys
after_append keep_write k (SetAsk x ∷ xs) ys = after_append keep_write k xs ys
after_append keep_write k (MarkWanted p ∷ xs) ys = after_append keep_write k xs ys
after_append keep_write k (MarkDue p ∷ xs) ys = after_append keep_write k xs ys
after_append keep_write k (MarkDueDowngrade p y ∷ xs) ys = after_append keep_write k xs ys
after_append keep_write k (EndTransaction l ∷ xs) ys = after_append keep_write k xs ys

-- what stays of k while it gives pages back
record Part (k : Cache) (dropped : Bool) (l : Cache) : Type 0 where
  welcomed : l.welcomed ≡ true
  seen : (p : ℕ) → l.seen p ≡ k.seen p
  unlocked : (p : ℕ) → l.locked p ≡ false
  unwritten : (p : ℕ) → l.wrote p ≡ false
  gone : (p : ℕ) → dropped ≡ true → k.wrote p ≡ true → l.held p ≡ None

part_let_go : (keep_write : Bool) (k : Cache) (dropped : Bool) (l : Cache) (p : ℕ) → Part k dropped l → Part k dropped (cache_after keep_write l (LetGo p))
part_let_go keep_write k d l p s = record { welcomed = s.welcomed; seen = s.seen; unlocked = s.unlocked; unwritten = s.unwritten; gone = λ q e f. grind (arith, s.gone q e f) }

part_yield : (keep_write : Bool) (k : Cache) (dropped : Bool) (l : Cache) (p : ℕ) → Part k dropped l → Part k dropped (cache_after keep_write l (YieldPermission p))
part_yield keep_write k d l p s = record { welcomed = s.welcomed; seen = s.seen; unlocked = s.unlocked; unwritten = s.unwritten; gone = s.gone }

page_may : (keep_write : Bool) (Came : Body → Type 0) (k : Client) (l : Cache) (dropped : Bool) (p : ℕ) → Apt k.cache → ((p : ℕ) (y : DueDowngrade) → k.due_downgrade p ≡ Some y → Came (Downgrade p y.grant y.tag)) → Part k.cache dropped l
    → ClientStepsMay keep_write Came l (end_page k dropped p (k.cache.held p)) × Part k.cache dropped (cache_after_steps keep_write l (end_page k dropped p (k.cache.held p)))
page_may keep_write Came k l dropped p h due_downgrade s = go (k.cache.held p) refl (dropped && k.cache.wrote p) refl (k.due p || is_none (k.cache.content p)) dropped (k.due_downgrade p) refl
  where
    steps : Option ℕ → Bool → Bool → Bool → Option DueDowngrade → List ClientStep
    steps r u v x o = elim r [ None ↦ [] | Some g ↦ if u then Say (GiveBack p g) ∷ [] else if v then ChangeCache (LetGo p) ∷ Say (GiveBack p g) ∷ [] else if x then [] else elim o [ None ↦ [] | Some y ↦ ChangeCache (YieldPermission p) ∷ Say (Downgraded p y.grant y.tag) ∷ [] ] ]

    go : (r : Option ℕ) → k.cache.held p ≡ r → (u : Bool) → (dropped && k.cache.wrote p) ≡ u → (v x : Bool) (o : Option DueDowngrade) → k.due_downgrade p ≡ o
        → ClientStepsMay keep_write Came l (elim r [ None ↦ [] | Some g ↦ if u then Say (GiveBack p g) ∷ [] else if v then ChangeCache (LetGo p) ∷ Say (GiveBack p g) ∷ [] else if x then [] else elim o [ None ↦ [] | Some y ↦ ChangeCache (YieldPermission p) ∷ Say (Downgraded p y.grant y.tag) ∷ [] ] ])
        × Part k.cache dropped (cache_after_steps keep_write l (elim r [ None ↦ [] | Some g ↦ if u then Say (GiveBack p g) ∷ [] else if v then ChangeCache (LetGo p) ∷ Say (GiveBack p g) ∷ [] else if x then [] else elim o [ None ↦ [] | Some y ↦ ChangeCache (YieldPermission p) ∷ Say (Downgraded p y.grant y.tag) ∷ [] ] ]))
    go None e u f v x o q = (tt, s)
    go (Some g) e true f v x o q = (((s.welcomed, (apart, low)), tt), s)
      where
        apart : l.held p ≢ Some g
        apart = grind (arith, s.gone p)

        low : g ≤ l.seen p
        low = grind (arith, h.seen p g e, s.seen p)
    go (Some g) e false f true x o q = (((s.welcomed, s.unlocked p), ((s.welcomed, (apart, low)), tt)), part_let_go keep_write k.cache dropped l p s)
      where
        apart : update l.held p None p ≢ Some g
        apart = grind arith

        low : g ≤ l.seen p
        low = grind (arith, h.seen p g e, s.seen p)
    go (Some g) e false f false true o q = (tt, s)
    go (Some g) e false f false false None q = (tt, s)
    go (Some g) e false f false false (Some y) q = (((s.welcomed, s.unwritten p), ((s.welcomed, (due_downgrade p y q, none)), tt)), part_yield keep_write k.cache dropped l p s)
      where
        none : update l.may_write p false p ≡ true → l.tag p ≢ y.tag
        none = grind arith

pages_may : (keep_write : Bool) (Came : Body → Type 0) (k : Client) (l : Cache) (dropped : Bool) (n : ℕ) → Apt k.cache → ((p : ℕ) (y : DueDowngrade) → k.due_downgrade p ≡ Some y → Came (Downgrade p y.grant y.tag)) → Part k.cache dropped l
    → ClientStepsMay keep_write Came l (end_pages k dropped n) × Part k.cache dropped (cache_after_steps keep_write l (end_pages k dropped n))
pages_may keep_write Came k l d zero h o s = (tt, s)
pages_may keep_write Came k l d (suc n) h o s =
    let a = pages_may keep_write Came k l d n h o s in
    let b = page_may keep_write Came k (cache_after_steps keep_write l (end_pages k d n)) d n h o a.1 in
    (may_append keep_write Came l (end_pages k d n) (end_page k d n (k.cache.held n)) a.0 b.0, rw after_append b.1)

pub drops_may : (L : Limits) (Came : Body → Type 0) (k : Client) (x : LastOutcome) → Apt k.cache → Ready L Came k → k.cache.welcomed ≡ true → k.cache.status ≡ Open → ClientStepsMay L.keep_write Came k.cache (drop_transaction L k x)
drops_may L Came k x h r w o = ((w, o), ((w, (le, rest)), (pages_may L.keep_write Came k (cache_after L.keep_write k.cache Abandon) true L.pages h r.due_downgrade part).0))
  where
    le : k.cache.number ≤ k.cache.number
    le = omega arith

    rest : k.cache.number ≡ k.cache.number → Idle ≡ Idle
    rest q = refl

    part : Part k.cache true (cache_after L.keep_write k.cache Abandon)
    part = record { welcomed = w; seen = λ p. refl; unlocked = λ p. refl; unwritten = λ p. refl; gone = λ p e f. grind arith }

done_may : (L : Limits) (Came : Body → Type 0) (k : Client) (t n : ℕ) → Apt k.cache → Ready L Came k → Came (Done t n) → k.cache.welcomed ≡ true → k.cache.status ≡ Committing → k.cache.number ≡ t
    → ClientStepsMay L.keep_write Came k.cache (EndTransaction (Committed n) ∷ ChangeCache (TakeDone n) ∷ end_pages k false L.pages)
done_may L Came k t n h r c w o q = ((w, o, subst (λ (x : ℕ). Came (Done x n)) (sym q) c), (pages_may L.keep_write Came k (cache_after L.keep_write k.cache (TakeDone n)) false L.pages h r.due_downgrade part).0)
  where
    part : Part k.cache false (cache_after L.keep_write k.cache (TakeDone n))
    part = record { welcomed = w; seen = λ p. refl; unlocked = λ p. refl; unwritten = λ p. refl; gone = λ p e f. absurd cc }

record Left (k l : Cache) (p : ℕ) : Type 0 where
  welcomed : l.welcomed ≡ true
  status : l.status ≡ k.status
  seen : l.seen p ≡ k.seen p
  version : l.version p ≡ k.version p
  held : l.held p ≡ k.held p
  content : l.content p ≡ k.content p

lets_go_may : (L : Limits) (Came : Body → Type 0) (k : Client) (let_go : Option ℕ) (p : ℕ) → Apt k.cache → k.cache.welcomed ≡ true → MayLetGo L k p let_go
    → ClientStepsMay L.keep_write Came k.cache (let_page_go k let_go) × Left k.cache (cache_after_steps L.keep_write k.cache (let_page_go k let_go)) p
lets_go_may L Came k None p h w u = (tt, record { welcomed = w; status = refl; seen = refl; version = refl; held = refl; content = refl })
lets_go_may L Came k (Some q) p h w u = go (k.cache.locked q) refl
  where
    unwritten : k.cache.wrote q ≡ false
    unwritten = let f = u.2 in grind arith

    other : {A : Type 0} (f : ℕ → Option A) → update f q None p ≡ f p
    other f = let n = u.0 in grind arith

    over : (r : Option ℕ) → Left k.cache (cache_after_steps L.keep_write k.cache (give_back q r)) p
    over None = record { welcomed = w; status = refl; seen = refl; version = refl; held = refl; content = refl }
    over (Some g) = record { welcomed = w; status = refl; seen = refl; version = refl; held = other k.cache.held; content = other k.cache.content }

    go : (r : Bool) → k.cache.locked q ≡ r → ClientStepsMay L.keep_write Came k.cache (if r then ChangeCache (MakeBare q) ∷ [] else give_back q (k.cache.held q)) × Left k.cache (cache_after_steps L.keep_write k.cache (if r then ChangeCache (MakeBare q) ∷ [] else give_back q (k.cache.held q))) p
    go true l = (((w, unwritten), tt), record { welcomed = w; status = refl; seen = refl; version = refl; held = refl; content = other k.cache.content })
    go false l = (may_give_back L.keep_write Came k.cache q h w l, over (k.cache.held q))

put_there : {A : Type 0} (f : ℕ → A) (k : ℕ) (v : A) → update f k v k ≡ v
put_there f k v = grind arith

install_may : (L : Limits) (Came : Body → Type 0) (k : Client) (p g v : ℕ) (b : Bytes) (let_go : Option ℕ) → Apt k.cache → k.cache.welcomed ≡ true → k.cache.status ≡ Open → MayLetGo L k p let_go → Came (Granted p g v b) → k.cache.held p ≡ None → k.cache.seen p < g
    → ClientStepsMay L.keep_write Came k.cache (let_page_go k let_go ++ SetAsk NoAsk ∷ ChangeCache (Install p g v b) ∷ ChangeCache (Lock p) ∷ [])
install_may L Came k p g v b let_go h w o u c e l =
    let a = lets_go_may L Came k let_go p h w u in
    let m = cache_after_steps L.keep_write k.cache (let_page_go k let_go) in
    may_append L.keep_write Came k.cache (let_page_go k let_go) _ a.0 ((a.1.welcomed, c, a.1.held ∙ e, rw a.1.seen l), ((a.1.welcomed, a.1.status ∙ o, (b, put_there m.content p (Some b))), tt))

fill_may : (L : Limits) (Came : Body → Type 0) (k : Client) (p g v : ℕ) (b : Bytes) (let_go : Option ℕ) → Apt k.cache → k.cache.welcomed ≡ true → MayLetGo L k p let_go → Came (Granted p g v b) → k.cache.held p ≡ Some g → k.cache.version p ≡ v → k.cache.content p ≡ None
    → ClientStepsMay L.keep_write Came k.cache (let_page_go k let_go ++ SetAsk NoAsk ∷ ChangeCache (Fill p g b) ∷ [])
fill_may L Came k p g v b let_go h w u c e f n =
    let a = lets_go_may L Came k let_go p h w u in
    may_append L.keep_write Came k.cache (let_page_go k let_go) _ a.0 ((a.1.welcomed, subst (λ (x : ℕ). Came (Granted p g x b)) (sym (a.1.version ∙ f)) c, a.1.held ∙ e, a.1.content ∙ n), tt)

is_reading : (a : Ask) (p : ℕ) → asks_to_read a p ≡ true → is_asking a ≡ true
is_reading a p e = grind arith

granted_may : (L : Limits) (Came : Body → Type 0) (k : Client) (p g v : ℕ) (b : Bytes) (let_go : Option ℕ) → Apt k.cache → Ready L Came k → k.cache.welcomed ≡ true
    → (brings_page (take_granted k p g v b let_go (k.cache.held p)) ≡ true → MayLetGo L k p let_go) → Came (Granted p g v b) → ClientStepsMay L.keep_write Came k.cache (take_granted k p g v b let_go (k.cache.held p))
granted_may L Came k p g v b let_go h r w u c = go (k.cache.held p) refl (nat_lt (k.cache.seen p) g && asks_to_read k.ask p) refl u
  where
    held : (o : Option Bytes) → k.cache.content p ≡ o → (q : Bool) → ((k.cache.version p == v) && asks_to_read k.ask p) ≡ q → k.cache.held p ≡ Some g
        → (brings_page (steps_held k p g b let_go o q) ≡ true → MayLetGo L k p let_go)
        → ClientStepsMay L.keep_write Came k.cache (steps_held k p g b let_go o q)
    held (Some y) e q f i u = tt
    held None e true f i u = fill_may L Came k p g v b let_go h w (u (brings_after k let_go (SetAsk NoAsk ∷ ChangeCache (Fill p g b) ∷ []) refl)) c i (grind arith) e
    held None e false f i u = tt

    match : (x : ℕ) → k.cache.held p ≡ Some x → (q : Bool) → (x == g) ≡ q → (brings_page (steps_kept k p g v b let_go q) ≡ true → MayLetGo L k p let_go)
        → ClientStepsMay L.keep_write Came k.cache (steps_kept k p g v b let_go q)
    match x e true f u = held (k.cache.content p) refl ((k.cache.version p == v) && asks_to_read k.ask p) refl (grind arith) u
    match x e false f u = may_refuse L.keep_write Came k.cache p g w (grind arith)

    go : (x : Option ℕ) → k.cache.held p ≡ x → (q : Bool) → (nat_lt (k.cache.seen p) g && asks_to_read k.ask p) ≡ q
        → (brings_page (steps_granted k p g v b let_go x q) ≡ true → MayLetGo L k p let_go)
        → ClientStepsMay L.keep_write Came k.cache (steps_granted k p g v b let_go x q)
    go (Some y) e q f u = match y e (y == g) refl u
    go None e true f u = install_may L Came k p g v b let_go h w (r.asking (is_reading k.ask p (grind arith))) (u (brings_after k let_go (SetAsk NoAsk ∷ ChangeCache (Install p g v b) ∷ ChangeCache (Lock p) ∷ []) refl)) c e (grind arith)
    go None e false f u = may_refuse L.keep_write Came k.cache p g w (grind arith)

is_held_is : (r : Option ℕ) (g : ℕ) → is_exactly r g ≡ true → r ≡ Some g
is_held_is r g e = grind arith

is_held_not : (r : Option ℕ) (g : ℕ) → is_exactly r g ≡ false → r ≢ Some g
is_held_not r g e = grind arith

called_back_may : (L : Limits) (Came : Body → Type 0) (k : Client) (p g : ℕ) → Apt k.cache → k.cache.welcomed ≡ true → ClientStepsMay L.keep_write Came k.cache (take_callback k p g)
called_back_may L Came k p g h w = go (is_exactly (k.cache.held p) g) refl (k.cache.locked p) refl
  where
    go : (r : Bool) → is_exactly (k.cache.held p) g ≡ r → (u : Bool) → k.cache.locked p ≡ u
        → ClientStepsMay L.keep_write Came k.cache (if r then (if u then MarkDue p ∷ Say (InUse k.cache.number p g) ∷ [] else give_back p (Some g)) else refuse_grant p g)
    go true e true f = ((w, omega arith), tt)
    go true e false f = subst (λ (x : Option ℕ). ClientStepsMay L.keep_write Came k.cache (give_back p x)) (is_held_is (k.cache.held p) g e) (may_give_back L.keep_write Came k.cache p h w f)
    go false e u f = may_refuse L.keep_write Came k.cache p g w (is_held_not (k.cache.held p) g e)

downgraded_may : (L : Limits) (Came : Body → Type 0) (k : Client) (p g t : ℕ) → Apt k.cache → k.cache.welcomed ≡ true → Came (Downgrade p g t) → ClientStepsMay L.keep_write Came k.cache (take_downgrade k p g t)
downgraded_may L Came k p g t h w c = go (is_exactly (k.cache.held p) g) refl (k.cache.may_write p && (k.cache.tag p == t)) refl (is_fixed k p) refl
  where
    go : (r : Bool) → is_exactly (k.cache.held p) g ≡ r → (u : Bool) → (k.cache.may_write p && (k.cache.tag p == t)) ≡ u → (v : Bool) → is_fixed k p ≡ v
        → ClientStepsMay L.keep_write Came k.cache (if not r then refuse_grant p g else if not u then Say (Downgraded p g t) ∷ [] else if v then MarkDueDowngrade p (record { grant = g; tag = t }) ∷ Say (InUse k.cache.number p g) ∷ [] else ChangeCache (YieldPermission p) ∷ Say (Downgraded p g t) ∷ [])
    go false e u f v q = may_refuse L.keep_write Came k.cache p g w (is_held_not (k.cache.held p) g e)
    go true e false f v q = ((w, (c, grind arith)), tt)
    go true e true f true q = ((w, omega arith), tt)
    go true e true f false q = ((w, grind arith), ((w, (c, none)), tt))
      where
        none : update k.cache.may_write p false p ≡ true → k.cache.tag p ≢ t
        none = grind arith

may_write_may : (L : Limits) (Came : Body → Type 0) (k : Client) (t p g : ℕ) → k.cache.welcomed ≡ true → Came (MayWrite t p g)
    → ClientStepsMay L.keep_write Came k.cache (if of_open_txn k t && asks_to_write k.ask p && is_exactly (k.cache.held p) g then SetAsk NoAsk ∷ ChangeCache (TakePermission p) ∷ [] else [])
may_write_may L Came k t p g w c = go (of_open_txn k t && asks_to_write k.ask p && is_exactly (k.cache.held p) g) refl
  where
    go : (r : Bool) → (of_open_txn k t && asks_to_write k.ask p && is_exactly (k.cache.held p) g) ≡ r → ClientStepsMay L.keep_write Came k.cache (if r then SetAsk NoAsk ∷ ChangeCache (TakePermission p) ∷ [] else [])
    go true e = ((w, grind arith, (g, subst (λ (x : ℕ). Came (MayWrite x p g)) same c, is_held_is (k.cache.held p) g (grind arith))), tt)
      where
        same : t ≡ k.cache.number
        same = grind arith
    go false e = tt

hears_may : (L : Limits) (Came : Body → Type 0) (k : Client) (y : Body) (let_go : Option ℕ) → Apt k.cache → Ready L Came k → k.cache.welcomed ≡ true → ChoiceAllowed L k y let_go → Came y → ClientStepsMay L.keep_write Came k.cache (take_welcomed L k y let_go)
hears_may L Came k (Granted p g v b) let_go h r w u c = granted_may L Came k p g v b let_go h r w (welcomed_choice L k (Granted p g v b) let_go w u) c
hears_may L Came k (MayWrite t p g) let_go h r w u c = may_write_may L Came k t p g w c
hears_may L Came k (Callback p g) let_go h r w u c = called_back_may L Came k p g h w
hears_may L Came k (Done t n) let_go h r w u c = go (of_committing_txn k t) refl
  where
    go : (q : Bool) → of_committing_txn k t ≡ q → ClientStepsMay L.keep_write Came k.cache (if q then EndTransaction (Committed n) ∷ ChangeCache (TakeDone n) ∷ end_pages k false L.pages else [])
    go true e = done_may L Came k t n h r c w (grind arith) (grind arith)
    go false e = tt
hears_may L Came k (AbortNow t) let_go h r w u c = go (of_open_txn k t) refl
  where
    go : (q : Bool) → of_open_txn k t ≡ q → ClientStepsMay L.keep_write Came k.cache (if q then drop_transaction L k Aborted else [])
    go true e = drops_may L Came k Aborted h r w (grind arith)
    go false e = tt
hears_may L Came k (Downgrade p g t) let_go h r w u c = go L.keep_write
  where
    go : (q : Bool) → ClientStepsMay L.keep_write Came k.cache (if q then take_downgrade k p g t else [])
    go true = downgraded_may L Came k p g t h w c
    go false = tt
hears_may L Came k _ let_go h r w u c = tt

-- the facts are there once it is welcomed
pub takes_may : (L : Limits) (Came : Body → Type 0) (k : Client) (y : Body) (let_go : Option ℕ) → (k.cache.welcomed ≡ true → Apt k.cache) → Ready L Came k → ChoiceAllowed L k y let_go → Came y → ClientStepsMay L.keep_write Came k.cache (client_take L k y let_go)
unfolding client_take
takes_may L Came k Welcome let_go h r u c = (c, tt)
takes_may L Came k y let_go h r u c = go k.cache.welcomed refl
  where
    go : (q : Bool) → k.cache.welcomed ≡ q → ClientStepsMay L.keep_write Came k.cache (if q then take_welcomed L k y let_go else [])
    go true e = hears_may L Came k y let_go (h e) r e u c
    go false e = tt
