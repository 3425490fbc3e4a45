-- The numbers and bytes that a client keeps and says are in range.
use Rattle.std.proofs.Common.{Bool, List, None, Option, Some, [], ap, arith, false, if◌then◌else◌, length, nat_lt, not, refl, suc, sym, true, zero, ℕ, ◌&&◌, ◌++◌, ◌<◌, ◌==◌, ◌∙◌, ◌∷◌, ◌≡◌, ◌≢◌, ◌≤◌, ◌||◌}
use Rattle.std.specs.Prelude.{⊤}
use Rattle.std.proofs.lemmas.List.{append-nil}
use Rattle.cb_protocol.proofs.ClientInvariant.{Free, ClientKeeps, free, is_gone, not_first, not_idle, runs, tidy}
use Rattle.cb_protocol.specs.Cache.{Begin, CacheChange, Fill, Finish, Idle, Install, LetGo, Lock, MakeBare, WriteBytes, TakeDone, TakePermission, YieldPermission, is_committing}
use Rattle.cb_protocol.specs.Client.{Aborted, ClientStep, Ask, SetAsk, Client, EndTransaction, Committed, Dropped, LastOutcome, ChangeCache, NoAsk, NoneEnded, DueDowngrade, MarkDue, MarkDueDowngrade, ReadAsk, Say, MarkWanted, WriteAsk, client_after, asks_to_write, after_client_step, has_room, is_fixed, is_asking, new_client, asks_to_read, bodies_said}
use Rattle.cb_protocol.specs.Answers.{Asked, ClientFault, NotWritable, Permitted, PoolFull, Waiting, WrongLength}
use Rattle.cb_protocol.specs.Basics.{is_exactly, Bytes, Limits, is_none, max_number}
use Rattle.cb_protocol.specs.ClientCalls.{CallAgain, CallBegin, Call, Cause, CallDrop, CallFinish, CallHello, CallPeek, CallRead, CallWant, CallWrite, accept_call, page_causes, client_again, client_call, cause_of, causes, first_refusal, read_causes, read_page, accept_or_refuse, reply_with, open_causes, say_ask, say_ask_write, say_commit, say_drop, written_page, written_pages}
use Rattle.cb_protocol.specs.ClientEnd.{drop_transaction, end_page, end_pages, give_back, refuse_grant}
use Rattle.cb_protocol.specs.ClientMessages.{take_callback, take_downgrade, take_granted, take_granted_held, take_welcomed, let_page_go, of_committing_txn, of_open_txn, client_take}
use Rattle.cb_protocol.specs.Messages.{AbortNow, Body, Callback, Done, Downgrade, Downgraded, GiveBack, Granted, Hello, InUse, MayWrite, Welcome, PageWrite}
use Rattle.cb_protocol.specs.ClientAlone.{Arises, StartsNew, ClientInput, Continues, ReceivesCall, ReceivesMessage, client_steps_at}
use Rattle.cb_protocol.specs.Ranges.{Above, AllBodiesFit, BodyFits, ClientMessagesInRange, InputFits, IsNumber, IsPage, IsPageBytes, WriteFits, WritesFit}
use Rattle.cb_protocol.specs.ClientCalls.{call_fault}

pub record Sized (L : Limits) (k : Client) : Type 0 where
  pub number : k.cache.number ≤ max_number
  pub dropped : k.cache.dropped ≤ max_number
  pub held : (p g : ℕ) → k.cache.held p ≡ Some g → IsNumber g
  pub content : (p : ℕ) (b : Bytes) → k.cache.content p ≡ Some b → IsPageBytes L b
  pub due_downgrade : (p : ℕ) (y : DueDowngrade) → k.due_downgrade p ≡ Some y → IsNumber y.grant × IsNumber y.tag

-- what a step needs to keep it; a message said fits
abbrev Small : Limits → Client → ClientStep → Type 0
Small L k (ChangeCache Begin) = k.cache.number < max_number
Small L k (ChangeCache (WriteBytes p b)) = IsPageBytes L b
Small L k (ChangeCache (Install p g v b)) = IsNumber g × IsPageBytes L b
Small L k (ChangeCache (Fill p g b)) = IsPageBytes L b
Small L k (Say b) = BodyFits L b
Small L k (MarkDueDowngrade p y) = IsNumber y.grant × IsNumber y.tag
Small L k _ = ⊤

abbrev AllSmall : Limits → Client → List ClientStep → Type 0
AllSmall L k [] = ⊤
AllSmall L k (a ∷ steps) = Small L k a × AllSmall L (after_client_step L.keep_write k a) steps

sized_new : (L : Limits) → Sized L new_client
sized_new L = record { number = omega arith; dropped = omega arith; held = λ p g e. absurd cc; content = λ p b e. absurd cc; due_downgrade = λ p y e. absurd cc }

sized_after : (L : Limits) (k : Client) (a : ClientStep) → Sized L k → Small L k a → Sized L (after_client_step L.keep_write k a)
sized_after L k (ChangeCache m) h f = record { number = grind (arith, h.number); dropped = grind (arith, h.number, h.dropped); held = λ p g e. grind (arith, h.held p g); content = λ p b e. grind (arith, h.content p b); due_downgrade = h.due_downgrade }
sized_after L k (Say b) h f = h
sized_after L k (SetAsk a) h f = record { number = h.number; dropped = h.dropped; held = h.held; content = h.content; due_downgrade = h.due_downgrade }
sized_after L k (MarkWanted p) h f = record { number = h.number; dropped = h.dropped; held = h.held; content = h.content; due_downgrade = h.due_downgrade }
sized_after L k (MarkDue p) h f = record { number = h.number; dropped = h.dropped; held = h.held; content = h.content; due_downgrade = h.due_downgrade }
sized_after L k (MarkDueDowngrade p y) h f = record { number = h.number; dropped = h.dropped; held = h.held; content = h.content; due_downgrade = λ q z e. grind (arith, h.due_downgrade q z) }
sized_after L k (EndTransaction l) h f = record { number = h.number; dropped = h.dropped; held = h.held; content = h.content; due_downgrade = λ q z e. absurd cc }

sized_all : (L : Limits) (k : Client) (steps : List ClientStep) → Sized L k → AllSmall L k steps → Sized L (client_after L.keep_write k steps)
sized_all L k [] h f = h
sized_all L k (a ∷ steps) h f = sized_all L (after_client_step L.keep_write k a) steps (sized_after L k a h f.0) f.1

small_said : (L : Limits) (steps : List ClientStep) (k : Client) → AllSmall L k steps → AllBodiesFit L (bodies_said steps)
small_said L [] k f = tt
small_said L (Say b ∷ steps) k f = (f.0, small_said L steps k f.1)
small_said L (ChangeCache m ∷ steps) k f = small_said L steps _ f.1
small_said L (SetAsk a ∷ steps) k f = small_said L steps _ f.1
small_said L (MarkWanted p ∷ steps) k f = small_said L steps _ f.1
small_said L (MarkDue p ∷ steps) k f = small_said L steps _ f.1
small_said L (MarkDueDowngrade p y ∷ steps) k f = small_said L steps _ f.1
small_said L (EndTransaction l ∷ steps) k f = small_said L steps _ f.1

small_append : (L : Limits) (xs ys : List ClientStep) (k : Client) → AllSmall L k xs → AllSmall L (client_after L.keep_write k xs) ys → AllSmall L k (xs ++ ys)
small_append L [] ys k a b = b
small_append L (x ∷ xs) ys k a b = (a.0, small_append L xs ys _ a.1 b)

-- steps that are small at every client
abbrev SlightMove : CacheChange → Type 0
SlightMove Begin = ⊥
SlightMove (WriteBytes p b) = ⊥
SlightMove (Install p g v b) = ⊥
SlightMove (Fill p g b) = ⊥
SlightMove _ = ⊤

abbrev Slight : Limits → List ClientStep → Type 0
Slight L [] = ⊤
Slight L (Say b ∷ steps) = BodyFits L b × Slight L steps
Slight L (ChangeCache m ∷ steps) = SlightMove m × Slight L steps
Slight L (MarkDueDowngrade p y ∷ steps) = ⊥
Slight L (_ ∷ steps) = Slight L steps

slight_move : (L : Limits) (k : Client) (m : CacheChange) → SlightMove m → Small L k (ChangeCache m)
slight_move L k m f = grind arith

slight_small : (L : Limits) (steps : List ClientStep) (k : Client) → Slight L steps → AllSmall L k steps
slight_small L [] k f = tt
slight_small L (Say b ∷ steps) k f = (f.0, slight_small L steps _ f.1)
slight_small L (ChangeCache m ∷ steps) k f = (slight_move L k m f.0, slight_small L steps _ f.1)
slight_small L (SetAsk a ∷ steps) k f = (tt, slight_small L steps _ f)
slight_small L (MarkWanted p ∷ steps) k f = (tt, slight_small L steps _ f)
slight_small L (MarkDue p ∷ steps) k f = (tt, slight_small L steps _ f)
slight_small L (MarkDueDowngrade p y ∷ steps) k f = absurd f
slight_small L (EndTransaction l ∷ steps) k f = (tt, slight_small L steps _ f)

slight_append : (L : Limits) (xs ys : List ClientStep) → Slight L xs → Slight L ys → Slight L (xs ++ ys)
slight_append L [] ys a b = b
slight_append L (Say x ∷ xs) ys a b = (a.0, slight_append L xs ys a.1 b)
slight_append L (ChangeCache m ∷ xs) ys a b = (a.0, slight_append L xs ys a.1 b)
slight_append L (SetAsk x ∷ xs) ys a b = slight_append L xs ys a b
slight_append L (MarkWanted p ∷ xs) ys a b = slight_append L xs ys a b
slight_append L (MarkDue p ∷ xs) ys a b = slight_append L xs ys a b
slight_append L (MarkDueDowngrade p y ∷ xs) ys a b = absurd a
slight_append L (EndTransaction l ∷ xs) ys a b = slight_append L xs ys a b

-- the number of a transaction that has not ended
numbered : (L : Limits) (k : Client) → ClientKeeps L k → Sized L k → k.cache.status ≢ Idle → IsNumber k.cache.number
numbered L k t h o = let a = t.begun o in let b = h.number in (omega arith, b)

-- a page that is held
near : (L : Limits) (k : Client) (p g : ℕ) → ClientKeeps L k → k.cache.held p ≡ Some g → p < L.pages
near L k p g t e = t.held_within p (λ z. absurd (let w : Some g ≡ None = sym e ∙ z in cc))

slight_give_back : (L : Limits) (k : Client) (p : ℕ) (r : Option ℕ) → ClientKeeps L k → Sized L k → k.cache.held p ≡ r → Slight L (give_back p r)
slight_give_back L k p None t h e = tt
slight_give_back L k p (Some g) t h e = (tt, ((near L k p g t e, h.held p g e), tt))

slight_lets_go : (L : Limits) (k : Client) (let_go : Option ℕ) → ClientKeeps L k → Sized L k → Slight L (let_page_go k let_go)
slight_lets_go L k None t h = tt
slight_lets_go L k (Some q) t h = go (k.cache.locked q)
  where
    go : (r : Bool) → Slight L (if r then ChangeCache (MakeBare q) ∷ [] else give_back q (k.cache.held q))
    go true = (tt, tt)
    go false = slight_give_back L k q (k.cache.held q) t h refl

slight_refuse : (L : Limits) (p g : ℕ) → IsPage L p → IsNumber g → Slight L (refuse_grant p g)
slight_refuse L p g a b = (tt, ((a, b), tt))

-- the end of a transaction
slight_page : (L : Limits) (k : Client) (d : Bool) (p : ℕ) (r : Option ℕ) → ClientKeeps L k → Sized L k → k.cache.held p ≡ r → Slight L (end_page k d p r)
slight_page L k d p None t h e = tt
slight_page L k d p (Some g) t h e = go (d && k.cache.wrote p) (k.due p || is_none (k.cache.content p)) d (k.due_downgrade p) refl
  where
    l : p < L.pages
    l = near L k p g t e

    n : IsNumber g
    n = h.held p g e

    go : (u v x : Bool) (r : Option DueDowngrade) → k.due_downgrade p ≡ r → Slight L (if u then Say (GiveBack p g) ∷ [] else if v then ChangeCache (LetGo p) ∷ Say (GiveBack p g) ∷ [] else if x then [] else elim r [ None ↦ [] | Some y ↦ ChangeCache (YieldPermission p) ∷ Say (Downgraded p y.grant y.tag) ∷ [] ])
    go true v x r q = ((l, n), tt)
    go false true x r q = (tt, ((l, n), tt))
    go false false true r q = tt
    go false false false None q = tt
    go false false false (Some y) q = let o = h.due_downgrade p y q in (tt, ((l, o.0, o.1), tt))

slight_pages : (L : Limits) (k : Client) (d : Bool) (n : ℕ) → ClientKeeps L k → Sized L k → Slight L (end_pages k d n)
slight_pages L k d zero t h = tt
slight_pages L k d (suc n) t h = slight_append L (end_pages k d n) _ (slight_pages L k d n t h) (slight_page L k d n (k.cache.held n) t h refl)

slight_drops : (L : Limits) (k : Client) (l : LastOutcome) → ClientKeeps L k → Sized L k → k.cache.status ≢ Idle → Slight L (drop_transaction L k l)
slight_drops L k l t h o = (tt, (numbered L k t h o, slight_pages L k true L.pages t h))

-- the writes of a commit
above_more : (p q : ℕ) (xs : List PageWrite) → p ≤ q → Above q xs → Above p xs
above_more p q [] l a = tt
above_more p q (x ∷ xs) l a = let m = a.0 in (omega arith, above_more p q xs l a.1)

-- all are of pages below n
abbrev Below : ℕ → List PageWrite → Type 0
Below n [] = ⊤
Below n (x ∷ xs) = (x.page < n) × Below n xs

below_more : (n m : ℕ) (xs : List PageWrite) → n ≤ m → Below n xs → Below m xs
below_more n m [] l a = tt
below_more n m (x ∷ xs) l a = let b = a.0 in (omega arith, below_more n m xs l a.1)

above_push : (p : ℕ) (xs : List PageWrite) (y : PageWrite) → Above p xs → p < y.page → Above p (xs ++ y ∷ [])
above_push p [] y a l = (l, tt)
above_push p (x ∷ xs) y a l = (a.0, above_push p xs y a.1 l)

below_push : (n : ℕ) (xs : List PageWrite) (y : PageWrite) → Below n xs → y.page < n → Below n (xs ++ y ∷ [])
below_push n [] y a l = (l, tt)
below_push n (x ∷ xs) y a l = (a.0, below_push n xs y a.1 l)

fit_push : (L : Limits) (xs : List PageWrite) (y : PageWrite) → WritesFit L xs → Below y.page xs → WriteFits L y → WritesFit L (xs ++ y ∷ [])
fit_push L [] y f b w = (w, tt, tt)
fit_push L (x ∷ xs) y f b w = (f.0, above_push x.page xs y f.1 b.0, fit_push L xs y f.2 b.1 w)

record GoodWrites (L : Limits) (n : ℕ) (xs : List PageWrite) : Type 0 where
  fit : WritesFit L xs
  below : Below n xs

writes_fit : (L : Limits) (k : Client) (n : ℕ) → n ≤ L.pages → Sized L k → GoodWrites L n (written_pages k n)
writes_fit L k zero l h = record { fit = tt; below = tt }
writes_fit L k (suc n) l h = go (written_pages k n) (writes_fit L k n (omega arith) h) (k.cache.held n) refl (k.cache.content n) refl
  where
    same : (xs : List PageWrite) → GoodWrites L n xs → GoodWrites L (suc n) (xs ++ [])
    same xs a = rw (append-nil xs) (record { fit = a.fit; below = below_more n (suc n) xs (omega arith) a.below })

    go : (xs : List PageWrite) → GoodWrites L n xs → (r : Option ℕ) → k.cache.held n ≡ r → (o : Option Bytes) → k.cache.content n ≡ o → GoodWrites L (suc n) (xs ++ written_page k n r o)
    go xs a None e o q = same xs a
    go xs a (Some g) e None q = same xs a
    go xs a (Some g) e (Some b) q = wrote (k.cache.wrote n)
      where
        w : PageWrite
        w = record { page = n; grant = g; bytes = b }

        wrote : (u : Bool) → GoodWrites L (suc n) (xs ++ (if u then record { page = n; grant = g; bytes = b } ∷ [] else []))
        wrote true = record { fit = fit_push L xs w a.fit a.below (omega arith, h.held n g e, h.content n b q); below = below_push (suc n) xs w (below_more n (suc n) xs (omega arith) a.below) (omega arith) }
        wrote false = same xs a

commit_fits : (L : Limits) (k : Client) → ClientKeeps L k → Sized L k → k.cache.status ≢ Idle → Slight L (say_commit L k)
commit_fits L k t h o = ((numbered L k t h o, (writes_fit L k L.pages (omega arith) h).fit), tt)

-- what is asked
slight_ask_write : (L : Limits) (k : Client) (p : ℕ) (r : Option ℕ) → ClientKeeps L k → Sized L k → k.cache.status ≢ Idle → p < L.pages → k.cache.held p ≡ r → Slight L (say_ask_write k p r)
slight_ask_write L k p None t h o l e = tt
slight_ask_write L k p (Some g) t h o l e = ((numbered L k t h o, l, h.held p g e), tt)

slight_ask : (L : Limits) (k : Client) (a : Ask) → ClientKeeps L k → Sized L k → k.ask ≡ a → Slight L (say_ask k a)
slight_ask L k NoAsk t h e = tt
slight_ask L k (ReadAsk p) t h e = ((numbered L k t h (not_idle k (t.asking (grind arith))), t.read_within p (grind arith)), tt)
slight_ask L k (WriteAsk p) t h e = slight_ask_write L k p (k.cache.held p) t h (not_idle k (t.asking (grind arith))) (t.write_within p (grind arith)) refl

dropped_fits : (L : Limits) (k : Client) → ClientKeeps L k → Sized L k → is_gone k.last_outcome ≡ true → IsNumber k.cache.dropped
dropped_fits L k t h e = let a = t.gone e in let b = h.dropped in (omega arith, b)

slight_drop : (L : Limits) (k : Client) (l : LastOutcome) → ClientKeeps L k → Sized L k → k.last_outcome ≡ l → Slight L (say_drop k l)
slight_drop L k NoneEnded t h e = tt
slight_drop L k (Committed n) t h e = tt
slight_drop L k Dropped t h e = (dropped_fits L k t h (ap is_gone e), tt)
slight_drop L k Aborted t h e = (dropped_fits L k t h (ap is_gone e), tt)

slight_again : (L : Limits) (k : Client) → ClientKeeps L k → Sized L k → Slight L (client_again L k)
slight_again L k t h = go k.cache.welcomed (is_committing k.cache.status) refl
  where
    commit : (u : Bool) → is_committing k.cache.status ≡ u → Slight L (if u then say_commit L k else [])
    commit true e = commit_fits L k t h (λ z. grind arith)
    commit false e = tt

    go : (r u : Bool) → is_committing k.cache.status ≡ u → Slight L (if r then say_drop k k.last_outcome ++ (say_ask k k.ask ++ (if u then say_commit L k else [])) else Say Hello ∷ [])
    go true u e = slight_append L (say_drop k k.last_outcome) _ (slight_drop L k k.last_outcome t h refl) (slight_append L (say_ask k k.ask) _ (slight_ask L k k.ask t h refl) (commit u e))
    go false u e = (tt, tt)

-- calls
small_accepts : (L : Limits) (k : Client) (c : Call) → ClientKeeps L k → Sized L k → first_refusal (causes L k c) ≡ None → AllSmall L k (accept_call L k c).steps
small_accepts L k CallHello t h e = (tt, tt)
small_accepts L k CallBegin t h e = (grind arith, tt)
small_accepts L k (CallRead p) t h e = go (k.cache.content p)
  where
    f : Free L k p
    f = free L k p (cause_of (is_none (k.cache.content p) && not (has_room L k)) PoolFull ∷ []) e

    go : (o : Option Bytes) → AllSmall L k (read_page k p o).steps
    go (Some b) = (tt, tt)
    go None = (tt, ((numbered L k t h (not_idle k f.running.open_now), f.within), tt))
small_accepts L k (CallWant p) t h e = go (k.cache.may_write p)
  where
    f : Free L k p
    f = free L k p (read_causes k p) e

    go : (q : Bool) → AllSmall L k (if q then reply_with Permitted (MarkWanted p ∷ []) else reply_with Asked (MarkWanted p ∷ SetAsk (WriteAsk p) ∷ say_ask_write k p (k.cache.held p))).steps
    go true = (tt, tt)
    go false = (tt, (tt, slight_small L (say_ask_write k p (k.cache.held p)) _ (slight_ask_write L k p (k.cache.held p) t h (not_idle k f.running.open_now) f.within refl)))
small_accepts L k (CallWrite p b) t h e = (long, tt)
  where
    last : List Cause
    last = cause_of (not (k.cache.may_write p)) NotWritable ∷ cause_of (not (length b == L.page_size)) WrongLength ∷ []

    long : IsPageBytes L b
    long = let a = not_first (page_causes L k p) (read_causes k p ++ cause_of (not (k.cache.may_write p)) NotWritable ∷ cause_of (not (length b == L.page_size)) WrongLength ∷ []) e in
        let d = not_first (read_causes k p) (cause_of (not (k.cache.may_write p)) NotWritable ∷ cause_of (not (length b == L.page_size)) WrongLength ∷ []) a.1 in
        let z : first_refusal (cause_of (not (k.cache.may_write p)) NotWritable ∷ cause_of (not (length b == L.page_size)) WrongLength ∷ []) ≡ None = d.1 in grind arith
small_accepts L k CallFinish t h e = (tt, slight_small L (say_commit L k) (after_client_step L.keep_write k (ChangeCache Finish)) (commit_fits L k t h (not_idle k (runs k (not_first (open_causes k) (cause_of (is_asking k.ask) Waiting ∷ []) e).0).open_now)))
small_accepts L k CallDrop t h e = slight_small L (drop_transaction L k Dropped) k (slight_drops L k Dropped t h (not_idle k (runs k e).open_now))
small_accepts L k CallAgain t h e = slight_small L (client_again L k) k (slight_again L k t h)
small_accepts L k (CallPeek p) t h e = tt

small_calls : (L : Limits) (k : Client) (c : Call) → ClientKeeps L k → Sized L k → AllSmall L k (client_call L k c).steps
unfolding call_fault client_call
small_calls L k c t h = go (first_refusal (causes L k c)) refl
  where
    go : (f : Option ClientFault) → first_refusal (causes L k c) ≡ f → AllSmall L k (accept_or_refuse L k c f).steps
    go (Some y) e = tt
    go None e = small_accepts L k c t h e

-- messages
small_granted : (L : Limits) (k : Client) (p g v : ℕ) (b : Bytes) (let_go : Option ℕ) → ClientKeeps L k → Sized L k → BodyFits L (Granted p g v b) → AllSmall L k (take_granted k p g v b let_go (k.cache.held p))
small_granted L k p g v b let_go t h f = go (k.cache.held p) (nat_lt (k.cache.seen p) g && asks_to_read k.ask p)
  where
    chosen : AllSmall L k (let_page_go k let_go)
    chosen = slight_small L (let_page_go k let_go) k (slight_lets_go L k let_go t h)

    no : AllSmall L k (refuse_grant p g)
    no = slight_small L (refuse_grant p g) k (slight_refuse L p g f.0 f.1)

    held : (o : Option Bytes) (q : Bool) → AllSmall L k (elim o [ Some y ↦ [] | None ↦ if q then let_page_go k let_go ++ SetAsk NoAsk ∷ ChangeCache (Fill p g b) ∷ [] else [] ])
    held (Some y) q = tt
    held None true = small_append L (let_page_go k let_go) (SetAsk NoAsk ∷ ChangeCache (Fill p g b) ∷ []) k chosen (tt, (f.3, tt))
    held None false = tt

    match : (q : Bool) → AllSmall L k (if q then take_granted_held k p g v b let_go (k.cache.content p) else refuse_grant p g)
    match true = held (k.cache.content p) ((k.cache.version p == v) && asks_to_read k.ask p)
    match false = no

    go : (x : Option ℕ) (q : Bool) → AllSmall L k (elim x [ Some y ↦ (if y == g then take_granted_held k p g v b let_go (k.cache.content p) else refuse_grant p g) | None ↦ (if q then let_page_go k let_go ++ SetAsk NoAsk ∷ ChangeCache (Install p g v b) ∷ ChangeCache (Lock p) ∷ [] else refuse_grant p g) ])
    go (Some y) q = match (y == g)
    go None true = small_append L (let_page_go k let_go) (SetAsk NoAsk ∷ ChangeCache (Install p g v b) ∷ ChangeCache (Lock p) ∷ []) k chosen (tt, ((f.1, f.3), (tt, tt)))
    go None false = no

small_called : (L : Limits) (k : Client) (p g : ℕ) → ClientKeeps L k → Sized L k → IsPage L p → IsNumber g → AllSmall L k (take_callback k p g)
small_called L k p g t h l n = go (is_exactly (k.cache.held p) g) (k.cache.locked p) refl
  where
    used : k.cache.locked p ≡ true → k.cache.status ≢ Idle
    used e z = absurd (let a : true ≡ false = sym e ∙ t.idle_unlocked z p in cc)

    go : (r u : Bool) → k.cache.locked p ≡ u → AllSmall L k (if r then (if u then MarkDue p ∷ Say (InUse k.cache.number p g) ∷ [] else give_back p (Some g)) else refuse_grant p g)
    go true true e = (tt, ((numbered L k t h (used e), l, n), tt))
    go true false e = (tt, ((l, n), tt))
    go false u e = (tt, ((l, n), tt))

small_downgraded : (L : Limits) (k : Client) (p g x : ℕ) → ClientKeeps L k → Sized L k → IsPage L p → IsNumber g → IsNumber x → AllSmall L k (take_downgrade k p g x)
small_downgraded L k p g x t h l n m = go (is_exactly (k.cache.held p) g) (k.cache.may_write p && (k.cache.tag p == x)) (is_fixed k p) refl
  where
    used : is_fixed k p ≡ true → k.cache.status ≢ Idle
    used e z = absurd (let a : true ≡ false = sym e ∙ t.idle_unfixed z p in cc)

    go : (r u v : Bool) → is_fixed k p ≡ v → AllSmall L k (if not r then refuse_grant p g else if not u then Say (Downgraded p g x) ∷ [] else if v then MarkDueDowngrade p (record { grant = g; tag = x }) ∷ Say (InUse k.cache.number p g) ∷ [] else ChangeCache (YieldPermission p) ∷ Say (Downgraded p g x) ∷ [])
    go false u v e = (tt, ((l, n), tt))
    go true false v e = ((l, n, m), tt)
    go true true true e = ((n, m), ((numbered L k t h (used e), l, n), tt))
    go true true false e = (tt, ((l, n, m), tt))

small_hears : (L : Limits) (k : Client) (b : Body) (let_go : Option ℕ) → ClientKeeps L k → Sized L k → BodyFits L b → AllSmall L k (take_welcomed L k b let_go)
small_hears L k (Granted p g v b) let_go t h f = small_granted L k p g v b let_go t h f
small_hears L k (MayWrite x p g) let_go t h f = go (of_open_txn k x && asks_to_write k.ask p && is_exactly (k.cache.held p) g)
  where
    go : (r : Bool) → AllSmall L k (if r then SetAsk NoAsk ∷ ChangeCache (TakePermission p) ∷ [] else [])
    go true = (tt, (tt, tt))
    go false = tt
small_hears L k (Callback p g) let_go t h f = small_called L k p g t h f.0 f.1
small_hears L k (Done x n) let_go t h f = go (of_committing_txn k x)
  where
    go : (r : Bool) → AllSmall L k (if r then EndTransaction (Committed n) ∷ ChangeCache (TakeDone n) ∷ end_pages k false L.pages else [])
    go true = (tt, (tt, slight_small L (end_pages k false L.pages) _ (slight_pages L k false L.pages t h)))
    go false = tt
small_hears L k (AbortNow x) let_go t h f = go (of_open_txn k x) refl
  where
    go : (r : Bool) → of_open_txn k x ≡ r → AllSmall L k (if r then drop_transaction L k Aborted else [])
    go true e = slight_small L (drop_transaction L k Aborted) k (slight_drops L k Aborted t h (λ z. grind arith))
    go false e = tt
small_hears L k (Downgrade p g x) let_go t h f = go L.keep_write
  where
    go : (r : Bool) → AllSmall L k (if r then take_downgrade k p g x else [])
    go true = small_downgraded L k p g x t h f.0 f.1 f.2
    go false = tt
small_hears L k _ let_go t h f = tt

small_takes : (L : Limits) (k : Client) (b : Body) (let_go : Option ℕ) → ClientKeeps L k → Sized L k → BodyFits L b → AllSmall L k (client_take L k b let_go)
unfolding client_take
small_takes L k Welcome let_go t h f = (tt, tt)
small_takes L k b let_go t h f = go k.cache.welcomed
  where
    go : (q : Bool) → AllSmall L k (if q then take_welcomed L k b let_go else [])
    go true = small_hears L k b let_go t h f
    go false = tt

small_does : (L : Limits) (k : Client) (i : ClientInput) → ClientKeeps L k → Sized L k → InputFits L i → AllSmall L k (client_steps_at L k i)
small_does L k (ReceivesCall c) t h f = small_calls L k c t h
small_does L k (ReceivesMessage b let_go) t h f = small_takes L k b let_go t h f

pub sized : (L : Limits) (k : Client) → Arises L (InputFits L) k → Sized L k
sized L k StartsNew = sized_new L
sized L k (Continues l i a u f) = sized_all L l (client_steps_at L l i) (sized L l a) (small_does L l i (tidy L (InputFits L) l a) (sized L l a) f)

pub client_messages_in_range : (L : Limits) → ClientMessagesInRange L
client_messages_in_range L k i a u f = small_said L (client_steps_at L k i) k (small_does L k i (tidy L (InputFits L) k a) (sized L k a) f)
