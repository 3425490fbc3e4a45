-- What a client's transaction has of its pages stays until it ends; and how it ended.
use Rattle.std.proofs.Common.{Bool, List, None, Option, Some, [], ap, arith, false, if◌then◌else◌, inl, inr, nat_lt, refl, subst, suc, sym, true, zero, ℕ, ◌&&◌, ◌++◌, ◌∙◌, ◌∷◌, ◌≡◌, ◌≢◌, ◌⊎◌, ◌||◌}
use Rattle.std.specs.Prelude.{⊤}
use Rattle.cb_protocol.proofs.ClientInvariant.{ClientKeeps, acted_append, tidy, tidy_input}
use Rattle.cb_protocol.proofs.GoingOn.{Leave, MessageLets, OnStep, OnSteps, on_call, on_message}
use Rattle.cb_protocol.proofs.TransactionEnds.{in_use_given_back_once}
use Rattle.cb_protocol.specs.Answers.{ClientFault}
use Rattle.cb_protocol.specs.Basics.{Bytes, Limits, is_none, update}
use Rattle.cb_protocol.specs.Cache.{Abandon, Fill, Idle, Install, LetGo, Lock, MakeBare, Read, TakeDone, WriteBytes, YieldPermission}
use Rattle.cb_protocol.specs.Client.{Aborted, ChangeCache, Client, ClientStep, Committed, DueDowngrade, Dropped, EndTransaction, MarkWanted, NoAsk, Say, SetAsk, after_client_step, asks_to_read, bodies_said, client_after, is_fixed}
use Rattle.cb_protocol.specs.ClientAlone.{Arises, ClientInput, Continues, Ending, EndsCommitted, EndsDropped, EndsRight, GoesOn, InputAllowed, Reading, ReceivesCall, ReceivesMessage, StartsNew, after_input, client_steps_at, ending}
use Rattle.cb_protocol.specs.ClientCalls.{Call, CallDrop, accept_or_refuse, call_fault, client_call, first_refusal, open_causes}
use Rattle.cb_protocol.specs.ClientEnd.{drop_transaction, end_page, end_pages, refuse_grant}
use Rattle.cb_protocol.specs.ClientLaws.{FixedPagesStay, IsHere, LastOutcomeIsTrue, NewCopyIsRead, PagesStay, outcome_by}
use Rattle.cb_protocol.specs.ClientMessages.{ChoiceAllowed, MayLetGo, brings_page, client_take, let_page_go, of_committing_txn, of_open_txn, take_granted}
use Rattle.cb_protocol.specs.Messages.{AbortNow, Body, Done, Downgraded, GiveBack, Granted}

-- what calls and messages may take from the pages
abbrev by_call : Client → Leave
by_call k = record { bare = λ q. ⊥; gone = λ q. ⊥; wanted = λ q. IsHere k q }

abbrev by_message : Client → Leave
by_message k = record { bare = λ q. is_fixed k q ≡ false; gone = λ q. k.cache.locked q ≡ false; wanted = λ q. ⊥ }

-- a page read stays so
record StillRead (l : Client) (p g : ℕ) : Type 0 where
  held : l.cache.held p ≡ Some g
  locked : l.cache.locked p ≡ true

read_step : (keep_write : Bool) (k l : Client) (v : Leave) (p g : ℕ) (a : ClientStep) → Reading k p g → ((q : ℕ) → v.gone q → k.cache.locked q ≡ false)
    → OnStep k v a → StillRead l p g → StillRead (after_client_step keep_write l a) p g
read_step keep_write k l v p g (ChangeCache Abandon) r f o s = absurd o
read_step keep_write k l v p g (ChangeCache (TakeDone n)) r f o s = absurd o
read_step keep_write k l v p g (ChangeCache (LetGo q)) r f o s = let e = f q o in let a = r.1 in let h = s.held in record { held = grind arith; locked = s.locked }
read_step keep_write k l v p g (ChangeCache (Install q x y b)) r f o s = let a = r.0 in let h = s.held in record { held = grind arith; locked = s.locked }
read_step keep_write k l v p g (ChangeCache (Lock q)) r f o s = let h = s.locked in record { held = s.held; locked = grind arith }
read_step keep_write k l v p g (ChangeCache (Read q b)) r f o s = let h = s.locked in record { held = s.held; locked = grind arith }
read_step keep_write k l v p g (EndTransaction x) r f o s = absurd o
read_step keep_write k l v p g (ChangeCache _) r f o s = record { held = s.held; locked = s.locked }
read_step keep_write k l v p g _ r f o s = record { held = s.held; locked = s.locked }

read_steps : (keep_write : Bool) (k : Client) (v : Leave) (p g : ℕ) (steps : List ClientStep) (l : Client) → Reading k p g → ((q : ℕ) → v.gone q → k.cache.locked q ≡ false)
    → OnSteps k v steps → StillRead l p g → StillRead (client_after keep_write l steps) p g
read_steps keep_write k v p g [] l r f o s = s
read_steps keep_write k v p g (a ∷ steps) l r f o s = read_steps keep_write k v p g steps (after_client_step keep_write l a) r f o.1 (read_step keep_write k l v p g a r f o.0 s)

-- a page fixed stays so
fixed_step : (keep_write : Bool) (k l : Client) (v : Leave) (p : ℕ) (a : ClientStep) → OnStep k v a → is_fixed l p ≡ true → is_fixed (after_client_step keep_write l a) p ≡ true
fixed_step keep_write k l v p (ChangeCache Abandon) o e = absurd o
fixed_step keep_write k l v p (ChangeCache (TakeDone n)) o e = absurd o
fixed_step keep_write k l v p (ChangeCache (WriteBytes q b)) o e = grind arith
fixed_step keep_write k l v p (MarkWanted q) o e = grind arith
fixed_step keep_write k l v p (EndTransaction x) o e = absurd o
fixed_step keep_write k l v p (ChangeCache _) o e = e
fixed_step keep_write k l v p _ o e = e

fixed_steps : (keep_write : Bool) (k : Client) (v : Leave) (p : ℕ) (steps : List ClientStep) (l : Client) → OnSteps k v steps → is_fixed l p ≡ true → is_fixed (client_after keep_write l steps) p ≡ true
fixed_steps keep_write k v p [] l o e = e
fixed_steps keep_write k v p (a ∷ steps) l o e = fixed_steps keep_write k v p steps (after_client_step keep_write l a) o.1 (fixed_step keep_write k l v p a o.0 e)

-- the last outcome
outcome_step : (keep_write : Bool) (k l : Client) (v : Leave) (a : ClientStep) → OnStep k v a → (after_client_step keep_write l a).last_outcome ≡ l.last_outcome
outcome_step keep_write k l v (EndTransaction x) o = absurd o
outcome_step keep_write k l v _ o = refl

outcome_steps : (keep_write : Bool) (k : Client) (v : Leave) (steps : List ClientStep) (l : Client) → OnSteps k v steps → (client_after keep_write l steps).last_outcome ≡ l.last_outcome
outcome_steps keep_write k v [] l o = refl
outcome_steps keep_write k v (a ∷ steps) l o = outcome_steps keep_write k v steps (after_client_step keep_write l a) o.1 ∙ outcome_step keep_write k l v a o.0

-- whatever goes for a page, no transaction ends
abbrev any : Leave
any = record { bare = λ q. ⊤; gone = λ q. ⊤; wanted = λ q. ⊤ }

any_lets : (L : Limits) (k : Client) (b : Body) (let_go : Option ℕ) → MessageLets any L k b let_go
any_lets L k (Granted p g x b) let_go = λ f q h. tt
any_lets L k _ let_go = tt

on_input : (L : Limits) (k : Client) (i : ClientInput) → ending L k i ≡ GoesOn → OnSteps k any (client_steps_at L k i)
on_input L k (ReceivesCall c) e = on_call L k any c (λ q h. tt) e
on_input L k (ReceivesMessage b let_go) e = on_message L k any b let_go (λ q h. tt) (any_lets L k b let_go) e

end_page_outcome : (keep_write : Bool) (k l : Client) (d : Bool) (p : ℕ) (r : Option ℕ) → (client_after keep_write l (end_page k d p r)).last_outcome ≡ l.last_outcome
end_page_outcome keep_write k l d p None = refl
end_page_outcome keep_write k l d p (Some g) = go (d && k.cache.wrote p) (k.due p || is_none (k.cache.content p)) d (k.due_downgrade p)
  where
    go : (u v x : Bool) (r : Option DueDowngrade) → (client_after keep_write l (if u then Say (GiveBack p g) ∷ [] else if v then ChangeCache (LetGo p) ∷ Say (GiveBack p g) ∷ [] else if x then [] else elim r [ None ↦ [] | Some y ↦ ChangeCache (YieldPermission p) ∷ Say (Downgraded p y.grant y.tag) ∷ [] ])).last_outcome ≡ l.last_outcome
    go true v x r = refl
    go false true x r = refl
    go false false true r = refl
    go false false false None = refl
    go false false false (Some y) = refl

end_pages_outcome : (keep_write : Bool) (k l : Client) (d : Bool) (n : ℕ) → (client_after keep_write l (end_pages k d n)).last_outcome ≡ l.last_outcome
end_pages_outcome keep_write k l d zero = refl
end_pages_outcome keep_write k l d (suc n) =
    ap (λ (x : Client). x.last_outcome) (acted_append keep_write l (end_pages k d n) (end_page k d n (k.cache.held n)))
    ∙ (end_page_outcome keep_write k (client_after keep_write l (end_pages k d n)) d n (k.cache.held n) ∙ end_pages_outcome keep_write k l d n)

goes_on_outcome : (L : Limits) (k : Client) (i : ClientInput) → ending L k i ≡ GoesOn → (after_input L k i).last_outcome ≡ k.last_outcome
goes_on_outcome L k i e = outcome_steps L.keep_write k any (client_steps_at L k i) k (on_input L k i e)

dropped_outcome : (L : Limits) (k : Client) → (after_input L k (ReceivesCall CallDrop)).last_outcome ≡ outcome_by k.last_outcome (ReceivesCall CallDrop) (ending L k (ReceivesCall CallDrop))
unfolding call_fault client_call
dropped_outcome L k = go (first_refusal (open_causes k))
  where
    go : (f : Option ClientFault) → (client_after L.keep_write k (accept_or_refuse L k CallDrop f).steps).last_outcome ≡ outcome_by k.last_outcome (ReceivesCall CallDrop) (if is_none f then EndsDropped else GoesOn)
    go (Some y) = refl
    go None = end_pages_outcome L.keep_write k (client_after L.keep_write k (EndTransaction Dropped ∷ ChangeCache Abandon ∷ [])) true L.pages

done_outcome : (L : Limits) (k : Client) (t n : ℕ) (let_go : Option ℕ) → (after_input L k (ReceivesMessage (Done t n) let_go)).last_outcome
    ≡ outcome_by k.last_outcome (ReceivesMessage (Done t n) let_go) (ending L k (ReceivesMessage (Done t n) let_go))
unfolding client_take
done_outcome L k t n let_go = go k.cache.welcomed (of_committing_txn k t)
  where
    go : (w r : Bool) → (client_after L.keep_write k (if w then (if r then EndTransaction (Committed n) ∷ ChangeCache (TakeDone n) ∷ end_pages k false L.pages else []) else [])).last_outcome
        ≡ outcome_by k.last_outcome (ReceivesMessage (Done t n) let_go) (if w && r then EndsCommitted else GoesOn)
    go true true = end_pages_outcome L.keep_write k (client_after L.keep_write k (EndTransaction (Committed n) ∷ ChangeCache (TakeDone n) ∷ [])) false L.pages
    go true false = refl
    go false r = refl

abort_outcome : (L : Limits) (k : Client) (t : ℕ) (let_go : Option ℕ) → (after_input L k (ReceivesMessage (AbortNow t) let_go)).last_outcome
    ≡ outcome_by k.last_outcome (ReceivesMessage (AbortNow t) let_go) (ending L k (ReceivesMessage (AbortNow t) let_go))
unfolding client_take
abort_outcome L k t let_go = go k.cache.welcomed (of_open_txn k t)
  where
    go : (w r : Bool) → (client_after L.keep_write k (if w then (if r then drop_transaction L k Aborted else []) else [])).last_outcome
        ≡ outcome_by k.last_outcome (ReceivesMessage (AbortNow t) let_go) (if w && r then EndsDropped else GoesOn)
    go true true = end_pages_outcome L.keep_write k (client_after L.keep_write k (EndTransaction Aborted ∷ ChangeCache Abandon ∷ [])) true L.pages
    go true false = refl
    go false r = refl

message_outcome : (L : Limits) (k : Client) (b : Body) (let_go : Option ℕ) → (after_input L k (ReceivesMessage b let_go)).last_outcome
    ≡ outcome_by k.last_outcome (ReceivesMessage b let_go) (ending L k (ReceivesMessage b let_go))
message_outcome L k (Done t n) let_go = done_outcome L k t n let_go
message_outcome L k (AbortNow t) let_go = abort_outcome L k t let_go
message_outcome L k b let_go = goes_on_outcome L k (ReceivesMessage b let_go) refl

call_outcome : (L : Limits) (k : Client) (c : Call) → (after_input L k (ReceivesCall c)).last_outcome ≡ outcome_by k.last_outcome (ReceivesCall c) (ending L k (ReceivesCall c))
call_outcome L k CallDrop = dropped_outcome L k
call_outcome L k c = goes_on_outcome L k (ReceivesCall c) refl

pub last_outcome_is_true : (L : Limits) → LastOutcomeIsTrue L
last_outcome_is_true L k (ReceivesCall c) = call_outcome L k c
last_outcome_is_true L k (ReceivesMessage b let_go) = message_outcome L k b let_go

-- a copy that comes in
abbrev IsNewCopy : ℕ → ℕ → ℕ → Bytes → Client → Type 0
IsNewCopy p g v b l = Reading l p g × (l.cache.content p ≡ Some b) × (l.cache.version p ≡ v) × (l.ask ≡ NoAsk)

installed : (keep_write : Bool) (l : Client) (p g v : ℕ) (b : Bytes) → IsNewCopy p g v b (client_after keep_write l (SetAsk NoAsk ∷ ChangeCache (Install p g v b) ∷ ChangeCache (Lock p) ∷ []))
installed keep_write l p g v b = ((grind arith, grind arith), grind arith, grind arith, refl)

pub new_copy_is_read : (L : Limits) → NewCopyIsRead L
unfolding client_take
new_copy_is_read L k p g v b let_go e f = go k.cache.welcomed f
  where
    by_test : (q : Bool) → brings_page (if q then let_page_go k let_go ++ SetAsk NoAsk ∷ ChangeCache (Install p g v b) ∷ ChangeCache (Lock p) ∷ [] else refuse_grant p g) ≡ true
        → IsNewCopy p g v b (client_after L.keep_write k (if q then let_page_go k let_go ++ SetAsk NoAsk ∷ ChangeCache (Install p g v b) ∷ ChangeCache (Lock p) ∷ [] else refuse_grant p g))
    by_test true f = subst (λ (x : Client). IsNewCopy p g v b x) (sym (acted_append L.keep_write k (let_page_go k let_go) (SetAsk NoAsk ∷ ChangeCache (Install p g v b) ∷ ChangeCache (Lock p) ∷ [])))
        (installed L.keep_write (client_after L.keep_write k (let_page_go k let_go)) p g v b)
    by_test false f = absurd cc

    by_held : (h : Option ℕ) → h ≡ None → brings_page (take_granted k p g v b let_go h) ≡ true → IsNewCopy p g v b (client_after L.keep_write k (take_granted k p g v b let_go h))
    by_held None e f = by_test (nat_lt (k.cache.seen p) g && asks_to_read k.ask p) f
    by_held (Some x) e f = absurd cc

    go : (r : Bool) → brings_page (if r then take_granted k p g v b let_go (k.cache.held p) else []) ≡ true
        → IsNewCopy p g v b (client_after L.keep_write k (if r then take_granted k p g v b let_go (k.cache.held p) else []))
    go true f = by_held (k.cache.held p) e f
    go false f = absurd cc

-- pages that stay here: what is fixed is among them
record StayHere (Safe : ℕ → Type 0) (l : Client) : Type 0 where
  here : (p : ℕ) → Safe p → IsHere l p
  fixed : (p : ℕ) → is_fixed l p ≡ true → Safe p

-- nothing that stays goes, and only what stays is wanted
record Spared (Safe : ℕ → Type 0) (v : Leave) : Type 0 where
  bare : (q : ℕ) → v.bare q → Safe q → ⊥
  gone : (q : ℕ) → v.gone q → Safe q → ⊥
  wanted : (q : ℕ) → v.wanted q → Safe q

other : (Safe : ℕ → Type 0) (p q : ℕ) → (Safe q → ⊥) → Safe p → p ≢ q
other Safe p q f s e = f (subst (λ (x : ℕ). Safe x) e s)

set_or : (f : ℕ → Bool) (q p : ℕ) (b : Bool) → (update f q true p || b) ≡ true → (p ≡ q) ⊎ ((f p || b) ≡ true)
set_or f q p b e = grind arith

or_set : (f : ℕ → Bool) (q p : ℕ) (b : Bool) → (b || update f q true p) ≡ true → (p ≡ q) ⊎ ((b || f p) ≡ true)
or_set f q p b e = grind arith

here_step : (keep_write : Bool) (k l : Client) (v : Leave) (Safe : ℕ → Type 0) (a : ClientStep) → Spared Safe v → OnStep k v a → StayHere Safe l → StayHere Safe (after_client_step keep_write l a)
here_step keep_write k l v Safe (ChangeCache Abandon) w o s = absurd o
here_step keep_write k l v Safe (ChangeCache (TakeDone n)) w o s = absurd o
here_step keep_write k l v Safe (ChangeCache (LetGo q)) w o s = record {
  here = λ p i. let n = other Safe p q (w.gone q o) i in let h = s.here p i in let b = h.bytes in record { bytes = grind arith; read = h.read };
  fixed = s.fixed;
}
here_step keep_write k l v Safe (ChangeCache (MakeBare q)) w o s = record {
  here = λ p i. let n = other Safe p q (w.bare q o) i in let h = s.here p i in let b = h.bytes in record { bytes = grind arith; read = h.read };
  fixed = s.fixed;
}
here_step keep_write k l v Safe (ChangeCache (Install q g x y)) w o s = record {
  here = λ p i. let h = s.here p i in let b = h.bytes in record { bytes = grind arith; read = h.read };
  fixed = s.fixed;
}
here_step keep_write k l v Safe (ChangeCache (Fill q g y)) w o s = record {
  here = λ p i. let h = s.here p i in let b = h.bytes in record { bytes = grind arith; read = h.read };
  fixed = s.fixed;
}
here_step keep_write k l v Safe (ChangeCache (WriteBytes q y)) w o s = record {
  here = λ p i. let h = s.here p i in let b = h.bytes in record { bytes = grind arith; read = h.read };
  fixed = λ p e. elim (or_set l.cache.wrote q p (l.wanted p) e) [ inl n ↦ subst (λ (x : ℕ). Safe x) (sym n) (w.wanted q o) | inr f ↦ s.fixed p f ];
}
here_step keep_write k l v Safe (ChangeCache (Lock q)) w o s = record {
  here = λ p i. let h = s.here p i in let b = h.read in record { bytes = h.bytes; read = grind arith };
  fixed = s.fixed;
}
here_step keep_write k l v Safe (ChangeCache (Read q y)) w o s = record {
  here = λ p i. let h = s.here p i in let b = h.read in record { bytes = h.bytes; read = grind arith };
  fixed = s.fixed;
}
here_step keep_write k l v Safe (ChangeCache _) w o s = record { here = λ p i. let h = s.here p i in record { bytes = h.bytes; read = h.read }; fixed = s.fixed }
here_step keep_write k l v Safe (MarkWanted q) w o s = record {
  here = λ p i. let h = s.here p i in record { bytes = h.bytes; read = h.read };
  fixed = λ p e. elim (set_or l.wanted q p (l.cache.wrote p) e) [ inl n ↦ subst (λ (x : ℕ). Safe x) (sym n) (w.wanted q o) | inr f ↦ s.fixed p f ];
}
here_step keep_write k l v Safe (EndTransaction x) w o s = absurd o
here_step keep_write k l v Safe _ w o s = record { here = λ p i. let h = s.here p i in record { bytes = h.bytes; read = h.read }; fixed = s.fixed }

here_steps : (keep_write : Bool) (k : Client) (v : Leave) (Safe : ℕ → Type 0) (steps : List ClientStep) (l : Client) → Spared Safe v → OnSteps k v steps → StayHere Safe l → StayHere Safe (client_after keep_write l steps)
here_steps keep_write k v Safe [] l w o s = s
here_steps keep_write k v Safe (a ∷ steps) l w o s = here_steps keep_write k v Safe steps (after_client_step keep_write l a) w o.1 (here_step keep_write k l v Safe a w o.0 s)

-- what the pool lets go is not fixed
message_lets : (L : Limits) (k : Client) (b : Body) (let_go : Option ℕ) → ChoiceAllowed L k b let_go → MessageLets (by_message k) L k b let_go
message_lets L k (Granted p g x b) let_go u = λ f q e. unfixed q (subst (λ (o : Option ℕ). MayLetGo L k p o) e (u f))
  where
    unfixed : (q : ℕ) → MayLetGo L k p (Some q) → is_fixed k q ≡ false
    unfixed q m = m.2
message_lets L k _ let_go u = tt

abbrev FixedHere : Client → Type 0
FixedHere k = (p : ℕ) → is_fixed k p ≡ true → IsHere k p

stays_here : (L : Limits) (k : Client) (i : ClientInput) → FixedHere k → InputAllowed L k i → ending L k i ≡ GoesOn → FixedHere (after_input L k i)
stays_here L k (ReceivesCall c) h u e = λ p f. s.here p (s.fixed p f)
  where
    s : StayHere (λ q. IsHere k q) (after_input L k (ReceivesCall c))
    s = here_steps L.keep_write k (by_call k) (λ q. IsHere k q) (client_steps_at L k (ReceivesCall c)) k
        (record { bare = λ q b i. b; gone = λ q b i. b; wanted = λ q w. w }) (on_call L k (by_call k) c (λ q i. i) e)
        (record { here = λ p i. i; fixed = h })
stays_here L k (ReceivesMessage b let_go) h u e = λ p f. s.here p (s.fixed p f)
  where
    apart : (q : ℕ) → is_fixed k q ≡ false → is_fixed k q ≡ true → ⊥
    apart q a b = absurd (let z : false ≡ true = sym a ∙ b in cc)

    unlocked : (q : ℕ) → k.cache.locked q ≡ false → k.cache.locked q ≡ true → ⊥
    unlocked q a b = absurd (let z : false ≡ true = sym a ∙ b in cc)

    s : StayHere (λ q. (is_fixed k q ≡ true) × IsHere k q) (after_input L k (ReceivesMessage b let_go))
    s = here_steps L.keep_write k (by_message k) (λ q. (is_fixed k q ≡ true) × IsHere k q) (client_steps_at L k (ReceivesMessage b let_go)) k
        (record { bare = λ q n i. apart q n i.0; gone = λ q n i. unlocked q n i.1.read; wanted = λ q w. absurd w })
        (on_message L k (by_message k) b let_go (λ q n. n) (message_lets L k b let_go u) e)
        (record { here = λ p i. i.1; fixed = λ p f. (f, h p f) })

-- at the end nothing is fixed
ended_here : (L : Limits) (l : Client) → ClientKeeps L l → l.cache.status ≡ Idle → FixedHere l
ended_here L l h e p f = absurd (let z : true ≡ false = sym f ∙ h.idle_unfixed e p in cc)

fixed_here : (L : Limits) (Allowed : ClientInput → Type 0) (k : Client) → Arises L Allowed k → FixedHere k
fixed_here L Allowed k StartsNew = λ p f. absurd (let z : false ≡ true = f in cc)
fixed_here L Allowed k (Continues l i a u o) = go (fixed_here L Allowed l a) (ending L l i) refl ((in_use_given_back_once L Allowed l a).ends i)
  where
    go : FixedHere l → (e : Ending) → ending L l i ≡ e → EndsRight l (after_input L l i) (bodies_said (client_steps_at L l i)) e → FixedHere (after_input L l i)
    go h GoesOn e r = stays_here L l i h u e
    go h EndsCommitted e r = ended_here L (after_input L l i) (tidy_input L l i (tidy L Allowed l a) u) r.idle
    go h EndsDropped e r = ended_here L (after_input L l i) (tidy_input L l i (tidy L Allowed l a) u) r.idle

pages_stay : (L : Limits) (k : Client) (i : ClientInput) → ending L k i ≡ GoesOn → InputAllowed L k i → PagesStay k (after_input L k i)
pages_stay L k (ReceivesCall c) e u = let o = on_call L k (by_call k) c (λ q i. i) e in record {
  read = λ p g r. let s = read_steps L.keep_write k (by_call k) p g (client_steps_at L k (ReceivesCall c)) k r (λ q n. absurd n) o (record { held = r.0; locked = r.1 }) in (s.held, s.locked);
  fixed = λ p f. fixed_steps L.keep_write k (by_call k) p (client_steps_at L k (ReceivesCall c)) k o f;
}
pages_stay L k (ReceivesMessage b let_go) e u = let o = on_message L k (by_message k) b let_go (λ q n. n) (message_lets L k b let_go u) e in record {
  read = λ p g r. let s = read_steps L.keep_write k (by_message k) p g (client_steps_at L k (ReceivesMessage b let_go)) k r (λ q n. n) o (record { held = r.0; locked = r.1 }) in (s.held, s.locked);
  fixed = λ p f. fixed_steps L.keep_write k (by_message k) p (client_steps_at L k (ReceivesMessage b let_go)) k o f;
}

pub fixed_pages_stay : (L : Limits) (Allowed : ClientInput → Type 0) → FixedPagesStay L Allowed
fixed_pages_stay L Allowed k a = (fixed_here L Allowed k a, λ i u e. pages_stay L k i e u)
