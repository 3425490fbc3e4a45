-- A pool can take the page for which its client asks: there is room for it, or a page that may be let go.
use Rattle.std.proofs.Common.{Bool, List, None, Option, Some, [], arith, false, if◌then◌else◌, inl, inr, nat_lt, not, refl, subst, suc, sym, true, zero, ℕ, ◌&&◌, ◌+◌, ◌<◌, ◌==◌, ◌||◌, ◌∙◌, ◌∷◌, ◌≡◌, ◌≢◌, ◌≤◌, ◌⊎◌}
use Rattle.std.specs.Prelude.{⊤}
use Rattle.cb_protocol.specs.Basics.{Limits, is_none, update}
use Rattle.cb_protocol.specs.Cache.{Abandon, Begin, CacheChange, Fill, Finish, Install, LetGo, Lock, MakeBare, Read, RefuseGrant, TakeDone, TakePermission, TakeWelcome, WriteBytes, YieldPermission, cache_after}
use Rattle.cb_protocol.specs.Client.{Ask, ChangeCache, Client, ClientStep, EndTransaction, MarkDue, MarkDueDowngrade, MarkWanted, NoAsk, ReadAsk, Say, SetAsk, WriteAsk, after_client_step, asks_to_read, client_after, has_room, is_asking, is_fixed, new_client, pages_in_pool, some_unfixed}
use Rattle.cb_protocol.specs.ClientMessages.{MayLetGo}

-- what holds of a client's pool
pub record Roomy (L : Limits) (k : Client) : Type 0 where
  pub held : (p : ℕ) → is_none (k.cache.held p) ≡ true → is_none (k.cache.content p) ≡ true
  pub within : (p : ℕ) → L.pages ≤ p → is_none (k.cache.content p) ≡ true
  pub bounded : pages_in_pool k L.pages ≤ L.slots
  pub asked : (p : ℕ) → asks_to_read k.ask p ≡ true → (p < L.pages) × (is_none (k.cache.content p) ≡ true) × (has_room L k ≡ true)

-- no page comes, none becomes fixed, and no ask to read goes out
record Shrinks (k k' : Client) : Type 0 where
  gone : (q : ℕ) → is_none (k.cache.content q) ≡ true → is_none (k'.cache.content q) ≡ true
  fixed : (q : ℕ) → is_fixed k q ≡ false → is_fixed k' q ≡ false
  held : (q : ℕ) → is_none (k'.cache.held q) ≡ true → (is_none (k.cache.held q) ≡ true) ⊎ (is_none (k'.cache.content q) ≡ true)
  ask : (q : ℕ) → asks_to_read k'.ask q ≡ true → asks_to_read k.ask q ≡ true

-- no page more is in the pool
pub fewer : (k k' : Client) → ((q : ℕ) → is_none (k.cache.content q) ≡ true → is_none (k'.cache.content q) ≡ true) → (n : ℕ) → pages_in_pool k' n ≤ pages_in_pool k n
fewer k k' f zero = omega arith
fewer k k' f (suc n) = go (is_none (k.cache.content n)) (is_none (k'.cache.content n)) (f n) (fewer k k' f n)
  where
    go : (r u : Bool) → (r ≡ true → u ≡ true) → pages_in_pool k' n ≤ pages_in_pool k n → (if u then pages_in_pool k' n else pages_in_pool k' n + 1) ≤ (if r then pages_in_pool k n else pages_in_pool k n + 1)
    go true true g l = l
    go true false g l = absurd (let e : false ≡ true = g refl in cc)
    go false true g l = omega (arith, l)
    go false false g l = omega (arith, l)

or_right : (a : Bool) → (a || true) ≡ true
or_right true = refl
or_right false = refl

or_left : (a b : Bool) → a ≡ true → (a || b) ≡ true
or_left a b e = grind (arith, e)

-- a page that isn't fixed stays, or there is one page less
still_room : (k k' : Client) → Shrinks k k' → (n : ℕ) → some_unfixed k n ≡ true → (some_unfixed k' n ≡ true) ⊎ (pages_in_pool k' n < pages_in_pool k n)
still_room k k' s zero e = absurd cc
still_room k k' s (suc n) e = go (is_none (k.cache.content n)) (is_none (k'.cache.content n)) (is_fixed k n) (is_fixed k' n) (some_unfixed k n) (s.gone n) (s.fixed n) (still_room k k' s n) (fewer k k' s.gone n) e
  where
    m' : Bool
    m' = some_unfixed k' n

    p : ℕ
    p = pages_in_pool k n

    p' : ℕ
    p' = pages_in_pool k' n

    go : (r u x y m : Bool) → (r ≡ true → u ≡ true) → (x ≡ false → y ≡ false) → (m ≡ true → (some_unfixed k' n ≡ true) ⊎ (pages_in_pool k' n < pages_in_pool k n)) → pages_in_pool k' n ≤ pages_in_pool k n → (m || (not r && not x)) ≡ true
        → ((some_unfixed k' n || (not u && not y)) ≡ true) ⊎ ((if u then pages_in_pool k' n else pages_in_pool k' n + 1) < (if r then pages_in_pool k n else pages_in_pool k n + 1))
    go true false x y m g f h l e = absurd (let z : false ≡ true = g refl in cc)
    go true true x y true g f h l e = elim (h refl) [ inl a ↦ inl (or_left (some_unfixed k' n) (not true && not y) a) | inr a ↦ inr a ]
    go true true x y false g f h l e = absurd cc
    go false true x y m g f h l e = inr (omega (arith, l))
    go false false x y true g f h l e = elim (h refl) [ inl a ↦ inl (or_left (some_unfixed k' n) (not false && not y) a) | inr a ↦ inr (omega (arith, a)) ]
    go false false true y false g f h l e = absurd cc
    go false false false true false g f h l e = absurd (let z : true ≡ false = f refl in cc)
    go false false false false false g f h l e = inl (or_right (some_unfixed k' n))

room_kept : (L : Limits) (k k' : Client) → pages_in_pool k L.pages ≤ L.slots → Shrinks k k' → has_room L k ≡ true → has_room L k' ≡ true
room_kept L k k' b s e = go (nat_lt (pages_in_pool k L.pages) L.slots) refl e
  where
    fits : pages_in_pool k' L.pages < L.slots → has_room L k' ≡ true
    fits l = or_left (nat_lt (pages_in_pool k' L.pages) L.slots) (some_unfixed k' L.pages) (grind (arith, l))

    less : nat_lt (pages_in_pool k L.pages) L.slots ≡ true → pages_in_pool k' L.pages < L.slots
    less q = let l = fewer k k' s.gone L.pages in let a : pages_in_pool k L.pages < L.slots = grind (arith, q) in omega (arith, l, a)

    unfixed : some_unfixed k' L.pages ≡ true → has_room L k' ≡ true
    unfixed q = subst (λ (r : Bool). (nat_lt (pages_in_pool k' L.pages) L.slots || r) ≡ true) (sym q) (or_right (nat_lt (pages_in_pool k' L.pages) L.slots))

    go : (r : Bool) → nat_lt (pages_in_pool k L.pages) L.slots ≡ r → (r || some_unfixed k L.pages) ≡ true → has_room L k' ≡ true
    go true q e = fits (less q)
    go false q e = elim (still_room k k' s L.pages e) [ inl a ↦ unfixed a | inr a ↦ fits (omega (arith, a, b)) ]

roomy_shrinks : (L : Limits) (k k' : Client) → Roomy L k → Shrinks k k' → Roomy L k'
roomy_shrinks L k k' h s = record {
  held = λ q e. elim (s.held q e) [ inl a ↦ s.gone q (h.held q a) | inr b ↦ b ];
  within = λ q l. s.gone q (h.within q l);
  bounded = let a = fewer k k' s.gone L.pages in let b = h.bounded in omega (arith, a, b);
  asked = λ q e. (let a = h.asked q (s.ask q e) in (a.0, s.gone q a.1, room_kept L k k' h.bounded s a.2));
}

-- no page comes, and nobody asks to read
roomy_quiet : (L : Limits) (k k' : Client) → Roomy L k → ((q : ℕ) → is_none (k.cache.content q) ≡ true → is_none (k'.cache.content q) ≡ true) → ((q : ℕ) → is_none (k'.cache.held q) ≡ true → is_none (k.cache.held q) ≡ true)
    → ((q : ℕ) → asks_to_read k'.ask q ≡ true → ⊥) → Roomy L k'
roomy_quiet L k k' h gone held quiet = record {
  held = λ q e. gone q (h.held q (held q e));
  within = λ q l. gone q (h.within q l);
  bounded = let a = fewer k k' gone L.pages in let b = h.bounded in omega (arith, a, b);
  asked = λ q e. absurd (quiet q e);
}

not_asking : (a : Ask) (q : ℕ) → is_asking a ≡ false → asks_to_read a q ≡ true → ⊥
not_asking NoAsk q e f = cc
not_asking (ReadAsk p) q e f = cc
not_asking (WriteAsk p) q e f = cc

-- what a step needs
abbrev pub Rooms : Limits → Client → ClientStep → Type 0
Rooms L k (ChangeCache (Install p g v b)) = (p < L.pages) × (pages_in_pool k L.pages < L.slots) × (is_asking k.ask ≡ false)
Rooms L k (ChangeCache (Fill p g b)) = (p < L.pages) × (pages_in_pool k L.pages < L.slots) × (is_asking k.ask ≡ false) × (is_none (k.cache.held p) ≡ false)
Rooms L k (ChangeCache (WriteBytes p b)) = (is_asking k.ask ≡ false) × (is_none (k.cache.content p) ≡ false)
Rooms L k (SetAsk (ReadAsk p)) = (p < L.pages) × (is_none (k.cache.content p) ≡ true) × (has_room L k ≡ true)
Rooms L k (MarkWanted p) = is_asking k.ask ≡ false
Rooms L k _ = ⊤

abbrev pub AllRoom : Limits → Client → List ClientStep → Type 0
AllRoom L k [] = ⊤
AllRoom L k (a ∷ steps) = Rooms L k a × AllRoom L (after_client_step L.keep_write k a) steps

-- a page comes in
pub same_page : (q p : ℕ) → (q == p) ≡ true → q ≡ p
same_page q p e = grind arith

pub other_page : (q p : ℕ) → (q == p) ≡ false → q ≢ p
other_page q p e = grind arith

one_more : (k k' : Client) (p : ℕ) → ((q : ℕ) → q ≢ p → is_none (k.cache.content q) ≡ true → is_none (k'.cache.content q) ≡ true) → (n : ℕ) → (pages_in_pool k' n ≤ pages_in_pool k n + 1) × (n ≤ p → pages_in_pool k' n ≤ pages_in_pool k n)
one_more k k' p f zero = (omega arith, λ l. omega arith)
one_more k k' p f (suc n) = let h = one_more k k' p f n in (
  whole h (n == p) refl,
  λ l. step (is_none (k.cache.content n)) (is_none (k'.cache.content n)) (pages_in_pool k n) (f n (λ e. absurd (omega (arith, l, e)))) (h.1 (omega (arith, l))),
)
  where
    step : (r u : Bool) (m : ℕ) → (r ≡ true → u ≡ true) → pages_in_pool k' n ≤ m → (if u then pages_in_pool k' n else pages_in_pool k' n + 1) ≤ (if r then m else m + 1)
    step true true m g l = l
    step true false m g l = absurd (let e : false ≡ true = g refl in cc)
    step false true m g l = omega (arith, l)
    step false false m g l = omega (arith, l)

    there : (r u : Bool) → pages_in_pool k' n ≤ pages_in_pool k n → (if u then pages_in_pool k' n else pages_in_pool k' n + 1) ≤ (if r then pages_in_pool k n else pages_in_pool k n + 1) + 1
    there true true l = omega (arith, l)
    there true false l = omega (arith, l)
    there false true l = omega (arith, l)
    there false false l = omega (arith, l)

    apart : (r u : Bool) → (r ≡ true → u ≡ true) → pages_in_pool k' n ≤ pages_in_pool k n + 1 → (if u then pages_in_pool k' n else pages_in_pool k' n + 1) ≤ (if r then pages_in_pool k n else pages_in_pool k n + 1) + 1
    apart true true g l = l
    apart true false g l = absurd (let e : false ≡ true = g refl in cc)
    apart false true g l = omega (arith, l)
    apart false false g l = omega (arith, l)

    whole : (pages_in_pool k' n ≤ pages_in_pool k n + 1) × (n ≤ p → pages_in_pool k' n ≤ pages_in_pool k n) → (r : Bool) → (n == p) ≡ r → pages_in_pool k' (suc n) ≤ pages_in_pool k (suc n) + 1
    whole h true e = there (is_none (k.cache.content n)) (is_none (k'.cache.content n)) (h.1 (let q = same_page n p e in omega (arith, q)))
    whole h false e = apart (is_none (k.cache.content n)) (is_none (k'.cache.content n)) (f n (other_page n p e)) h.0

-- a page is let go
pub one_less : (k k' : Client) (p : ℕ) → ((q : ℕ) → is_none (k.cache.content q) ≡ true → is_none (k'.cache.content q) ≡ true) → is_none (k.cache.content p) ≡ false → is_none (k'.cache.content p) ≡ true → (n : ℕ) → p < n → pages_in_pool k' n < pages_in_pool k n
one_less k k' p f a b zero l = absurd (omega (arith, l))
one_less k k' p f a b (suc n) l = go (one_less k k' p f a b n) (n == p) refl
  where
    there : (r u : Bool) → r ≡ false → u ≡ true → pages_in_pool k' n ≤ pages_in_pool k n → (if u then pages_in_pool k' n else pages_in_pool k' n + 1) < (if r then pages_in_pool k n else pages_in_pool k n + 1)
    there true u x y l = absurd cc
    there false true x y l = omega (arith, l)
    there false false x y l = absurd cc

    apart : (r u : Bool) → (r ≡ true → u ≡ true) → pages_in_pool k' n < pages_in_pool k n → (if u then pages_in_pool k' n else pages_in_pool k' n + 1) < (if r then pages_in_pool k n else pages_in_pool k n + 1)
    apart true true g l = l
    apart true false g l = absurd (let e : false ≡ true = g refl in cc)
    apart false true g l = omega (arith, l)
    apart false false g l = omega (arith, l)

    below : n ≢ p → p < n
    below ne = grind (arith, ne, l)

    go : (p < n → pages_in_pool k' n < pages_in_pool k n) → (r : Bool) → (n == p) ≡ r → pages_in_pool k' (suc n) < pages_in_pool k (suc n)
    go h true e = there (is_none (k.cache.content n)) (is_none (k'.cache.content n)) (subst (λ (q : ℕ). is_none (k.cache.content q) ≡ false) (sym (same_page n p e)) a) (subst (λ (q : ℕ). is_none (k'.cache.content q) ≡ true) (sym (same_page n p e)) b) (fewer k k' f n)
    go h false e = apart (is_none (k.cache.content n)) (is_none (k'.cache.content n)) (f n) (h (below (other_page n p e)))

-- a map with a place cut out, or filled
pub cut_none : {A : Type 0} (f : ℕ → Option A) (p q : ℕ) → is_none (f q) ≡ true → is_none (update f p None q) ≡ true
cut_none f p q e = go (q == p)
  where
    go : (r : Bool) → is_none (if r then None else f q) ≡ true
    go true = refl
    go false = e

pub cut_there : {A : Type 0} (f : ℕ → Option A) (p : ℕ) → is_none (update f p None p) ≡ true
cut_there f p = go (p == p) same
  where
    same : (p == p) ≡ true
    same = grind arith

    go : (r : Bool) → r ≡ true → is_none (if r then None else f p) ≡ true
    go true e = refl
    go false e = absurd cc

put_apart : {A : Type 0} (f : ℕ → Option A) (p q : ℕ) (x : A) → q ≢ p → is_none (f q) ≡ true → is_none (update f p (Some x) q) ≡ true
put_apart f p q x ne e = go (q == p) refl
  where
    go : (r : Bool) → (q == p) ≡ r → is_none (if r then Some x else f q) ≡ true
    go true z = absurd (ne (same_page q p z))
    go false z = e

put_back : {A : Type 0} (f : ℕ → Option A) (p q : ℕ) (x : A) → is_none (update f p (Some x) q) ≡ true → (q ≢ p) × (is_none (f q) ≡ true)
put_back f p q x = go (q == p) refl
  where
    go : (r : Bool) → (q == p) ≡ r → is_none (if r then Some x else f q) ≡ true → (q ≢ p) × (is_none (f q) ≡ true)
    go true z e = absurd cc
    go false z e = (other_page q p z, e)

-- a change that brings nothing
shrinks_change : (b : Bool) (k : Client) (m : CacheChange) → ((p g v : ℕ) (x : _) → m ≢ Install p g v x) → ((p g : ℕ) (x : _) → m ≢ Fill p g x) → ((p : ℕ) (x : _) → m ≢ WriteBytes p x) → Shrinks k (record k { cache = cache_after b k.cache m })
shrinks_change b k (Install p g v x) f g' w = absurd (f p g v x refl)
shrinks_change b k (Fill p g x) f g' w = absurd (g' p g x refl)
shrinks_change b k (WriteBytes p x) f g' w = absurd (w p x refl)
shrinks_change b k (LetGo p) f g w = record {
  gone = λ q e. cut_none k.cache.content p q e;
  fixed = λ q e. e;
  held = λ q. go q (q == p);
  ask = λ q e. e;
}
  where
    go : (q : ℕ) (r : Bool) → is_none (if r then None else k.cache.held q) ≡ true → (is_none (k.cache.held q) ≡ true) ⊎ (is_none (if r then None else k.cache.content q) ≡ true)
    go q true e = inr refl
    go q false e = inl e
shrinks_change b k (MakeBare p) f g w = record { gone = λ q e. cut_none k.cache.content p q e; fixed = λ q e. e; held = λ q e. inl e; ask = λ q e. e }
shrinks_change b k Abandon f g w = record {
  gone = λ q e. went q (k.cache.wrote q) e;
  fixed = λ q. unfixed (k.wanted q) (k.cache.wrote q);
  held = λ q. go q (k.cache.wrote q);
  ask = λ q e. e;
}
  where
    went : (q : ℕ) (r : Bool) → is_none (k.cache.content q) ≡ true → is_none (if r then None else k.cache.content q) ≡ true
    went q true e = refl
    went q false e = e

    unfixed : (r u : Bool) → (r || u) ≡ false → (r || false) ≡ false
    unfixed true u e = absurd cc
    unfixed false u e = refl

    go : (q : ℕ) (r : Bool) → is_none (if r then None else k.cache.held q) ≡ true → (is_none (k.cache.held q) ≡ true) ⊎ (is_none (if r then None else k.cache.content q) ≡ true)
    go q true e = inr refl
    go q false e = inl e
shrinks_change b k (TakeDone n) f g w = record { gone = λ q e. e; fixed = λ q. unfixed (k.wanted q) (k.cache.wrote q); held = λ q e. inl e; ask = λ q e. e }
  where
    unfixed : (r u : Bool) → (r || u) ≡ false → (r || false) ≡ false
    unfixed true u e = absurd cc
    unfixed false u e = refl
shrinks_change b k TakeWelcome f g w = record { gone = λ q e. e; fixed = λ q e. e; held = λ q e. inl e; ask = λ q e. e }
shrinks_change b k Begin f g w = record { gone = λ q e. e; fixed = λ q e. e; held = λ q e. inl e; ask = λ q e. e }
shrinks_change b k (Lock p) f g w = record { gone = λ q e. e; fixed = λ q e. e; held = λ q e. inl e; ask = λ q e. e }
shrinks_change b k (Read p x) f g w = record { gone = λ q e. e; fixed = λ q e. e; held = λ q e. inl e; ask = λ q e. e }
shrinks_change b k (TakePermission p) f g w = record { gone = λ q e. e; fixed = λ q e. e; held = λ q e. inl e; ask = λ q e. e }
shrinks_change b k Finish f g w = record { gone = λ q e. e; fixed = λ q e. e; held = λ q e. inl e; ask = λ q e. e }
shrinks_change b k (RefuseGrant p x) f g w = record { gone = λ q e. e; fixed = λ q e. e; held = λ q e. inl e; ask = λ q e. e }
shrinks_change b k (YieldPermission p) f g w = record { gone = λ q e. e; fixed = λ q e. e; held = λ q e. inl e; ask = λ q e. e }

-- a page comes in
brought : (L : Limits) (k k' : Client) (p : ℕ) → Roomy L k → p < L.pages → pages_in_pool k L.pages < L.slots → ((q : ℕ) → asks_to_read k'.ask q ≡ true → ⊥)
    → ((q : ℕ) → q ≢ p → is_none (k.cache.content q) ≡ true → is_none (k'.cache.content q) ≡ true) → ((q : ℕ) → is_none (k'.cache.held q) ≡ true → (q ≢ p) × (is_none (k.cache.held q) ≡ true)) → Roomy L k'
brought L k k' p h near room quiet apart held = record {
  held = λ q e. (let a = held q e in apart q a.0 (h.held q a.1));
  within = λ q l. apart q (λ e. absurd (omega (arith, l, e, near))) (h.within q l);
  bounded = let a = (one_more k k' p apart L.pages).0 in omega (arith, a, room);
  asked = λ q e. absurd (quiet q e);
}

roomy_change : (L : Limits) (k : Client) (m : CacheChange) → Roomy L k → Rooms L k (ChangeCache m) → Roomy L (record k { cache = cache_after L.keep_write k.cache m })
roomy_change L k (Install p g v b) h a = brought L k _ p h a.0 a.1 (λ q. not_asking k.ask q a.2) (λ q ne e. put_apart k.cache.content p q b ne e) (λ q e. put_back k.cache.held p q g e)
roomy_change L k (Fill p g b) h a = brought L k _ p h a.0 a.1 (λ q. not_asking k.ask q a.2) (λ q ne e. put_apart k.cache.content p q b ne e) (λ q e. (λ z. absurd (let x : is_none (k.cache.held p) ≡ true = subst (λ (r : ℕ). is_none (k.cache.held r) ≡ true) z e in let y : true ≡ false = sym x ∙ a.3 in cc), e))
roomy_change L k (WriteBytes p b) h a = roomy_quiet L k _ h (λ q e. put_apart k.cache.content p q b (λ z. absurd (let x : is_none (k.cache.content p) ≡ true = subst (λ (r : ℕ). is_none (k.cache.content r) ≡ true) z e in let y : true ≡ false = sym x ∙ a.1 in cc)) e) (λ q e. e) (λ q. not_asking k.ask q a.0)
roomy_change L k m h a = roomy_shrinks L k _ h (shrinks_change L.keep_write k m (λ p g v x e. absurd cc) (λ p g x e. absurd cc) (λ p x e. absurd cc))

roomy_ask : (L : Limits) (k : Client) (a : Ask) → Roomy L k → Rooms L k (SetAsk a) → Roomy L (record k { ask = a })
roomy_ask L k NoAsk h a = record { held = h.held; within = h.within; bounded = h.bounded; asked = λ q e. absurd cc }
roomy_ask L k (WriteAsk p) h a = record { held = h.held; within = h.within; bounded = h.bounded; asked = λ q e. absurd cc }
roomy_ask L k (ReadAsk p) h a = record { held = h.held; within = h.within; bounded = h.bounded; asked = λ q e. there q (same_page p q e) }
  where
    there : (q : ℕ) → p ≡ q → (q < L.pages) × (is_none (k.cache.content q) ≡ true) × (has_room L k ≡ true)
    there q e = subst (λ (r : ℕ). (r < L.pages) × (is_none (k.cache.content r) ≡ true) × (has_room L k ≡ true)) e a

roomy_after : (L : Limits) (k : Client) (a : ClientStep) → Roomy L k → Rooms L k a → Roomy L (after_client_step L.keep_write k a)
roomy_after L k (ChangeCache m) h a = roomy_change L k m h a
roomy_after L k (Say b) h a = h
roomy_after L k (SetAsk x) h a = roomy_ask L k x h a
roomy_after L k (MarkWanted p) h a = roomy_quiet L k _ h (λ q e. e) (λ q e. e) (λ q. not_asking k.ask q a)
roomy_after L k (MarkDue p) h a = roomy_shrinks L k _ h (record { gone = λ q e. e; fixed = λ q e. e; held = λ q e. inl e; ask = λ q e. e })
roomy_after L k (MarkDueDowngrade p y) h a = roomy_shrinks L k _ h (record { gone = λ q e. e; fixed = λ q e. e; held = λ q e. inl e; ask = λ q e. e })
roomy_after L k (EndTransaction l) h a = roomy_quiet L k _ h (λ q e. e) (λ q e. e) (λ q e. absurd cc)

pub roomy_all : (L : Limits) (k : Client) (steps : List ClientStep) → Roomy L k → AllRoom L k steps → Roomy L (client_after L.keep_write k steps)
roomy_all L k [] h a = h
roomy_all L k (x ∷ steps) h a = roomy_all L (after_client_step L.keep_write k x) steps (roomy_after L k x h a.0) a.1

-- a pool that is new has nothing in it
none_in_pool : (n : ℕ) → pages_in_pool new_client n ≡ 0
none_in_pool zero = refl
none_in_pool (suc n) = none_in_pool n

pub roomy_new : (L : Limits) → Roomy L new_client
roomy_new L = record { held = λ p e. refl; within = λ p l. refl; bounded = let e = none_in_pool L.pages in omega (arith, e); asked = λ p e. absurd cc }

-- where there is room, there is a choice
unfixed_page : (k : Client) (n : ℕ) → some_unfixed k n ≡ true → (q : ℕ) × (is_none (k.cache.content q) ≡ false) × (is_fixed k q ≡ false)
unfixed_page k zero e = absurd cc
unfixed_page k (suc n) e = go (unfixed_page k n) (some_unfixed k n) refl (is_none (k.cache.content n)) refl (is_fixed k n) refl e
  where
    go : (some_unfixed k n ≡ true → (q : ℕ) × (is_none (k.cache.content q) ≡ false) × (is_fixed k q ≡ false)) → (m : Bool) → some_unfixed k n ≡ m → (r : Bool) → is_none (k.cache.content n) ≡ r → (x : Bool) → is_fixed k n ≡ x → (m || (not r && not x)) ≡ true → (q : ℕ) × (is_none (k.cache.content q) ≡ false) × (is_fixed k q ≡ false)
    go h true a r b x c e = h a
    go h false a true b x c e = absurd cc
    go h false a false b true c e = absurd cc
    go h false a false b false c e = (n, b, c)

pub may_choose : (L : Limits) (k : Client) (p : ℕ) → Roomy L k → asks_to_read k.ask p ≡ true → (o : Option ℕ) × MayLetGo L k p o
may_choose L k p h e = go (nat_lt (pages_in_pool k L.pages) L.slots) refl ((h.asked p e).2)
  where
    other : (q : ℕ) → is_none (k.cache.content q) ≡ false → q ≢ p
    other q a z = let x : is_none (k.cache.content p) ≡ false = subst (λ (r : ℕ). is_none (k.cache.content r) ≡ false) z a in let y : true ≡ false = sym (h.asked p e).1 ∙ x in cc

    full : nat_lt (pages_in_pool k L.pages) L.slots ≡ false → L.slots ≤ pages_in_pool k L.pages
    full a = grind (arith, a)

    free : nat_lt (pages_in_pool k L.pages) L.slots ≡ true → pages_in_pool k L.pages < L.slots
    free a = grind (arith, a)

    go : (r : Bool) → nat_lt (pages_in_pool k L.pages) L.slots ≡ r → (r || some_unfixed k L.pages) ≡ true → (o : Option ℕ) × MayLetGo L k p o
    go true a b = (None, free a)
    go false a b = let u = unfixed_page k L.pages b in (Some u.0, (other u.0 u.1, u.1, u.2, full a))
