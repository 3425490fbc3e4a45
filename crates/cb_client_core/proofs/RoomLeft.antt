-- The pool has room as before once a copy goes.
use Rattle.std.proofs.Common.{if◌then◌else◌, ◌≡◌, ◌≢◌, ◌<◌, ◌≤◌, ◌+◌, ◌==◌, ◌⊎◌, inl, inr, nat_lt, ℕ, zero, suc, Bool, true, false, true≢false, not, ◌&&◌, ◌||◌, refl, sym, ◌∙◌, ap, arith}
use Rattle.std.proofs.lemmas.Bool.Decides.{nat_tests}
use Rattle.cb_protocol.specs.Basics.{Limits, is_none}
use Rattle.cb_protocol.specs.Cache.{LetGo}
use Rattle.cb_protocol.specs.Client.{ChangeCache, Client, after_client_step, has_room, is_fixed, pages_in_pool, some_unfixed}
use Rattle.cb_client_core.specs.ClientState.{HasRoomLeft}

-- how many pages the pool has, and whether there is room, by what the table sees of the copies
count_same : (k l : Client) → ((q : ℕ) → k.cache.content q ≡ l.cache.content q) → (n : ℕ) → pages_in_pool k n ≡ pages_in_pool l n
count_same k l content zero = refl
count_same k l content (suc n) = λ i. if is_none (content n i) then count_same k l content n i else count_same k l content n i + 1

unfixed_same : (k l : Client) → ((q : ℕ) → k.cache.content q ≡ l.cache.content q) → ((q : ℕ) → is_fixed k q ≡ is_fixed l q) → (n : ℕ) → some_unfixed k n ≡ some_unfixed l n
unfixed_same k l content fixed zero = refl
unfixed_same k l content fixed (suc n) = λ i. unfixed_same k l content fixed n i || (not (is_none (content n i)) && not (fixed n i))

pub room_same : (L : Limits) (k l : Client) → ((q : ℕ) → k.cache.content q ≡ l.cache.content q) → ((q : ℕ) → is_fixed k q ≡ is_fixed l q) → HasRoomLeft L k → HasRoomLeft L l
room_same L k l content fixed h =
    let e : has_room L k ≡ has_room L l = λ i. nat_lt (count_same k l content L.pages i) L.slots || unfixed_same k l content fixed L.pages i in
    record { room = sym e ∙ h.room; within = let c = count_same k l content L.pages in let w = h.within in omega arith }

module _ (k : Client) (p : ℕ) where
  -- the client without that copy
  abbrev l : Client
  l = after_client_step false k (ChangeCache (LetGo p))

  -- no more are there; one fewer, where the page was
  count_less : (n : ℕ) → pages_in_pool l n ≤ pages_in_pool k n
  count_less zero = omega arith
  count_less (suc n) = by (n == p) refl (is_none (k.cache.content n)) refl (count_less n)
    where
      by : (b : Bool) → (n == p) ≡ b → (c : Bool) → is_none (k.cache.content n) ≡ c → pages_in_pool l n ≤ pages_in_pool k n → pages_in_pool l (suc n) ≤ pages_in_pool k (suc n)
      by true e true f h = rw (e, f) h
      by true e false f h = rw (e, f) (omega (arith, h))
      by false e true f h = rw (e, f) h
      by false e false f h = rw (e, f) (omega (arith, h))

  count_fewer : (n : ℕ) → p < n → is_none (k.cache.content p) ≡ false → pages_in_pool l n + 1 ≤ pages_in_pool k n
  count_fewer zero lt here = absurd (omega arith)
  count_fewer (suc n) lt here = by (n == p) refl (is_none (k.cache.content n)) refl (λ below. count_fewer n below here)
    where
      by : (b : Bool) → (n == p) ≡ b → (c : Bool) → is_none (k.cache.content n) ≡ c → (p < n → pages_in_pool l n + 1 ≤ pages_in_pool k n) → pages_in_pool l (suc n) + 1 ≤ pages_in_pool k (suc n)
      by true e true f h = absurd (true≢false (let same : n ≡ p = grind (arith, nat_tests) in sym (ap (λ q. is_none (k.cache.content q)) (sym same) ∙ f) ∙ here))
      by true e false f h = rw (e, f) (let c = count_less n in omega arith)
      by false e true f h = let other : n ≢ p = grind (arith, nat_tests) in rw (e, f) (h (omega (arith, other)))
      by false e false f h = let other : n ≢ p = grind (arith, nat_tests) in let less = h (omega (arith, other)) in rw (e, f) (omega (arith, less))

  -- a page that may go is there still, or it is the one that went
  unfixed_left : (n : ℕ) → some_unfixed k n ≡ true → (some_unfixed l n ≡ true) ⊎ ((p < n) × (is_none (k.cache.content p) ≡ false))
  unfixed_left zero e = absurd cc
  unfixed_left (suc n) e = by (n == p) refl (is_none (k.cache.content n)) refl (some_unfixed k n) refl (unfixed_left n)
    where
      by : (b : Bool) → (n == p) ≡ b → (c : Bool) → is_none (k.cache.content n) ≡ c → (u : Bool) → some_unfixed k n ≡ u
          → (some_unfixed k n ≡ true → (some_unfixed l n ≡ true) ⊎ ((p < n) × (is_none (k.cache.content p) ≡ false)))
          → (some_unfixed l (suc n) ≡ true) ⊎ ((p < suc n) × (is_none (k.cache.content p) ≡ false))
      by b t c f true u h = elim (h u) [ inl left ↦ inl (rw left refl) | inr went ↦ inr (let lt = went.0 in omega arith, went.1) ]
      by true t false f false u h = let same : n ≡ p = grind (arith, nat_tests) in inr (omega (arith, same), ap (λ q. is_none (k.cache.content q)) (sym same) ∙ f)
      by b t true f false u h = absurd (true≢false (sym e ∙ rw (u, f) refl))
      by false t false f false u h = inl (rw (t, f) (last (some_unfixed l n) (sym (rw (u, f) refl) ∙ e)))
        where
          last : (x : Bool) → not (is_fixed k n) ≡ true → (x || not (is_fixed k n)) ≡ true
          last true y = refl
          last false y = y

pub room_without : (L : Limits) (k : Client) (p : ℕ) → HasRoomLeft L k → HasRoomLeft L (after_client_step L.keep_write k (ChangeCache (LetGo p)))
room_without L k p h = record {
  room = by (nat_lt (pages_in_pool k L.pages) L.slots) refl;
  within = within;
}
  where
    within : pages_in_pool (l k p) L.pages ≤ L.slots
    within = let c = count_less k p L.pages in let w = h.within in omega arith

    free : pages_in_pool (l k p) L.pages < L.slots → has_room L (l k p) ≡ true
    free lt = let e : nat_lt (pages_in_pool (l k p) L.pages) L.slots ≡ true = grind (arith, nat_tests) in rw e refl

    or_true : (b : Bool) → (b || true) ≡ true
    or_true true = refl
    or_true false = refl

    by : (b : Bool) → nat_lt (pages_in_pool k L.pages) L.slots ≡ b → has_room L (l k p) ≡ true
    by true e = let lt : pages_in_pool k L.pages < L.slots = grind (arith, nat_tests) in free (let c = count_less k p L.pages in omega arith)
    by false e = elim (unfixed_left k p L.pages (rw e at h.room)) [
      | inl left ↦ rw left (or_true (nat_lt (pages_in_pool (l k p) L.pages) L.slots))
      | inr went ↦ free (let c = count_fewer k p L.pages went.0 went.1 in let w = h.within in omega arith)
    ]
