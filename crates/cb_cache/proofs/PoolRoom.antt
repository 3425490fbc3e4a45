-- The pool's room, and what it lets go, by the pool's words and by the protocol's.
use Rattle.std.proofs.Common.{◌≡◌, ◌<◌, ◌≤◌, ◌+◌, inl, inr, ℕ, IsTrue, ◌↔◌, true≢false, Bool, true, false, nat_lt, ◌||◌, List, [], ◌∷◌, length, take, Option, Some, None, zero, suc, slice_index_or, refl, sym, ◌∙◌, ap, subst, arith}
use Rattle.std.proofs.lemmas.Bool.Decides.{nat_tests}
use Rattle.std.proofs.lemmas.List.Sums.{count_by_more_no, count_by_more_yes}
use Rattle.std.proofs.lemmas.List.{take_all}
use Rattle.std.specs.Option.{is_some, is_none as no_bytes}
use Rattle.cb_page.specs.Flags as flags
use Rattle.cb_pool.specs.PoolState.{copy_of, held, HasLoose, HasRoom, MayGo}
use Rattle.cb_protocol.specs.Basics.{is_none}
use Rattle.cb_protocol.specs.Client.{Client, has_room, is_fixed, new_client, pages_in_pool, some_unfixed}
use Rattle.cb_protocol.specs.ClientMessages.{MayLetGo}
use Rattle.cb_cache.specs.CacheState.{AreCopies, CacheState, IsFull, client_with, content_at, limits_of}

is_none_of : (o : Option (List ℕ)) → is_some o ≡ false → is_none o ≡ true
is_none_of None e = refl
is_none_of (Some bytes) e = absurd cc

not_none_of : (o : Option (List ℕ)) → is_some o ≡ true → is_none o ≡ false
not_none_of None e = absurd cc
not_none_of (Some bytes) e = refl

or_true : (b : Bool) → (b || true) ≡ true
or_true true = refl
or_true false = refl

-- a page in the pool is within it
pub within_pool : (pages : List (Option (List ℕ))) (p : ℕ) → is_some (slice_index_or pages p None) ≡ true → p < length pages
within_pool [] p e = absurd cc
within_pool (o ∷ pages) zero e = omega arith
within_pool (o ∷ pages) (suc p) e = let lt = within_pool pages p e in omega arith

module _ (v : CacheState) (are : AreCopies v) (client : Client) where
  now : Client
  now = client_with v client

  pages_counted : (n : ℕ) → n ≤ length v.pool.pages → pages_in_pool (client_with v client) n ≡ held (take n v.pool.pages)
  pages_counted zero le = refl
  pages_counted (suc n) le = by (is_some (copy_of v.pool n)) refl (pages_counted n (omega arith))
    where
      next : n + 1 ≡ suc n
      next = omega arith

      by : (b : Bool) → is_some (copy_of v.pool n) ≡ b → pages_in_pool (client_with v client) n ≡ held (take n v.pool.pages)
          → pages_in_pool (client_with v client) (suc n) ≡ held (take (suc n) v.pool.pages)
      by true e r = rw (not_none_of (copy_of v.pool n) e) (let m : held (take (suc n) v.pool.pages) ≡ held (take n v.pool.pages) + 1 =
          subst (λ j. held (take j v.pool.pages) ≡ held (take n v.pool.pages) + 1) next (count_by_more_yes is_some v.pool.pages n None (omega arith) e) in omega arith)
      by false e r = rw (is_none_of (copy_of v.pool n) e) (let m : held (take (suc n) v.pool.pages) ≡ held (take n v.pool.pages) =
          subst (λ j. held (take j v.pool.pages) ≡ held (take n v.pool.pages)) next (count_by_more_no is_some v.pool.pages n None (omega arith) e) in omega arith)

  -- what the table counts is what the pool counts
  pub pool_counted : pages_in_pool (client_with v client) v.limits.pages ≡ held v.pool.pages
  pool_counted = pages_counted v.limits.pages (let e = are.sizes.pages in omega arith)
      ∙ ap held (take_all v.limits.pages v.pool.pages (let e = are.sizes.pages in omega arith))

  -- a page that may go, by the table
  unfixed_found : (n p : ℕ) → is_some (copy_of v.pool p) ≡ true → flags.has v.pool.fixed p ≡ false → p < n → some_unfixed (client_with v client) n ≡ true
  unfixed_found zero p here loose lt = absurd (omega arith)
  unfixed_found (suc n) p here loose lt = by (nat_lt p n) refl (λ below. unfixed_found n p here loose below)
    where
      last : p ≡ n → some_unfixed (client_with v client) (suc n) ≡ true
      last e =
          let there : is_none (content_at v n) ≡ false = not_none_of (copy_of v.pool n) (subst (λ q. is_some (copy_of v.pool q) ≡ true) e here) in
          let free : is_fixed (client_with v client) n ≡ false = sym (are.fixed n) ∙ subst (λ q. flags.has v.pool.fixed q ≡ false) e loose in
          rw (there, free) (or_true (some_unfixed (client_with v client) n))

      by : (b : Bool) → nat_lt p n ≡ b → (p < n → some_unfixed (client_with v client) n ≡ true) → some_unfixed (client_with v client) (suc n) ≡ true
      by true t found = rw (found (grind (arith, nat_tests))) refl
      by false t found = last (grind (arith, nat_tests))

  some_loose : (n : ℕ) → some_unfixed (client_with v client) n ≡ true → HasLoose v.pool.pages v.pool.fixed
  some_loose zero e = absurd cc
  some_loose (suc n) e = by (some_unfixed (client_with v client) n) refl (is_some (copy_of v.pool n)) refl (flags.has v.pool.fixed n) refl (some_loose n)
    where
      by : (b : Bool) → some_unfixed (client_with v client) n ≡ b → (c : Bool) → is_some (copy_of v.pool n) ≡ c → (d : Bool) → flags.has v.pool.fixed n ≡ d
          → (some_unfixed (client_with v client) n ≡ true → HasLoose v.pool.pages v.pool.fixed) → HasLoose v.pool.pages v.pool.fixed
      by true below c here d fixed more = more below
      by false below true here false fixed more = (n, here, fixed)
      by false below true here true fixed more =
          let f : is_fixed (client_with v client) n ≡ true = sym (are.fixed n) ∙ fixed in
          absurd (true≢false (sym e ∙ rw (below, f, not_none_of (copy_of v.pool n) here) refl))
      by false below false here d fixed more = absurd (true≢false (sym e ∙ rw (below, is_none_of (copy_of v.pool n) here) refl))

  pub room_there : HasRoom v.pool → has_room (limits_of v.limits) (client_with v client) ≡ true
  room_there (inl lt) =
      let free : nat_lt (pages_in_pool (client_with v client) v.limits.pages) v.limits.slots ≡ true =
      (let c = pool_counted in let s = are.sizes.slots in grind (arith, nat_tests)) in rw free refl
  room_there (inr (p, here, loose)) =
      let there : some_unfixed (client_with v client) v.limits.pages ≡ true =
      unfixed_found v.limits.pages p here loose (let w = within_pool v.pool.pages p here in let s = are.sizes.pages in omega arith) in
      rw there (or_true (nat_lt (pages_in_pool (client_with v client) v.limits.pages) v.limits.slots))

  pub room_known : has_room (limits_of v.limits) (client_with v client) ≡ true → HasRoom v.pool
  room_known e = by (nat_lt (pages_in_pool (client_with v client) v.limits.pages) v.limits.slots) refl
    where
      by : (b : Bool) → nat_lt (pages_in_pool (client_with v client) v.limits.pages) v.limits.slots ≡ b → HasRoom v.pool
      by true free = inl (let c = pool_counted in let s = are.sizes.slots in grind (arith, nat_tests))
      by false full = inr (some_loose v.limits.pages (rw full at e))

  -- the pool's word is the table's
  pub room_is : (b : Bool) → (IsTrue b ↔ HasRoom v.pool) → b ≡ has_room (limits_of v.limits) (client_with v client)
  room_is true e = sym (room_there (e.0 refl))
  room_is false e = by (has_room (limits_of v.limits) (client_with v client)) refl
    where
      by : (r : Bool) → has_room (limits_of v.limits) (client_with v client) ≡ r → false ≡ has_room (limits_of v.limits) (client_with v client)
      by false t = sym t
      by true t = absurd (true≢false (sym (e.1 (room_known t))))

  -- the pool's law is the table's
  pub may_go : (page : ℕ) → content_at v page ≡ None → (gone : Option ℕ) → MayGo v.pool page gone → MayLetGo (limits_of v.limits) (client_with v client) page gone
  may_go page out None (inl here) = absurd (true≢false (sym here ∙ ap is_some out))
  may_go page out None (inr lt) = let c = pool_counted in let s = are.sizes.slots in omega arith
  may_go page out (Some g) may =
      (may.4, not_none_of (copy_of v.pool g) may.2, sym (are.fixed g) ∙ may.3, let c = pool_counted in let s = are.sizes.slots in let f = may.1 in omega arith)

pub may_let_go : (v : CacheState) → AreCopies v → (page : ℕ) → content_at v page ≡ None → (gone : Option ℕ) → MayGo v.pool page gone
    → (client : Client) → MayLetGo (limits_of v.limits) (client_with v client) page gone
may_let_go v are page out gone may client = may_go v are client page out gone may

-- the pool has no room, by both words
pub full_is : (v : CacheState) → AreCopies v → (¬ (HasRoom v.pool)) ↔ IsFull v
full_is v are = (
  λ none client. by none client (has_room (limits_of v.limits) (client_with v client)) refl,
  λ full room. true≢false (sym (room_there v are new_client room) ∙ full new_client),
)
  where
    by : ¬ (HasRoom v.pool) → (client : Client) → (r : Bool) → has_room (limits_of v.limits) (client_with v client) ≡ r
        → has_room (limits_of v.limits) (client_with v client) ≡ false
    by none client false e = e
    by none client true e = absurd (none (room_known v are client e))

-- the pool's refusal, by the table's words
pub full_by : (v : CacheState) → AreCopies v → (page : ℕ) (Refused : Type 0)
    → (Refused ↔ (IsTrue (no_bytes (content_at v page)) × ¬ (HasRoom v.pool)))
    → (Refused ↔ ((content_at v page ≡ None) × IsFull v))
full_by v are page Refused e = (
  λ r. let x = e.0 r in (out_of (content_at v page) x.0, (full_is v are).0 x.1),
  λ y. e.1 (rw y.0 refl, (full_is v are).1 y.1),
)
  where
    out_of : (o : Option (List ℕ)) → IsTrue (no_bytes o) → o ≡ None
    out_of None t = refl
    out_of (Some bytes) t = absurd cc
