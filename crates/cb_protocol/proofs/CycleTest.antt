-- The deadlock test is exact: it is true exactly of the clients that lie on a cycle of the waits-for relation.
use Rattle.std.proofs.Common.{◌≡◌, ◌↔◌, ℕ, zero, suc, ◌<◌, Bool, true, false, ◌==◌, ◌&&◌, ◌||◌, not, ◌≢◌, ◌⊎◌, List, [], ◌∷◌, Option, Some, None, arith, refl, subst, inl, inr}
use Rattle.cb_protocol.specs.Basics.{is_none, is_exactly}
use Rattle.cb_protocol.specs.Server.{WaitingAsk, Server, has_ask, is_live_permission}
use Rattle.cb_protocol.specs.WaitsFor.{HasAsk, Behind, FirstAsk, HoldsUp, WaitsFor, Path, OneEdge, MoreEdges, LiesOnCycle, AsksInRange, is_behind, holds_up, first_waits_for, waits_for_below, waits_for, has_path_through, on_cycle}
use Rattle.cb_protocol.proofs.CyclePaths.{along, has_behind}

-- the tests of a queue say what the relations say
asks_is : (c : ℕ) (q : List WaitingAsk) → (has_ask c q ≡ true) ↔ HasAsk c q
asks_is c [] = ((λ e. absurd cc), (λ h. absurd h))
asks_is c (a ∷ q) = let i = asks_is c q in (to i.0, from i.1)
  where
    to : (has_ask c q ≡ true → HasAsk c q) → has_ask c (a ∷ q) ≡ true → HasAsk c (a ∷ q)
    to f e = go (a.client == c) refl e
      where
        go : (r : Bool) → (a.client == c) ≡ r → (r || has_ask c q) ≡ true → HasAsk c (a ∷ q)
        go true u v = inl (grind arith)
        go false u v = inr (f v)

    from : (HasAsk c q → has_ask c q ≡ true) → HasAsk c (a ∷ q) → has_ask c (a ∷ q) ≡ true
    from f (inl e) = grind arith
    from f (inr h) = let u = f h in grind arith

behind_is : (c d : ℕ) (q : List WaitingAsk) → (is_behind q c d ≡ true) ↔ Behind c d q
behind_is c d [] = ((λ e. absurd cc), (λ h. absurd h))
behind_is c d (a ∷ q) = let i = behind_is c d q in (to i.0, from i.1)
  where
    to : (is_behind q c d ≡ true → Behind c d q) → is_behind (a ∷ q) c d ≡ true → Behind c d (a ∷ q)
    to f e = go (a.client == d) (has_ask c q) refl refl e
      where
        go : (r u : Bool) → (a.client == d) ≡ r → has_ask c q ≡ u → ((r && u) || is_behind q c d) ≡ true → Behind c d (a ∷ q)
        go true true k l v = inl (grind arith, (asks_is c q).0 l)
        go true false k l v = inr (f v)
        go false u k l v = inr (f v)

    from : (Behind c d q → is_behind q c d ≡ true) → Behind c d (a ∷ q) → is_behind (a ∷ q) c d ≡ true
    from f (inl e) = let u = e.0 in let v = (asks_is c q).1 e.1 in grind arith
    from f (inr h) = let u = f h in grind arith

some_is : (w : Option ℕ) (d : ℕ) → is_exactly w d ≡ true → w ≡ Some d
some_is w d e = grind arith

is_some_self : (d : ℕ) → is_exactly (Some d) d ≡ true
is_some_self d = grind arith

writes : (w : Option ℕ) → not (is_none w) ≡ true → w ≢ None
writes w e = grind arith

is_write : (w : Option ℕ) → w ≢ None → not (is_none w) ≡ true
is_write w n = grind arith

holds_up_is : (s : Server) (p : ℕ) (a : WaitingAsk) (d : ℕ) → (holds_up s p a d ≡ true) ↔ HoldsUp s p a d
holds_up_is s p a d = (to (is_exactly (s.store.holder p) d) (is_live_permission s d p) (s.in_use d p) (not (is_none a.write_grant)) refl refl refl refl, from)
  where
    to : (w l m v : Bool) → is_exactly (s.store.holder p) d ≡ w → is_live_permission s d p ≡ l → s.in_use d p ≡ m → not (is_none a.write_grant) ≡ v → ((w && (l || m)) || (v && m)) ≡ true → HoldsUp s p a d
    to true true m v i j k x e = inl (some_is (s.store.holder p) d i, inl j)
    to true false true v i j k x e = inl (some_is (s.store.holder p) d i, inr k)
    to true false false true i j k x e = absurd cc
    to true false false false i j k x e = absurd cc
    to false l true true i j k x e = inr (writes a.write_grant x, k)
    to false l true false i j k x e = absurd cc
    to false l false true i j k x e = absurd cc
    to false l false false i j k x e = absurd cc

    yes : (w l m v : Bool) → (w ≡ true) × ((l ≡ true) ⊎ (m ≡ true)) → ((w && (l || m)) || (v && m)) ≡ true
    yes w l m v e = grind arith

    yes_marked : (w l m v : Bool) → v ≡ true → m ≡ true → ((w && (l || m)) || (v && m)) ≡ true
    yes_marked w l m v e f = grind arith

    from : HoldsUp s p a d → holds_up s p a d ≡ true
    from (inl h) = yes (is_exactly (s.store.holder p) d) (is_live_permission s d p) (s.in_use d p) (not (is_none a.write_grant)) (rw h.0 (is_some_self d), h.1)
    from (inr h) = yes_marked (is_exactly (s.store.holder p) d) (is_live_permission s d p) (s.in_use d p) (not (is_none a.write_grant)) (is_write a.write_grant h.0) h.1

first_is : (s : Server) (p c d : ℕ) (q : List WaitingAsk) → (first_waits_for s p q c d ≡ true) ↔ FirstAsk (HoldsUp s p) c d q
first_is s p c d [] = ((λ e. absurd cc), (λ h. absurd h))
first_is s p c d (a ∷ q) = (to (a.client == c) (holds_up s p a d) refl refl, λ f. both (a.client == c) (holds_up s p a d) (at f.0) ((holds_up_is s p a d).1 f.1))
  where
    same : (a.client == c) ≡ true → a.client ≡ c
    same e = grind arith

    at : a.client ≡ c → (a.client == c) ≡ true
    at e = grind arith

    to : (r h : Bool) → (a.client == c) ≡ r → holds_up s p a d ≡ h → (r && h) ≡ true → FirstAsk (HoldsUp s p) c d (a ∷ q)
    to true true i j e = (same i, (holds_up_is s p a d).0 j)
    to true false i j e = absurd cc
    to false h i j e = absurd cc

    both : (r h : Bool) → r ≡ true → h ≡ true → (r && h) ≡ true
    both r h e f = grind arith

abbrev AtPage : Server → ℕ → ℕ → ℕ → Type 0
AtPage s c d p = Behind c d (s.queue p) ⊎ FirstAsk (HoldsUp s p) c d (s.queue p)

below_is : (s : Server) (c d n : ℕ) → (waits_for_below s c d n ≡ true) ↔ ((p : ℕ) × (p < n) × AtPage s c d p)
below_is s c d zero = ((λ e. absurd cc), (λ w. let l = w.1 in absurd (omega arith)))
below_is s c d (suc n) = let i = below_is s c d n in (to i.0 (waits_for_below s c d n) (is_behind (s.queue n) c d) (first_waits_for s n (s.queue n) c d) refl refl refl, from i.1)
  where
    to : (waits_for_below s c d n ≡ true → (p : ℕ) × (p < n) × AtPage s c d p) → (r v w : Bool) → waits_for_below s c d n ≡ r → is_behind (s.queue n) c d ≡ v → first_waits_for s n (s.queue n) c d ≡ w → (r || v || w) ≡ true → (p : ℕ) × (p < suc n) × AtPage s c d p
    to f true v w i j k e = let y = f i in (y.0, omega arith, y.2)
    to f false true w i j k e = (n, omega arith, inl ((behind_is c d (s.queue n)).0 j))
    to f false false true i j k e = (n, omega arith, inr ((first_is s n c d (s.queue n)).0 k))
    to f false false false i j k e = absurd cc

    cases : (p n : ℕ) → p < suc n → (p < n) ⊎ (p ≡ n)
    cases p n l = grind arith

    one : (r v w : Bool) → (r ≡ true) ⊎ ((v ≡ true) ⊎ (w ≡ true)) → (r || v || w) ≡ true
    one r v w e = grind arith

    here : AtPage s c d n → (is_behind (s.queue n) c d ≡ true) ⊎ (first_waits_for s n (s.queue n) c d ≡ true)
    here (inl b) = inl ((behind_is c d (s.queue n)).1 b)
    here (inr b) = inr ((first_is s n c d (s.queue n)).1 b)

    from : ((p : ℕ) × (p < n) × AtPage s c d p → waits_for_below s c d n ≡ true) → (p : ℕ) × (p < suc n) × AtPage s c d p → waits_for_below s c d (suc n) ≡ true
    from f w = elim (cases w.0 n w.1) [
      | inl l ↦ one (waits_for_below s c d n) (is_behind (s.queue n) c d) (first_waits_for s n (s.queue n) c d) (inl (f (w.0, l, w.2)))
      | inr e ↦ one (waits_for_below s c d n) (is_behind (s.queue n) c d) (first_waits_for s n (s.queue n) c d) (inr (here (subst (λ (p : ℕ). AtPage s c d p) e w.2)))
    ]

has_first : (Holds : WaitingAsk → ℕ → Type 0) (c d : ℕ) (q : List WaitingAsk) → FirstAsk Holds c d q → HasAsk c q
has_first Holds c d [] f = absurd f
has_first Holds c d (a ∷ q) f = inl f.0

-- who waits has an ask
asks_at : (s : Server) (c d p : ℕ) → AtPage s c d p → HasAsk c (s.queue p)
asks_at s c d p (inl b) = (has_behind c d (s.queue p) b).0
asks_at s c d p (inr f) = has_first (HoldsUp s p) c d (s.queue p) f

-- with every ask for a page that there is
pub waits_is : (s : Server) → AsksInRange s → (c d : ℕ) → (waits_for s c d ≡ true) ↔ WaitsFor s c d
waits_is s r c d = (to (c == d) (waits_for_below s c d s.pages) refl refl, from)
  where
    differ : (c == d) ≡ false → c ≢ d
    differ e = grind arith

    apart : c ≢ d → (c == d) ≡ false
    apart n = grind arith

    to : (u w : Bool) → (c == d) ≡ u → waits_for_below s c d s.pages ≡ w → (not u && w) ≡ true → WaitsFor s c d
    to true w i j e = absurd cc
    to false true i j e = let x = (below_is s c d s.pages).0 j in (differ i, (x.0, x.2))
    to false false i j e = absurd cc

    both : (u w : Bool) → u ≡ false → w ≡ true → (not u && w) ≡ true
    both u w i j = grind arith

    from : WaitsFor s c d → waits_for s c d ≡ true
    from w = both (c == d) (waits_for_below s c d s.pages) (apart w.0) ((below_is s c d s.pages).1 (w.1.0, (r w.1.0 c (asks_at s c d w.1.0 w.1.1)).1, w.1.1))

module _ (r : ℕ → ℕ → Bool) where
  way_more : (n c d : ℕ) → r c d ≡ true → has_path_through r n c d ≡ true
  way_more zero c d e = e
  way_more (suc n) c d e = let u = way_more n c d e in grind arith

  way_join : (n c m d : ℕ) → m < n → has_path_through r n c m ≡ true → has_path_through r n m d ≡ true → has_path_through r n c d ≡ true
  way_join zero c m d l u v = absurd (omega arith)
  way_join (suc n) c m d l u v = grind (arith, way_join n c m d, way_join n c m n, way_join n n m d)

  way_is : (n c d : ℕ) → has_path_through r n c d ≡ true → Path (λ x y. r x y ≡ true) c d
  way_is zero c d e = OneEdge e
  way_is (suc n) c d e = go (way_is n c d) (way_is n c n) (way_is n n d) (has_path_through r n c d) (has_path_through r n c n) (has_path_through r n n d) refl refl refl e
    where
      go : (has_path_through r n c d ≡ true → Path (λ x y. r x y ≡ true) c d) → (has_path_through r n c n ≡ true → Path (λ x y. r x y ≡ true) c n) → (has_path_through r n n d ≡ true → Path (λ x y. r x y ≡ true) n d)
          → (u v w : Bool) → has_path_through r n c d ≡ u → has_path_through r n c n ≡ v → has_path_through r n n d ≡ w → (u || (v && w)) ≡ true → Path (λ x y. r x y ≡ true) c d
      go f g h true v w i j k e = f i
      go f g h false true true i j k e = along (g j) (h k)
      go f g h false true false i j k e = absurd cc
      go f g h false false w i j k e = absurd cc

  way_has : (n : ℕ) → ((c d : ℕ) → r c d ≡ true → c < n) → (c d : ℕ) → Path (λ x y. r x y ≡ true) c d → has_path_through r n c d ≡ true
  way_has n f c d (OneEdge e) = way_more n c d e
  way_has n f c d (MoreEdges {next = m} e w) = way_join n c m d (source m d w) (way_more n c m e) (way_has n f m d w)
    where
      source : (m d : ℕ) → Path (λ x y. r x y ≡ true) m d → m < n
      source m d (OneEdge e) = f m d e
      source m d (MoreEdges {next = k} e w) = f m k e

-- a path of one relation is a path of another that holds it
pub carry : {R S : ℕ → ℕ → Type 0} → ((c d : ℕ) → R c d → S c d) → (c d : ℕ) → Path R c d → Path S c d
carry f c d (OneEdge r) = OneEdge (f c d r)
carry f c e (MoreEdges {next = d} r w) = MoreEdges (f c d r) (carry f d e w)

-- the law
pub test_is_exact : (s : Server) → AsksInRange s → (c : ℕ) → (on_cycle s c ≡ true) ↔ LiesOnCycle (WaitsFor s) c
test_is_exact s r c = (
  (λ e. carry (λ x y i. (waits_is s r x y).0 i) c c (way_is (waits_for s) s.clients c c e)),
  (λ w. way_has (waits_for s) s.clients source c c (carry (λ x y i. (waits_is s r x y).1 i) c c w)),
)
  where
    source : (c d : ℕ) → waits_for s c d ≡ true → c < s.clients
    source c d e = let w = (waits_is s r c d).0 e in (r w.1.0 c (asks_at s c d w.1.0 w.1.1)).0
