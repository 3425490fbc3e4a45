-- A cycle goes through the first ask of each queue that it meets.
use Rattle.std.proofs.Common.{◌≡◌, ℕ, suc, ◌+◌, ◌<◌, ◌≤◌, Bool, true, false, ◌==◌, if◌then◌else◌, ◌≢◌, ◌⊎◌, List, [], ◌∷◌, arith, refl, sym, subst, inl, inr}
use Rattle.cb_protocol.specs.WaitsFor.{HasAsk, Behind, FirstAsk, Path, OneEdge, MoreEdges, LiesOnCycle}
use Rattle.cb_protocol.specs.Server.{WaitingAsk}
use Rattle.cb_protocol.specs.Deadlock.{ask_count, OneAsk}

-- the waits-for relation of any queues, and of any meaning of "d holds up the ask a, the first for page p"
abbrev pub WaitsBy : (ℕ → List WaitingAsk) → (ℕ → WaitingAsk → ℕ → Type 0) → ℕ → ℕ → Type 0
WaitsBy queue Holds c d = (c ≢ d) × ((p : ℕ) × (Behind c d (queue p) ⊎ FirstAsk (Holds p) c d (queue p)))

-- how many asks stand before the first of c
abbrev pub place : ℕ → List WaitingAsk → ℕ
place c [] = 0
place c (a ∷ q) = if a.client == c then 0 else suc (place c q)

pub has_count : (c : ℕ) (q : List WaitingAsk) → HasAsk c q → 0 < ask_count c q
has_count c [] h = absurd h
has_count c (a ∷ q) (inl e) = grind arith
has_count c (a ∷ q) (inr h) = omega (arith, has_count c q h)

pub count_has : (c : ℕ) (q : List WaitingAsk) → 0 < ask_count c q → HasAsk c q
count_has c [] h = absurd (omega arith)
count_has c (a ∷ q) h = go (count_has c q) (a.client == c) refl h
  where
    same : (a.client == c) ≡ true → a.client ≡ c
    same e = grind arith

    go : (0 < ask_count c q → HasAsk c q) → (r : Bool) → (a.client == c) ≡ r → 0 < (if r then 1 else 0) + ask_count c q → (a.client ≡ c) ⊎ HasAsk c q
    go f true e l = inl (same e)
    go f false e l = inr (f (omega arith))

pub has_behind : (c d : ℕ) (q : List WaitingAsk) → Behind c d q → HasAsk c q × HasAsk d q
has_behind c d [] b = absurd b
has_behind c d (a ∷ q) (inl b) = (inr b.1, inl b.0)
has_behind c d (a ∷ q) (inr b) = let h = has_behind c d q b in (inr h.0, inr h.1)

-- who is behind has the greater place
pub behind_place : (c d : ℕ) (q : List WaitingAsk) → ask_count c q ≤ 1 → ask_count d q ≤ 1 → Behind c d q → place d q < place c q
behind_place c d [] l m b = absurd b
behind_place c d (a ∷ q) l m (inl b) = grind (arith, has_count c q b.1)
behind_place c d (a ∷ q) l m (inr b) = let h = has_behind c d q b in grind (arith, has_count c q h.0, has_count d q h.1, behind_place c d q)

-- who has an ask is the first or behind it
pub first_or_behind : (c : ℕ) (a : WaitingAsk) (q : List WaitingAsk) → HasAsk c (a ∷ q) → (a.client ≡ c) ⊎ Behind c a.client (a ∷ q)
first_or_behind c a q (inl e) = inl e
first_or_behind c a q (inr h) = inr (inl (refl, h))

pub along : {R : ℕ → ℕ → Type 0} {c d e : ℕ} → Path R c d → Path R d e → Path R c e
along (OneEdge r) v = MoreEdges r v
along (MoreEdges r w) v = MoreEdges r (along w v)

-- two numbers are the same, or not
pub same_or_not : (m n : ℕ) → (m ≡ n) ⊎ (m ≢ n)
same_or_not m n = go (m == n) refl
  where
    go : (r : Bool) → (m == n) ≡ r → (m ≡ n) ⊎ (m ≢ n)
    go true e = inl (grind arith)
    go false e = inr (grind arith)

-- the first ask of a queue lies on no cycle
abbrev pub Clear : (ℕ → ℕ → Type 0) → List WaitingAsk → Type 0
Clear R [] = Unit {0}
Clear R (a ∷ q) = LiesOnCycle R a.client → ⊥

module _ (queue : ℕ → List WaitingAsk) (Holds : ℕ → WaitingAsk → ℕ → Type 0) (one : OneAsk queue) where
  -- c has one ask, in one queue
  one_page : (p q c : ℕ) → HasAsk c (queue p) → HasAsk c (queue q) → p ≡ q
  one_page p q c h k = elim (same_or_not p q) [
    | inl e ↦ e
    | inr n ↦ let u = has_count c (queue p) h in let v = has_count c (queue q) k in let w = one.apart p q c n in absurd (omega arith)
  ]

  pub has_first : (c d p : ℕ) → FirstAsk (Holds p) c d (queue p) → HasAsk c (queue p)
  has_first c d p f = go (queue p) f
    where
      go : (q : List WaitingAsk) → FirstAsk (Holds p) c d q → HasAsk c q
      go [] f = absurd f
      go (a ∷ q) f = inl f.0

  -- c waits at the page of its ask
  here : (c d p : ℕ) → HasAsk c (queue p) → WaitsBy queue Holds c d → Behind c d (queue p) ⊎ FirstAsk (Holds p) c d (queue p)
  here c d p h w = elim w.1.1 [
    | inl b ↦ inl (subst (λ (x : ℕ). Behind c d (queue x)) (one_page w.1.0 p c (has_behind c d (queue w.1.0) b).0 h) b)
    | inr f ↦ inr (subst (λ (x : ℕ). FirstAsk (Holds x) c d (queue x)) (one_page w.1.0 p c (has_first c d w.1.0 f) h) f)
  ]

  -- who has an ask on the way reaches all else by the first
  reach : (p : ℕ) (a : WaitingAsk) (q : List WaitingAsk) → queue p ≡ a ∷ q → (c d : ℕ) → Path (WaitsBy queue Holds) c d → HasAsk c (queue p) → (HasAsk d (queue p) × (place d (queue p) < place c (queue p))) ⊎ Path (WaitsBy queue Holds) a.client d
  reach p a q e c d (OneEdge w) h = elim (here c d p h w) [
    | inl b ↦ inl ((has_behind c d (queue p) b).1, behind_place c d (queue p) (one.here p c) (one.here p d) b)
    | inr f ↦ let g = subst (λ (x : List WaitingAsk). FirstAsk (Holds p) c d x) e f in inr (OneEdge (subst (λ (x : ℕ). WaitsBy queue Holds x d) (sym g.0) w))
  ]
  reach p a q e c d (MoreEdges {next = m} w v) h = elim (here c m p h w) [
    | inl b ↦ elim (reach p a q e m d v (has_behind c m (queue p) b).1) [
      | inl i ↦ inl (i.0, let l = behind_place c m (queue p) (one.here p c) (one.here p m) b in let k = i.1 in omega arith)
      | inr r ↦ inr r
    ]
    | inr f ↦ let g = subst (λ (x : List WaitingAsk). FirstAsk (Holds p) c m x) e f in inr (MoreEdges (subst (λ (x : ℕ). WaitsBy queue Holds x m) (sym g.0) w) v)
  ]

  -- a cycle through an ask goes through the first of its queue
  pub first_on : (p c : ℕ) → HasAsk c (queue p) → LiesOnCycle (WaitsBy queue Holds) c → Clear (WaitsBy queue Holds) (queue p) → ⊥
  first_on p c h w k = go (queue p) refl
    where
      go : (x : List WaitingAsk) → queue p ≡ x → ⊥
      go [] e = subst (λ (x : List WaitingAsk). HasAsk c x) e h
      go (a ∷ q) e = let free : (LiesOnCycle (WaitsBy queue Holds) a.client → ⊥) = subst (λ (x : List WaitingAsk). Clear (WaitsBy queue Holds) x) e k in elim (reach p a q e c c w h) [
        | inl i ↦ let l = i.1 in omega arith
        | inr r ↦ elim (same_or_not a.client c) [
          | inl s ↦ free (subst (λ (x : ℕ). Path (WaitsBy queue Holds) a.client x) (sym s) r)
          | inr n ↦ free (along r (OneEdge ((λ s. n (sym s)), (p, inl (behind a q e n)))))
        ]
      ]
        where
          behind : (a : WaitingAsk) (q : List WaitingAsk) → queue p ≡ a ∷ q → a.client ≢ c → Behind c a.client (queue p)
          behind a q e n = subst (λ (x : List WaitingAsk). Behind c a.client x) (sym e) (elim (first_or_behind c a q (subst (λ (x : List WaitingAsk). HasAsk c x) e h)) [ inl s ↦ absurd (n s) | inr b ↦ b ])

  -- who waits has an ask
  pub waits_has : (c d : ℕ) → Path (WaitsBy queue Holds) c d → (p : ℕ) × HasAsk c (queue p)
  waits_has c d (OneEdge w) = (w.1.0, elim w.1.1 [ inl b ↦ (has_behind c d (queue w.1.0) b).0 | inr f ↦ has_first c d w.1.0 f ])
  waits_has c d (MoreEdges {next = m} w v) = (w.1.0, elim w.1.1 [ inl b ↦ (has_behind c m (queue w.1.0) b).0 | inr f ↦ has_first c m w.1.0 f ])

  -- where each first ask lies on no cycle, there is none
  pub none_where_clear : ((p : ℕ) → Clear (WaitsBy queue Holds) (queue p)) → (c : ℕ) → LiesOnCycle (WaitsBy queue Holds) c → ⊥
  none_where_clear k c w = let h = waits_has c c w in first_on h.0 c h.1 w (k h.0)

-- Two states that differ at page q alone, where the first ask lies on no cycle afterwards: a page that was clear stays clear.
module _ (queue old : ℕ → List WaitingAsk) (Holds Held : ℕ → WaitingAsk → ℕ → Type 0) (one : OneAsk queue) (q : ℕ)
    (same : (p : ℕ) → p ≢ q → queue p ≡ old p) (held : (p : ℕ) (a : WaitingAsk) (d : ℕ) → p ≢ q → Holds p a d → Held p a d)
  where
    first_held : (p c d : ℕ) (x : List WaitingAsk) → p ≢ q → FirstAsk (Holds p) c d x → FirstAsk (Held p) c d x
    first_held p c d [] n f = absurd f
    first_held p c d (a ∷ x) n f = (f.0, held p a d n f.1)

    -- an edge is old, or starts at an ask of page q
    old_edge : (c d : ℕ) → WaitsBy queue Holds c d → WaitsBy old Held c d ⊎ HasAsk c (queue q)
    old_edge c d w = elim (same_or_not w.1.0 q) [
      | inl e ↦ inr (subst (λ (x : ℕ). HasAsk c (queue x)) e (elim w.1.1 [ inl b ↦ (has_behind c d (queue w.1.0) b).0 | inr f ↦ has_first queue Holds one c d w.1.0 f ]))
      | inr n ↦ inl (
        w.0,
        (
          w.1.0,
          elim w.1.1 [
            | inl b ↦ inl (subst (λ (x : List WaitingAsk). Behind c d x) (same w.1.0 n) b)
            | inr f ↦ inr (subst (λ (x : List WaitingAsk). FirstAsk (Held w.1.0) c d x) (same w.1.0 n) (first_held w.1.0 c d (queue w.1.0) n f))
          ],
        ),
      )
    ]

    -- a path is old, or meets an ask of page q
    old_path : (c d : ℕ) → Path (WaitsBy queue Holds) c d → Path (WaitsBy old Held) c d ⊎ ((m : ℕ) × HasAsk m (queue q) × ((c ≡ m) ⊎ Path (WaitsBy queue Holds) c m) × Path (WaitsBy queue Holds) m d)
    old_path c d (OneEdge w) = elim (old_edge c d w) [ inl o ↦ inl (OneEdge o) | inr h ↦ inr (c, h, inl refl, OneEdge w) ]
    old_path c d (MoreEdges {next = m} w v) = elim (old_edge c m w) [
      | inl o ↦ elim (old_path m d v) [
        | inl u ↦ inl (MoreEdges o u)
        | inr k ↦ inr (k.0, k.1, inr (elim k.2 [ inl e ↦ OneEdge (subst (λ (x : ℕ). WaitsBy queue Holds c x) e w) | inr u ↦ MoreEdges w u ]), k.3)
      ]
      | inr h ↦ inr (c, h, inl refl, MoreEdges w v)
    ]

    pub stays_clear : (p : ℕ) → p ≢ q → Clear (WaitsBy queue Holds) (queue q) → Clear (WaitsBy old Held) (old p) → Clear (WaitsBy queue Holds) (queue p)
    stays_clear p n k o = subst (λ (x : List WaitingAsk). Clear (WaitsBy queue Holds) x) (sym (same p n)) (go (old p) o)
      where
        go : (x : List WaitingAsk) → Clear (WaitsBy old Held) x → Clear (WaitsBy queue Holds) x
        go [] o = tt
        go (a ∷ x) o = λ w. elim (old_path a.client a.client w) [
          | inl u ↦ o u
          | inr m ↦ first_on queue Holds one q m.0 m.1 (elim m.2 [ inl e ↦ subst (λ (x : ℕ). Path (WaitsBy queue Holds) m.0 x) e m.3 | inr u ↦ along m.3 u ]) k
        ]

pub below_or_not : (m n : ℕ) → (m < n) ⊎ (n ≤ m)
below_or_not m n = grind arith
