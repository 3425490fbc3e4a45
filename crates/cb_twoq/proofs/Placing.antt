-- The list that has a page, as the queues change.
use Rattle.std.proofs.Common.{◌≡◌, ◌≢◌, ◌⊎◌, inl, inr, ℕ, Bool, true, false, nat_eq, nat_lt, List, ◌∷◌, Some, if◌then◌else◌, ◌||◌, refl, sym, ◌∙◌, ap, subst, arith}
use Rattle.std.proofs.lemmas.Grind.{common_steps}
use Rattle.std.proofs.Math.ListN.{get_or, replicate}
use Rattle.std.proofs.lemmas.List.{get_or-replicate, get_or_past, length-replicate}
use Rattle.cb_twoq.specs.Pages.{has, without}
use Rattle.cb_twoq.specs.Queues.{TwoQState, empty, Slot, Free, OfA1in, OfAm, page_of, let_go, enter, renew, forget, AreQueues}
use Rattle.cb_twoq.specs.Indexed.{IsSlotOf}
use Rattle.cb_twoq.specs.Places.{Place, Out, A1in, Am, place_in, ArePlaces, IsPut, ComesIn}
use Rattle.cb_twoq.proofs.PageLists.{without_absent}
use Rattle.cb_twoq.proofs.Counts.{times_cons, is_there, isnt_there, not_there, same_there, times_without}
use Rattle.cb_twoq.proofs.Referred.{off_both}
use Rattle.cb_twoq.proofs.Forgotten.{times_off, others_off, own_off}

same_or_not : (p q : ℕ) → (p ≡ q) ⊎ (p ≢ q)
same_or_not p q = by (nat_eq p q) refl
  where
    by : (b : Bool) → nat_eq p q ≡ b → (p ≡ q) ⊎ (p ≢ q)
    by true e = inl (grind (arith, common_steps))
    by false e = inr (grind (arith, common_steps))

on_am : (q : TwoQState) (p : ℕ) → has q.am p ≡ true → place_in q p ≡ Am
on_am q p h = ap (λ b. if b then Am else if has q.a1in p then A1in else Out) h

on_a1in : (q : TwoQState) (p : ℕ) → has q.am p ≡ false → has q.a1in p ≡ true → place_in q p ≡ A1in
on_a1in q p h k = ap (λ b. if b then Am else if has q.a1in p then A1in else Out) h ∙ ap (λ b. if b then A1in else Out) k

pub on_neither : (q : TwoQState) (p : ℕ) → has q.am p ≡ false → has q.a1in p ≡ false → place_in q p ≡ Out
on_neither q p h k = ap (λ b. if b then Am else if has q.a1in p then A1in else Out) h ∙ ap (λ b. if b then A1in else Out) k

same_place : (q r : TwoQState) (p : ℕ) → has q.am p ≡ has r.am p → has q.a1in p ≡ has r.a1in p → place_in q p ≡ place_in r p
same_place q r p e f =
    ap (λ b. if b then Am else if has q.a1in p then A1in else Out) e ∙ ap (λ b. if has r.am p then Am else if b then A1in else Out) f

-- whether a page is in a slot, by its place
abbrev pub is_held : Place → Bool
is_held Out = false
is_held A1in = true
is_held Am = true

pub held_by_place : (q : TwoQState) (p : ℕ) (place : Place) → place ≡ place_in q p → is_held place ≡ (has q.am p || has q.a1in p)
held_by_place q p place e = ap is_held e ∙ by (has q.am p) (has q.a1in p)
  where
    by : (a b : Bool) → is_held (if a then Am else if b then A1in else Out) ≡ (a || b)
    by true b = refl
    by false true = refl
    by false false = refl

-- a page in no slot doesn't move
pub as_they_are : (q : TwoQState) (p : ℕ) → (has q.am p || has q.a1in p) ≡ false → q ≡ renew p q
as_they_are q p h = sym (ap (λ c. if c then record q { am = p ∷ without p q.am } else q) (off_both (has q.am p) (has q.a1in p) h).0)

all_out : (n p : ℕ) → get_or (replicate n Out) p Out ≡ Out
all_out n p = by (nat_lt p n) refl
  where
    by : (b : Bool) → nat_lt p n ≡ b → get_or (replicate n Out) p Out ≡ Out
    by true h = get_or-replicate n p Out Out (grind (arith, common_steps))
    by false h = get_or_past (replicate n Out) p Out (let l = length-replicate n Out in grind (arith, common_steps))

-- at first no page is in a slot
pub none_placed : (places : List Place) (slots kin kout : ℕ) → places ≡ replicate 4096 Out → ArePlaces places (empty slots kin kout)
none_placed places slots kin kout e = subst (λ (l : List Place). ArePlaces l (empty slots kin kout)) (sym e) (record {
  count = length-replicate 4096 Out;
  each = λ p. all_out 4096 p;
})

-- a page that moves to the head of Am stays there
pub renewed_places : (places : List Place) (q now : TwoQState) (page : ℕ) → ArePlaces places q → now ≡ renew page q → ArePlaces places now
renewed_places places q now page are e = subst (ArePlaces places) (sym e) (by (has q.am page) refl)
  where
    by : (b : Bool) → has q.am page ≡ b → ArePlaces places (renew page q)
    by true h = subst (ArePlaces places) (sym (ap (λ c. if c then record q { am = page ∷ without page q.am } else q) h)) (record {
      count = are.count;
      each = λ p. are.each p ∙ same_place q (record q { am = page ∷ without page q.am }) p
          (same_there q.am (page ∷ without page q.am) p (let w = times_without page q.am p h in let c = times_cons p page (without page q.am) in omega arith)) refl;
    })
    by false h = subst (ArePlaces places) (sym (ap (λ c. if c then record q { am = page ∷ without page q.am } else q) h)) are

module _ (q : TwoQState) (page : ℕ) (queues : AreQueues q) (places new : List Place) (are : ArePlaces places q) where
  -- a page that is forgotten is in no slot
  pub forgotten_places : IsPut places page Out new → ArePlaces new (forget page q)
  forgotten_places put = record {
    count = put.count ∙ are.count;
    each = λ p. elim (same_or_not p page) [
      | inl e ↦
          (let o = queues.once page in
          ap (λ x. get_or new x Out) e ∙ put.own
          ∙ sym (ap (place_in (forget page q)) e ∙ on_neither (forget page q) page
          (not_there (without page q.am) page (own_off q page queues q.am (omega arith)))
          (not_there (without page q.a1in) page (own_off q page queues q.a1in (omega arith)))))
      | inr n ↦
          put.others p n ∙ are.each p
          ∙ same_place q (forget page q) p
          (same_there q.am (without page q.am) p (sym (others_off q page queues q.am p n)))
          (same_there q.a1in (without page q.a1in) p (sym (others_off q page queues q.a1in p n)))
    ];
  }

  module _ (off_am : has q.am page ≡ false) (off_a1in : has q.a1in page ≡ false) (slot : Slot) (of : IsSlotOf slot q)
      (comes : ComesIn places page (has q.a1out page) (page_of slot) new) where
    -- the queues without the page let go, and without the page on A1out
    abbrev rest : TwoQState
    rest = let_go slot (record q { a1out = without page q.a1out })

    rest_off : (s : Slot) → has (let_go s (record q { a1out = without page q.a1out })).am page ≡ false
    rest_off Free = off_am
    rest_off (OfA1in g) = off_am
    rest_off (OfAm g) = let i = isnt_there q.am page off_am in let l = times_off g q.am page in not_there (without g q.am) page (omega arith)

    rest_placed : (s : Slot) → IsSlotOf s q → ComesIn places page (has q.a1out page) (page_of s) new → (p : ℕ) → p ≢ page
        → get_or new p Out ≡ place_in (let_go s (record q { a1out = without page q.a1out })) p
    rest_placed Free there cs p n = cs.others p (λ e. absurd (cc)) n ∙ are.each p
    rest_placed (OfA1in g) there cs p n = elim (same_or_not p g) [
      | inl e ↦
          (let o = queues.once g in let i = is_there q.a1in g there in
          cs.went p (ap Some (sym e)) n
          ∙ sym (ap (place_in (let_go (OfA1in g) (record q { a1out = without page q.a1out }))) e
          ∙ on_neither (let_go (OfA1in g) (record q { a1out = without page q.a1out })) g (not_there q.am g (omega arith))
          (not_there (without g q.a1in) g (own_off q g queues q.a1in (omega arith)))))
      | inr m ↦
          cs.others p (λ e. m (sym (cc))) n ∙ are.each p
          ∙ same_place q (let_go (OfA1in g) (record q { a1out = without page q.a1out })) p refl
          (same_there q.a1in (without g q.a1in) p (sym (others_off q g queues q.a1in p m)))
    ]
    rest_placed (OfAm g) there cs p n = elim (same_or_not p g) [
      | inl e ↦
          (let o = queues.once g in let i = is_there q.am g there in
          cs.went p (ap Some (sym e)) n
          ∙ sym (ap (place_in (let_go (OfAm g) (record q { a1out = without page q.a1out }))) e
          ∙ on_neither (let_go (OfAm g) (record q { a1out = without page q.a1out })) g
          (not_there (without g q.am) g (own_off q g queues q.am (omega arith))) (not_there q.a1in g (omega arith))))
      | inr m ↦
          cs.others p (λ e. m (sym (cc))) n ∙ are.each p
          ∙ same_place q (let_go (OfAm g) (record q { a1out = without page q.a1out })) p
          (same_there q.am (without g q.am) p (sym (others_off q g queues q.am p m))) refl
    ]

    behind : (xs : List ℕ) (p : ℕ) → p ≢ page → has xs p ≡ has (page ∷ xs) p
    behind xs p n = let e : nat_eq p page ≡ false = grind (arith, common_steps) in sym (ap (λ b. b || has xs p) e)

    own : (xs : List ℕ) → has (page ∷ xs) page ≡ true
    own xs = let e : nat_eq page page ≡ true = grind (arith, common_steps) in ap (λ b. b || has xs page) e

    -- a page that comes in is on its list, and the page let go on none
    pub entered_places : ArePlaces new (enter page slot q)
    entered_places = by (has q.a1out page) refl
      where
        by : (b : Bool) → has q.a1out page ≡ b → ArePlaces new (enter page slot q)
        by true h = subst (ArePlaces new) (sym (ap (λ c. if c then record rest { am = page ∷ rest.am } else record rest { a1in = page ∷ rest.a1in }) h)) (record {
          count = comes.count ∙ are.count;
          each = λ p. elim (same_or_not p page) [
            | inl e ↦
                ap (λ x. get_or new x Out) e ∙ comes.own ∙ ap (λ c. if c then Am else A1in) h
                ∙ sym (ap (place_in (record rest { am = page ∷ rest.am })) e ∙ on_am (record rest { am = page ∷ rest.am }) page (own rest.am))
            | inr n ↦ rest_placed slot of comes p n ∙ same_place rest (record rest { am = page ∷ rest.am }) p (behind rest.am p n) refl
          ];
        })
        by false h = subst (ArePlaces new) (sym (ap (λ c. if c then record rest { am = page ∷ rest.am } else record rest { a1in = page ∷ rest.a1in }) h)) (record {
          count = comes.count ∙ are.count;
          each = λ p. elim (same_or_not p page) [
            | inl e ↦
                ap (λ x. get_or new x Out) e ∙ comes.own ∙ ap (λ c. if c then Am else A1in) h
                ∙ sym (ap (place_in (record rest { a1in = page ∷ rest.a1in })) e
                ∙ on_a1in (record rest { a1in = page ∷ rest.a1in }) page (rest_off slot) (own rest.a1in))
            | inr n ↦ rest_placed slot of comes p n ∙ same_place rest (record rest { a1in = page ∷ rest.a1in }) p refl (behind rest.a1in p n)
          ];
        })

-- a page leaves the one list that its place names
module _ (q : TwoQState) (page : ℕ) where
  on_neither_list : has q.am page ≡ false → has q.a1in page ≡ false → q ≡ forget page q
  on_neither_list h k = sym (ap (λ l. record q { a1in = l; am = without page q.am }) (without_absent page q.a1in k) ∙ ap (λ l. record q { am = l }) (without_absent page q.am h))

  pub forgets_none : Out ≡ place_in q page → q ≡ forget page q
  forgets_none is = by (has q.am page) (has q.a1in page) refl refl
    where
      by : (b d : Bool) → has q.am page ≡ b → has q.a1in page ≡ d → q ≡ forget page q
      by true d h k = let e : Out ≡ Am = is ∙ on_am q page h in absurd (cc)
      by false true h k = let e : Out ≡ A1in = is ∙ on_a1in q page h k in absurd (cc)
      by false false h k = on_neither_list h k

  pub forgets_a1in : A1in ≡ place_in q page → record q { a1in = without page q.a1in } ≡ forget page q
  forgets_a1in is = by (has q.am page) refl
    where
      by : (b : Bool) → has q.am page ≡ b → record q { a1in = without page q.a1in } ≡ forget page q
      by true h = let e : A1in ≡ Am = is ∙ on_am q page h in absurd (cc)
      by false h = sym (ap (λ l. record q { a1in = without page q.a1in; am = l }) (without_absent page q.am h))

  pub forgets_am : AreQueues q → Am ≡ place_in q page → record q { am = without page q.am } ≡ forget page q
  forgets_am queues is = by (has q.am page) (has q.a1in page) refl refl
    where
      by : (b d : Bool) → has q.am page ≡ b → has q.a1in page ≡ d → record q { am = without page q.am } ≡ forget page q
      by true true h k = let i = is_there q.am page h in let j = is_there q.a1in page k in let o = queues.once page in absurd (omega arith)
      by true false h k = sym (ap (λ l. record q { a1in = l; am = without page q.am }) (without_absent page q.a1in k))
      by false true h k = let e : Am ≡ A1in = is ∙ on_a1in q page h k in absurd (cc)
      by false false h k = let e : Am ≡ Out = is ∙ on_neither q page h k in absurd (cc)
