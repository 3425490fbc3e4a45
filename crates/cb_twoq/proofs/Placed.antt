-- A page that is placed before another is let go.
use Rattle.std.proofs.Common.{◌≡◌, true≢false, nat_eq, ◌≤◌, ℕ, Bool, true, false, List, ◌∷◌, length, take, Some, if◌then◌else◌, refl, sym, ◌∙◌, ap, subst, arith}
use Rattle.std.proofs.lemmas.Grind.{common_steps}
use Rattle.cb_twoq.specs.Pages.{has, without, times}
use Rattle.cb_twoq.specs.Queues.{TwoQState, Slot, Free, OfA1in, OfAm, reclaim, let_go, enter, AreQueues}
use Rattle.cb_twoq.specs.Indexed.{place, IsSlotOf, IsOff}
use Rattle.cb_twoq.proofs.PageLists.{without_absent}
use Rattle.cb_twoq.proofs.Counts.{is_there, not_there, oldest_there}
use Rattle.cb_twoq.proofs.Forgotten.{times_off, length_off}
use Rattle.cb_twoq.proofs.Entered.{reclaimed}

-- a page behind another is taken off
pub without_behind : (gone page : ℕ) (pages : List ℕ) → has pages gone ≡ true → has pages page ≡ false → without gone (page ∷ pages) ≡ page ∷ without gone pages
without_behind gone page pages there out = by (nat_eq gone page) refl
  where
    by : (b : Bool) → nat_eq gone page ≡ b → without gone (page ∷ pages) ≡ page ∷ without gone pages
    by true e =
        let same : gone ≡ page = grind (arith, common_steps) in
        absurd (true≢false (sym there ∙ ap (has pages) same ∙ out))
    by false e = ap (λ b. if b then pages else page ∷ without gone pages) e

-- the slot reclaimed is that of a page on its list
pub reclaimed_slot : (fixed : List Bool) (queues : TwoQState) (slot : Slot) → reclaim fixed queues ≡ Some slot → IsSlotOf slot queues
reclaimed_slot fixed queues Free e = tt
reclaimed_slot fixed queues (OfA1in page) e = (oldest_there fixed queues.a1in page (reclaimed fixed queues (Some (OfA1in page)) e).1).0
reclaimed_slot fixed queues (OfAm page) e = (oldest_there fixed queues.am page (reclaimed fixed queues (Some (OfAm page)) e).1).0

module _ (page : ℕ) (queues : TwoQState) (are : AreQueues queues) where
  -- once the page is placed, A1out is as it was, or without it
  placed_out : (b : Bool) → has queues.a1out page ≡ b → (other : ℕ) → times other (place page queues).a1out ≤ times other queues.a1out
  placed_out true h other =
      let e : (place page queues).a1out ≡ without page queues.a1out = ap (λ (c : Bool). (if c then record queues { am = page ∷ queues.am; a1out = without page queues.a1out } else record queues { a1in = page ∷ queues.a1in }).a1out) h in
      let f : times other (place page queues).a1out ≡ times other (without page queues.a1out) = ap (times other) e in
      let t = times_off page queues.a1out other in omega arith
  placed_out false h other =
      let e : (place page queues).a1out ≡ queues.a1out = ap (λ (c : Bool). (if c then record queues { am = page ∷ queues.am; a1out = without page queues.a1out } else record queues { a1in = page ∷ queues.a1in }).a1out) h in
      let f : times other (place page queues).a1out ≡ times other queues.a1out = ap (times other) e in omega arith

  pub placed_off : (slot : Slot) → IsSlotOf slot queues → IsOff slot (place page queues).a1out
  placed_off Free of = tt
  placed_off (OfAm gone) of = tt
  placed_off (OfA1in gone) of =
      let i = is_there queues.a1in gone of in let o = are.once gone in
      let l = placed_out (has queues.a1out page) refl gone in
      not_there (place page queues).a1out gone (omega arith)

  pub placed_within : length (place page queues).a1out ≤ (place page queues).kout
  placed_within = by (has queues.a1out page) refl
    where
      by : (b : Bool) → has queues.a1out page ≡ b → length (place page queues).a1out ≤ (place page queues).kout
      by true h =
          subst (λ (q : TwoQState). length q.a1out ≤ q.kout)
          (sym (ap (λ (c : Bool). if c then record queues { am = page ∷ queues.am; a1out = without page queues.a1out } else record queues { a1in = page ∷ queues.a1in }) h))
          (let l = length_off page queues.a1out in let r = are.remembered in omega arith)
      by false h =
          subst (λ (q : TwoQState). length q.a1out ≤ q.kout)
          (sym (ap (λ (c : Bool). if c then record queues { am = page ∷ queues.am; a1out = without page queues.a1out } else record queues { a1in = page ∷ queues.a1in }) h))
          are.remembered

module _ (page : ℕ) (queues : TwoQState) (off_a1in : has queues.a1in page ≡ false) (off_am : has queues.am page ≡ false) where
  placed_then : (b : Bool) → has queues.a1out page ≡ b → (slot : Slot) → IsSlotOf slot queues
      → let_go slot (if b then record queues { am = page ∷ queues.am; a1out = without page queues.a1out } else record queues { a1in = page ∷ queues.a1in })
      ≡ (let rest = let_go slot (record queues { a1out = without page queues.a1out }) in if b then record rest { am = page ∷ rest.am } else record rest { a1in = page ∷ rest.a1in })
  placed_then true h Free of = refl
  placed_then true h (OfA1in gone) of = refl
  placed_then true h (OfAm gone) of = ap (λ l. record queues { am = l; a1out = without page queues.a1out }) (without_behind gone page queues.am of off_am)
  placed_then false h Free of = ap (λ l. record queues { a1in = page ∷ queues.a1in; a1out = l }) (sym (without_absent page queues.a1out h))
  placed_then false h (OfA1in gone) of =
      ap (λ l. record queues { a1in = l; a1out = take queues.kout (gone ∷ queues.a1out) }) (without_behind gone page queues.a1in of off_a1in)
      ∙ ap (λ l. record queues { a1in = page ∷ without gone queues.a1in; a1out = take queues.kout (gone ∷ l) }) (sym (without_absent page queues.a1out h))
  placed_then false h (OfAm gone) of =
      ap (λ l. record queues { a1in = page ∷ queues.a1in; am = without gone queues.am; a1out = l }) (sym (without_absent page queues.a1out h))

  -- placed first, the queues are those of a page that enters
  pub placed_entered : (slot : Slot) → IsSlotOf slot queues → let_go slot (place page queues) ≡ enter page slot queues
  placed_entered slot of = placed_then (has queues.a1out page) refl slot of
