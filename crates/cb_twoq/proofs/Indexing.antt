-- A reference to queues that are kept by a cache and two sets.
use Rattle.std.proofs.Common.{◌≡◌, true≢false, ◌≤◌, ℕ, Bool, true, false, List, ◌∷◌, if◌then◌else◌, length, Option, Some, None, ◌||◌, refl, sym, ◌∙◌, ap, subst}
use Rattle.cb_twoq.specs.Pages.{has, without}
use Rattle.cb_twoq.specs.Law.{Chooses, IsFull}
use Rattle.cb_twoq.specs.Queues.{TwoQState, Slot, reclaim, page_of, enter, renew, AreQueues, members_of}
use Rattle.cb_twoq.specs.Indexed.{IsSlotOf}
use Rattle.cb_twoq.proofs.Referred.{as_member, as_newcomer, as_refused}
use Rattle.cb_twoq.proofs.Placed.{reclaimed_slot}

-- what the queues are after a reference that answers
pub record Referred (fixed : List Bool) (old : TwoQState) (page : ℕ) (left : Option ℕ) (new : TwoQState) : Type 0 where
  pub are : AreQueues new
  pub chooses : Chooses old.slots fixed (members_of old) page left (members_of new)
  pub within : length (members_of new) ≤ new.slots

-- the page is in a slot
pub referred_member : (fixed : List Bool) (old new : TwoQState) (page : ℕ) → AreQueues old → (has old.am page || has old.a1in page) ≡ true → new ≡ renew page old
    → Referred fixed old page None new
referred_member fixed old new page are there now =
    let m = as_member fixed old page are there in
    subst (Referred fixed old page None) (sym now) (record { are = m.keeps.0; chooses = m.keeps.1; within = m.within })

-- the page is in no slot: `now` are the queues as the code knows them, and `new` those once it came in
module _ (fixed : List Bool) (old now : TwoQState) (page : ℕ) (are : AreQueues old) (off : (has old.am page || has old.a1in page) ≡ false) (unmoved : now ≡ renew page old) where
  same : now ≡ old
  same = by (has old.am page) refl off
    where
      by : (b : Bool) → has old.am page ≡ b → (has old.am page || has old.a1in page) ≡ false → now ≡ old
      by true e f = absurd (true≢false (sym (ap (λ c. c || has old.a1in page) e) ∙ f))
      by false e f = unmoved ∙ ap (λ c. if c then record old { am = page ∷ without page old.am } else old) e

  pub now_are : AreQueues now
  now_are = subst AreQueues (sym same) are

  pub now_slot : (slot : Slot) → reclaim fixed now ≡ Some slot → IsSlotOf slot now
  now_slot slot found = reclaimed_slot fixed now slot found

  pub referred_newcomer : (slot : Slot) (new : TwoQState) (left : Option ℕ) → reclaim fixed now ≡ Some slot → new ≡ enter page slot now → left ≡ page_of slot
      → Referred fixed old page left new
  referred_newcomer slot new left found entered gone_is =
      let n = as_newcomer fixed old now page are off unmoved slot found in
      subst (λ (l : Option ℕ). Referred fixed old page l new) (sym gone_is)
      (subst (Referred fixed old page (page_of slot)) (sym entered) (record { are = n.keeps.0; chooses = n.keeps.1; within = n.within }))

  pub newcomer_not_full : (slot : Slot) → reclaim fixed now ≡ Some slot → IsFull old.slots fixed (members_of old) page → ⊥
  newcomer_not_full slot found = (as_newcomer fixed old now page are off unmoved slot found).not_full

  pub newcomer_refused : reclaim fixed now ≡ None → IsFull old.slots fixed (members_of old) page
  newcomer_refused none = as_refused fixed old now page are off unmoved none
