-- A reference keeps the law of a chooser, and the queues.
use Rattle.std.proofs.Common.{◌≡◌, true≢false, ◌≤◌, ℕ, Bool, true, false, List, ◌∷◌, ◌++◌, length, Some, None, if◌then◌else◌, ◌||◌, refl, sym, ◌∙◌, ap, subst, arith}
use Rattle.std.specs.Option.{option_map}
use Rattle.std.proofs.Math.ListN.{length-append}
use Rattle.cb_twoq.specs.Pages.{has, without}
use Rattle.cb_twoq.specs.Law.{IsFull}
use Rattle.cb_twoq.specs.Queues.{TwoQState, Slot, reclaim, page_of, enter, renew, reference, AreQueues, members_of, empty}
use Rattle.cb_twoq.proofs.Counts.{times_cons, times_none, times_append, is_there, isnt_there, there, not_there, times_without, length_without}
use Rattle.cb_twoq.proofs.Chosen.{chosen_member, not_full}
use Rattle.cb_twoq.proofs.Entered.{Entered, entered, full}

-- no queues but short ones
pub none_queued : (b kin kout : ℕ) → AreQueues (empty b kin kout)
none_queued b kin kout = record {
  once = λ p. let e = times_none p in omega arith;
  within = omega arith;
  remembered = omega arith;
}

module _ (fixed : List Bool) (q : TwoQState) (page : ℕ) (queues : AreQueues q) where
  pub in_am : has q.am page ≡ true → has (members_of q) page ≡ true
  in_am h = let i = is_there q.am page h in let e = times_append page q.a1in q.am in there (q.a1in ++ q.am) page (omega arith)

  pub in_a1in : has q.a1in page ≡ true → has (members_of q) page ≡ true
  in_a1in h = let i = is_there q.a1in page h in let e = times_append page q.a1in q.am in there (q.a1in ++ q.am) page (omega arith)

  pub in_neither : has q.am page ≡ false → has q.a1in page ≡ false → has (members_of q) page ≡ false
  in_neither h k = let i = isnt_there q.am page h in let j = isnt_there q.a1in page k in let e = times_append page q.a1in q.am in not_there (q.a1in ++ q.am) page (omega arith)

  pub moved : has q.am page ≡ true → Entered q fixed page None (record q { am = page ∷ without page q.am })
  moved h =
      let len = length_without page q.am h in (
        record {
          once = λ p. let w = times_without page q.am p h in let c = times_cons p page (without page q.am) in let k = queues.once p in omega arith;
          within = let k = queues.within in omega arith;
          remembered = queues.remembered;
        },
        chosen_member q.slots fixed (q.a1in ++ q.am) (q.a1in ++ page ∷ without page q.am) page (in_am h)
            (let l = length-append q.a1in q.am in let m = length-append q.a1in (page ∷ without page q.am) in omega arith)
            (λ p. let a = times_append p q.a1in q.am in let b = times_append p q.a1in (page ∷ without page q.am) in let c = times_cons p page (without page q.am) in
            let w = times_without page q.am p h in omega arith),
      )

  pub stayed : has q.a1in page ≡ true → Entered q fixed page None q
  stayed h = (queues, chosen_member q.slots fixed (q.a1in ++ q.am) (q.a1in ++ q.am) page (in_a1in h) refl (λ _. refl))

-- a page that is in no slot
pub off_both : (a b : Bool) → (a || b) ≡ false → (a ≡ false) × (b ≡ false)
off_both true b h = absurd (true≢false h)
off_both false b h = (refl, h)

-- a reference to a page that is in a slot
pub record AsMember (fixed : List Bool) (q : TwoQState) (page : ℕ) : Type 0 where
  pub keeps : Entered q fixed page None (renew page q)
  pub defined : reference page fixed q ≡ Some (None, renew page q)
  pub was : has (members_of q) page ≡ true
  pub within : length (members_of (renew page q)) ≤ (renew page q).slots

-- as many members as slots at most
fits : (q : TwoQState) → AreQueues q → length (members_of q) ≤ q.slots
fits q queues = let l = length-append q.a1in q.am in let w = queues.within in omega arith

pub as_member : (fixed : List Bool) (q : TwoQState) (page : ℕ) → AreQueues q → (has q.am page || has q.a1in page) ≡ true → AsMember fixed q page
as_member fixed q page queues h = by (has q.am page) refl (has q.a1in page) refl h
  where
    by : (a : Bool) → has q.am page ≡ a → (b : Bool) → has q.a1in page ≡ b → (has q.am page || has q.a1in page) ≡ true → AsMember fixed q page
    by true e b f h = record {
      keeps = subst (Entered q fixed page None) (sym (ap (λ c. if c then record q { am = page ∷ without page q.am } else q) e)) (moved fixed q page queues e);
      defined = ap (λ c. if c then Some (None, renew page q) else (if has q.a1in page then Some (None, q) else option_map (λ slot. (page_of slot, enter page slot q)) (reclaim fixed q))) e;
      was = in_am fixed q page queues e;
      within = subst (λ (r : TwoQState). length (members_of r) ≤ r.slots) (sym (ap (λ c. if c then record q { am = page ∷ without page q.am } else q) e)) (fits (record q { am = page ∷ without page q.am }) (moved fixed q page queues e).0);
    }
    by false e true f h =
        let same : renew page q ≡ q = ap (λ c. if c then record q { am = page ∷ without page q.am } else q) e in
        record {
          keeps = subst (Entered q fixed page None) (sym same) (stayed fixed q page queues f);
          defined = ap (λ c. if c then Some (None, renew page q) else (if has q.a1in page then Some (None, q) else option_map (λ slot. (page_of slot, enter page slot q)) (reclaim fixed q))) e
              ∙ ap (λ c. if c then Some (None, q) else option_map (λ slot. (page_of slot, enter page slot q)) (reclaim fixed q)) f
              ∙ ap (λ r. Some (None, r)) (sym same);
          was = in_a1in fixed q page queues f;
          within = subst (λ (r : TwoQState). length (members_of r) ≤ r.slots) (sym same) (fits q queues);
        }
    by false e false f h = absurd (true≢false (sym h ∙ ap (λ c. c || has q.a1in page) e ∙ f))

-- a reference to a page that is in no slot, where w are the queues as the code knows them
pub record AsNewcomer (fixed : List Bool) (q w : TwoQState) (page : ℕ) (slot : Slot) : Type 0 where
  pub keeps : Entered q fixed page (page_of slot) (enter page slot w)
  pub within : length (members_of (enter page slot w)) ≤ (enter page slot w).slots
  pub not_full : IsFull q.slots fixed (members_of q) page → ⊥

module _ (fixed : List Bool) (q w : TwoQState) (page : ℕ) (queues : AreQueues q) (off : (has q.am page || has q.a1in page) ≡ false) (now : w ≡ renew page q) where
  off_am : has q.am page ≡ false
  off_am = (off_both (has q.am page) (has q.a1in page) off).0

  off_a1in : has q.a1in page ≡ false
  off_a1in = (off_both (has q.am page) (has q.a1in page) off).1

  pub unmoved : w ≡ q
  unmoved = now ∙ ap (λ c. if c then record q { am = page ∷ without page q.am } else q) off_am

  pub still : AreQueues w
  still = subst AreQueues (sym unmoved) queues

  pub as_newcomer : (slot : Slot) → reclaim fixed w ≡ Some slot → AsNewcomer fixed q w page slot
  as_newcomer slot found =
      let found_q : reclaim fixed q ≡ Some slot = ap (reclaim fixed) (sym unmoved) ∙ found in
      let keeps : Entered q fixed page (page_of slot) (enter page slot w) = subst (λ (v : TwoQState). Entered q fixed page (page_of slot) (enter page slot v)) (sym unmoved) (entered fixed q page queues off_am off_a1in slot found_q) in
      record {
        keeps = keeps;
        within = fits (enter page slot w) keeps.0;
        not_full = λ f. not_full q.slots fixed (members_of q) (members_of (enter page slot w)) page (page_of slot) keeps.1 f;
      }

  pub as_refused : reclaim fixed w ≡ None → IsFull q.slots fixed (members_of q) page
  as_refused none = full fixed q page queues off_am off_a1in (ap (reclaim fixed) (sym unmoved) ∙ none)
