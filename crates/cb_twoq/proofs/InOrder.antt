-- Members kept on one list, newest first: a chooser that lets the oldest unfixed page go keeps the law.
use Rattle.std.proofs.Common.{◌≡◌, nat_eq, if◌then◌else◌, subst, ◌<◌, ◌≤◌, inl, inr, ℕ, Bool, true, false, List, [], ◌∷◌, length, Option, Some, None, refl, sym, ◌∙◌, ap, ◌≢◌, arith}
use Rattle.std.proofs.lemmas.Grind.{common_steps}
use Rattle.cb_twoq.specs.Pages.{has, without, one, times, AreOnce}
use Rattle.cb_twoq.specs.Queues.{oldest_unfixed}
use Rattle.cb_twoq.specs.Law.{Chooses, IsFull, Forgets}
use Rattle.cb_twoq.proofs.PageLists.{without_absent}
use Rattle.cb_twoq.proofs.Counts.{one_self, one_other, one_at_most, times_cons, times_none, isnt_there, not_there, same_there, times_without, length_without, oldest_there, all_fixed}
use Rattle.cb_twoq.proofs.Chosen.{chosen_free, chosen_slot, chosen_member, not_full}

-- no page is on an empty list
pub none_once : (slots : ℕ) → AreOnce slots []
none_once slots = record { within = omega arith; once = λ p. let e = times_none p in omega arith }

-- what a reference makes of the list
pub record Steps (slots : ℕ) (fixed : List Bool) (old : List ℕ) (page : ℕ) (gone : Option ℕ) (new : List ℕ) : Type 0 where
  pub kept : AreOnce slots new
  pub chooses : Chooses slots fixed old page gone new
  pub not_full : IsFull slots fixed old page → ⊥

steps : (slots : ℕ) (fixed : List Bool) (old : List ℕ) (page : ℕ) (gone : Option ℕ) (new : List ℕ) → AreOnce slots new → Chooses slots fixed old page gone new → Steps slots fixed old page gone new
steps slots fixed old page gone new kept chooses = record { kept = kept; chooses = chooses; not_full = not_full slots fixed old new page gone chooses }

module _ (slots : ℕ) (fixed : List Bool) (ps : List ℕ) (page : ℕ) (once : AreOnce slots ps) where
  -- a member's reference
  pub stays : has ps page ≡ true → Steps slots fixed ps page None ps
  stays h = steps slots fixed ps page None ps once (chosen_member slots fixed ps ps page h refl (λ _. refl))

  -- with the page, none is there twice
  with_page : has ps page ≡ false → (p : ℕ) → times p (page ∷ ps) ≤ 1
  with_page h p = by (nat_eq p page) refl
    where
      by : (b : Bool) → nat_eq p page ≡ b → times p (page ∷ ps) ≤ 1
      by true e =
          let same : p ≡ page = grind (arith, common_steps) in
          let z : times p ps ≡ 0 = ap (λ x. times x ps) same ∙ isnt_there ps page h in
          let c = times_cons p page ps in let o = one_at_most p page in omega arith
      by false e =
          let n : one p page ≡ 0 = ap (λ b. if b then 1 else 0) e in
          let c = times_cons p page ps in let o = once.once p in omega arith

  -- a page comes in at a free slot
  pub comes : has ps page ≡ false → length ps < slots → Steps slots fixed ps page None (page ∷ ps)
  comes h room = steps slots fixed ps page None (page ∷ ps) (record { within = omega arith; once = with_page h })
      (chosen_free slots fixed ps (page ∷ ps) page room (isnt_there ps page h) (omega arith) (λ p. times_cons p page ps))

  -- a page comes in for the oldest that isn't fixed
  pub replaces : (gone : ℕ) → has ps page ≡ false → slots ≤ length ps → oldest_unfixed fixed ps ≡ Some gone → Steps slots fixed ps page (Some gone) (page ∷ without gone ps)
  replaces gone h full found =
      let o = oldest_there fixed ps gone found in let len = length_without gone ps o.0 in
      steps slots fixed ps page (Some gone) (page ∷ without gone ps)
      (record {
        within = let w = once.within in omega arith;
        once = λ p. let w = with_page h p in let t = times_without gone ps p o.0 in let c = times_cons p page ps in let d = times_cons p page (without gone ps) in omega arith;
      })
      (chosen_slot slots fixed ps (page ∷ without gone ps) page gone full (isnt_there ps page h) (omega arith) o.0 o.1 once.once
      (λ p. let t = times_without gone ps p o.0 in let d = times_cons p page (without gone ps) in omega arith))

  -- all are fixed
  pub refused : has ps page ≡ false → slots ≤ length ps → oldest_unfixed fixed ps ≡ None → IsFull slots fixed ps page
  refused h full none = record { out = h; taken = full; all_fixed = all_fixed fixed ps none }

-- a page leaves the list
module _ (slots : ℕ) (ps : List ℕ) (page : ℕ) (once : AreOnce slots ps) where
  pub leaves_once : AreOnce slots (without page ps)
  leaves_once = by (has ps page) refl
    where
      by : (b : Bool) → has ps page ≡ b → AreOnce slots (without page ps)
      by true h = record {
        within = let l = length_without page ps h in let w = once.within in omega arith;
        once = λ p. let t = times_without page ps p h in let o = once.once p in omega arith;
      }
      by false h = subst (AreOnce slots) (sym (without_absent page ps h)) once

  pub leaves : Forgets ps page (without page ps)
  leaves = by (has ps page) refl
    where
      by : (b : Bool) → has ps page ≡ b → Forgets ps page (without page ps)
      by true h = record {
        out = let t = times_without page ps page h in let s = one_self page in let o = once.once page in not_there (without page ps) page (omega arith);
        others = λ p other _. let ne : p ≢ page = λ e. other (ap Some (sym e)) in let t = times_without page ps p h in let o = one_other p page ne in
            same_there (without page ps) ps p (omega arith);
        count = inl (h, length_without page ps h);
      }
      by false h =
          let e = without_absent page ps h in
          record {
            out = ap (λ l. has l page) e ∙ h;
            others = λ p _ _. ap (λ l. has l p) e;
            count = inr (h, ap length e);
          }
