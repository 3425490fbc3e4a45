-- What keeps the law of a chooser, counted by how often a page is on a list.
use Rattle.std.proofs.Common.{◌≡◌, ◌≢◌, true≢false, ◌<◌, ◌≤◌, ◌+◌, inl, inr, ℕ, Bool, true, false, List, length, Option, Some, None, sym, ◌∙◌, ap, arith}
use Rattle.cb_page.specs.Flags as flags
use Rattle.cb_twoq.specs.Pages.{has, one, times}
use Rattle.cb_twoq.specs.Law.{Chooses, IsFull}
use Rattle.cb_twoq.proofs.Counts.{one_self, one_other, is_there, there, not_there, same_there}

-- a page comes in and none goes
pub chosen_free : (slots : ℕ) (fixed : List Bool) (old new : List ℕ) (page : ℕ) → length old < slots → times page old ≡ 0 → length new ≡ length old + 1
    → ((p : ℕ) → times p new ≡ one p page + times p old) → Chooses slots fixed old page None new
chosen_free slots fixed old new page room out len all = record {
  member = let e = all page in let o = one_self page in there new page (omega arith);
  others = λ p other _. let e = all p in let ne : p ≢ page = λ h. other (ap Some (sym h)) in let o = one_other p page ne in same_there new old p (omega arith);
  goes = inr (not_there old page out, room, len);
}

-- a page comes in for another that goes
pub chosen_slot : (slots : ℕ) (fixed : List Bool) (old new : List ℕ) (page gone : ℕ) → slots ≤ length old → times page old ≡ 0 → length new ≡ length old
    → has old gone ≡ true → flags.has fixed gone ≡ false → ((p : ℕ) → times p old ≤ 1)
    → ((p : ℕ) → times p new + one p gone ≡ one p page + times p old) → Chooses slots fixed old page (Some gone) new
chosen_slot slots fixed old new page gone full out len was loose once all =
    let ne : gone ≢ page = λ h. let i = is_there old gone was in let z : times gone old ≡ 0 = ap (λ p. times p old) h ∙ out in absurd (omega arith) in
    record {
      member = let e = all page in let o = one_self page in let n = one_other page gone (λ h. ne (sym h)) in there new page (omega arith);
      others = λ p other stays. let e = all p in let np : p ≢ page = λ h. other (ap Some (sym h)) in let ng : p ≢ gone = λ h. stays (ap Some (sym h)) in
          let o = one_other p page np in let n = one_other p gone ng in same_there new old p (omega arith);
      goes = record {
        was_member = was;
        not_fixed = loose;
        other = ne;
        was_out = not_there old page out;
        was_full = full;
        left = let e = all gone in let o = one_self gone in let n = one_other gone page ne in let l = once gone in not_there new gone (omega arith);
        count = len;
      };
    }

-- a reference to a page in a slot
module _ (slots : ℕ) (fixed : List Bool) (old new : List ℕ) (page : ℕ) (was : has old page ≡ true) (len : length new ≡ length old) (all : (p : ℕ) → times p new ≡ times p old) where
  pub chosen_member : Chooses slots fixed old page None new
  chosen_member = record {
    member = same_there new old page (all page) ∙ was;
    others = λ p _ _. same_there new old p (all p);
    goes = inl (was, len);
  }

-- a page let go leaves a slot that wasn't full of fixed pages
pub not_full : (slots : ℕ) (fixed : List Bool) (old new : List ℕ) (page : ℕ) (gone : Option ℕ) → Chooses slots fixed old page gone new → IsFull slots fixed old page → ⊥
not_full slots fixed old new page None h f = elim h.goes [ inl w ↦ true≢false (sym w.0 ∙ f.out) | inr w ↦ absurd (let t = f.taken in omega arith) ]
not_full slots fixed old new page (Some gone) h f = true≢false (sym (f.all_fixed gone h.goes.was_member) ∙ h.goes.not_fixed)
