-- The counts of the pages that are here, and of those that are fixed.
use Rattle.std.proofs.Common.{◌≡◌, true≢false, suc, zero, ◌<◌, ◌≤◌, ◌+◌, ℕ, Bool, true, false, cond, ◌&&◌, nat_lt, List, [], ◌∷◌, length, replicate, ◌^◌, Option, Some, None, refl, sym, ◌∙◌, ap, arith}
use Rattle.std.proofs.lemmas.Grind.{common_steps}
use Rattle.std.specs.Option.{is_some}
use Rattle.std.proofs.Math.ListN.{get_or, set, length-set, length-replicate}
use Rattle.std.proofs.lemmas.List.{get_or_past}
use Rattle.std.proofs.lemmas.List.Sums.{sum_by-cons, count_by-le-length}
use Rattle.cb_page.specs.Flags as flags
use Rattle.cb_pool.specs.PoolState.{held, HasLoose}
use Rattle.cb_page.specs.Counting.{bit}
use Rattle.cb_page.proofs.Counting.{bit_cond, count_set}
use Rattle.cb_pool.specs.CopiesState.{held_fixed, AreCounted, IfHere}

abbrev pub Pages : Type 0
Pages = List (Option (List ℕ))

abbrev pub here : Pages → ℕ → Bool
here pages p = is_some (get_or pages p None)

-- the pages here, once one was put in or taken out
pub held_set : (pages : Pages) (i : ℕ) (v : Option (List ℕ)) → i < length pages → held (set pages i v) + bit (here pages i) ≡ held pages + bit (is_some v)
held_set pages i v lt = count_set is_some pages i v None lt

-- the fixed pages here, once one was put in or taken out
pub held_fixed_set : (pages : Pages) (fixed : List Bool) (i : ℕ) (v : Option (List ℕ)) → length fixed ≡ length pages → i < length pages
    → held_fixed (set pages i v) fixed + bit (here pages i && flags.has fixed i) ≡ held_fixed pages fixed + bit (is_some v && flags.has fixed i)
held_fixed_set [] fixed i v len lt = absurd (omega arith)
held_fixed_set (p ∷ ps) [] i v len lt = absurd (omega arith)
held_fixed_set (p ∷ ps) (f ∷ fs) zero v len lt = omega arith
held_fixed_set (p ∷ ps) (f ∷ fs) (suc i) v len lt = let e = held_fixed_set ps fs i v (omega arith) (omega arith) in omega arith

-- the fixed pages here, once one was fixed
pub held_fixed_fix : (pages : Pages) (fixed : List Bool) (i : ℕ) → length fixed ≡ length pages → i < length pages
    → held_fixed pages (set fixed i true) + bit (here pages i && flags.has fixed i) ≡ held_fixed pages fixed + bit (here pages i)
held_fixed_fix [] fixed i len lt = absurd (omega arith)
held_fixed_fix (p ∷ ps) [] i len lt = absurd (omega arith)
held_fixed_fix (p ∷ ps) (f ∷ fs) zero len lt = by (is_some p)
  where
    by : (b : Bool) → (bit (b && true) + held_fixed ps fs) + bit (b && f) ≡ (bit (b && f) + held_fixed ps fs) + bit b
    by true = omega arith
    by false = omega arith
held_fixed_fix (p ∷ ps) (f ∷ fs) (suc i) len lt = let e = held_fixed_fix ps fs i (omega arith) (omega arith) in omega arith

-- no page is fixed
pub held_fixed_none : (pages : Pages) (n : ℕ) → held_fixed pages (replicate n false) ≡ 0
held_fixed_none [] n = refl
held_fixed_none (p ∷ ps) zero = refl
held_fixed_none (p ∷ ps) (suc n) = by (is_some p) (held_fixed_none ps n)
  where
    by : (b : Bool) → held_fixed ps (replicate n false) ≡ 0 → bit (b && false) + held_fixed ps (replicate n false) ≡ 0
    by true e = omega arith
    by false e = omega arith

-- no page is here
pub held_none : (n : ℕ) → held (replicate n None) ≡ 0
held_none zero = refl
held_none (suc n) = held_none n

-- one page more
held_cons : (p : Option (List ℕ)) (ps : Pages) → held (p ∷ ps) ≡ bit (is_some p) + held ps
held_cons p ps = let e = sum_by-cons (λ x. cond (is_some x) 1 0) p ps in let b = bit_cond (is_some p) in omega arith

-- of the pages here as many are fixed as there are at most
pub held_fixed_within : (pages : Pages) (fixed : List Bool) → held_fixed pages fixed ≤ held pages
held_fixed_within [] fixed = omega arith
held_fixed_within (p ∷ ps) [] = omega arith
held_fixed_within (p ∷ ps) (f ∷ fs) = let e = held_cons p ps in let w = by (is_some p) f (held_fixed_within ps fs) in omega arith
  where
    by : (b f : Bool) → held_fixed ps fs ≤ held ps → bit (b && f) + held_fixed ps fs ≤ bit b + held ps
    by true true e = omega arith
    by true false e = omega arith
    by false f e = omega arith

-- where not all pages here are fixed, one isn't
pub finds_loose : (pages : Pages) (fixed : List Bool) → length fixed ≡ length pages → held_fixed pages fixed < held pages → HasLoose pages fixed
finds_loose [] fixed len lt = absurd (omega arith)
finds_loose (p ∷ ps) [] len lt = absurd (omega arith)
finds_loose (p ∷ ps) (f ∷ fs) len lt =
    let e = held_cons p ps in by (is_some p) refl f refl (omega arith) (λ l. finds_loose ps fs (omega arith) l)
  where
    later : HasLoose ps fs → HasLoose (p ∷ ps) (f ∷ fs)
    later h = (suc h.0, h.1, h.2)

    by : (b : Bool) → is_some p ≡ b → (g : Bool) → f ≡ g → bit (b && g) + held_fixed ps fs < bit b + held ps → (held_fixed ps fs < held ps → HasLoose ps fs) → HasLoose (p ∷ ps) (f ∷ fs)
    by true e true h l rest = later (rest (omega arith))
    by true e false h l rest = (0, e, h)
    by false e g h l rest = later (rest (omega arith))

-- where a page here isn't fixed, not all are
pub counts_loose : (pages : Pages) (fixed : List Bool) (q : ℕ) → here pages q ≡ true → flags.has fixed q ≡ false → length fixed ≡ length pages → held_fixed pages fixed < held pages
counts_loose [] fixed q h f len = absurd (true≢false (sym h))
counts_loose (p ∷ ps) [] q h f len = absurd (omega arith)
counts_loose (p ∷ ps) (g ∷ fs) zero h f len = let e = held_cons p ps in let w = by (is_some p) h g f (held_fixed_within ps fs) in omega arith
  where
    by : (b : Bool) → b ≡ true → (g : Bool) → g ≡ false → held_fixed ps fs ≤ held ps → bit (b && g) + held_fixed ps fs < bit b + held ps
    by true e false k w = omega arith
    by true e true k w = absurd (true≢false k)
    by false e g k w = absurd (true≢false (sym e))
counts_loose (p ∷ ps) (g ∷ fs) (suc q) h f len = let e = held_cons p ps in let w = by (is_some p) g (counts_loose ps fs q h f (omega arith)) in omega arith
  where
    by : (b g : Bool) → held_fixed ps fs < held ps → bit (b && g) + held_fixed ps fs < bit b + held ps
    by true true e = omega arith
    by true false e = omega arith
    by false g e = omega arith

-- a page that is here is within
pub within_pages : (pages : Pages) (p : ℕ) → here pages p ≡ true → p < length pages
within_pages pages p h = by (nat_lt p (length pages)) refl
  where
    by : (b : Bool) → nat_lt p (length pages) ≡ b → p < length pages
    by true e = grind (arith, common_steps)
    by false e = let le : length pages ≤ p = grind (arith, common_steps) in absurd (true≢false (sym h ∙ ap is_some (get_or_past pages p None le)))

module _ (pages : Pages) (fixed : List Bool) (n m : ℕ) (counted : AreCounted pages fixed n m) where
  -- what may be counted less is counted
  pub some_here : (i : ℕ) → i < length pages → bit (here pages i) ≤ n
  some_here i lt = let s = held_set pages i None lt in let c = counted.here_is in omega arith

  pub some_fixed : (i : ℕ) → i < length pages → bit (here pages i && flags.has fixed i) ≤ m
  some_fixed i lt = let s = held_fixed_set pages fixed i None counted.flags lt in let c = counted.here_fixed_is in omega arith

  pub at_most : length pages < 2 ^ 63 → (n < 2 ^ 63) × (m < 2 ^ 63)
  at_most short =
      let l = count_by-le-length is_some pages in let w = held_fixed_within pages fixed in
      let a = counted.here_is in let b = counted.here_fixed_is in (omega arith, omega arith)

  -- a page was put in or taken out
  pub counted_put : (i : ℕ) (v : Option (List ℕ)) (k l : ℕ) → i < length pages
      → k + bit (here pages i) ≡ n + bit (is_some v) → l + bit (here pages i && flags.has fixed i) ≡ m + bit (is_some v && flags.has fixed i)
      → AreCounted (set pages i v) fixed k l
  counted_put i v k l lt e f = record {
    flags = counted.flags ∙ sym (length-set pages i v);
    here_is = let s = held_set pages i v lt in let c = counted.here_is in omega arith;
    here_fixed_is = let s = held_fixed_set pages fixed i v counted.flags lt in let c = counted.here_fixed_is in omega arith;
  }

  -- a page was fixed
  pub counted_fix : (i : ℕ) (l : ℕ) → i < length pages → l + bit (here pages i && flags.has fixed i) ≡ m + bit (here pages i) → AreCounted pages (set fixed i true) n l
  counted_fix i l lt e = record {
    flags = length-set fixed i true ∙ counted.flags;
    here_is = counted.here_is;
    here_fixed_is = let s = held_fixed_fix pages fixed i counted.flags lt in let c = counted.here_fixed_is in omega arith;
  }

  -- no page is fixed any more
  pub counted_unfix : AreCounted pages (replicate (length fixed) false) n 0
  counted_unfix = record {
    flags = length-replicate (length fixed) false ∙ counted.flags;
    here_is = counted.here_is;
    here_fixed_is = sym (held_fixed_none pages (length fixed));
  }

  -- a page that is here was written
  pub counted_write : (i : ℕ) (bytes : List ℕ) → IfHere (get_or pages i None) (length bytes) → AreCounted (set pages i (Some bytes)) fixed n m
  counted_write i bytes long = by (get_or pages i None) refl long
    where
      by : (o : Option (List ℕ)) → get_or pages i None ≡ o → IfHere o (length bytes) → AreCounted (set pages i (Some bytes)) fixed n m
      by None e h = absurd h
      by (Some b) e h =
          let is : here pages i ≡ true = ap is_some e in
          counted_put i (Some bytes) n m (within_pages pages i is) (ap (λ x. n + bit x) is) (ap (λ x. m + bit (x && flags.has fixed i)) is)

-- no page is here
pub counted_empty : (n : ℕ) (fixed : List Bool) → length fixed ≡ n → AreCounted (replicate n None) fixed 0 0
counted_empty n fixed len = record {
  flags = len ∙ sym (length-replicate n None);
  here_is = sym (held_none n);
  here_fixed_is = let w = held_fixed_within (replicate n None) fixed in let e = held_none n in omega arith;
}

-- no page is here or fixed
pub counted_none : (n : ℕ) → AreCounted (replicate n None) (replicate n false) 0 0
counted_none n = counted_empty n (replicate n false) (length-replicate n false)
