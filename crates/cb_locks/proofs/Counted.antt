-- The flags and the count of the pages of which something is due.
use Rattle.std.proofs.Common.{◌≡◌, true≢false, ◌<◌, ◌≤◌, ◌+◌, ◌^◌, ℕ, suc, zero, Bool, true, false, nat_lt, List, ◌∷◌, length, map, count_by, replicate, MatchOption, refl, sym, ◌∙◌, ◌||◌, ap, arith, Option, Some, None}
use Rattle.std.proofs.lemmas.Grind.{common_steps}
use Rattle.std.proofs.Math.ListN.{get_or, set, get_or-map}
use Rattle.std.proofs.lemmas.List.{get_or_past, map-set}
use Rattle.std.proofs.lemmas.List.Sums.{count_by-le-length}
use Rattle.std.specs.Option.{is_some}
use Rattle.cb_locks.specs.declared.dues.DueDowngrade.{DueDowngrade}
use Rattle.cb_locks.specs.declared.dues.PageDue.{PageDue}
use Rattle.cb_page.specs.Counting.{bit}
use Rattle.cb_page.proofs.Counting.{count_set}
use Rattle.cb_locks.specs.Dues.{AreCounted, is_due, nothing_due}

-- the flag of a page
pub flag_at : (dues : List PageDue) (page : ℕ) → get_or (map is_due dues) page false ≡ is_due (get_or dues page nothing_due)
flag_at dues page = get_or-map is_due dues page nothing_due

-- a page of which something is due is within
pub within : (dues : List PageDue) (page : ℕ) → is_due (get_or dues page nothing_due) ≡ true → page < length dues
within dues page is = by (nat_lt page (length dues)) refl
  where
    by : (b : Bool) → nat_lt page (length dues) ≡ b → page < length dues
    by true e = grind (arith, common_steps)
    by false e = let le : length dues ≤ page = grind (arith, common_steps) in absurd (true≢false (sym is ∙ ap is_due (get_or_past dues page nothing_due le)))

-- a page of which nothing is due
pub not_due : (due : PageDue) → is_due due ≡ false → due ≡ nothing_due
not_due due none = by due.callback refl due.downgrade refl none
  where
    by : (callback : Option ℕ) → due.callback ≡ callback → (downgrade : Option DueDowngrade) → due.downgrade ≡ downgrade → is_due due ≡ false → due ≡ nothing_due
    by None e None f none = λ i. record { callback = e i; downgrade = f i }
    by None e (Some downgrade) f none = absurd (true≢false (ap (λ d. is_some d) (sym f) ∙ ap (λ c. is_some c || is_some due.downgrade) (sym e) ∙ none))
    by (Some callback) e downgrade f none = absurd (true≢false (ap (λ c. is_some c || is_some due.downgrade) (sym e) ∙ none))

-- the walk over the flags is one over the pages of which something is due
pub next_due : (dues : List PageDue) (flags : List Bool) (from : ℕ) (found : Option ℕ) → flags ≡ map is_due dues
    → MatchOption found ((k : ℕ) → from ≤ k → get_or flags k false ≡ false) (λ page. (from ≤ page) × (get_or flags page false ≡ true) × ((k : ℕ) → from ≤ k → k < page → get_or flags k false ≡ false))
    → MatchOption found ((k : ℕ) → from ≤ k → get_or dues k nothing_due ≡ nothing_due)
    (λ page. (from ≤ page) × (page < length dues) × (is_due (get_or dues page nothing_due) ≡ true) × ((k : ℕ) → from ≤ k → k < page → get_or dues k nothing_due ≡ nothing_due))
next_due dues flags from found are next = by found next
  where
    at : (k : ℕ) → is_due (get_or dues k nothing_due) ≡ get_or flags k false
    at k = sym (ap (λ fs. get_or fs k false) are ∙ flag_at dues k)

    by : (o : Option ℕ) → MatchOption o ((k : ℕ) → from ≤ k → get_or flags k false ≡ false) (λ page. (from ≤ page) × (get_or flags page false ≡ true) × ((k : ℕ) → from ≤ k → k < page → get_or flags k false ≡ false))
        → MatchOption o ((k : ℕ) → from ≤ k → get_or dues k nothing_due ≡ nothing_due)
        (λ page. (from ≤ page) × (page < length dues) × (is_due (get_or dues page nothing_due) ≡ true) × ((k : ℕ) → from ≤ k → k < page → get_or dues k nothing_due ≡ nothing_due))
    by None none = λ k le. not_due _ (at k ∙ none k le)
    by (Some page) some =
        let is = at page ∙ some.1 in (some.0, within dues page is, is, λ k le lt. not_due _ (at k ∙ some.2 k le lt))

-- a page of which something is due is counted
pub one_counted : (dues : List PageDue) (page : ℕ) → is_due (get_or dues page nothing_due) ≡ true → page < length dues → count_by is_due (set dues page nothing_due) + 1 ≡ count_by is_due dues
one_counted dues page is lt = let s = count_set is_due dues page nothing_due nothing_due lt in let b = ap bit is in omega arith

-- nothing is due of any page
none_due : (n : ℕ) → count_by is_due (replicate n nothing_due) ≡ 0
none_due zero = refl
none_due (suc n) = none_due n

no_flags : (n : ℕ) → replicate n false ≡ map is_due (replicate n nothing_due)
no_flags zero = refl
no_flags (suc n) = ap (λ flags. false ∷ flags) (no_flags n)

pub counted_none : (n : ℕ) → AreCounted (replicate n nothing_due) (replicate n false) 0
counted_none n = record { flags_are = no_flags n; count_is = sym (none_due n) }

module _ (dues : List PageDue) (flags : List Bool) (count : ℕ) (counted : AreCounted dues flags count) where
  -- what may be counted less is counted
  pub some_due : (page : ℕ) → page < length dues → bit (is_due (get_or dues page nothing_due)) ≤ count
  some_due page lt = let s = count_set is_due dues page nothing_due nothing_due lt in let c = counted.count_is in omega arith

  pub at_most : length dues < 2 ^ 63 → count < 2 ^ 63
  at_most short = let l = count_by-le-length is_due dues in let c = counted.count_is in omega arith

  -- another thing is due of a page
  pub counted_put : (page : ℕ) (due : PageDue) (after : ℕ) → page < length dues
      → after + bit (is_due (get_or dues page nothing_due)) ≡ count + bit (is_due due) → AreCounted (set dues page due) (set flags page (is_due due)) after
  counted_put page due after lt e = record {
    flags_are = ap (λ fs. set fs page (is_due due)) counted.flags_are ∙ sym (map-set is_due dues page due);
    count_is = let s = count_set is_due dues page due nothing_due lt in let c = counted.count_is in omega arith;
  }
