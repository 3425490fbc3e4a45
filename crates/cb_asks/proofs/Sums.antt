-- Sums over numbered things.
use Rattle.std.proofs.Common.{◌≡◌, ◌≢◌, ℕ, ◌+◌, ◌<◌, ◌≤◌, Bool, true, false, zero, suc, refl, ap, ◌∙◌, arith, inl, inr}
use Rattle.std.proofs.lemmas.Bool.{cases_eq, cases_lt}
use Rattle.cb_asks.specs.Sums.{one_if, sum_below}

-- as many are counted where each is the same
pub sum_same : (before after : ℕ → ℕ) (end : ℕ) → ((number : ℕ) → number < end → after number ≡ before number) → sum_below after end ≡ sum_below before end
sum_same before after zero same = refl
sum_same before after (suc end) same = let e = sum_same before after end (λ number within. same number (omega arith)) in let f = same end (omega arith) in omega arith

-- one number is counted otherwise
pub sum_changed : (before after : ℕ → ℕ) (at end : ℕ) → at < end → ((number : ℕ) → number ≢ at → after number ≡ before number)
    → sum_below after end + before at ≡ sum_below before end + after at
sum_changed before after at zero within same = absurd (omega arith)
sum_changed before after at (suc end) within same = elim (cases_eq end at) [
  | inl here ↦ (let e = sum_same before after end (λ number less. same number (λ is. absurd (omega arith))) in grind arith)
  | inr apart ↦ (let e = sum_changed before after at end (omega arith) same in let f = same end apart in omega arith)
]

-- no more are counted where each is at most as many
pub sum_at_most : (less more : ℕ → ℕ) (end : ℕ) → ((number : ℕ) → less number ≤ more number) → sum_below less end ≤ sum_below more end
sum_at_most less more zero each = omega arith
sum_at_most less more (suc end) each = let e = sum_at_most less more end each in let f = each end in omega arith

pub sum_none : (counted : ℕ → ℕ) (end : ℕ) → ((number : ℕ) → counted number ≡ 0) → sum_below counted end ≡ 0
sum_none counted zero none = refl
sum_none counted (suc end) none = let e = sum_none counted end none in let f = none end in omega arith

-- at most one each
pub sum_ones : (test : ℕ → Bool) (end : ℕ) → sum_below (λ number. one_if (test number)) end ≤ end
sum_ones test zero = omega arith
sum_ones test (suc end) = go (sum_ones test end) (test end)
  where
    go : sum_below (λ number. one_if (test number)) end ≤ end → (b : Bool) → sum_below (λ number. one_if (test number)) end + one_if b ≤ suc end
    go e true = omega arith
    go e false = omega arith

-- fewer where one isn't counted
pub sum_ones_but : (test : ℕ → Bool) (at end : ℕ) → at < end → test at ≡ false → sum_below (λ number. one_if (test number)) end + 1 ≤ end
sum_ones_but test at zero within none = absurd (omega arith)
sum_ones_but test at (suc end) within none = elim (cases_eq end at) [
  | inl here ↦ (let e = sum_ones test end in let f = ap one_if (ap test here ∙ none) in omega (arith, e, f))
  | inr apart ↦ go (sum_ones_but test at end (omega arith) none) (test end)
]
  where
    go : sum_below (λ number. one_if (test number)) end + 1 ≤ end → (b : Bool) → sum_below (λ number. one_if (test number)) end + one_if b + 1 ≤ suc end
    go e true = omega arith
    go e false = omega arith

-- numbers that aren't counted are passed over
pub sum_past : (test : ℕ → Bool) (from end : ℕ) → from ≤ end → ((number : ℕ) → from ≤ number → number < end → test number ≡ false)
    → sum_below (λ number. one_if (test number)) end ≡ sum_below (λ number. one_if (test number)) from
sum_past test from zero le none = ap (sum_below (λ number. one_if (test number))) (let e : zero ≡ from = omega (arith, le) in e)
sum_past test from (suc end) le none = elim (cases_lt end from) [
  | inl below ↦ ap (sum_below (λ number. one_if (test number))) (let e : suc end ≡ from = omega (arith, le, below) in e)
  | inr past ↦ (let e = sum_past test from end past (λ number above within. none number above (omega (arith, within))) in let f = ap one_if (none end past (omega arith)) in omega (arith, e, f))
]

-- and the next one that is
pub sum_next : (test : ℕ → Bool) (from next : ℕ) → from ≤ next → ((number : ℕ) → from ≤ number → number < next → test number ≡ false) → test next ≡ true
    → sum_below (λ number. one_if (test number)) (suc next) ≡ sum_below (λ number. one_if (test number)) from + 1
sum_next test from next le none here = let e = sum_past test from next le none in let f = ap one_if here in omega (arith, e, f)
