-- A count of the entries that a test holds of, once an entry changes.
use Rattle.std.proofs.Common.{◌≡◌, ◌<◌, ◌+◌, ℕ, Bool, true, false, cond, List, length, count_by, refl, arith}
use Rattle.std.proofs.Math.ListN.{get_or, set}
use Rattle.std.proofs.lemmas.List.Sums.{sum_by-set}
use Rattle.cb_page.specs.Counting.{bit}

pub bit_cond : (b : Bool) → cond b 1 0 ≡ bit b
bit_cond true = refl
bit_cond false = refl

-- the count, once another entry stands at a place
pub count_set : {A : Type 0} (test : A → Bool) (xs : List A) (i : ℕ) (v past : A) → i < length xs
    → count_by test (set xs i v) + bit (test (get_or xs i past)) ≡ count_by test xs + bit (test v)
count_set test xs i v past lt =
    let s = sum_by-set (λ x. cond (test x) 1 0) xs i v past lt in
    let a = bit_cond (test (get_or xs i past)) in let b = bit_cond (test v) in omega arith
