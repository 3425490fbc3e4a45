-- The tests of ranges and of rising numbers say what the ranges and the rising say.
use Rattle.std.proofs.Common.{◌≡◌, ℕ, ◌+◌, true, List, [], ◌∷◌, nat_le, refl}
use Rattle.std.proofs.lemmas.Bool.{and_parts, and_from, leb-true, le-leb}
use Rattle.cb_page.specs.Numbers.{IsNumber, is_number}
use Rattle.cb_page.specs.Rising.{RisesFrom, rises_from}

pub number_tells : (n : ℕ) → is_number n ≡ true → IsNumber n
number_tells n e = let p = and_parts _ _ e in (leb-true _ _ p.0, leb-true _ _ p.1)

pub number_tests : (n : ℕ) → IsNumber n → is_number n ≡ true
number_tests n h = and_from _ _ (le-leb _ _ h.0) (le-leb _ _ h.1)

pub rises_tells : (least : ℕ) (xs : List ℕ) → rises_from least xs ≡ true → RisesFrom least xs
rises_tells least [] e = tt
rises_tells least (x ∷ xs) e = let p = and_parts (nat_le least x) (rises_from (x + 1) xs) e in (leb-true _ _ p.0, rises_tells (x + 1) xs p.1)

pub rises_tests : (least : ℕ) (xs : List ℕ) → RisesFrom least xs → rises_from least xs ≡ true
rises_tests least [] h = refl
rises_tests least (x ∷ xs) h = and_from _ _ (le-leb _ _ h.0) (rises_tests (x + 1) xs h.1)
