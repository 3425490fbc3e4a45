-- Bits of a number as members of a set of clients.
use Rattle.std.proofs.Common.{subst, sym, ◌≢◌, ◌≡◌, ℕ, ◌-◌, ◌*◌, ◌%◌, ◌^◌, ◌<◌, ◌≤◌, ◌/◌, ◌==◌, ◌+◌, ◌⊎◌, true, ◌∙◌, ◌&&◌, ◌||◌, not, min, max, zero, suc, false, bit_and, bit_or, ap, inl, inr, arith}
use Rattle.std.specs.Int.{w32, bit_at, bit_not, trailing_zeros}
use Rattle.std.proofs.lemmas.Nat.{le_or_l}
use Rattle.std.proofs.lemmas.Bool.{cases_eq, cases_lt}
use Rattle.std.proofs.Math.Nat.{div-one, pow-succ', div-div-eq-div-mul, div-le_self}
use Rattle.std.proofs.lemmas.Nat.Bits.{bit_at-suc, shr_and_one, bit_at-zero, bit_at-lt, bit_at_and, bit_at_or, bit_at_not, bit_at_set_same, bit_at_set_other, bit_at_clear_same, bit_at_clear_other, bit_at-trailing_zeros, bit_at_above}
use Rattle.cb_page.specs.Clients.{has, with, without, set_of, IsLeast, IsNext}

pub has_none : (client : ℕ) → has (set_of 0) client ≡ false
unfolding has
has_none client = ap (λ (n : ℕ). n == 1) (bit_at-zero client)

pub has_test : (bits client : ℕ) → (bit_and (bits / 2 ^ client) 1 == 1) ≡ has (set_of bits) client
unfolding has
has_test bits client = ap (λ (n : ℕ). n == 1) (shr_and_one bits client)

pub has_insert : (bits client other : ℕ) → client < 32 → has (set_of (bit_or bits (1 * 2 ^ client % 2 ^ 32))) other ≡ with (set_of bits) client other
unfolding has
has_insert bits client other lt = elim (cases_eq other client) [
  | inl e ↦ let one = bit_at_set_same w32 bits client lt in grind arith
  | inr ne ↦ let same = bit_at_set_other w32 bits client lt other ne in grind arith
]

-- taking bits away leaves no bit past the end
above_and : (bits other client : ℕ) → bits < 2 ^ 32 → 32 ≤ client → bit_at (bit_and bits other) client ≡ bit_at bits client
above_and bits other client fits le =
    let none = bit_at_above bits 32 client fits le in
    let e = bit_at_and bits other client in
    let small = bit_at-lt other client in
    omega arith

pub has_remove : (bits client other : ℕ) → bits < 2 ^ 32 → client < 32 → has (set_of (bit_and bits (bit_not w32 (1 * 2 ^ client % 2 ^ 32)))) other ≡ without (set_of bits) client other
unfolding has
has_remove bits client other fits lt = elim (cases_eq other client) [
  | inl e ↦ let none = bit_at_clear_same w32 bits client lt in grind arith
  | inr ne ↦ elim (cases_lt other 32) [
    | inl within ↦ let same = bit_at_clear_other w32 bits client lt other within ne in grind arith
    | inr past ↦ let same = above_and bits (bit_not w32 (1 * 2 ^ client % 2 ^ 32)) other fits past in grind arith
  ]
]

either_bit : (x y z : ℕ) → x < 2 → y < 2 → z ≡ max x y → (z == 1) ≡ ((x == 1) || (y == 1))
either_bit zero y z lx ly e = grind arith
either_bit (suc zero) y z lx ly e = grind arith
either_bit (suc (suc x)) y z lx ly e = absurd (omega arith)

only_bit : (x y z : ℕ) → x < 2 → y < 2 → z ≡ min x (1 - y) → (z == 1) ≡ ((x == 1) && not (y == 1))
only_bit zero y z lx ly e = grind arith
only_bit (suc zero) y z lx ly e = grind arith
only_bit (suc (suc x)) y z lx ly e = absurd (omega arith)

pub has_union : (a b client : ℕ) → has (set_of (bit_or a b)) client ≡ (has (set_of a) client || has (set_of b) client)
unfolding has
has_union a b client = either_bit (bit_at a client) (bit_at b client) _ (bit_at-lt a client) (bit_at-lt b client) (bit_at_or a b client)

pub has_difference : (a b client : ℕ) → a < 2 ^ 32 → b < 2 ^ 32 → has (set_of (bit_and a (bit_not w32 b))) client ≡ (has (set_of a) client && not (has (set_of b) client))
unfolding has
has_difference a b client fits_a fits_b = elim (cases_lt client 32) [
  | inl within ↦ only_bit (bit_at a client) (bit_at b client) _ (bit_at-lt a client) (bit_at-lt b client) (let e = bit_at_and a (bit_not w32 b) client in let n = bit_at_not w32 b client fits_b within in omega arith)
  | inr past ↦ let same = above_and a (bit_not w32 b) client fits_a past in let none = bit_at_above a 32 client fits_a past in let none_b = bit_at_above b 32 client fits_b past in grind arith
]

pub has_above : (bits client : ℕ) → bits < 2 ^ 32 → 32 ≤ client → has (set_of bits) client ≡ false
unfolding has
has_above bits client fits le = let none = bit_at_above bits 32 client fits le in grind arith

-- the lowest bit is the least member
pub least : (bits : ℕ) → bits < 2 ^ 32 → 0 < bits → (trailing_zeros w32 bits < 32) × IsLeast (set_of bits) (trailing_zeros w32 bits)
unfolding has
least bits fits some =
    let found = bit_at-trailing_zeros w32 bits some fits in
    (found.0, record { here = ap (λ (n : ℕ). n == 1) found.1; none_before = λ other lt. ap (λ (n : ℕ). n == 1) (found.2 other lt) })

-- one more bit is a greater number
pub grows : (bits client : ℕ) → client < 32 → has (set_of bits) client ≡ false → bits < bit_or bits (1 * 2 ^ client % 2 ^ 32)
unfolding has
grows bits client lt out = not_same (le_or_l bits (1 * 2 ^ client % 2 ^ 32)) (bit_at_set_same w32 bits client lt)
  where
    not_same : {more : ℕ} → bits ≤ more → bit_at more client ≡ 1 → bits < more
    not_same {more} le one =
        let apart : bits ≢ more = λ same. let here : bit_at bits client ≡ 1 = subst (λ (n : ℕ). bit_at n client ≡ 1) (sym same) one in grind (arith, out, here) in
        omega arith

-- the bits from one place on
shifted : (from bits at : ℕ) → bit_at (bits / 2 ^ from) at ≡ bit_at bits (from + at)
shifted zero bits at = ap (λ (n : ℕ). bit_at n at) (div-one bits) ∙ ap (λ (n : ℕ). bit_at bits n) (omega arith)
shifted (suc from) bits at =
    let halves : bits / 2 ^ suc from ≡ bits / 2 / 2 ^ from =
    ap (λ (n : ℕ). bits / n) (pow-succ' 2 from) ∙ sym (div-div-eq-div-mul bits 2 (2 ^ from)) in
    let place : bit_at bits (suc from + at) ≡ bit_at (bits / 2) (from + at) =
    ap (λ (n : ℕ). bit_at bits n) (omega arith) ∙ bit_at-suc bits (from + at) in
    ap (λ (n : ℕ). bit_at n at) halves ∙ shifted from (bits / 2) at ∙ sym place

-- a place from that one on
has_shifted : (bits from client : ℕ) → from ≤ client
    → has (set_of bits) client ≡ has (set_of (bits / 2 ^ from)) (client - from)
unfolding has
has_shifted bits from client le =
    ap (λ (n : ℕ). bit_at bits n == 1) (omega (arith, le))
    ∙ sym (ap (λ (n : ℕ). n == 1) (shifted from bits (client - from)))

-- no bit is left: nobody from there on
pub none_from : (bits from : ℕ) → bits / 2 ^ from ≡ 0
    → (client : ℕ) → from ≤ client → has (set_of bits) client ≡ false
none_from bits from none client le =
    has_shifted bits from client le
    ∙ subst (λ (n : ℕ). has (set_of n) (client - from) ≡ false) (sym none) (has_none (client - from))

-- nobody has a number past the last bit
pub none_past : (bits from : ℕ) → bits < 2 ^ 32 → 32 ≤ from
    → (client : ℕ) → from ≤ client → has (set_of bits) client ≡ false
none_past bits from fits past client le = has_above bits client fits (omega (arith, past, le))

-- the lowest bit that is left
pub next_there : (bits from : ℕ) → bits < 2 ^ 32 → from < 32 → 0 < bits / 2 ^ from
    → (from + trailing_zeros w32 (bits / 2 ^ from) < 32)
    × IsNext (set_of bits) from (from + trailing_zeros w32 (bits / 2 ^ from))
next_there bits from fits within some =
    let found = least (bits / 2 ^ from) (less_fits (div-le_self bits (2 ^ from))) some in
    let place : from + trailing_zeros w32 (bits / 2 ^ from) - from ≡ trailing_zeros w32 (bits / 2 ^ from) = omega arith in
    let here : has (set_of bits) (from + trailing_zeros w32 (bits / 2 ^ from)) ≡ true =
    has_shifted bits from _ (omega arith)
    ∙ ap (λ (n : ℕ). has (set_of (bits / 2 ^ from)) n) place ∙ found.1.here in (
      below here (cases_lt (from + trailing_zeros w32 (bits / 2 ^ from)) 32),
      record {
        here = here;
        above = omega arith;
        none_between = λ other le lt. has_shifted bits from other le
            ∙ found.1.none_before (other - from) (omega (arith, le, lt));
      },
    )
  where
    less_fits : {less : ℕ} → less ≤ bits → less < 2 ^ 32
    less_fits le = omega (arith, le, fits)

    below : {at : ℕ} → has (set_of bits) at ≡ true → (at < 32) ⊎ (32 ≤ at) → at < 32
    below here (inl lt) = lt
    below {at} here (inr past) = let none = has_above bits at fits past in absurd (cc)
