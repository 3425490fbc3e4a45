-- Bits of words as flags of pages.
use Rattle.std.proofs.Common.{◌≡◌, ◌≢◌, ℕ, ◌+◌, ◌-◌, ◌*◌, ◌/◌, ◌%◌, ◌^◌, ◌<◌, ◌≤◌, ◌==◌, Bool, true, false, List, length, get_or, set, replicate, slice_index_or, slice_set, bit_and, bit_or, refl, sym, ap, ◌∙◌, inl, inr, arith}
use Rattle.std.specs.Int.{w64, bit_at, bit_not, trailing_zeros}
use Rattle.std.proofs.lemmas.Bool.{cases_eq, cases_lt}
use Rattle.std.proofs.lemmas.List.{length-replicate, length-set, ext_get_or, get_or-replicate, get_or_past, get_or_default, get_or-set_same, get_or-set_other}
use Rattle.std.proofs.lemmas.List.FromFn.{length-map-range_with_len, get_or-map-range_with_len}
use Rattle.std.proofs.lemmas.Nat.Bits.{shr_and_one, bit_at-zero, bit_at_set_same, bit_at_set_other, bit_at_clear_same, bit_at_clear_other, bit_at-trailing_zeros, bit_at_above}
use Rattle.std.proofs.lemmas.Nat.{shr-shr}
use Rattle.std.proofs.Math.Nat.{div-le_self}
use Rattle.cb_page.specs.Flags.{has}
use Rattle.cb_page.specs.Words.{flag_at, flags_of}

pub length-flags_of : (words : List ℕ) (pages : ℕ) → length (flags_of words pages) ≡ pages
unfolding flags_of
length-flags_of words pages = length-map-range_with_len (flag_at words) 0 pages

pub has-flags_of : (words : List ℕ) (pages p : ℕ) → p < pages → has (flags_of words pages) p ≡ flag_at words p
unfolding flags_of
has-flags_of words pages p lt = get_or-map-range_with_len (flag_at words) 0 pages p p false lt (omega arith)

pub has_past : (words : List ℕ) (pages p : ℕ) → pages ≤ p → has (flags_of words pages) p ≡ false
has_past words pages p le = get_or_past (flags_of words pages) p false (omega (arith, length-flags_of words pages))

-- a word of zero has no flag
pub zero_not_flagged : (words : List ℕ) (p : ℕ) → slice_index_or words (p / 64) 0 ≡ 0 → flag_at words p ≡ false
unfolding flag_at
zero_not_flagged words p e = rw (e, bit_at-zero (p % 64)) refl

pub none_in : (words : List ℕ) (pages : ℕ) → ((k : ℕ) → flag_at words k ≡ false) → flags_of words pages ≡ replicate pages false
none_in words pages none =
    ext_get_or false _ _ (length-flags_of words pages ∙ sym (length-replicate pages false)) (λ i lt.
    let within : i < pages = omega (arith, lt, length-flags_of words pages) in
    has-flags_of words pages i within ∙ none i ∙ sym (get_or-replicate pages i false false within))

pub flags_of_zeros : (count pages : ℕ) → flags_of (replicate count 0) pages ≡ replicate pages false
flags_of_zeros count pages = none_in _ pages (λ p. zero_not_flagged (replicate count 0) p (elim (cases_lt (p / 64) count) [
  | inl lt ↦ get_or-replicate {A = ℕ} count (p / 64) 0 0 lt
  | inr le ↦ get_or_past {X = ℕ} (replicate count 0) (p / 64) 0 (omega (arith, length-replicate {A = ℕ} count 0))
]))

-- a page whose bit is another one
other_bit : (p q : ℕ) → q ≢ p → q / 64 ≡ p / 64 → q % 64 ≢ p % 64
other_bit p q ne same e = ne (omega arith)

-- where one bit of a word changes, one flag does
pub flags_changed : (words : List ℕ) (pages p word : ℕ) (b : Bool) → p < pages → p / 64 < length words
    → (bit_at word (p % 64) == 1) ≡ b
    → ((i : ℕ) → i < 64 → i ≢ p % 64 → bit_at word i ≡ bit_at (slice_index_or words (p / 64) 0) i)
    → flags_of (set words (p / 64) word) pages ≡ slice_set (flags_of words pages) p b
unfolding flag_at
flags_changed words pages p word b lt room is others =
    ext_get_or false _ _ (length-flags_of (set words (p / 64) word) pages ∙ sym (length-flags_of words pages) ∙ sym (length-set (flags_of words pages) p b)) (λ q within.
    let q_lt : q < pages = omega (arith, within, length-flags_of (set words (p / 64) word) pages) in
    let here : p < length (flags_of words pages) = omega (arith, length-flags_of words pages) in
    has-flags_of (set words (p / 64) word) pages q q_lt
    ∙ elim (cases_eq q p) [
      | inl e ↦ rw e (ap (λ (w : ℕ). bit_at w (p % 64) == 1) (get_or-set_same words (p / 64) word 0 room) ∙ is ∙ sym (get_or-set_same (flags_of words pages) p b false here))
      | inr ne ↦ elim (cases_eq (q / 64) (p / 64)) [
        | inl same ↦
            let bit = other_bit p q ne same in
            ap (λ (i : ℕ). bit_at (get_or (set words (p / 64) word) i 0) (q % 64) == 1) same
            ∙ ap (λ (w : ℕ). bit_at w (q % 64) == 1) (get_or-set_same words (p / 64) word 0 room)
            ∙ ap (λ (n : ℕ). n == 1) (others (q % 64) (omega arith) bit ∙ ap (λ (i : ℕ). bit_at (slice_index_or words i 0) (q % 64)) (sym same))
            ∙ sym (get_or-set_other (flags_of words pages) p q b false ne ∙ has-flags_of words pages q q_lt)
        | inr apart ↦
            ap (λ (w : ℕ). bit_at w (q % 64) == 1) (get_or-set_other words (p / 64) (q / 64) word 0 apart)
            ∙ sym (get_or-set_other (flags_of words pages) p q b false ne ∙ has-flags_of words pages q q_lt)
      ]
    ])

-- a word as a slice gives it
pub read : (words : List ℕ) (i word : ℕ) → i < length words → word ≡ get_or words i word → slice_index_or words i 0 ≡ word
read words i word lt e = get_or_default words i 0 word lt ∙ sym e

pub flags-insert : (words : List ℕ) (pages p word : ℕ) → p < pages → p / 64 < length words → word ≡ get_or words (p / 64) word
    → flags_of (set words (p / 64) (bit_or word (1 * 2 ^ (p % 64) % 2 ^ 64))) pages ≡ slice_set (flags_of words pages) p true
flags-insert words pages p word lt room is =
    let within : p % 64 < 64 = omega arith in
    flags_changed words pages p _ true lt room (rw (bit_at_set_same w64 word (p % 64) within) refl)
    (λ i i_lt ne. bit_at_set_other w64 word (p % 64) within i ne ∙ ap (λ (w : ℕ). bit_at w i) (sym (read words (p / 64) word room is)))

pub flags-remove : (words : List ℕ) (pages p word : ℕ) → p < pages → p / 64 < length words → word ≡ get_or words (p / 64) word
    → flags_of (set words (p / 64) (bit_and word (bit_not w64 (1 * 2 ^ (p % 64) % 2 ^ 64)))) pages ≡ slice_set (flags_of words pages) p false
flags-remove words pages p word lt room is =
    let within : p % 64 < 64 = omega arith in
    flags_changed words pages p _ false lt room (rw (bit_at_clear_same w64 word (p % 64) within) refl)
    (λ i i_lt ne. bit_at_clear_other w64 word (p % 64) within i i_lt ne ∙ ap (λ (w : ℕ). bit_at w i) (sym (read words (p / 64) word room is)))

-- what `word >> (page % 64) & 1 == 1` tests
pub flag-test : (words : List ℕ) (pages p word : ℕ) → p < pages → p / 64 < length words → word ≡ get_or words (p / 64) word
    → (bit_and (word / 2 ^ (p % 64)) 1 == 1) ≡ has (flags_of words pages) p
unfolding flag_at
flag-test words pages p word lt room is =
    ap (λ (n : ℕ). n == 1) (shr_and_one word (p % 64) ∙ ap (λ (w : ℕ). bit_at w (p % 64)) (sym (read words (p / 64) word room is))) ∙ sym (has-flags_of words pages p lt)

-- the lowest bit of a word from a place on, by a shift to there
pub lowest_from : (word start : ℕ) → word < 2 ^ 64 → 0 < word / 2 ^ start → start < 64
    → (start + trailing_zeros w64 (word / 2 ^ start) < 64) × (bit_at word (start + trailing_zeros w64 (word / 2 ^ start)) ≡ 1)
    × ((k : ℕ) → start ≤ k → k < start + trailing_zeros w64 (word / 2 ^ start) → bit_at word k ≡ 0)
lowest_from word start fits some lt =
    let rest = word / 2 ^ start in
    let small : rest < 2 ^ 64 = omega (arith, div-le_self word (2 ^ start), fits) in
    let found = bit_at-trailing_zeros w64 rest some small in
    let shifted : (i : ℕ) → bit_at rest i ≡ bit_at word (start + i) = λ i. ap (λ (n : ℕ). n % 2) (shr-shr word start i) in
    let one = sym (shifted (trailing_zeros w64 rest)) ∙ found.1 in
    let within : start + trailing_zeros w64 rest < 64 = elim (cases_lt (start + trailing_zeros w64 rest) 64) [
      | inl below ↦ below
      | inr past ↦ let none = bit_at_above word 64 (start + trailing_zeros w64 rest) fits past in absurd (omega (arith, one, none))
    ] in
    (within, one, λ k from before. let e : start + (k - start) ≡ k = omega arith in sym (ap (bit_at word) e) ∙ sym (shifted (k - start)) ∙ found.2 (k - start) (omega arith))

pub none_from : (word start k : ℕ) → word / 2 ^ start ≡ 0 → start ≤ k → bit_at word k ≡ 0
none_from word start k empty from =
    let e : start + (k - start) ≡ k = omega arith in
    sym (ap (bit_at word) e) ∙ ap (λ (n : ℕ). n % 2) (sym (shr-shr word start (k - start)) ∙ ap (λ (n : ℕ). n / 2 ^ (k - start)) empty) ∙ bit_at-zero (k - start)

-- where the bit of a place is 0, its flag isn't set
pub not_flagged : (words : List ℕ) (at k : ℕ) → k / 64 ≡ at → bit_at (slice_index_or words at 0) (k % 64) ≡ 0 → flag_at words k ≡ false
unfolding flag_at
not_flagged words at k place none = rw (place, none) refl

pub flagged : (words : List ℕ) (at bit : ℕ) → bit < 64 → bit_at (slice_index_or words at 0) bit ≡ 1 → flag_at words (64 * at + bit) ≡ true
unfolding flag_at
flagged words at bit lt one =
    let q : (64 * at + bit) / 64 ≡ at = omega arith in
    let r : (64 * at + bit) % 64 ≡ bit = omega arith in
    rw (q, r, one) refl

pub not_in : (words : List ℕ) (pages k : ℕ) → flag_at words k ≡ false → has (flags_of words pages) k ≡ false
not_in words pages k none = elim (cases_lt k pages) [
  | inl lt ↦ has-flags_of words pages k lt ∙ none
  | inr past ↦ has_past words pages k past
]
