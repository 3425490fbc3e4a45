-- The summary of words: which of them aren't 0.
use Rattle.std.proofs.Common.{◌≡◌, ◌≢◌, ◌↔◌, ℕ, ◌*◌, ◌/◌, ◌%◌, ◌^◌, ◌<◌, List, length, get_or, set, bit_and, bit_or, refl, sym, ap, ◌∙◌, inl, inr, arith}
use Rattle.std.specs.Int.{w64, bit_at, bit_not}
use Rattle.std.proofs.lemmas.Bool.{cases_eq, cases_lt}
use Rattle.std.proofs.lemmas.List.{length-set, get_or-set_same, get_or-set_other}
use Rattle.std.proofs.lemmas.Nat.{and_le_l}
use Rattle.std.proofs.lemmas.Nat.Bits.{bit_at-zero, bit_at_set_same, bit_at_set_other, bit_at_clear_same, bit_at_clear_other, bit_at_above}
use Rattle.cb_page.specs.Words.{Summarizes}
use Rattle.cb_page.proofs.Words.{read}

-- where one word changes, and with it its bit of the summary
summarizes-set : (filled summary : ℕ) (words : List ℕ) (at word : ℕ) → Summarizes filled words → at < length words
    → ((bit_at summary at ≡ 0) ↔ (word ≡ 0))
    → ((i : ℕ) → i ≢ at → bit_at summary i ≡ bit_at filled i)
    → Summarizes summary (set words at word)
summarizes-set filled summary words at word was room is others = record {
  at_most = omega (arith, was.at_most, length-set words at word);
  bits = λ i. elim (cases_eq i at) [
    | inl e ↦ rw (e, get_or-set_same words at word 0 room) is
    | inr ne ↦ rw (others i ne, get_or-set_other words at i word 0 ne) (was.bits i)
  ];
}

-- a page is put into its word, and the word into the summary
pub summarizes-insert : (filled : ℕ) (words : List ℕ) (p word : ℕ) → Summarizes filled words → p / 64 < length words
    → Summarizes (bit_or filled (1 * 2 ^ (p / 64) % 2 ^ 64)) (set words (p / 64) (bit_or word (1 * 2 ^ (p % 64) % 2 ^ 64)))
summarizes-insert filled words p word was room =
    let within : p / 64 < 64 = omega (arith, was.at_most) in
    let summary = bit_at_set_same w64 filled (p / 64) within in
    let bit = bit_at_set_same w64 word (p % 64) (omega arith) in
    summarizes-set filled _ words (p / 64) _ was room
    ((λ e. absurd (omega (arith, e, summary))), λ e. absurd (omega (arith, bit, ap (λ (w : ℕ). bit_at w (p % 64)) e, bit_at-zero (p % 64))))
    (bit_at_set_other w64 filled (p / 64) within)

-- bits are cleared in a word that isn't 0 even so
pub summarizes-less : (filled : ℕ) (words : List ℕ) (at word kept : ℕ) → Summarizes filled words → at < length words → word ≡ get_or words at word
    → bit_and word kept ≢ 0
    → Summarizes filled (set words at (bit_and word kept))
summarizes-less filled words at word kept was room is some =
    let before : word ≢ 0 = omega (arith, some, and_le_l word kept) in
    summarizes-set filled filled words at _ was room
    (λ e. absurd (before (sym (read words at word room is) ∙ (was.bits at).0 e)), λ e. absurd (some e))
    (λ i ne. refl)

cleared_other : (word k i : ℕ) → word < 2 ^ 64 → k < 64 → i ≢ k → bit_at (bit_and word (bit_not w64 (1 * 2 ^ k % 2 ^ 64))) i ≡ bit_at word i
cleared_other word k i fits within ne = elim (cases_lt i 64) [
  | inl lt ↦ bit_at_clear_other w64 word k within i lt ne
  | inr past ↦ bit_at_above _ 64 i (omega (arith, and_le_l word (bit_not w64 (1 * 2 ^ k % 2 ^ 64)))) past ∙ sym (bit_at_above word 64 i fits past)
]

-- a word becomes 0, and is taken out of the summary
pub summarizes-zero : (filled : ℕ) (words : List ℕ) (at : ℕ) → filled < 2 ^ 64 → Summarizes filled words → at < length words
    → Summarizes (bit_and filled (bit_not w64 (1 * 2 ^ at % 2 ^ 64))) (set words at 0)
summarizes-zero filled words at fits was room =
    let within : at < 64 = omega (arith, was.at_most) in
    summarizes-set filled _ words at 0 was room (λ _. refl, λ _. bit_at_clear_same w64 filled at within)
    (λ i ne. cleared_other filled at i fits within ne)

-- a word falls where one of its bits is cleared
pub cleared_less : (word k : ℕ) → k < 64 → bit_at word k ≡ 1 → bit_and word (bit_not w64 (1 * 2 ^ k % 2 ^ 64)) < word
cleared_less word k within one = elim (cases_lt (bit_and word (bit_not w64 (1 * 2 ^ k % 2 ^ 64))) word) [
  | inl lt ↦ lt
  | inr le ↦
      let same : bit_and word (bit_not w64 (1 * 2 ^ k % 2 ^ 64)) ≡ word = omega (arith, le, and_le_l word (bit_not w64 (1 * 2 ^ k % 2 ^ 64))) in
      absurd (omega (arith, one, sym (ap (λ (n : ℕ). bit_at n k) same) ∙ bit_at_clear_same w64 word k within))
]
