-- Goals of `next_bit`.
use Rattle.std.proofs.Common.{◌≡◌, ℕ, ◌<◌, ◌/◌, ◌%◌, arith, inl, inr, slice_index_or}
use Rattle.std.specs.Int.{w64}
use Rattle.std.proofs.lemmas.Bool.{cases_eq, cases_lt}
use Rattle.std.proofs.lemmas.List.{get_or_past}
use Rattle.std.proofs.lemmas.Nat.Bits.{bit_at-trailing_zeros}
use Rattle.cb_page.proofs.Words.{flagged, not_flagged, zero_not_flagged}
use Rattle.cb_page.proofs.page_set.next_bit.Goals as goal

pub returns-then-at-words : goal.returns-then-at-words
returns-then-at-words c k from = zero_not_flagged c.args.words.now k (get_or_past c.args.words.now (k / 64) 0 (omega arith))

pub returns-in-Some : goal.returns-in-Some
returns-in-Some c =
    let found = c.in-Some.ensures in
    let at = c.args.from / 64 in (
      omega (arith, found.0),
      flagged c.args.words.now at c.in-Some.bit found.1 found.2,
      λ k from lt.
          let here : k / 64 ≡ at = omega (arith, found.1) in
          not_flagged c.args.words.now at k here (found.3 (k % 64) (omega arith) (omega arith)),
    )

pub returns-in_err-later : goal.returns-in_err-later
returns-in_err-later c = rw c.from_residual.ensures (λ k from.
    elim (cases_eq (k / 64) (c.args.from / 64)) [
      | inl here ↦ not_flagged c.args.words.now (c.args.from / 64) k here (c.in_default.ensures (k % 64) (omega arith))
      | inr ne ↦ zero_not_flagged c.args.words.now k ((c.requires.bits (k / 64)).0 (c.in_err-later.ensures (k / 64) (omega arith)))
    ])

pub returns : goal.returns
returns c =
    let found = c.in_ok-later.ensures in
    let later = c.in_ok-later.later in
    let word : ℕ = slice_index_or c.args.words.now later 0 in
    let some : 0 < word = grind (arith, found.2, (c.requires.bits later).1) in
    let bit = bit_at-trailing_zeros w64 word some (c.type_inv.words later).fits in (
      omega (arith, found.0),
      flagged c.args.words.now later _ bit.0 bit.1,
      λ k from lt. elim (cases_eq (k / 64) (c.args.from / 64)) [
        | inl here ↦ not_flagged c.args.words.now (c.args.from / 64) k here (c.in_default.ensures (k % 64) (omega arith))
        | inr ne ↦ elim (cases_lt (k / 64) later) [
          | inl before ↦ zero_not_flagged c.args.words.now k ((c.requires.bits (k / 64)).0 (found.3 (k / 64) (omega arith) before))
          | inr at ↦
              let here : k / 64 ≡ later = omega (arith, bit.0) in
              not_flagged c.args.words.now later k here (bit.2 (k % 64) (omega arith))
        ]
      ],
    )
