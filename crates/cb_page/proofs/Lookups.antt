-- Look-ups in tables of equal lines.
use Rattle.std.proofs.Common.{ℕ, replicate, slice_index_or, sym, subst, inl, inr, arith}
use Rattle.std.proofs.lemmas.Bool.{cases_lt}
use Rattle.std.proofs.lemmas.List.{length-replicate, get_or-replicate, get_or_past}

-- what holds of the one line and of what stands past the end, holds of each look-up
pub replicate_gives : {A : Type 0} (P : A → Type 0) (count at : ℕ) (line past : A) → P line → P past → P (slice_index_or (replicate count line) at past)
replicate_gives {A} P count at line past of_line of_past = elim (cases_lt at count) [
  | inl within ↦ subst P (sym (get_or-replicate {A = A} count at line past within)) of_line
  | inr after ↦ subst P (sym (get_or_past {X = A} (replicate count line) at past (omega (arith, length-replicate {A = A} count line)))) of_past
]
