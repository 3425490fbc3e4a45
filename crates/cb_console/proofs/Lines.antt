-- The lines of a list, one more at the end.
use Rattle.std.proofs.Common.{◌≡◌, ℕ, zero, suc, ◌+◌, ◌<◌, List, [], ◌∷◌, ◌++◌, length, take, get_or, append_assoc, append-nil, arith}
use Rattle.cb_console.specs.Output.{numbered_lines}

-- the lines up to a place, and the line of the item there
pub lines-more : {E : Type 0} (text : ℕ → E → List ℕ) (first : ℕ) (items : List E) (i : ℕ) (place : ℕ) (item : E) → i < length items
    → item ≡ get_or items i item → place ≡ first + i
    → numbered_lines text first (take (suc i) items) ≡ numbered_lines text first (take i items) ++ text place item
lines-more text first [] i place item within is at = absurd (omega arith)
lines-more text first (e ∷ items) zero place item within is at =
    let same : place ≡ first = omega arith in
    rw (same, is) (append-nil _)
lines-more text first (e ∷ items) (suc i) place item within is at =
    rw (lines-more text (first + 1) items i place item (omega arith) is (omega arith))
    (simp append_assoc)
