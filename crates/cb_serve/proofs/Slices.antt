-- Parts of slices.
use Rattle.std.proofs.Common.{◌≡◌, ◌∙◌, ℕ, ◌+◌, ◌-◌, ◌≤◌, List, take, drop, length, length-drop, ap, arith}
use Rattle.std.proofs.Math.Seq.{paste}
use Rattle.std.proofs.lemmas.List.{take_all}
use Rattle.std.proofs.lemmas.List.Edits.{take-paste}
use Rattle.std.specs.List.{copy_within}

-- from a place on
pub rest_is : (at : ℕ) (bytes : List ℕ) → take (length bytes - at) (drop at bytes) ≡ drop at bytes
rest_is at bytes = take_all (length bytes - at) (drop at bytes) (omega (arith, length-drop at bytes))

-- what is behind a place is moved to the front
pub moved : (at : ℕ) (bytes : List ℕ) → at ≤ length bytes → take (length bytes - at) (copy_within bytes at (length bytes) 0) ≡ drop at bytes
moved at bytes within =
    let e : length bytes - at ≡ 0 + (length bytes - at) = omega arith in
    ap (λ (k : ℕ). take k (paste bytes 0 (drop at bytes) (length bytes - at))) e
    ∙ take-paste bytes 0 (drop at bytes) (length bytes - at) (omega arith) (omega (arith, length-drop at bytes)) ∙ rest_is at bytes
