-- The frames that are kept to be handed in.
use Rattle.std.proofs.Common.{◌≡◌, ◌∙◌, ◌+◌, ◌<◌, ◌≤◌, ◌-◌, ◌⊎◌, ℕ, inl, inr, List, ◌∷◌, [], ◌++◌, Some, None, ap, arith, drop, get_or, length, refl, reverse, slice_get, sym, take}
use Rattle.std.proofs.Math.Seq.{take-length}
use Rattle.std.proofs.lemmas.List.{reverse-append, take_more}
use Rattle.std.proofs.lemmas.Option.{get_or_from_slice_get, slice_get_cases, slice_get_within}
use Rattle.cb_frame.specs.declared.frame.Frame.{Frame}

-- the last of a list, apart
last_of : (frames : List Frame) (frame : Frame) → slice_get frames (length frames - 1) ≡ Some frame → frames ≡ take (length frames - 1) frames ++ frame ∷ []
last_of frames frame e =
    let lt : length frames - 1 < length frames = slice_get_within frames (length frames - 1) frame e in
    let n : (length frames - 1) + 1 ≡ length frames = omega (arith, lt) in
    sym (take-length frames) ∙ ap (λ (k : ℕ). take k frames) (sym n) ∙ take_more frames (length frames - 1) frame lt
    ∙ ap (λ (x : Frame). take (length frames - 1) frames ++ x ∷ []) (get_or_from_slice_get frames (length frames - 1) frame frame e)

-- without the last in memory, which is the oldest, the others are left
pub others_left : (frames more : List Frame) → 0 < length frames → reverse (take (length frames - 1) frames) ++ more ≡ drop 1 (reverse frames ++ more)
others_left frames more some = go (slice_get_cases frames (length frames - 1)).1
  where
    go : ((x : Frame) × (length frames - 1 < length frames) × (slice_get frames (length frames - 1) ≡ Some x) × (get_or frames (length frames - 1) x ≡ x)) ⊎ ((length frames ≤ length frames - 1) × (slice_get frames (length frames - 1) ≡ None))
        → reverse (take (length frames - 1) frames) ++ more ≡ drop 1 (reverse frames ++ more)
    go (inl found) =
        let last : reverse frames ≡ found.0 ∷ reverse (take (length frames - 1) frames) = ap (λ (l : List Frame). reverse l) (last_of frames found.0 found.2) ∙ reverse-append (take (length frames - 1) frames) (found.0 ∷ []) in
        sym (ap (λ (l : List Frame). drop 1 (l ++ more)) last)
    go (inr past) = absurd (let e = past.0 in omega (arith, e, some))

-- the oldest stands before the others
pub oldest_first : (frames : List Frame) (frame : Frame) → Some frame ≡ slice_get frames 0 → frames ≡ frame ∷ drop 1 frames
oldest_first [] frame e = absurd cc
oldest_first (first ∷ rest) frame e = let is : frame ≡ first = cc in rw is refl

pub none_first : (frames : List Frame) → None ≡ slice_get frames 0 → frames ≡ []
none_first [] e = refl
none_first (first ∷ rest) e = absurd cc
