-- What a walk over a set of pages leaves that clears what it meets.
use Rattle.std.proofs.Common.{◌≡◌, ◌<◌, ◌≤◌, ℕ, Bool, true, false, nat_lt, List, length, replicate, refl, sym, ◌∙◌, arith}
use Rattle.std.proofs.Math.ListN.{get_or, length-replicate}
use Rattle.std.proofs.lemmas.List.{ext_get_or, get_or-replicate}
use Rattle.std.proofs.lemmas.Bool.Decides.{nat_tests}
use Rattle.cb_page.specs.Flags.{has}

-- where every place is clear below the walk's place and outside the set, and no page of the set is
-- left, all places are clear
pub cleared : {A : Type 0} (clear : A) (places : List A) (set : List Bool) (from count : ℕ) → length places ≡ count
    → ((p : ℕ) → p < from → get_or places p clear ≡ clear) → ((p : ℕ) → has set p ≡ false → get_or places p clear ≡ clear)
    → ((p : ℕ) → from ≤ p → has set p ≡ false) → places ≡ replicate count clear
cleared clear places set from count long below others walked =
    ext_get_or clear places (replicate count clear) (long ∙ sym (length-replicate count clear))
    (λ p lt. by p (nat_lt p from) refl ∙ sym (get_or-replicate count p clear clear (omega arith)))
  where
    by : (p : ℕ) (b : Bool) → nat_lt p from ≡ b → get_or places p clear ≡ clear
    by p true e = below p (grind (arith, nat_tests))
    by p false e = others p (walked p (grind (arith, nat_tests)))
