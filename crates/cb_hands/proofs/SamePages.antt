-- Sets of pages that are the same.
use Rattle.std.proofs.Common.{◌≡◌, true≢false, ◌<◌, ◌≤◌, ℕ, Bool, true, false, IsTrue, List, length, refl, sym, ◌∙◌, ap, Option, Some, None, MatchOption, inl, inr}
use Rattle.std.proofs.lemmas.Bool.{cases_lt}
use Rattle.std.proofs.Math.ListN.{get_or}
use Rattle.std.proofs.lemmas.List.{ext_get_or}
use Rattle.std.specs.Option.{is_none}

-- two sets are the same where neither has a page from a place on, and before it they are
pub same_sets : (flags other : List Bool) (from : ℕ) (found : Option ℕ) → length flags ≡ length other
    → ((k : ℕ) → k < from → get_or flags k false ≡ get_or other k false) → ((k : ℕ) → from ≤ k → get_or flags k false ≡ false)
    → MatchOption found ((k : ℕ) → from ≤ k → get_or other k false ≡ false) (λ page. (from ≤ page) × (get_or other page false ≡ true) × ((k : ℕ) → from ≤ k → k < page → get_or other k false ≡ false))
    → (IsTrue (is_none found) → flags ≡ other) × (flags ≡ other → IsTrue (is_none found))
same_sets flags other from None size same none next =
    (λ t. ext_get_or false flags other size (λ k lt. elim (cases_lt k from) [ inl early ↦ same k early | inr late ↦ none k late ∙ sym (next k late) ]), λ e. refl)
same_sets flags other from (Some page) size same none next =
    (λ t. absurd (true≢false (sym t)), λ e. absurd (true≢false (sym next.1 ∙ sym (ap (λ fs. get_or fs page false) e) ∙ none page next.0)))
