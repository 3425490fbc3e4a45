-- What a commit reads and writes, page by page.
use Rattle.std.proofs.Common.{◌≡◌, ◌≢◌, true≢false, ◌<◌, ◌≤◌, ◌+◌, ◌++◌, ℕ, zero, suc, Bool, true, false, if◌then◌else◌, List, [], length, refl, sym, ◌∙◌, ap, subst, arith, Option, Some, None, inl, inr, ◌⊎◌, is_none}
use Rattle.std.proofs.lemmas.Bool.{cases_eq, cases_lt}
use Rattle.std.proofs.lemmas.List.{append-nil, get_or_past}
use Rattle.cb_hands.specs.Hands.{HandState, held_at}
use Rattle.cb_hands.specs.declared.grant.Held.{Held}
use Rattle.cb_hands.specs.declared.entry.Read.{Read}
use Rattle.cb_station.specs.Moves.{HoldsAll, read_of, reads_below}
use Rattle.cb_page.specs.Flags.{has}

-- of the pages below a place
pub record HoldsBelow (hand : HandState) (reads : List Bool) (from : ℕ) : Type 0 where
  pub held : (page : ℕ) → page < from → has reads page ≡ true → (held : Held) × (held_at hand.held page ≡ Some held)

something : (o : Option Held) → o ≢ None → (held : Held) × (o ≡ Some held)
something None n = absurd (n refl)
something (Some held) n = (held, refl)

pub holds_none : (hand : HandState) (reads : List Bool) → HoldsBelow hand reads 0
holds_none hand reads = record { held = λ page lt e. absurd (omega arith) }

pub holds_next : (hand : HandState) (reads : List Bool) (from page : ℕ) → HoldsBelow hand reads from → ((k : ℕ) → from ≤ k → k < page → has reads k ≡ false) → held_at hand.held page ≢ None
    → HoldsBelow hand reads (page + 1)
holds_next hand reads from page below none here = record { held = λ k lt e. by k lt e (cases_eq k page) (cases_lt k from) }
  where
    by : (k : ℕ) → k < page + 1 → has reads k ≡ true → (k ≡ page) ⊎ (k ≢ page) → (k < from) ⊎ (from ≤ k) → (held : Held) × (held_at hand.held k ≡ Some held)
    by k lt e (inl at) w = subst (λ (j : ℕ). (held : Held) × (held_at hand.held j ≡ Some held)) (sym at) (something (held_at hand.held page) here)
    by k lt e (inr apart) (inl early) = below.held k early e
    by k lt e (inr apart) (inr late) = absurd (true≢false (sym e ∙ none k late (omega (arith, lt, apart))))

pub holds_all_of : (hand : HandState) (reads : List Bool) (from : ℕ) → HoldsBelow hand reads from → ((k : ℕ) → from ≤ k → has reads k ≡ false) → HoldsAll hand reads
holds_all_of hand reads from below none k e = by (cases_lt k from)
  where
    by : (k < from) ⊎ (from ≤ k) → (held : Held) × (held_at hand.held k ≡ Some held)
    by (inl early) = below.held k early e
    by (inr late) = absurd (true≢false (sym e ∙ none k late))

pub lacks_one : (hand : HandState) (reads : List Bool) (page : ℕ) → has reads page ≡ true → held_at hand.held page ≡ None → HoldsAll hand reads → ⊥
lacks_one hand reads page e none all = let x = all page e in let z : None ≡ Some x.0 = sym none ∙ x.1 in cc

-- pages that aren't read add nothing
pub reads_skip : (hand : HandState) (reads : List Bool) (from page : ℕ) → from ≤ page → ((k : ℕ) → from ≤ k → k < page → has reads k ≡ false) → reads_below hand reads page ≡ reads_below hand reads from
reads_skip hand reads from zero le none = let z : zero ≡ from = omega (arith, le) in ap (λ (n : ℕ). reads_below hand reads n) z
reads_skip hand reads from (suc page) le none = by (λ more. reads_skip hand reads from page more (λ k l m. none k l (omega (arith, m)))) (cases_lt page from)
  where
    by : (from ≤ page → reads_below hand reads page ≡ reads_below hand reads from) → (page < from) ⊎ (from ≤ page) → reads_below hand reads (suc page) ≡ reads_below hand reads from
    by rest (inl lt) = let z : suc page ≡ from = omega (arith, le, lt) in ap (λ (n : ℕ). reads_below hand reads n) z
    by rest (inr more) = ap (λ (b : Bool). reads_below hand reads page ++ (if b then read_of hand page else [])) (none page more (omega arith)) ∙ append-nil (reads_below hand reads page) ∙ rest more

-- one page more
pub reads_more : (hand : HandState) (reads : List Bool) (from page : ℕ) (before after : List Read) → from ≤ page → ((k : ℕ) → from ≤ k → k < page → has reads k ≡ false) → has reads page ≡ true
    → before ≡ reads_below hand reads from → after ≡ before ++ read_of hand page → after ≡ reads_below hand reads (page + 1)
reads_more hand reads from page before after le none here e f =
    f ∙ ap (λ (l : List Read). l ++ read_of hand page) (e ∙ sym (reads_skip hand reads from page le none))
    ∙ sym (ap (λ (b : Bool). reads_below hand reads page ++ (if b then read_of hand page else [])) here) ∙ ap (λ (n : ℕ). reads_below hand reads n) (let z : suc page ≡ page + 1 = omega arith in z)

-- and no more after the last
pub reads_end : (hand : HandState) (reads : List Bool) (from : ℕ) → from ≤ length reads → ((k : ℕ) → from ≤ k → has reads k ≡ false) → reads_below hand reads from ≡ reads_below hand reads (length reads)
reads_end hand reads from le none = sym (reads_skip hand reads from (length reads) le (λ k l m. none k l))

pub within : (reads : List Bool) (page : ℕ) → has reads page ≡ true → page < length reads
within reads page e = elim (cases_lt page (length reads)) [
  | inl lt ↦ lt
  | inr le ↦ absurd (true≢false (sym e ∙ get_or_past reads page false le))
]

-- there is something where there isn't nothing
pub not_none : (there found : Option Held) → found ≡ there → is_none found ≡ false → there ≢ None
not_none there found e f g = true≢false (sym (ap is_none (e ∙ g)) ∙ f)
