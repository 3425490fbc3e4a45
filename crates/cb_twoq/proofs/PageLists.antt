-- Pages on lists.
use Rattle.std.proofs.Common.{◌≡◌, true≢false, suc, ◌<◌, ◌≤◌, ◌-◌, ℕ, Bool, true, false, nat_eq, List, [], ◌∷◌, ◌++◌, length, take, drop, Some, None, if◌then◌else◌, ◌||◌, refl, sym, ◌∙◌, ap, rules, arith}
use Rattle.std.proofs.lemmas.Grind.{common_steps}
use Rattle.std.specs.Option.{option_or}
use Rattle.std.proofs.Math.Seq.{drop-cons, take-suc}
use Rattle.std.proofs.Math.ListN.{get_or}
use Rattle.cb_page.specs.Flags as flags
use Rattle.cb_twoq.specs.Pages.{has, without, IsPlace}
use Rattle.cb_twoq.specs.Queues.{oldest_unfixed}

-- the oldest unfixed page of a list with one more page at its end
pub oldest_unfixed_push : (fixed : List Bool) (ps : List ℕ) (x : ℕ)
    → oldest_unfixed fixed (ps ++ x ∷ []) ≡ (if flags.has fixed x then oldest_unfixed fixed ps else Some x)
oldest_unfixed_push fixed [] x = search rules
oldest_unfixed_push fixed (p ∷ ps) x =
    let e = oldest_unfixed_push fixed ps x in
    let last : option_or (oldest_unfixed fixed (ps ++ x ∷ [])) (if flags.has fixed p then None else Some p) ≡ option_or (if flags.has fixed x then oldest_unfixed fixed ps else Some x) (if flags.has fixed p then None else Some p) = ap (λ o. option_or o (if flags.has fixed p then None else Some p)) e in
    last ∙ by (flags.has fixed x)
  where
    by : (b : Bool) → option_or (if b then oldest_unfixed fixed ps else Some x) (if flags.has fixed p then None else Some p) ≡ (if b then oldest_unfixed fixed (p ∷ ps) else Some x)
    by true = refl
    by false = refl

-- without a page that isn't there
pub without_absent : (page : ℕ) (ps : List ℕ) → has ps page ≡ false → without page ps ≡ ps
without_absent page [] h = refl
without_absent page (p ∷ ps) h = by (nat_eq page p) refl (without_absent page ps)
  where
    by : (b : Bool) → nat_eq page p ≡ b → (has ps page ≡ false → without page ps ≡ ps) → without page (p ∷ ps) ≡ p ∷ ps
    by true e rest = absurd (true≢false (sym (ap (λ c. c || has ps page) e) ∙ h))
    by false e rest = ap (λ b. if b then ps else p ∷ without page ps) e ∙ ap (λ r. p ∷ r) (rest (sym (ap (λ c. c || has ps page) e) ∙ h))

-- one page more from the front
pub oldest_unfixed_take : (fixed : List Bool) (ps : List ℕ) (i x : ℕ) → 0 < i → i ≤ length ps → x ≡ get_or ps (i - 1) x
    → oldest_unfixed fixed (take i ps) ≡ (if flags.has fixed x then oldest_unfixed fixed (take (i - 1) ps) else Some x)
oldest_unfixed_take fixed ps i x some le at =
    let n : i ≡ suc (i - 1) = omega arith in
    let e : take i ps ≡ take (i - 1) ps ++ x ∷ [] = ap (λ k. take k ps) n ∙ take-suc ps (i - 1) x (omega arith) ∙ ap (λ y. take (i - 1) ps ++ y ∷ []) (sym at) in
    ap (oldest_unfixed fixed) e ∙ oldest_unfixed_push fixed (take (i - 1) ps) x

-- the page found at a place
pub place : (ps : List ℕ) (page i x : ℕ) → i < length ps → x ≡ get_or ps i x → x ≡ page
    → has (drop i ps) page ≡ has ps page → take i ps ++ without page (drop i ps) ≡ without page ps → IsPlace ps page i
place ps page i x lt at same there rest =
    let e : drop i ps ≡ page ∷ drop (suc i) ps = drop-cons ps i x lt ∙ ap (λ y. y ∷ drop (suc i) ps) (sym at ∙ same) in
    let own : nat_eq page page ≡ true = grind (arith, common_steps) in
    record {
      within = lt;
      there = sym there ∙ ap (λ l. has l page) e ∙ ap (λ b. b || has (drop (suc i) ps) page) own;
      removes = sym (ap (λ l. take i ps ++ l) (ap (without page) e ∙ ap (λ b. if b then drop (suc i) ps else page ∷ without page (drop (suc i) ps)) own)) ∙ rest;
    }
