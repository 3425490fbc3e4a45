-- Pages within limits, and equal bytes.
use Rattle.std.proofs.Common.{List, [], get_or, length, map, set, sym, ℕ, ◌<◌, ◌≤◌, ◌∙◌, ◌≡◌, ap, arith}
use Rattle.std.proofs.lemmas.Grind.{common_steps}
use Rattle.std.proofs.Math.ListN.{get_or-eq_default}
use Rattle.std.proofs.lemmas.List.{get_or-map, map-set, length-map}
use Rattle.std.proofs.Math.Decide.{dec_lt}
use Rattle.cb_protocol.specs.Basics.{update}

put_at : {A : Type 0} (xs : List A) (p q : ℕ) (y d : A) → p < length xs → get_or (set xs p y) q d ≡ update (λ k. get_or xs k d) p y q
put_at xs p q y d h = grind (arith, common_steps)

-- the bytes of the pages in a list, none where there is no such page
abbrev pub pages_of : {X : Type 0} → (X → List ℕ) → List X → ℕ → List ℕ
pages_of f xs q = get_or (map f xs) q []

-- the pages after one was written
pub put_shown : {X : Type 0} (f : X → List ℕ) (xs : List X) (p : ℕ) (y : X) → p < length xs → pages_of f (set xs p y) ≡ update (pages_of f xs) p (f y)
put_shown f xs p y h = let within : p < length (map f xs) = rw (length-map xs f) h in λ i. λ q. (ap (λ ys. get_or ys q []) (map-set f xs p y) ∙ put_at (map f xs) p q (f y) [] within) i

-- all pages are those of another list that is no longer
pub all_shown : {X : Type 0} (f : X → List ℕ) (xs : List X) (b : ℕ → List ℕ) (n : ℕ) → n ≤ length xs → ((k : ℕ) → n ≤ k → b k ≡ []) → ((k : ℕ) → k < length xs → get_or (map f xs) k [] ≡ b k) → pages_of f xs ≡ b
all_shown f xs b n h past each = λ i. λ q. go q (dec_lt q (length xs)) i where
  go : (q : ℕ) → Dec (q < length xs) → get_or (map f xs) q [] ≡ b q
  go q (yes l) = each q l
  go q (no l) = let beyond : length xs ≤ q = omega arith in let longer : n ≤ q = omega arith in get_or-eq_default (map f xs) [] (rw (length-map xs f) beyond) ∙ sym (past q longer)

pub shown_at : {X : Type 0} (f : X → List ℕ) (xs : List X) (d : X) (p : ℕ) → p < length xs → f (get_or xs p d) ≡ get_or (map f xs) p []
shown_at f xs d p h = sym (get_or-map f xs p d [] h)
