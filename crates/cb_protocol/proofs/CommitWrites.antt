-- The writes of a commit are what the transaction wrote.
use Rattle.std.proofs.Common.{Bool, List, None, Option, Some, [], arith, false, if◌then◌else◌, refl, subst, suc, sym, true, zero, ℕ, ◌++◌, ◌<◌, ◌==◌, ◌∙◌, ◌∷◌, ◌≡◌, ◌≢◌}
use Rattle.cb_protocol.proofs.Machine.{ListsWrites}
use Rattle.cb_protocol.proofs.ClientTakes.{Apt}
use Rattle.cb_protocol.specs.Client.{Client}
use Rattle.cb_protocol.specs.ClientCalls.{written_page, written_pages}
use Rattle.cb_protocol.specs.Basics.{Bytes}
use Rattle.cb_protocol.specs.Messages.{PageWrite, write_of_page}

find_some : (xs ys : List PageWrite) (p : ℕ) (x : PageWrite) → write_of_page xs p ≡ Some x → write_of_page (xs ++ ys) p ≡ Some x
find_some [] ys p x e = absurd cc
find_some (y ∷ xs) ys p x e = grind (arith, find_some xs ys p x)

find_none : (xs ys : List PageWrite) (p : ℕ) → write_of_page xs p ≡ None → write_of_page (xs ++ ys) p ≡ write_of_page ys p
find_none [] ys p e = refl
find_none (y ∷ xs) ys p e = grind (arith, find_none xs ys p)

-- what a write says of a page
abbrev Says_so : Client → ℕ → PageWrite → Type 0
Says_so k p x = (k.cache.wrote p ≡ true) × (k.cache.held p ≡ Some x.grant) × (k.cache.content p ≡ Some x.bytes)

one_each : (k : Client) (n p : ℕ) (x : PageWrite) → write_of_page (written_page k n (k.cache.held n) (k.cache.content n)) p ≡ Some x → Says_so k p x
one_each k n p x e = go (k.cache.held n) refl (k.cache.content n) refl e
  where
    two : (g : ℕ) → k.cache.held n ≡ Some g → (b : Bytes) → k.cache.content n ≡ Some b → (v : Bool) → k.cache.wrote n ≡ v → (y : Bool) → (n == p) ≡ y
        → write_of_page (if v then record { page = n; grant = g; bytes = b } ∷ [] else []) p ≡ Some x → Says_so k p x
    two g a z b false c y d e = absurd cc
    two g a z b true c y d e = grind arith

    go : (r : Option ℕ) → k.cache.held n ≡ r → (u : Option Bytes) → k.cache.content n ≡ u → write_of_page (written_page k n r u) p ≡ Some x → Says_so k p x
    go None a u b e = absurd cc
    go (Some g) a None b e = absurd cc
    go (Some g) a (Some z) b e = two g a z b (k.cache.wrote n) refl (n == p) refl e

writes_each : (k : Client) (n p : ℕ) (x : PageWrite) → write_of_page (written_pages k n) p ≡ Some x → Says_so k p x
writes_each k zero p x e = absurd cc
writes_each k (suc n) p x e = go (writes_each k n p x) (write_of_page (written_pages k n) p) refl
  where
    go : (write_of_page (written_pages k n) p ≡ Some x → Says_so k p x) → (r : Option PageWrite) → write_of_page (written_pages k n) p ≡ r → Says_so k p x
    go h None f = one_each k n p x (sym (find_none (written_pages k n) (written_page k n (k.cache.held n) (k.cache.content n)) p f) ∙ e)
    go h (Some y) f = let q = find_some (written_pages k n) (written_page k n (k.cache.held n) (k.cache.content n)) p y f in h (f ∙ (sym q ∙ e))

one_there : (k : Client) (p : ℕ) → k.cache.wrote p ≡ true → k.cache.held p ≢ None → k.cache.content p ≢ None → write_of_page (written_page k p (k.cache.held p) (k.cache.content p)) p ≢ None
one_there k p w a b = go (k.cache.held p) refl (k.cache.content p) refl
  where
    two : (g : ℕ) (y : Bytes) (v : Bool) → k.cache.wrote p ≡ v → write_of_page (if v then record { page = p; grant = g; bytes = y } ∷ [] else []) p ≢ None
    two g y false f = absurd cc
    two g y true f = grind arith

    go : (r : Option ℕ) → k.cache.held p ≡ r → (u : Option Bytes) → k.cache.content p ≡ u → write_of_page (written_page k p r u) p ≢ None
    go None e u f = absurd (a e)
    go (Some x) e None f = absurd (b f)
    go (Some x) e (Some y) f = two x y (k.cache.wrote p) refl

writes_there : (k : Client) (n p : ℕ) → p < n → k.cache.wrote p ≡ true → k.cache.held p ≢ None → k.cache.content p ≢ None → write_of_page (written_pages k n) p ≢ None
writes_there k zero p l w a b = absurd (omega arith)
writes_there k (suc n) p l w a b = go (λ m. writes_there k n p m w a b) (write_of_page (written_pages k n) p) refl
  where
    one : List PageWrite
    one = written_page k n (k.cache.held n) (k.cache.content n)

    go : (p < n → write_of_page (written_pages k n) p ≢ None) → (r : Option PageWrite) → write_of_page (written_pages k n) p ≡ r → write_of_page (written_pages k n ++ written_page k n (k.cache.held n) (k.cache.content n)) p ≢ None
    go h (Some y) f = let q = find_some (written_pages k n) (written_page k n (k.cache.held n) (k.cache.content n)) p y f in λ z. absurd (let c : Some y ≡ None = sym q ∙ z in cc)
    go h None f = at_last (n == p) refl
      where
        at_last : (r : Bool) → (n == p) ≡ r → write_of_page (written_pages k n ++ written_page k n (k.cache.held n) (k.cache.content n)) p ≢ None
        at_last true e = rw (find_none (written_pages k n) (written_page k n (k.cache.held n) (k.cache.content n)) p f) (subst (λ (m : ℕ). write_of_page (written_page k m (k.cache.held m) (k.cache.content m)) p ≢ None) (sym same) (one_there k p w a b))
          where
            same : n ≡ p
            same = grind arith
        at_last false e = absurd (h below f)
          where
            below : p < n
            below = grind arith

pub commit_lists : (k : Client) (n : ℕ) → Apt k.cache → ((p : ℕ) → k.cache.wrote p ≡ true → p < n) → ListsWrites (written_pages k n) k.cache
commit_lists k n h within = record { no_other = λ p e. go p e (k.cache.wrote p) refl; each = λ p x e. writes_each k n p x e }
  where
    go : (p : ℕ) → write_of_page (written_pages k n) p ≡ None → (r : Bool) → k.cache.wrote p ≡ r → r ≡ false
    go p e true w = absurd (writes_there k n p (within p w) w (h.may_held p (h.wrote_may p w)) (h.wrote_some p w) e)
    go p e false w = refl
