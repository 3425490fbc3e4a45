-- A number that is read is the number that was written, and what was written is read again.
use Rattle.std.proofs.Common.{◌≡◌, ℕ, ◌+◌, ◌^◌, ◌<◌, ◌≤◌, Bool, true, false, not, List, [], ◌∷◌, ◌++◌, length, get_or, take, drop, None, refl, sym, ap, ◌∙◌, arith, inl, inr}
use Rattle.std.specs.Int.{Width, w16, w32, w64, byte_len, from_be_bytes, to_be_bytes}
use Rattle.std.proofs.lemmas.Bool.{cases_lt}
use Rattle.std.proofs.lemmas.List.{take-append-drop, drop-drop, length-take, length-take-le, length-drop, get_or-drop, get_or-take, get_or_past}
use Rattle.std.proofs.lemmas.Nat.{be_bytes_2, be_bytes_4, be_bytes_8, from_be_bytes-to_be_bytes_2, from_be_bytes-to_be_bytes_4, from_be_bytes-to_be_bytes_8}
use Rattle.cb_page.specs.Faults.{first_fault}
use Rattle.cb_frame.specs.declared.version.FrameVersion.{FrameVersion}
use Rattle.cb_frame.specs.declared.version.FrameVersion.TheVariants.{One, Two}
use Rattle.std.proofs.lemmas.Bool.{leb-true}
use Rattle.cb_frame.specs.Checks.{number}
use Rattle.cb_frame.specs.Versions.{has_size, size_length, size_width}

abbrev pub IsBytes : List ℕ → Type 0
IsBytes bytes = (i : ℕ) → get_or bytes i 0 < 256

pub IsBytes-drop : (n : ℕ) (bytes : List ℕ) → IsBytes bytes → IsBytes (drop n bytes)
IsBytes-drop n bytes h i = rw get_or-drop (h (n + i))

pub IsBytes-take : (n : ℕ) (bytes : List ℕ) → IsBytes bytes → IsBytes (take n bytes)
IsBytes-take n bytes h i =
    elim (cases_lt i n) [
      | inl lt ↦ rw (get_or-take n bytes i 0 lt) (h i)
      | inr le ↦ rw (get_or_past (take n bytes) i 0 (omega (arith, length-take n bytes))) (omega arith)
    ]

pub record IsWide (w : Width) (limit : ℕ) : Type 0 where
  pub back : (bytes : List ℕ) → length bytes ≡ byte_len w → IsBytes bytes → to_be_bytes w (from_be_bytes w bytes) ≡ bytes
  pub below : (bytes : List ℕ) → IsBytes bytes → from_be_bytes w bytes < limit

pub wide16 : IsWide w16 (2 ^ 16)
wide16 = record { back = λ bytes len fits. be_bytes_2 bytes _ len fits refl; below = λ bytes fits. omega (arith, fits 0, fits 1) }

pub wide32 : IsWide w32 (2 ^ 32)
wide32 = record { back = λ bytes len fits. be_bytes_4 bytes _ len fits refl; below = λ bytes fits. omega (arith, fits 0, fits 1, fits 2, fits 3) }

pub wide64 : IsWide w64 (2 ^ 64)
wide64 = record { back = λ bytes len fits. be_bytes_8 bytes _ len fits refl; below = λ bytes fits. omega (arith, fits 0, fits 1, fits 2, fits 3, fits 4, fits 5, fits 6, fits 7) }

-- the bytes from a place on are those of the number there and the bytes after it
pub number_found : {w : Width} {limit : ℕ} (wide : IsWide w limit) (at : ℕ) (bytes : List ℕ) → IsBytes bytes → at + byte_len w ≤ length bytes → drop at bytes ≡ to_be_bytes w (number w at bytes) ++ drop (at + byte_len w) bytes
unfolding number
number_found {w} wide at bytes fits room =
    let long : byte_len w ≤ length (drop at bytes) = omega (arith, length-drop at bytes) in
    let word = take (byte_len w) (drop at bytes) in
    let back = wide.back word (length-take-le (byte_len w) (drop at bytes) long) (IsBytes-take (byte_len w) (drop at bytes) (IsBytes-drop at bytes fits)) in
    sym (take-append-drop (byte_len w) (drop at bytes)) ∙ ap (λ (front : List ℕ). front ++ drop (byte_len w) (drop at bytes)) (sym back) ∙ ap (λ (rest : List ℕ). to_be_bytes w (from_be_bytes w word) ++ rest) (drop-drop (byte_len w) at bytes)

pub number_below : {w : Width} {limit : ℕ} (wide : IsWide w limit) (at : ℕ) (bytes : List ℕ) → IsBytes bytes → number w at bytes < limit
unfolding number
number_below {w} wide at bytes fits = wide.below (take (byte_len w) (drop at bytes)) (IsBytes-take (byte_len w) (drop at bytes) (IsBytes-drop at bytes fits))

-- a number in front
pub again16 : (n : ℕ) (rest : List ℕ) → n < 2 ^ 16 → number w16 0 (to_be_bytes w16 n ++ rest) ≡ n
unfolding number
again16 n rest lt = from_be_bytes-to_be_bytes_2 n lt

pub again32 : (n : ℕ) (rest : List ℕ) → n < 2 ^ 32 → number w32 0 (to_be_bytes w32 n ++ rest) ≡ n
unfolding number
again32 n rest lt = from_be_bytes-to_be_bytes_4 n lt

pub again64 : (n : ℕ) (rest : List ℕ) → n < 2 ^ 64 → number w64 0 (to_be_bytes w64 n ++ rest) ≡ n
unfolding number
again64 n rest lt = from_be_bytes-to_be_bytes_8 n lt

-- what stands at a place behind a front stands at 0 behind it
pub number-append : (w : Width) (front rest : List ℕ) (at : ℕ) → length front ≡ at → number w at (front ++ rest) ≡ number w 0 rest
unfolding number
number-append w [] rest at e = ap (λ (n : ℕ). from_be_bytes w (take (byte_len w) (drop n rest))) (sym e)
number-append w (x ∷ front) rest at e = ap (λ (n : ℕ). from_be_bytes w (take (byte_len w) (drop n (x ∷ front ++ rest)))) (sym e) ∙ number-append w front rest (length front) refl

-- the size before a page's bytes, in each version
pub length-size : (v : FrameVersion) (n : ℕ) → length (to_be_bytes (size_width v) n) ≡ size_length v
length-size One n = refl
length-size Two n = refl

pub size_found : (v : FrameVersion) (at : ℕ) (bytes : List ℕ) → IsBytes bytes → at + size_length v ≤ length bytes
    → drop at bytes ≡ to_be_bytes (size_width v) (number (size_width v) at bytes) ++ drop (at + size_length v) bytes
size_found One at bytes fits room = number_found wide16 at bytes fits room
size_found Two at bytes fits room = number_found wide32 at bytes fits room

pub size_again : (v : FrameVersion) (n : ℕ) (rest : List ℕ) → has_size v n ≡ true → n ≤ 65536
    → number (size_width v) 0 (to_be_bytes (size_width v) n ++ rest) ≡ n
size_again One n rest has small = again16 n rest (let le = leb-true _ _ has in omega arith)
size_again Two n rest has small = again32 n rest (omega arith)

-- with no fault, no cause stands
pub none_first : {F : Type 0} (b : Bool) (f : F) (causes : List (Bool × F)) → first_fault ((b, f) ∷ causes) ≡ None → (b ≡ false) × (first_fault causes ≡ None)
none_first true f causes e = absurd cc
none_first false f causes e = (refl, e)

pub not_false : (b : Bool) → not b ≡ false → b ≡ true
not_false true e = refl
not_false false e = absurd cc

pub next_cause : {F : Type 0} (b : Bool) (f : F) (causes : List (Bool × F)) → b ≡ false → first_fault causes ≡ None → first_fault ((b, f) ∷ causes) ≡ None
next_cause true f causes e rest = absurd cc
next_cause false f causes e rest = rest
