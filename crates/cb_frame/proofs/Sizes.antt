-- How long the bytes of a frame that fits are.
use Rattle.std.proofs.Common.{◌≡◌, ℕ, ◌+◌, ◌*◌, ◌^◌, ◌<◌, ◌≤◌, List, [], ◌∷◌, length, map, slice_get, Some, sym, ap, subst, ◌∙◌, arith}
use Rattle.std.specs.List.{flat_map, All, AllByRecursion}
use Rattle.std.proofs.Math.Nat.{mul-le-mul_left, mul-le-mul_right, le_trans}
use Rattle.std.proofs.lemmas.List.Elements.{All-from_recursion}
use Rattle.cb_page.specs.Bounds.{Bounds, AreInRange}
use Rattle.cb_page.specs.Rising.{IsRising}
use Rattle.cb_frame.specs.declared.frame.Body.{Body}
use Rattle.cb_frame.specs.declared.frame.Body.TheVariants as body
use Rattle.cb_frame.specs.declared.writes.Write.{Write}
use Rattle.cb_frame.specs.Grammar.{WriteFits, page_of, BodyFitsSome, WritesFitSome}
use Rattle.cb_frame.specs.declared.version.FrameVersion.TheVariants.{Two}
use Rattle.cb_frame.specs.Spelling.{body_spelling, write_spelling}
use Rattle.cb_frame.proofs.Again.{few_rise, length-granted, length-writes}

each_small : (l : Bounds) (ws : List Write) → AreInRange l → AllByRecursion (WriteFits l) ws → AllByRecursion (λ w. length w.bytes < 2 ^ 32) ws
each_small l [] range fits = tt
each_small l (w ∷ ws) range fits = let size = range.page_size in (omega (arith, fits.0.bytes), each_small l ws range fits.1)

-- the size fields have room
pub pages_small : (l : Bounds) (ws : List Write) → AreInRange l → AllByRecursion (WriteFits l) ws → All (λ w. length w.bytes < 2 ^ 32) ws
pages_small l ws range fits = All-from_recursion (λ (w : Write). length w.bytes < 2 ^ 32) ws (each_small l ws range fits)

-- there are at most as many writes as pages
pub count_small : (l : Bounds) (ws : List Write) → AreInRange l → AllByRecursion (WriteFits l) ws → IsRising (map page_of ws) → length ws ≤ 4096
count_small l ws range fits rise = let pages = range.pages in omega (arith, few_rise l 0 ws fits rise)

-- pages of one size
pub size_of_writes : (ws : List Write) (w : Write) (n : ℕ) → WritesFitSome ws → Some w ≡ slice_get ws 0 → n ≡ length w.bytes
    → (length ws * (16 + n) ≡ length (flat_map (write_spelling Two) ws)) × (length ws * (16 + n) ≤ 268500992)
size_of_writes [] w n h first size = absurd cc
size_of_writes (x ∷ xs) w n h first size =
    let l = h.0 in
    let same : w ≡ x = cc in
    let page : n ≡ l.page_size = size ∙ ap (λ (v : Write). length v.bytes) same ∙ h.2.0.bytes in
    let small = h.1.page_size in
    let count = count_small l (x ∷ xs) h.1 h.2 h.3 in
    let most : 16 + n ≤ 65552 = omega (arith, page, small) in
    let total : length (x ∷ xs) * (16 + n) ≤ 4096 * 65552 = le_trans (mul-le-mul_right (16 + n) count) (mul-le-mul_left 4096 most) in
    (ap (λ (m : ℕ). length (x ∷ xs) * (16 + m)) page ∙ sym (length-writes l Two (x ∷ xs) h.2), total)

-- what is known of a body that is a commit
pub commit_count : (b : Body) (txn : ℕ) (ws : List Write) → BodyFitsSome b → b ≡ body.Commit txn ws → length ws ≤ 4096
commit_count b txn ws h is =
    let k : BodyFitsSome (body.Commit txn ws) = subst BodyFitsSome is h in
    count_small k.0 ws k.1 k.2.1 k.2.2

pub commit_pages : (b : Body) (txn : ℕ) (ws : List Write) → BodyFitsSome b → b ≡ body.Commit txn ws → All (λ w. length w.bytes < 2 ^ 32) ws
commit_pages b txn ws h is =
    let k : BodyFitsSome (body.Commit txn ws) = subst BodyFitsSome is h in
    pages_small k.0 ws k.1 k.2.1

-- the body of a frame that grants a page
pub granted_length : (page grant version : ℕ) (bytes : List ℕ) → length (body_spelling Two (body.Granted page grant version bytes)) ≡ 24 + length bytes
granted_length page grant version bytes = length-granted Two page grant version bytes
