-- One entry of a commit after another, as a loop counts them.
use Rattle.std.proofs.Common.{◌≡◌, ℕ, suc, ◌+◌, ◌-◌, ◌*◌, ◌<◌, ◌≤◌, ◌&&◌, true, nat_le, map, List, [], ◌∷◌, ◌++◌, drop, refl, sym, ap, ◌∙◌, append_assoc, arith}
use Rattle.std.specs.Prelude.{◌==◌}
use Rattle.std.proofs.lemmas.List.{append-nil}
use Rattle.cb_frame.specs.declared.version.FrameVersion.{FrameVersion}
use Rattle.cb_frame.specs.declared.writes.Write.{Write}
use Rattle.std.specs.Int.{w32}
use Rattle.std.specs.List.{list_all}
use Rattle.std.proofs.lemmas.Bool.{and_parts, ltb-true}
use Rattle.cb_page.specs.Bounds.{Bounds}
use Rattle.cb_page.specs.Rising.{rises_from}
use Rattle.cb_frame.specs.Checks.{number, is_write, sizes_fit, write_in, write_length, writes_at}
use Rattle.cb_frame.specs.Grammar.{page_of}
use Rattle.cb_frame.specs.Versions.{size_width}

pub sizes_fit_step : (v : FrameVersion) (page_size count i : ℕ) (bytes : List ℕ) → i < count
    → sizes_fit v page_size (count - i) bytes ≡ (number (size_width v) 12 bytes == page_size && sizes_fit v page_size (count - (i + 1)) (drop (write_length v page_size) bytes))
unfolding sizes_fit
sizes_fit_step v page_size count i bytes lt = let k : count - i ≡ suc (count - (i + 1)) = omega arith in rw k refl

pub sizes_fit_end : (v : FrameVersion) (page_size count i : ℕ) (bytes : List ℕ) → count ≤ i → sizes_fit v page_size (count - i) bytes ≡ true
unfolding sizes_fit
sizes_fit_end v page_size count i bytes le = let k : count - i ≡ 0 = omega arith in rw k refl

pub entries_left : (size count i len : ℕ) → i < count → len ≡ (count - i) * size → (size ≤ len) × (len - size ≡ (count - (i + 1)) * size)
entries_left size count i len lt e = let k : count - i ≡ suc (count - (i + 1)) = omega arith in
    let e' : len ≡ suc (count - (i + 1)) * size = e ∙ ap (λ n. n * size) k in
    (omega arith, omega arith)

pub writes_at_step : (v : FrameVersion) (page_size count i : ℕ) (bytes : List ℕ) → i < count
    → writes_at v page_size (count - i) bytes ≡ write_in v page_size bytes ∷ writes_at v page_size (count - (i + 1)) (drop (write_length v page_size) bytes)
unfolding writes_at
writes_at_step v page_size count i bytes lt = let k : count - i ≡ suc (count - (i + 1)) = omega arith in rw k refl

pub writes_at_end : (v : FrameVersion) (page_size count i : ℕ) (bytes : List ℕ) → count ≤ i → writes_at v page_size (count - i) bytes ≡ []
unfolding writes_at
writes_at_end v page_size count i bytes le = let k : count - i ≡ 0 = omega arith in rw k refl

pub writes_goes_on : (v : FrameVersion) (page_size count i : ℕ) (bytes : List ℕ) (front total : List Write) → i < count → front ++ writes_at v page_size (count - i) bytes ≡ total
    → (front ++ write_in v page_size bytes ∷ []) ++ writes_at v page_size (count - (i + 1)) (drop (write_length v page_size) bytes) ≡ total
writes_goes_on v page_size count i bytes front total lt so_far =
    append_assoc front (write_in v page_size bytes ∷ []) (writes_at v page_size (count - (i + 1)) (drop (write_length v page_size) bytes))
    ∙ ap (λ (ws : List Write). front ++ ws) (sym (writes_at_step v page_size count i bytes lt)) ∙ so_far

pub writes_done : (v : FrameVersion) (page_size count i : ℕ) (bytes : List ℕ) (front total : List Write) → count ≤ i → front ++ writes_at v page_size (count - i) bytes ≡ total → front ≡ total
writes_done v page_size count i bytes front total le so_far =
    let end : front ++ writes_at v page_size (count - i) bytes ≡ front = rw (writes_at_end v page_size count i bytes le) (append-nil front) in
    sym end ∙ so_far

pub numbers_step : (l : Bounds) (v : FrameVersion) (count i : ℕ) (bytes : List ℕ) → i < count
    → list_all (is_write l) (writes_at v l.page_size (count - i) bytes)
    ≡ (is_write l (write_in v l.page_size bytes) && list_all (is_write l) (writes_at v l.page_size (count - (i + 1)) (drop (write_length v l.page_size) bytes)))
numbers_step l v count i bytes lt = ap (list_all (is_write l)) (writes_at_step v l.page_size count i bytes lt)

pub numbers_end : (l : Bounds) (v : FrameVersion) (count i : ℕ) (bytes : List ℕ) → count ≤ i → list_all (is_write l) (writes_at v l.page_size (count - i) bytes) ≡ true
numbers_end l v count i bytes le = ap (list_all (is_write l)) (writes_at_end v l.page_size count i bytes le)

-- the first of those that are left fits, and so do the others
pub numbers_go_on : (l : Bounds) (v : FrameVersion) (count i : ℕ) (bytes : List ℕ) → i < count → list_all (is_write l) (writes_at v l.page_size (count - i) bytes) ≡ true
    → (number w32 0 bytes < l.pages) × (is_write l (write_in v l.page_size bytes) ≡ true) × (list_all (is_write l) (writes_at v l.page_size (count - (i + 1)) (drop (write_length v l.page_size) bytes)) ≡ true)
numbers_go_on l v count i bytes lt fit =
    let p = and_parts _ _ (sym (numbers_step l v count i bytes lt) ∙ fit) in
    let q = and_parts _ _ p.0 in
    (ltb-true _ _ q.0, p.0, p.1)

pub rises_step : (v : FrameVersion) (page_size count i least : ℕ) (bytes : List ℕ) → i < count
    → rises_from least (map page_of (writes_at v page_size (count - i) bytes))
    ≡ (nat_le least (number w32 0 bytes) && rises_from (number w32 0 bytes + 1) (map page_of (writes_at v page_size (count - (i + 1)) (drop (write_length v page_size) bytes))))
rises_step v page_size count i least bytes lt = ap (λ (ws : List Write). rises_from least (map page_of ws)) (writes_at_step v page_size count i bytes lt)

pub rises_end : (v : FrameVersion) (page_size count i least : ℕ) (bytes : List ℕ) → count ≤ i → rises_from least (map page_of (writes_at v page_size (count - i) bytes)) ≡ true
rises_end v page_size count i least bytes le = ap (λ (ws : List Write). rises_from least (map page_of ws)) (writes_at_end v page_size count i bytes le)
