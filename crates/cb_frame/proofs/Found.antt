-- What is read fits and is spelled so.
use Rattle.std.proofs.Common.{◌≡◌, ℕ, zero, suc, ◌+◌, ◌-◌, ◌*◌, ◌%◌, ◌≤◌, ◌&&◌, ◌==◌, true, not, nat_lt, List, [], ◌∷◌, ◌++◌, length, take, drop, Option, Some, None, refl, sym, ap, ◌∙◌, append_assoc, arith}
use Rattle.std.specs.Prelude.{slice_index}
use Rattle.std.specs.Int.{w16, w32, w64, to_be_bytes}
use Rattle.std.specs.List.{flat_map, list_all, AllByRecursion}
use Rattle.std.proofs.lemmas.Bool.{and_parts, ltb-true, leb-true, eqb-true, ltb-false}
use Rattle.std.proofs.lemmas.Bool.Decides.{nat_tests}
use Rattle.std.proofs.lemmas.List.{take-append-drop, take_at, drop-drop, length-take-le, length-drop, length-append, nil_from_length, append-nil}
use Rattle.std.proofs.lemmas.List.Concat.{flat_map-cons}
use Rattle.cb_page.specs.Bounds.{Bounds}
use Rattle.cb_page.specs.Faults.{first_fault}
use Rattle.cb_page.proofs.Ranges.{number_tells, rises_tells}
use Rattle.cb_frame.specs.declared.fields.Fields.{Fields}
use Rattle.cb_frame.specs.declared.fields.Fields.TheVariants as fields
use Rattle.cb_frame.specs.declared.kind.Kind.{Kind}
use Rattle.cb_frame.specs.declared.kind.Kind.TheVariants as kind
use Rattle.cb_frame.specs.declared.version.FrameVersion.{FrameVersion}
use Rattle.cb_frame.specs.declared.fault.FrameFault.TheVariants as fault
use Rattle.cb_frame.specs.Fields.{FieldsFit, fields_fit, fields_of, fields_spelling, word}
use Rattle.cb_frame.specs.Grammar.{WriteFits, BodyFits, Fits, IsFrameIn}
use Rattle.cb_frame.specs.Kinds.{kind_of_body, code_of, is_short}
use Rattle.cb_frame.specs.Spelling.{page_spelling, write_spelling, body_spelling, spelling_in}
use Rattle.cb_frame.specs.Versions.{has_kind, has_size, size_length, size_width, version_byte}
use Rattle.cb_frame.specs.Checks.{number, version_of, kind_of, count_in, can_be_length, short_length, sizes_fit, parts_fit, write_in, write_length, writes_at, short_at, commit_at, granted_at, body_at, is_write, numbers_fit, pages_rise, body_length, body_bytes, is_sender, frame_at, causes_by_kind, causes_by_version, causes, version_in_front, frame_in_front}
use Rattle.cb_frame.proofs.ReadAgain.{IsBytes, IsBytes-drop, IsBytes-take, wide16, wide32, wide64, number_found, size_found, none_first, not_false}

-- nothing is left past the end
nothing_left : (n : ℕ) (bytes : List ℕ) → length bytes ≡ n → drop n bytes ≡ []
unfolding word page_spelling write_spelling body_spelling
nothing_left n bytes e = nil_from_length (drop n bytes) (omega (arith, length-drop n bytes))

-- a page with its size before it, of which nothing but the rest is left
page_found : (v : FrameVersion) (page_size at : ℕ) (bytes : List ℕ) → IsBytes bytes → at + size_length v + page_size ≤ length bytes → number (size_width v) at bytes ≡ page_size
    → drop at bytes ≡ page_spelling v (take page_size (drop (at + size_length v) bytes)) ++ drop (at + size_length v + page_size) bytes
unfolding word page_spelling
page_found v page_size at bytes fits room size_is =
    let page = take page_size (drop (at + size_length v) bytes) in
    let len : length page ≡ page_size = length-take-le page_size (drop (at + size_length v) bytes) (omega (arith, length-drop (at + size_length v) bytes)) in
    let size : to_be_bytes (size_width v) (number (size_width v) at bytes) ≡ to_be_bytes (size_width v) (length page) = ap (to_be_bytes (size_width v)) (size_is ∙ sym len) in
    let rest : drop (at + size_length v) bytes ≡ page ++ drop (at + size_length v + page_size) bytes = sym (take-append-drop page_size (drop (at + size_length v) bytes)) ∙ ap (λ (x : List ℕ). page ++ x) (drop-drop page_size (at + size_length v) bytes) in
    size_found v at bytes fits (omega arith)
    ∙ ap (λ (x : List ℕ). x ++ drop (at + size_length v) bytes) size
    ∙ ap (λ (x : List ℕ). to_be_bytes (size_width v) (length page) ++ x) rest
    ∙ sym (append_assoc (to_be_bytes (size_width v) (length page)) page (drop (at + size_length v + page_size) bytes))

-- the bodies without page bytes, by their fields
txn_found : (b : List ℕ) → IsBytes b → length b ≡ 8 → b ≡ word w64 (number w64 0 b)
unfolding word
txn_found b fits len =
    number_found wide64 0 b fits (omega arith)
    ∙ ap (λ (x : List ℕ). to_be_bytes w64 (number w64 0 b) ++ x) (nothing_left 8 b len) ∙ append-nil (to_be_bytes w64 (number w64 0 b))

txn_page_found : (b : List ℕ) → IsBytes b → length b ≡ 12 → b ≡ word w64 (number w64 0 b) ++ word w32 (number w32 8 b)
unfolding word
txn_page_found b fits len =
    number_found wide64 0 b fits (omega arith)
    ∙ ap (λ (x : List ℕ). to_be_bytes w64 (number w64 0 b) ++ x) (number_found wide32 8 b fits (omega arith)
    ∙ ap (λ (x : List ℕ). to_be_bytes w32 (number w32 8 b) ++ x) (nothing_left 12 b len) ∙ append-nil (to_be_bytes w32 (number w32 8 b)))

txn_page_grant_found : (b : List ℕ) → IsBytes b → length b ≡ 20 → b ≡ word w64 (number w64 0 b) ++ (word w32 (number w32 8 b) ++ word w64 (number w64 12 b))
unfolding word
txn_page_grant_found b fits len =
    number_found wide64 0 b fits (omega arith)
    ∙ ap (λ (x : List ℕ). to_be_bytes w64 (number w64 0 b) ++ x) (number_found wide32 8 b fits (omega arith)
    ∙ ap (λ (x : List ℕ). to_be_bytes w32 (number w32 8 b) ++ x) (number_found wide64 12 b fits (omega arith)
    ∙ ap (λ (x : List ℕ). to_be_bytes w64 (number w64 12 b) ++ x) (nothing_left 20 b len) ∙ append-nil (to_be_bytes w64 (number w64 12 b))))

page_grant_found : (b : List ℕ) → IsBytes b → length b ≡ 12 → b ≡ word w32 (number w32 0 b) ++ word w64 (number w64 4 b)
unfolding word
page_grant_found b fits len =
    number_found wide32 0 b fits (omega arith)
    ∙ ap (λ (x : List ℕ). to_be_bytes w32 (number w32 0 b) ++ x) (number_found wide64 4 b fits (omega arith)
    ∙ ap (λ (x : List ℕ). to_be_bytes w64 (number w64 4 b) ++ x) (nothing_left 12 b len) ∙ append-nil (to_be_bytes w64 (number w64 4 b)))

txn_number_found : (b : List ℕ) → IsBytes b → length b ≡ 16 → b ≡ word w64 (number w64 0 b) ++ word w64 (number w64 8 b)
unfolding word
txn_number_found b fits len =
    number_found wide64 0 b fits (omega arith)
    ∙ ap (λ (x : List ℕ). to_be_bytes w64 (number w64 0 b) ++ x) (number_found wide64 8 b fits (omega arith)
    ∙ ap (λ (x : List ℕ). to_be_bytes w64 (number w64 8 b) ++ x) (nothing_left 16 b len) ∙ append-nil (to_be_bytes w64 (number w64 8 b)))

page_grant_txn_found : (b : List ℕ) → IsBytes b → length b ≡ 20 → b ≡ word w32 (number w32 0 b) ++ (word w64 (number w64 4 b) ++ word w64 (number w64 12 b))
unfolding word
page_grant_txn_found b fits len =
    number_found wide32 0 b fits (omega arith)
    ∙ ap (λ (x : List ℕ). to_be_bytes w32 (number w32 0 b) ++ x) (number_found wide64 4 b fits (omega arith)
    ∙ ap (λ (x : List ℕ). to_be_bytes w64 (number w64 4 b) ++ x) (number_found wide64 12 b fits (omega arith)
    ∙ ap (λ (x : List ℕ). to_be_bytes w64 (number w64 12 b) ++ x) (nothing_left 20 b len) ∙ append-nil (to_be_bytes w64 (number w64 12 b))))

short_found : (k : Kind) (b : List ℕ) → IsBytes b → is_short k ≡ true → length b ≡ short_length k → b ≡ fields_spelling (fields_of (short_at k b))
unfolding short_at short_length fields_spelling
short_found kind.Hello b fits is len = nil_from_length b len
short_found kind.AskRead b fits is len = txn_page_found b fits len
short_found kind.AskWrite b fits is len = txn_page_grant_found b fits len
short_found kind.GiveBack b fits is len = page_grant_found b fits len
short_found kind.InUse b fits is len = txn_page_grant_found b fits len
short_found kind.Commit b fits is len = absurd cc
short_found kind.Drop b fits is len = txn_found b fits len
short_found kind.Welcome b fits is len = nil_from_length b len
short_found kind.Granted b fits is len = absurd cc
short_found kind.MayWrite b fits is len = txn_page_grant_found b fits len
short_found kind.Callback b fits is len = page_grant_found b fits len
short_found kind.Done b fits is len = txn_number_found b fits len
short_found kind.AbortNow b fits is len = txn_found b fits len
short_found kind.Downgraded b fits is len = page_grant_txn_found b fits len
short_found kind.Downgrade b fits is len = page_grant_txn_found b fits len

granted_found : (l : Bounds) (v : FrameVersion) (b : List ℕ) → IsBytes b → length b ≡ 20 + size_length v + l.page_size → number (size_width v) 20 b ≡ l.page_size
    → b ≡ body_spelling v (granted_at v l.page_size b)
unfolding word body_spelling
granted_found l v b fits len size_is =
    let page = take l.page_size (drop (20 + size_length v) b) in
    let last : drop 20 b ≡ page_spelling v page = page_found v l.page_size 20 b fits (omega arith) size_is ∙ ap (λ (x : List ℕ). page_spelling v page ++ x) (nothing_left (20 + size_length v + l.page_size) b len) ∙ append-nil (page_spelling v page) in
    number_found wide32 0 b fits (omega arith)
    ∙ ap (λ (x : List ℕ). to_be_bytes w32 (number w32 0 b) ++ x) (number_found wide64 4 b fits (omega arith)
    ∙ ap (λ (x : List ℕ). to_be_bytes w64 (number w64 4 b) ++ x) (number_found wide64 12 b fits (omega arith)
    ∙ ap (λ (x : List ℕ). to_be_bytes w64 (number w64 12 b) ++ x) last))

-- one page of a commit, and what follows it
write_found : (v : FrameVersion) (page_size : ℕ) (b : List ℕ) → IsBytes b → write_length v page_size ≤ length b → number (size_width v) 12 b ≡ page_size
    → b ≡ write_spelling v (write_in v page_size b) ++ drop (write_length v page_size) b
unfolding word write_spelling
write_found v page_size b fits room size_is =
    let page = take page_size (drop (12 + size_length v) b) in
    let rest = drop (write_length v page_size) b in
    number_found wide32 0 b fits (omega arith)
    ∙ ap (λ (x : List ℕ). to_be_bytes w32 (number w32 0 b) ++ x) (number_found wide64 4 b fits (omega arith)
    ∙ ap (λ (x : List ℕ). to_be_bytes w64 (number w64 4 b) ++ x) (page_found v page_size 12 b fits (omega arith) size_is)
    ∙ sym (append_assoc (to_be_bytes w64 (number w64 4 b)) (page_spelling v page) rest))
    ∙ sym (append_assoc (to_be_bytes w32 (number w32 0 b)) (to_be_bytes w64 (number w64 4 b) ++ page_spelling v page) rest)

writes_found : (v : FrameVersion) (page_size n : ℕ) (b : List ℕ) → IsBytes b → length b ≡ n * write_length v page_size → sizes_fit v page_size n b ≡ true
    → b ≡ flat_map (write_spelling v) (writes_at v page_size n b)
unfolding sizes_fit writes_at
writes_found v page_size zero b fits len sizes = nil_from_length b (omega (arith, len))
writes_found v page_size (suc n) b fits len sizes =
    let size = write_length v page_size in
    let parts = and_parts (number (size_width v) 12 b == page_size) (sizes_fit v page_size n (drop size b)) sizes in
    let first = write_found v page_size b fits (omega (arith, len)) (eqb-true _ _ parts.0) in
    let others = writes_found v page_size n (drop size b) (IsBytes-drop size b fits) (omega (arith, len, length-drop size b)) parts.1 in
    first ∙ ap (λ (x : List ℕ). write_spelling v (write_in v page_size b) ++ x) others ∙ sym (flat_map-cons (write_spelling v) (write_in v page_size b) (writes_at v page_size n (drop size b)))

length-writes_at : (v : FrameVersion) (page_size n : ℕ) (b : List ℕ) → length (writes_at v page_size n b) ≡ n
unfolding writes_at
length-writes_at v page_size zero b = refl
length-writes_at v page_size (suc n) b = ap suc (length-writes_at v page_size n (drop (write_length v page_size) b))

pub count_found : (v : FrameVersion) (page_size len : ℕ) → 10 ≤ len → (len - 10) % write_length v page_size ≡ 0 → len - 10 ≡ count_in v page_size len * write_length v page_size
count_found v page_size len room whole = grind arith

commit_found : (l : Bounds) (v : FrameVersion) (b : List ℕ) → IsBytes b → can_be_length l v kind.Commit (length b) ≡ true → parts_fit l v kind.Commit b ≡ true
    → b ≡ body_spelling v (commit_at v l.page_size b)
unfolding can_be_length parts_fit word body_spelling
commit_found l v b fits can parts =
    let room = and_parts _ _ can in
    let whole = and_parts _ _ room.1 in
    let ten : 10 ≤ length b = leb-true _ _ room.0 in
    let count = count_in v l.page_size (length b) in
    let p = and_parts (number w16 8 b == count) _ parts in
    let entries = drop 10 b in
    let len : length entries ≡ count * write_length v l.page_size = length-drop 10 b ∙ count_found v l.page_size (length b) ten (eqb-true _ _ whole.0) in
    let ws = writes_at v l.page_size count entries in
    let last : entries ≡ flat_map (write_spelling v) ws = writes_found v l.page_size count entries (IsBytes-drop 10 b fits) len p.1 in
    let size : number w16 8 b ≡ length ws = eqb-true _ _ p.0 ∙ sym (length-writes_at v l.page_size count entries) in
    number_found wide64 0 b fits (omega arith)
    ∙ ap (λ (x : List ℕ). to_be_bytes w64 (number w64 0 b) ++ x) (number_found wide16 8 b fits (omega arith)
    ∙ ap (λ (x : List ℕ). to_be_bytes w16 (number w16 8 b) ++ x) last
    ∙ ap (λ (n : ℕ). to_be_bytes w16 n ++ flat_map (write_spelling v) ws) size)

pub body_found : (l : Bounds) (v : FrameVersion) (k : Kind) (b : List ℕ) → IsBytes b → can_be_length l v k (length b) ≡ true → parts_fit l v k b ≡ true
    → b ≡ body_spelling v (body_at l v k b)
unfolding body_at can_be_length parts_fit body_spelling
body_found l v kind.Commit b fits can parts = commit_found l v b fits can parts
body_found l v kind.Granted b fits can parts = granted_found l v b fits (eqb-true _ _ can) (eqb-true _ _ parts)
body_found l v k b fits can parts = short_found k b fits refl (eqb-true _ _ can)

-- ---- ranges

writes_tell : (l : Bounds) (v : FrameVersion) (n : ℕ) (b : List ℕ) → length b ≡ n * write_length v l.page_size → list_all (is_write l) (writes_at v l.page_size n b) ≡ true
    → AllByRecursion (WriteFits l) (writes_at v l.page_size n b)
unfolding writes_at
writes_tell l v zero b len e = tt
writes_tell l v (suc n) b len e =
    let size = write_length v l.page_size in
    let p = and_parts (is_write l (write_in v l.page_size b)) (list_all (is_write l) (writes_at v l.page_size n (drop size b))) e in
    let q = and_parts _ _ p.0 in (
      record { page = ltb-true _ _ q.0; grant = number_tells _ q.1; bytes = length-take-le l.page_size (drop (12 + size_length v) b) (omega (arith, len, length-drop (12 + size_length v) b)) },
      writes_tell l v n (drop size b) (omega (arith, len, length-drop size b)) p.1,
    )

fields_tell : (l : Bounds) (f : Fields) → fields_fit l f ≡ true → FieldsFit l f
unfolding fields_fit
fields_tell l fields.Nothing fit = tt
fields_tell l (fields.Txn txn) fit = number_tells _ fit
fields_tell l (fields.TxnPage txn page) fit = let p = and_parts _ _ fit in (number_tells _ p.0, ltb-true _ _ p.1)
fields_tell l (fields.TxnPageGrant txn page grant) fit =
    let p = and_parts _ _ fit in
    let q = and_parts _ _ p.1 in
    (number_tells _ p.0, ltb-true _ _ q.0, number_tells _ q.1)
fields_tell l (fields.TxnCommit txn number) fit = let p = and_parts _ _ fit in (number_tells _ p.0, number_tells _ p.1)
fields_tell l (fields.PageGrant page grant) fit = let p = and_parts _ _ fit in (ltb-true _ _ p.0, number_tells _ p.1)
fields_tell l (fields.PageGrantTxn page grant txn) fit =
    let p = and_parts _ _ fit in
    let q = and_parts _ _ p.1 in
    (ltb-true _ _ p.0, number_tells _ q.0, number_tells _ q.1)

pub body_fits : (l : Bounds) (v : FrameVersion) (k : Kind) (b : List ℕ) → can_be_length l v k (length b) ≡ true → numbers_fit l (body_at l v k b) ≡ true → pages_rise (body_at l v k b) ≡ true
    → BodyFits l (body_at l v k b)
unfolding body_at can_be_length numbers_fit pages_rise
body_fits l v kind.Commit b can fit rise =
    let p = and_parts _ _ fit in
    let room = and_parts _ _ can in
    let whole = and_parts _ _ room.1 in
    let count = count_in v l.page_size (length b) in
    let len : length (drop 10 b) ≡ count * write_length v l.page_size = length-drop 10 b ∙ count_found v l.page_size (length b) (leb-true _ _ room.0) (eqb-true _ _ whole.0) in
    (number_tells _ p.0, writes_tell l v count (drop 10 b) len p.1, rises_tells 0 _ rise)
body_fits l v kind.Granted b can fit rise =
    let p = and_parts _ _ fit in
    let q = and_parts _ _ p.1 in
    (ltb-true _ _ p.0, number_tells _ q.0, leb-true _ _ q.1, length-take-le l.page_size (drop (20 + size_length v) b) (omega (arith, eqb-true _ _ can, length-drop (20 + size_length v) b)))
body_fits l v k b can fit rise = fields_tell l (fields_of (short_at k b)) fit

-- ---- the whole frame

kind_found : (l : Bounds) (v : FrameVersion) (k : Kind) (b : List ℕ) → kind_of_body (body_at l v k b) ≡ k
unfolding body_at short_at
kind_found l v kind.Hello b = refl
kind_found l v _ b = refl

code_found : (n : ℕ) (k : Kind) → kind_of n ≡ Some k → n ≡ code_of k
unfolding kind_of
code_found n k e = grind (arith, nat_tests)

byte_found : (n : ℕ) (v : FrameVersion) → version_of n ≡ Some v → n ≡ version_byte v
unfolding version_of
byte_found n v e = grind (arith, nat_tests)

-- what no fault says
record IsChecked (l : Bounds) (v : FrameVersion) (k : Kind) (bytes : List ℕ) : Type 0 where
  pub header : 16 ≤ length bytes
  pub version : version_of (slice_index bytes 0) ≡ Some v
  pub size : has_size v l.page_size ≡ true
  pub kind : kind_of (slice_index bytes 1) ≡ Some k
  pub known : has_kind v k ≡ true
  pub can : can_be_length l v k (body_length bytes) ≡ true
  pub whole : 16 + body_length bytes ≤ length bytes
  pub parts : parts_fit l v k (body_bytes bytes) ≡ true
  pub sender : is_sender l (number w16 2 bytes) (number w64 4 bytes) ≡ true
  pub numbers : numbers_fit l (body_at l v k (body_bytes bytes)) ≡ true
  pub rise : pages_rise (body_at l v k (body_bytes bytes)) ≡ true

checked_kind : (l : Bounds) (v : FrameVersion) (bytes : List ℕ) (o : Option Kind) → kind_of (slice_index bytes 1) ≡ o → 16 ≤ length bytes → version_of (slice_index bytes 0) ≡ Some v → has_size v l.page_size ≡ true
    → first_fault (causes_by_kind l v bytes o) ≡ None → (k : Kind) × IsChecked l v k bytes
checked_kind l v bytes None o-is header version size e = absurd cc
checked_kind l v bytes (Some k) o-is header version size e =
    let c0 = none_first (not (has_kind v k)) fault.Kind _ e in
    let c1 = none_first (not (can_be_length l v k (body_length bytes))) fault.Length _ c0.1 in
    let c2 = none_first (nat_lt (length bytes) (16 + body_length bytes)) fault.Short _ c1.1 in
    let c3 = none_first (not (parts_fit l v k (body_bytes bytes))) fault.Length _ c2.1 in
    let c4 = none_first (not (is_sender l (number w16 2 bytes) (number w64 4 bytes) && numbers_fit l (body_at l v k (body_bytes bytes)))) fault.Range _ c3.1 in
    let c5 = none_first (not (pages_rise (body_at l v k (body_bytes bytes)))) fault.Order [] c4.1 in
    let fit = and_parts _ _ (not_false _ c4.0) in (
      k,
      record {
        header = header;
        version = version;
        size = size;
        kind = o-is;
        known = not_false _ c0.0;
        can = not_false _ c1.0;
        whole = ltb-false _ _ c2.0;
        parts = not_false _ c3.0;
        sender = fit.0;
        numbers = fit.1;
        rise = not_false _ c5.0;
      },
    )

checked_version : (l : Bounds) (bytes : List ℕ) (o : Option FrameVersion) → version_of (slice_index bytes 0) ≡ o → 16 ≤ length bytes
    → first_fault (causes_by_version l bytes o) ≡ None → (v : FrameVersion) × (k : Kind) × IsChecked l v k bytes
checked_version l bytes None o-is header e = absurd cc
checked_version l bytes (Some v) o-is header e =
    let c = none_first (not (has_size v l.page_size)) fault.Version _ e in
    let k = checked_kind l v bytes (kind_of (slice_index bytes 1)) refl header o-is (not_false _ c.0) c.1 in
    (v, k.0, k.1)

checked : (l : Bounds) (bytes : List ℕ) → first_fault (causes l bytes) ≡ None → (v : FrameVersion) × (k : Kind) × IsChecked l v k bytes
checked l bytes e =
    let c = none_first (nat_lt (length bytes) 16) fault.Short _ e in
    checked_version l bytes (version_of (slice_index bytes 0)) refl (ltb-false _ _ c.0) c.1

first_two : (bytes : List ℕ) → 2 ≤ length bytes → bytes ≡ slice_index bytes 0 ∷ slice_index bytes 1 ∷ drop 2 bytes
first_two [] h = absurd (omega arith)
first_two (a ∷ []) h = absurd (omega arith)
first_two (a ∷ b ∷ rest) h = refl

front_found : (l : Bounds) (v : FrameVersion) (k : Kind) (bytes : List ℕ) → IsBytes bytes → IsChecked l v k bytes → bytes ≡ spelling_in v (frame_at l v k bytes) ++ drop (16 + body_length bytes) bytes
unfolding spelling_in word
front_found l v k bytes fits c =
    let len = body_length bytes in
    let b = body_bytes bytes in
    let header = c.header in
    let whole = c.whole in
    let rest = drop (16 + len) bytes in
    let b-len : length b ≡ len = length-take-le len (drop 16 bytes) (omega (arith, length-drop 16 bytes)) in
    let can : can_be_length l v k (length b) ≡ true = ap (can_be_length l v k) b-len ∙ c.can in
    let spelled : b ≡ body_spelling v (body_at l v k b) = body_found l v k b (IsBytes-take len (drop 16 bytes) (IsBytes-drop 16 bytes fits)) can c.parts in
    let last : drop 16 bytes ≡ b ++ rest = sym (take-append-drop len (drop 16 bytes)) ∙ ap (λ (x : List ℕ). b ++ x) (drop-drop len 16 bytes) in
    let len-is : len ≡ length (body_spelling v (body_at l v k b)) = sym b-len ∙ ap length spelled in
    let code : slice_index bytes 1 ≡ code_of (kind_of_body (body_at l v k b)) = code_found (slice_index bytes 1) k c.kind ∙ ap code_of (sym (kind_found l v k b)) in
    let A = to_be_bytes w16 (number w16 2 bytes) in
    let B = to_be_bytes w64 (number w64 4 bytes) in
    first_two bytes (omega arith)
    ∙ ap (λ (x : ℕ). x ∷ slice_index bytes 1 ∷ drop 2 bytes) (byte_found (slice_index bytes 0) v c.version)
    ∙ ap (λ (x : ℕ). version_byte v ∷ x ∷ drop 2 bytes) code
    ∙ ap (λ (x : List ℕ). version_byte v ∷ code_of (kind_of_body (body_at l v k b)) ∷ x)
    (number_found wide16 2 bytes fits (omega arith)
    ∙ ap (λ (x : List ℕ). A ++ x) (number_found wide64 4 bytes fits (omega arith)
    ∙ ap (λ (x : List ℕ). B ++ x) (number_found wide32 12 bytes fits (omega arith)
    ∙ ap (λ (x : List ℕ). to_be_bytes w32 len ++ x) (last ∙ ap (λ (x : List ℕ). x ++ rest) spelled)
    ∙ ap (λ (n : ℕ). to_be_bytes w32 n ++ (body_spelling v (body_at l v k b) ++ rest)) len-is)))

frame_fits : (l : Bounds) (v : FrameVersion) (k : Kind) (bytes : List ℕ) → IsChecked l v k bytes → Fits l (frame_at l v k bytes)
unfolding is_sender
frame_fits l v k bytes c =
    let header = c.header in
    let whole = c.whole in
    let b-len : length (body_bytes bytes) ≡ body_length bytes = length-take-le (body_length bytes) (drop 16 bytes) (omega (arith, length-drop 16 bytes)) in
    let p = and_parts _ _ c.sender in
    record {
      client = ltb-true _ _ p.0;
      incarnation = number_tells _ p.1;
      body = body_fits l v k (body_bytes bytes) (ap (can_be_length l v k) b-len ∙ c.can) c.numbers c.rise;
    }

-- where nothing is wrong, the frame in front is in the grammar
pub frame_found : (l : Bounds) (bytes : List ℕ) → IsBytes bytes → first_fault (causes l bytes) ≡ None → IsFrameIn (version_in_front bytes) l (frame_in_front l bytes) (take (16 + body_length bytes) bytes)
frame_found l bytes fits e =
    let c = checked l bytes e in
    let v = c.0 in
    let k = c.1 in
    let f = frame_at l v k bytes in
    let header = c.2.header in
    let whole = c.2.whole in
    let front = front_found l v k bytes fits c.2 in
    let len : length (spelling_in v f) ≡ 16 + body_length bytes = omega (arith, ap length front, length-append (spelling_in v f) (drop (16 + body_length bytes) bytes), length-drop (16 + body_length bytes) bytes) in
    let found : IsFrameIn v l f (take (16 + body_length bytes) bytes) = record {
      fits = frame_fits l v k bytes c.2;
      size = c.2.size;
      kind = ap (has_kind v) (kind_found l v k (body_bytes bytes)) ∙ c.2.known;
      spelled = ap (take (16 + body_length bytes)) front ∙ take_at (spelling_in v f) (drop (16 + body_length bytes) bytes) (16 + body_length bytes) len;
    } in
    rw (c.2.version, c.2.kind) found

pub used_found : (l : Bounds) (bytes : List ℕ) → first_fault (causes l bytes) ≡ None → 16 + body_length bytes ≤ length bytes
used_found l bytes e = let c = checked l bytes e in c.2.whole
