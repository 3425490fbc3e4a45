-- What rows are read as, and the tables by what was read.
use Rattle.std.proofs.Common.{◌≡◌, ◌≢◌, ◌↔◌, inl, inr, ℕ, ℤ, pos, zero, suc, ◌+◌, ◌*◌, ◌-◌, ◌/◌, ◌%◌, ◌<◌, ◌≤◌, ◌==◌, min, cond, true, false, List, [], ◌∷◌, ◌++◌, length, take, drop, Result, Ok, Err, IfOk, OnOk, OnErr, IsTrue, IsErrAnd, refl, sym, ap, subst, ◌∙◌, arith}
use Rattle.std.proofs.lemmas.Result.{IfOk-weaker}
use Rattle.std.proofs.lemmas.List.{get_or_past, get_or_push, get_or_append_left, take-append-le, drop-append-le, length-append, length-drop}
use Rattle.std.proofs.lemmas.Bool.{cases_lt, eqb-true, eq-eqb}
use Rattle.std.proofs.Math.Dec.{eqb-suc-zero}
use Rattle.sqlite.specs.Order.{Row, column}
use Rattle.sqlite.specs.Values.{bound_value}
use Rattle.sqlite.specs.declared.types.Value.{Value}
use Rattle.sqlite.specs.Value.{owned}
use Rattle.sqlite.specs.declared.types.ValueRef.{ValueRef}
use Rattle.sqlite.specs.declared.types.ValueRef.TheVariants as lent
use Rattle.sqlite.specs.declared.types.Value.TheVariants.{Null, Int, Blob}
use Rattle.sqlite.specs.Store.{Ghosts}
use Rattle.sqlite.specs.Effect.{Database}
use Rattle.sqlite.specs.Held.{Held}
use Rattle.cb_page.specs.Bounds.{Bounds}
use Rattle.cb_page.specs.Numbers.{max_number}
use Rattle.cb_commit.specs.declared.store.StoredPage.{StoredPage}
use Rattle.cb_commit.specs.Stores.{StoreState, no_page}
use Rattle.cb_shelf.specs.declared.fault.ShelfFault.{ShelfFault}
use Rattle.cb_shelf.specs.declared.fault.ShelfFault.TheVariants.{Shape, Memory}
use Rattle.cb_shelf.specs.Statements.{Statement, part_at, part_count}
use Rattle.cb_shelf.specs.Asking.{Replies, HasFrom, IsRow, RepliesRow, RepliesElse}
use Rattle.cb_shelf.specs.Inside.{Tells, IsNever}
use Rattle.cb_shelf.proofs.Asking.{tells_judged, tells_nothing}
use Rattle.cb_shelf.specs.declared.reading.Generation.{Generation}
use Rattle.cb_shelf.specs.Reading.{question, mark_text, pages_text, parts_text, version_text, part_text, version_of, part_of, number_values, mark_values, HasParts, HasPage, HasPages, Holds, IsMark, IsNumber, IsUpTo, IsBytes, part_length}

-- a refusal of any kind
pub on_any : {X E A : Type 0} (r : Result X E) → A → OnErr r A
on_any (Ok x) a = tt
on_any (Err e) a = a

pub at_err : {X E A : Type 0} (r : Result X E) (e : E) → r ≡ Err e → OnErr r A → A
at_err (Ok x) e is h = absurd (cc)
at_err (Err f) e is h = h

-- what is answered isn't refused
pub not_refused : {X A : Type 0} {x : X} → ◌≡◌ {A = Result X ShelfFault} (Ok x) (Err Shape) → A
not_refused is = absurd (cc)

pub fault_is : {X : Type 0} {e f : ShelfFault} → ◌≡◌ {A = Result X ShelfFault} (Err e) (Err f) → e ≡ f
fault_is is = cc

-- ---- one value

pub owned_int : (v : ValueRef) (n : ℤ) → owned v ≡ Int n → v ≡ lent.Int n
owned_int lent.Null n h = cc
owned_int (lent.Int m) n h = let same : m ≡ n = cc in ap lent.Int same
owned_int (lent.Real x) n h = cc
owned_int (lent.Text t) n h = cc
owned_int (lent.Blob b) n h = cc

-- past the end there is no number, and there are no bytes
pub past_number : (row : Row) (at : ℕ) → length row ≤ at → (number : ℕ) → column row at ≢ Int (pos number)
past_number row at le number is = let e : Null ≡ Int (pos number) = sym (get_or_past row at Null le) ∙ is in cc

pub past_bytes : (row : Row) (at : ℕ) → length row ≤ at → (bytes : List ℕ) → column row at ≢ Blob bytes
past_bytes row at le bytes is = let e : Null ≡ Blob bytes = sym (get_or_past row at Null le) ∙ is in cc

pub same_if : (v : Value) (a b : ℕ) → v ≡ Int (pos a) → IsTrue (a == b) ↔ (v ≡ Int (pos b))
same_if v a b is = (λ same. is ∙ ap (λ (n : ℕ). Int (pos n)) (eqb-true a b same), λ also. let e : Int (pos a) ≡ Int (pos b) = sym is ∙ also in let same : a ≡ b = cc in eq-eqb a b same)

pub other_if : (v : Value) (b : ℕ) → ((n : ℕ) → v ≢ Int (pos n)) → IsTrue false ↔ (v ≡ Int (pos b))
other_if v b other = (λ wrong. absurd (let e : false ≡ true = wrong in cc), λ is. absurd (other b is))

-- ---- one row

-- where there is another count of rows, none is the one row
pub not_one : (rows : List Row) → length rows ≢ 1 → (values : Row) → ¬ IsRow rows values
not_one rows other values h = other (ap length h.1)

pub row_is : (rows : List Row) (row values : Row) → rows ≡ row ∷ [] → IsRow rows values → HasFrom row 0 values
row_is rows row values is h = let same : h.0 ≡ row = (let e = sym h.1 ∙ is in cc) in subst (λ (r : Row). HasFrom r 0 values) same h.2

-- a row whose first value is no number has no number
pub no_number : (rows : List Row) (row : Row) → rows ≡ row ∷ [] → ((number : ℕ) → column row 0 ≢ Int (pos number)) → (values : Row) → IsNumber values → ¬ IsRow rows values
no_number rows row is other values fits h = other fits.0 (row_is rows row (number_values fits.0) is (subst (IsRow rows) fits.1 h)).0

pub no_bytes : (rows : List Row) (row : Row) (count : ℕ) → rows ≡ row ∷ [] → ((bytes : List ℕ) → length bytes ≡ count → column row 0 ≢ Blob bytes) → (values : Row) → IsBytes count values → ¬ IsRow rows values
no_bytes rows row count is other values fits h = other fits.0 fits.1 (row_is rows row (Blob fits.0 ∷ []) is (subst (IsRow rows) fits.2 h)).0

-- a row with no number at its second place is no mark
pub no_mark : (rows : List Row) (row : Row) (limits : Bounds) → rows ≡ row ∷ [] → ((number : ℕ) → column row 1 ≢ Int (pos number)) → (values : Row) → IsMark limits values → ¬ IsRow rows values
no_mark rows row limits is other values fits h = other fits.0 (row_is rows row (mark_values fits.0 limits.page_size limits.pages) is (subst (IsRow rows) fits.2 h)).1.0

-- nor is one that hasn't the values that go with its number
pub other_mark : (rows : List Row) (row : Row) (limits : Bounds) (number : ℕ) → rows ≡ row ∷ [] → column row 1 ≡ Int (pos number)
    → ¬ ((number ≤ max_number) × HasFrom row 0 (mark_values number limits.page_size limits.pages)) → (values : Row) → IsMark limits values → ¬ IsRow rows values
other_mark rows row limits number is has other values fits h =
    let from = row_is rows row (mark_values fits.0 limits.page_size limits.pages) is (subst (IsRow rows) fits.2 h) in
    let same : fits.0 ≡ number = (let e = sym from.1.0 ∙ has in cc) in
    other (subst (λ (n : ℕ). (n ≤ max_number) × HasFrom row 0 (mark_values n limits.page_size limits.pages)) same (fits.1, from))

same_number : (rows : List Row) (a b : ℕ) → IsRow rows (number_values a) → IsRow rows (number_values b) → a ≡ b
same_number rows a b one two = let e = sym (row_is rows one.0 (number_values b) one.1 two).0 ∙ one.2.0 in cc

-- ---- answers

-- another number than the one that is wanted
pub other_number : (db : Database) (question : Statement) (found wanted : ℕ) → found ≢ wanted → RepliesRow db question (number_values found) → RepliesElse db question (λ values. values ≡ number_values wanted)
other_number db question found wanted other h = (h.0, h.1, λ values is row. other (same_number h.0 found wanted h.2 (subst (IsRow h.0) is row)))

-- a number above the most
pub above_number : (db : Database) (question : Statement) (found most : ℕ) → most < found → RepliesRow db question (number_values found) → RepliesElse db question (IsUpTo most)
above_number db question found most above h = (h.0, h.1, λ values fits row. let same = same_number h.0 found fits.0 h.2 (subst (IsRow h.0) fits.2 row) in omega arith)

-- what fits less, fits nothing more
pub else_weaker : (db : Database) (question : Statement) (P Q : Row → Type 0) → ((values : Row) → P values → Q values) → RepliesElse db question Q → RepliesElse db question P
else_weaker db question P Q f h = (h.0, h.1, λ values fits. h.2 values (f values fits))

-- rows that were asked for are judged
pub tells_row : {S X Y : Type 0} (g : Ghosts S) (asked given : Statement) (items : Y → List Row) (values : X → Row) (Fits : Row → Type 0) (a b : Held S) (rows : Y) (r : Result X ShelfFault)
    → asked ≡ given → IfOk r (λ x. IsRow (items rows) (values x)) → OnErr r ((v : Row) → Fits v → ¬ IsRow (items rows) v)
    → Tells g (λ db y. Replies db asked (items y)) IsNever a b (Ok rows) → Tells g (λ db x. RepliesRow db given (values x)) (λ db. RepliesElse db given Fits) a b r
tells_row {X = X} g asked given items values Fits a b rows r same ok err one =
    tells_judged g a b (λ db y. Replies db asked (items y)) (λ db x. RepliesRow db given (values x)) IsNever (λ db. RepliesElse db given Fits) rows r
    (λ db known. IfOk-weaker r (λ x. IsRow (items rows) (values x)) (λ x. RepliesRow db given (values x)) (λ x is. (items rows, subst (λ (s : Statement). Replies db s (items rows)) same known, is)) ok)
    (λ db known is. (items rows, subst (λ (s : Statement). Replies db s (items rows)) same known, at_err r Shape is err)) one

-- a question by the values of its text and its parameters
pub version_is : (tables : Generation) (page : ℕ) (text : List ℕ) (value : Value) → text ≡ version_text tables → value ≡ Int (pos page)
    → ◌≡◌ {A = Statement} (record { text = text; params = bound_value value ∷ [] }) (version_of tables page)
version_is tables page text value is also = rw (is, also) refl

pub part_is : (tables : Generation) (page place : ℕ) (text : List ℕ) (value other : Value) → text ≡ part_text tables → value ≡ Int (pos page) → other ≡ Int (pos place)
    → ◌≡◌ {A = Statement} (record { text = text; params = bound_value value ∷ bound_value other ∷ [] }) (part_of tables page place)
part_is tables page place text value other is also last = rw (is, also, last) refl

pub question_is : (given text : List ℕ) → given ≡ text → ◌≡◌ {A = Statement} (record { text = given; params = [] }) (question text)
question_is given text is = rw is refl

module _ {S : Type 0} (g : Ghosts S) (a b : Held S) where
  pub tells_same : {X : Type 0} (asked given : Statement) (values : X → Row) (Fits : Row → Type 0) (r : Result X ShelfFault) → asked ≡ given
      → Tells g (λ db x. RepliesRow db asked (values x)) (λ db. RepliesElse db asked Fits) a b r → Tells g (λ db x. RepliesRow db given (values x)) (λ db. RepliesElse db given Fits) a b r
  tells_same asked given values Fits r is h = subst (λ (s : Statement). Tells g (λ db x. RepliesRow db s (values x)) (λ db. RepliesElse db s Fits) a b r) is h

  -- a number that was found has to be the one that is wanted
  pub tells_agreed : (q : Statement) (found wanted : ℕ) (r : Result (Unit {0}) ShelfFault) → OnOk r (found ≡ wanted) → OnErr r (found ≢ wanted)
      → Tells g (λ db number. RepliesRow db q (number_values number)) (λ db. RepliesElse db q IsNumber) a b (Ok found)
      → Tells g (λ db _. RepliesRow db q (number_values wanted)) (λ db. RepliesElse db q (λ values. values ≡ number_values wanted)) a b r
  tells_agreed q found wanted (Ok x) is other one =
      tells_judged g a b (λ db number. RepliesRow db q (number_values number)) (λ db _. RepliesRow db q (number_values wanted)) (λ db. RepliesElse db q IsNumber) (λ db. RepliesElse db q (λ values. values ≡ number_values wanted)) found (Ok x)
      (λ db known. subst (λ (n : ℕ). RepliesRow db q (number_values n)) is known) (λ db known wrong. absurd (cc)) one
  tells_agreed q found wanted (Err e) is other one =
      tells_judged g a b (λ db number. RepliesRow db q (number_values number)) (λ db _. RepliesRow db q (number_values wanted)) (λ db. RepliesElse db q IsNumber) (λ db. RepliesElse db q (λ values. values ≡ number_values wanted)) found (Err e)
      (λ db known. tt) (λ db known wrong. other_number db q found wanted other known) one

  -- or has to be at most so much
  pub tells_up_to : (q : Statement) (found most : ℕ) (r : Result ℕ ShelfFault) → IfOk r (λ x. x ≡ found) → OnErr r (most < found)
      → Tells g (λ db number. RepliesRow db q (number_values number)) (λ db. RepliesElse db q IsNumber) a b (Ok found)
      → Tells g (λ db number. RepliesRow db q (number_values number)) (λ db. RepliesElse db q (IsUpTo most)) a b r
  tells_up_to q found most (Ok x) is above one =
      tells_judged g a b (λ db number. RepliesRow db q (number_values number)) (λ db number. RepliesRow db q (number_values number)) (λ db. RepliesElse db q IsNumber) (λ db. RepliesElse db q (IsUpTo most)) found (Ok x)
      (λ db known. subst (λ (n : ℕ). RepliesRow db q (number_values n)) (sym is) known) (λ db known wrong. absurd (cc)) one
  tells_up_to q found most (Err e) is above one =
      tells_judged g a b (λ db number. RepliesRow db q (number_values number)) (λ db number. RepliesRow db q (number_values number)) (λ db. RepliesElse db q IsNumber) (λ db. RepliesElse db q (IsUpTo most)) found (Err e)
      (λ db known. tt) (λ db known wrong. above_number db q found most above known) one

-- ---- parts of a page

-- the parts before a place leave so many bytes; past the last one there are all
pub all_parts : (size : ℕ) → min (part_count size * 4096) size ≡ size
all_parts size = go (size % 4096) refl
  where
    go : (rest : ℕ) → rest ≡ size % 4096 → min ((size / 4096 + cond (rest == 0) 0 1) * 4096) size ≡ size
    go zero is = omega arith
    go (suc rest) is = rw (eqb-suc-zero rest) (omega arith)

-- a place of a page is within it
pub within_page : (size place : ℕ) → place < part_count size → place * 4096 < size
within_page size place = go (size % 4096) refl
  where
    go : (rest : ℕ) → rest ≡ size % 4096 → place < size / 4096 + cond (rest == 0) 0 1 → place * 4096 < size
    go zero is h = omega arith
    go (suc rest) is h = let more : place < size / 4096 + 1 = rw (eqb-suc-zero rest) at h in omega arith

-- bytes that follow leave an earlier part as it was
pub part_before : (bytes body : List ℕ) (place : ℕ) → place * 4096 + 4096 ≤ length bytes → part_at (bytes ++ body) place ≡ part_at bytes place
part_before bytes body place low =
    let end : min (place * 4096 + 4096) (length (bytes ++ body)) ≡ place * 4096 + 4096 = rw length-append (omega arith) in
    let same : min (place * 4096 + 4096) (length bytes) ≡ place * 4096 + 4096 = omega arith in
    let count : 4096 ≤ length (drop (place * 4096) bytes) = omega (arith, length-drop (place * 4096) bytes) in
    let back : place * 4096 + 4096 - place * 4096 ≡ 4096 = omega arith in
    rw (end, same, back, drop-append-le (place * 4096) bytes body (omega arith)) (take-append-le 4096 (drop (place * 4096) bytes) body count)

-- and are the next part
pub part_after : (bytes body : List ℕ) (place : ℕ) → length bytes ≡ place * 4096 → length body ≤ 4096 → part_at (bytes ++ body) place ≡ body
part_after bytes body place is short =
    let end : min (place * 4096 + 4096) (length (bytes ++ body)) ≡ place * 4096 + length body = rw length-append (omega arith) in
    let back : place * 4096 + length body - place * 4096 ≡ length body = omega arith in
    let all : drop (place * 4096) (bytes ++ body) ≡ body = rw (← is) (drop-all bytes body) in
    rw (end, back, all) (take-all body)
  where
    drop-all : (xs ys : List ℕ) → drop (length xs) (xs ++ ys) ≡ ys
    drop-all [] ys = refl
    drop-all (x ∷ xs) ys = drop-all xs ys

    take-all : (xs : List ℕ) → take (length xs) xs ≡ xs
    take-all [] = refl
    take-all (x ∷ xs) = ap (λ (more : List ℕ). x ∷ more) (take-all xs)

-- one more part
pub parts_more : (tables : Generation) (db : Database) (page place size : ℕ) (bytes body : List ℕ) → place < part_count size → length bytes ≡ min (place * 4096) size → length body ≡ part_length size place
    → HasParts tables db page place bytes → RepliesRow db (part_of tables page place) (Blob body ∷ []) → HasParts tables db page (place + 1) (bytes ++ body)
parts_more tables db page place size bytes body low is count before next at within =
    let inner = within_page size place low in
    elim (cases_lt at place) [
      | inl earlier ↦ rw (part_before bytes body at (omega arith)) (before at earlier)
      | inr late ↦ let same : at ≡ place = omega arith in rw (same, part_after bytes body place (omega arith) (omega arith)) next
    ]

-- ---- pages

-- one more page
pub pages_more : (tables : Generation) (db : Database) (size page : ℕ) (pages : List StoredPage) (stored : StoredPage) → length pages ≡ page
    → HasPages tables db size pages → HasPage tables db size page stored → HasPages tables db size (pages ++ stored ∷ [])
pages_more tables db size page pages stored is before next at within =
    elim (cases_lt at (length pages)) [
      | inl earlier ↦ rw (get_or_append_left pages (stored ∷ []) no_page at earlier) (before at earlier)
      | inr late ↦
          let same : at ≡ page = (let e = length-append pages (stored ∷ []) in omega arith) in
          rw (same, get_or_push pages stored no_page page is) next
    ]

-- a number that was expected, by the values of text and number
pub expected_same : {S X : Type 0} (g : Ghosts S) (a b : Held S) (given text : List ℕ) (count wanted : ℕ) (r : Result X ShelfFault) → given ≡ text → count ≡ wanted
    → Tells g (λ db _. RepliesRow db (question given) (number_values count)) (λ db. RepliesElse db (question given) (λ values. values ≡ number_values count)) a b r
    → Tells g (λ db _. RepliesRow db (question text) (number_values wanted)) (λ db. RepliesElse db (question text) (λ values. values ≡ number_values wanted)) a b r
expected_same g a b given text count wanted r is also h =
    subst (λ (n : ℕ). Tells g (λ db _. RepliesRow db (question text) (number_values n)) (λ db. RepliesElse db (question text) (λ values. values ≡ number_values n)) a b r) also
    (subst (λ (t : List ℕ). Tells g (λ db _. RepliesRow db (question t) (number_values count)) (λ db. RepliesElse db (question t) (λ values. values ≡ number_values count)) a b r) is h)

module _ {S : Type 0} (g : Ghosts S) (a b : Held S) where
  -- memory was refused after an answer
  pub tells_wanting : {X Y : Type 0} (P : Database → X → Type 0) (R : Database → Y → Type 0) (A C : Database → Type 0) (x : X) (r : Result Y ShelfFault) → IsErrAnd r (λ fault. fault ≡ Memory)
      → Tells g P A a b (Ok x) → Tells g R C a b r
  tells_wanting P R A C x (Ok y) wrong one = absurd wrong
  tells_wanting P R A C x (Err e) is one = tells_judged g a b P R A C x (Err e) (λ db known. tt) (λ db known same. absurd (cc)) one

-- memory was refused before a question
pub wanting : {S Y : Type 0} (g : Ghosts S) (a : Held S) (R : Database → Y → Type 0) (C : Database → Type 0) (r : Result Y ShelfFault) → IsErrAnd r (λ fault. fault ≡ Memory) → Tells g R C a a r
wanting g a R C (Ok y) wrong = absurd wrong
wanting g a R C (Err e) is = tells_nothing g a a R C (Err e) refl (λ db. tt) (λ db same. absurd (cc))

-- the store that was read is in the tables
pub holds_from : (tables : Generation) (db : Database) (limits : Bounds) (number : ℕ) (pages : List StoredPage) (store : StoreState) → store ≡ record { page_size = limits.page_size; pages = pages; number = number }
    → length pages ≡ limits.pages → RepliesRow db (question (mark_text tables)) (mark_values number limits.page_size limits.pages)
    → RepliesRow db (question (pages_text tables)) (number_values limits.pages) × RepliesRow db (question (parts_text tables)) (number_values (limits.pages * part_count limits.page_size))
    → HasPages tables db limits.page_size pages → Holds tables db store
holds_from tables db limits number pages store is count mark counts each =
    rw is (record { mark = rw count mark; pages = rw count counts.0; parts = rw count counts.1; each = each })
