-- What the statements of a batch make of the tables, one page after another.
use Rattle.std.proofs.Common.{◌≡◌, Bool, ◌≢◌, ◌⊎◌, inl, inr, ℕ, zero, suc, ◌+◌, ◌<◌, ◌≤◌, List, [], ◌∷◌, ◌++◌, drop, map, filter, length, get_or, set, length-set, refl, sym, ap, ◌∙◌, subst, arith}
use Rattle.std.specs.List.{AllByRecursion, range_with_len}
use Rattle.std.proofs.lemmas.List.Elements.{recursion_from_All}
use Rattle.std.proofs.lemmas.List.{get_or-set_same, get_or-set_other}
use Rattle.sqlite_value.specs.declared.value.Value.{Value}
use Rattle.sqlite_value.specs.Order.{Row, column}
use Rattle.sqlite_trees.specs.declared.store.Store.{Ghosts}
use Rattle.sqlite_rules.specs.Lists.{Has}
use Rattle.sqlite.specs.Effect.{Database}
use Rattle.cb_page.specs.Bounds.{Bounds}
use Rattle.cb_commit.specs.declared.batch.BatchPage.{BatchPage}
use Rattle.cb_commit.specs.declared.store.StoredPage.{StoredPage}
use Rattle.cb_commit.specs.Stores.{StoreState, IsOf, no_page, version_at, bytes_at}
use Rattle.cb_commit.specs.Batches.{BatchState, overwritten, after_batch}
use Rattle.cb_shelf.specs.Statements.{Statement, Makes, MakesAll, part_at, part_count}
use Rattle.cb_shelf.specs.Statements.{page_statement, part_statement, page_statements}
use Rattle.cb_shelf.specs.Statements.{statements_of, pages_statements, mark_statement}
use Rattle.cb_shelf.specs.Statements.{batch_statements}
use Rattle.cb_shelf.specs.declared.rows.PageRows.{PageRows}
use Rattle.cb_shelf.specs.declared.rows.PageRows.TheVariants.{Absent, Present}
use Rattle.cb_shelf.specs.Writing.{IsOfSize, Fits}
use Rattle.cb_shelf_laws.specs.Tables.{mark_tree, page_tree, part_tree, life_tree}
use Rattle.cb_shelf_laws.specs.Rows.{IsShelf, is_of_page, is_at, page_rows, part_rows, PutsPart}
use Rattle.cb_shelf_laws.specs.Rows.{mark_columns, IsMarked, HasVersion, HasPart, HasStore}
use Rattle.cb_shelf_laws.specs.Rows.{IsAsLarge}
use Rattle.cb_shelf_laws.proofs.Marking.{mark_sets, one_mapped}
use Rattle.cb_shelf_laws.proofs.Putting.{page_puts, part_puts}
use Rattle.cb_shelf_laws.proofs.Setting.{page_sets, part_sets}

pub same_or_not : (m n : ℕ) → (m ≡ n) ⊎ (m ≢ n)
same_or_not zero zero = inl refl
same_or_not zero (suc n) = inr (λ e. omega (arith, e))
same_or_not (suc m) zero = inr (λ e. omega (arith, e))
same_or_not (suc m) (suc n) = elim (same_or_not m n) [ inl e ↦ inl (ap suc e) | inr apart ↦ inr (λ e. apart (omega (arith, e))) ]

pub has_or_not : (xs : List ℕ) (x : ℕ) → Has xs x ⊎ (Has xs x → ⊥)
has_or_not [] x = inr (λ h. h)
has_or_not (y ∷ xs) x = elim (same_or_not x y) [
  | inl e ↦ inl (inl e)
  | inr apart ↦ elim (has_or_not xs x) [ inl h ↦ inl (inr h) | inr none ↦ inr (λ h. elim h [ inl e ↦ apart e | inr later ↦ none later ]) ]
]

pub in_range : (n a x : ℕ) → a ≤ x → x < a + n → Has (range_with_len a n) x
in_range zero a x low high = absurd (omega (arith, low, high))
in_range (suc n) a x low high = elim (same_or_not x a) [ inl e ↦ inl e | inr apart ↦ inr (in_range n (a + 1) x (omega (arith, low, apart)) (omega (arith, high))) ]

of_range : (n a x : ℕ) → Has (range_with_len a n) x → x < a + n
of_range zero a x h = absurd h
of_range (suc n) a x (inl e) = omega (arith, e)
of_range (suc n) a x (inr later) = omega (arith, of_range n (a + 1) x later)

pub makes_split : {S : Type 0} (g : Ghosts S) (xs ys : List Statement) (before after : Database) → MakesAll g (xs ++ ys) before after → (between : Database) × MakesAll g xs before between × MakesAll g ys between after
makes_split g [] ys before after m = (before, refl, m)
makes_split g (x ∷ xs) ys before after m = let rest = makes_split g xs ys m.0 after m.2 in (rest.0, (m.0, m.1, rest.1), rest.2)

one_long : {X Y : Type 0} (f : X → Y) (xs : List X) (y : Y) → map f xs ≡ y ∷ [] → length xs ≡ 1
one_long f xs y e = ap length (one_mapped f xs y e).1

module _ (older : Bool) where
  -- ---- the version of a page

  -- a page that is to be set has one row
  abbrev pub MayPutVersion : PageRows → Database → ℕ → Type 0
  MayPutVersion Absent db page = Unit {0}
  MayPutVersion Present db page = (old : ℕ) × HasVersion older db page old

  record PutsVersionBy (page version : ℕ) (before after : Database) : Type 0 where
    shelf : IsShelf older after
    put : HasVersion older after page version
    others : (other : ℕ) → other ≢ page → page_rows older after other ≡ page_rows older before other
    count : length (page_rows older before page) ≡ 1 → length (after.trees (page_tree older)) ≡ length (before.trees (page_tree older))
    marks : after.trees (mark_tree older) ≡ before.trees (mark_tree older)
    parts : after.trees (part_tree older) ≡ before.trees (part_tree older)
    lives : after.trees (life_tree older) ≡ before.trees (life_tree older)

  puts_version : {S : Type 0} (g : Ghosts S) (rows : PageRows) (before after : Database) (page version : ℕ) → IsShelf older before → MayPutVersion rows before page → Makes g (page_statement rows page version) before after → PutsVersionBy page version before after
  puts_version g Absent before after page version shelf may m =
      let p = page_puts older g before after page version shelf m in
      record { shelf = p.shelf; put = ap (map (λ (r : Row). column r 2)) p.put; others = p.others; count = λ one. omega (arith, p.count, one); marks = p.marks; parts = p.parts; lives = p.lives }
  puts_version g Present before after page version shelf may m =
      let p = page_sets older g before after page may.0 version shelf may.1 m in
      record { shelf = p.shelf; put = p.put; others = p.others; count = λ one. p.count; marks = p.marks; parts = p.parts; lives = p.lives }

  -- ---- the parts of a page

  -- a part that is to be set has one row
  abbrev pub MayPutPart : PageRows → Database → ℕ → ℕ → Type 0
  MayPutPart Absent db page place = Unit {0}
  MayPutPart Present db page place = (old : List ℕ) × HasPart older db page place old

  may_still : (rows : PageRows) (a b : Database) (page place : ℕ) → part_rows older b page place ≡ part_rows older a page place → MayPutPart rows a page place → MayPutPart rows b page place
  may_still Absent a b page place same may = tt
  may_still Present a b page place same may = (may.0, ap (map (λ (r : Row). column r 3)) same ∙ may.1)

  may_now : (rows : PageRows) (db : Database) (page place : ℕ) (bytes : List ℕ) → HasPart older db page place bytes → MayPutPart rows db page place
  may_now Absent db page place bytes has = tt
  may_now Present db page place bytes has = (bytes, has)

  bytes_in : (r : Row) (a b c : Value) → drop 1 r ≡ a ∷ b ∷ c ∷ [] → column r 3 ≡ c
  bytes_in [] a b c e = absurd cc
  bytes_in (v ∷ r) a b c e = ap (λ (l : Row). column l 2) e

  part_there : (page place : ℕ) (bytes : List ℕ) (before after : Database) → PutsPart older page place bytes before after → HasPart older after page place bytes
  part_there page place bytes before after p =
      let one = one_mapped (drop 1) (part_rows older after page place) _ p.put in
      ap (map (λ (r : Row). column r 3)) one.1 ∙ ap (λ v. v ∷ []) (bytes_in one.0 _ _ _ one.2)

  record PutsPartBy (page place : ℕ) (bytes : List ℕ) (before after : Database) : Type 0 where
    shelf : IsShelf older after
    put : HasPart older after page place bytes
    others : (other at : ℕ) → (other ≢ page) ⊎ (at ≢ place) → part_rows older after other at ≡ part_rows older before other at
    count : length (part_rows older before page place) ≡ 1 → length (after.trees (part_tree older)) ≡ length (before.trees (part_tree older))
    marks : after.trees (mark_tree older) ≡ before.trees (mark_tree older)
    pages : after.trees (page_tree older) ≡ before.trees (page_tree older)
    lives : after.trees (life_tree older) ≡ before.trees (life_tree older)

  puts_part : {S : Type 0} (g : Ghosts S) (rows : PageRows) (before after : Database) (page place : ℕ) (bytes : List ℕ) → IsShelf older before → MayPutPart rows before page place → Makes g (part_statement rows page bytes place) before after
      → PutsPartBy page place (part_at bytes place) before after
  puts_part g Absent before after page place bytes shelf may m =
      let p = part_puts older g before after page place bytes shelf m in
      record { shelf = p.shelf; put = part_there page place (part_at bytes place) before after p; others = p.others; count = λ one. omega (arith, p.count, one); marks = p.marks; pages = p.pages; lives = p.lives }
  puts_part g Present before after page place bytes shelf may m =
      let p = part_sets older g before after page place may.0 bytes shelf may.1 m in
      record { shelf = p.shelf; put = p.put; others = p.others; count = λ one. p.count; marks = p.marks; pages = p.pages; lives = p.lives }

  record PutsParts (page : ℕ) (bytes : List ℕ) (places : List ℕ) (before after : Database) : Type 0 where
    shelf : IsShelf older after
    put : (at : ℕ) → Has places at → HasPart older after page at (part_at bytes at)
    others : (other at : ℕ) → (other ≢ page) ⊎ (Has places at → ⊥) → part_rows older after other at ≡ part_rows older before other at
    count : ((at : ℕ) → Has places at → length (part_rows older before page at) ≡ 1) → length (after.trees (part_tree older)) ≡ length (before.trees (part_tree older))
    marks : after.trees (mark_tree older) ≡ before.trees (mark_tree older)
    versions : after.trees (page_tree older) ≡ before.trees (page_tree older)
    lives : after.trees (life_tree older) ≡ before.trees (life_tree older)

  puts_parts : {S : Type 0} (g : Ghosts S) (rows : PageRows) (page : ℕ) (bytes places : List ℕ) (before after : Database) → IsShelf older before → ((at : ℕ) → Has places at → MayPutPart rows before page at)
      → MakesAll g (map (part_statement rows page bytes) places) before after → PutsParts page bytes places before after
  puts_parts g rows page bytes [] before after shelf may m = record {
    shelf = subst (IsShelf older) m shelf;
    put = λ at h. absurd h;
    others = λ other at apart. ap (λ (d : Database). (part_rows older) d other at) (sym m);
    count = λ ones. ap (λ (d : Database). length (d.trees (part_tree older))) (sym m);
    marks = ap (λ (d : Database). d.trees (mark_tree older)) (sym m);
    versions = ap (λ (d : Database). d.trees (page_tree older)) (sym m);
    lives = ap (λ (d : Database). d.trees (life_tree older)) (sym m);
  }
  puts_parts g rows page bytes (place ∷ places) before after shelf may m =
      let mid = m.0 in
      let one = puts_part g rows before mid page place bytes shelf (may place (inl refl)) m.1 in
      let there = one.put in
      let may_more : (at : ℕ) → Has places at → MayPutPart rows mid page at = λ at h. elim (same_or_not at place) [
        | inl e ↦ subst (MayPutPart rows mid page) (sym e) (may_now rows mid page place (part_at bytes place) there)
        | inr apart ↦ may_still rows before mid page at (one.others page at (inr apart)) (may at (inr h))
      ] in
      let more = puts_parts g rows page bytes places mid after one.shelf may_more m.2 in
      record {
        shelf = more.shelf;
        put = λ at h. elim h [
          | inl e ↦ elim (has_or_not places at) [
            | inl later ↦ more.put at later
            | inr none ↦
                ap (map (λ (r : Row). column r 3)) (more.others page at (inr none)) ∙ subst (λ k. (HasPart older) mid page k (part_at bytes k)) (sym e) there
          ]
          | inr later ↦ more.put at later
        ];
        others = λ other at apart. elim apart [
          | inl ne ↦ more.others other at (inl ne) ∙ one.others other at (inl ne)
          | inr none ↦ more.others other at (inr (λ h. none (inr h))) ∙ one.others other at (inr (λ e. none (inl e)))
        ];
        count = λ ones.
            let same = one.count (ones place (inl refl)) in
            more.count (λ at h. elim (same_or_not at place) [
              | inl e ↦ subst (λ k. length (part_rows older mid page k) ≡ 1) (sym e) (one_long (λ (r : Row). column r 3) (part_rows older mid page place) _ there)
              | inr apart ↦ ap length (one.others page at (inr apart)) ∙ ones at (inr h)
            ]) ∙ same;
        marks = more.marks ∙ one.marks;
        versions = more.versions ∙ one.pages;
        lives = more.lives ∙ one.lives;
      }

  -- ---- a page

  pub record PutsPage (page version : ℕ) (bytes : List ℕ) (before after : Database) : Type 0 where
    pub shelf : IsShelf older after
    pub put : HasVersion older after page version
    pub parts : (at : ℕ) → at < part_count (length bytes) → HasPart older after page at (part_at bytes at)
    pub other_versions : (other : ℕ) → other ≢ page → page_rows older after other ≡ page_rows older before other
    pub other_parts : (other at : ℕ) → other ≢ page → part_rows older after other at ≡ part_rows older before other at
    pub count : length (page_rows older before page) ≡ 1 → length (after.trees (page_tree older)) ≡ length (before.trees (page_tree older))
    pub parts_count : ((at : ℕ) → at < part_count (length bytes) → length (part_rows older before page at) ≡ 1) → length (after.trees (part_tree older)) ≡ length (before.trees (part_tree older))
    pub marks : after.trees (mark_tree older) ≡ before.trees (mark_tree older)
    pub lives : after.trees (life_tree older) ≡ before.trees (life_tree older)

  pub puts_page : {S : Type 0} (g : Ghosts S) (rows : PageRows) (page version : ℕ) (bytes : List ℕ) (before after : Database) → IsShelf older before → MayPutVersion rows before page
      → ((at : ℕ) → at < part_count (length bytes) → MayPutPart rows before page at) → MakesAll g (page_statements rows page version bytes) before after → PutsPage page version bytes before after
  puts_page g rows page version bytes before after shelf may may_parts m =
      let mid = m.0 in
      let n = part_count (length bytes) in
      let one = puts_version g rows before mid page version shelf may m.1 in
      let each : (at : ℕ) → Has (range_with_len 0 n) at → MayPutPart rows mid page at = λ at h. may_still rows before mid page at (ap (filter (is_at page at)) one.parts) (may_parts at (omega (arith, of_range n 0 at h))) in
      let more = puts_parts g rows page bytes (range_with_len 0 n) mid after one.shelf each m.2 in
      record {
        shelf = more.shelf;
        put = ap (λ l. map (λ (r : Row). column r 2) (filter (is_of_page page) l)) more.versions ∙ one.put;
        parts = λ at low. more.put at (in_range n 0 at (omega arith) (omega (arith, low)));
        other_versions = λ other apart. ap (filter (is_of_page other)) more.versions ∙ one.others other apart;
        other_parts = λ other at apart. more.others other at (inl apart) ∙ ap (filter (is_at other at)) one.parts;
        count = λ is. ap length more.versions ∙ one.count is;
        parts_count = λ ones.
            more.count (λ at h. ap (λ l. length (filter (is_at page at) l)) one.parts ∙ ones at (omega (arith, of_range n 0 at h))) ∙ ap length one.parts;
        marks = more.marks ∙ one.marks;
        lives = more.lives ∙ one.lives;
      }

  -- ---- the pages of a batch

  as_large : (a b c : Database) → IsAsLarge older a b → IsAsLarge older b c → IsAsLarge older a c
  as_large a b c p q = record { versions = q.versions ∙ p.versions; parts = q.parts ∙ p.parts; lives = q.lives ∙ p.lives }

  -- a store with one page of a batch written over it
  abbrev with_page : StoreState → BatchPage → StoreState
  with_page store w = record store { pages = set store.pages w.page (record { version = w.version; bytes = w.bytes }) }

  writes_page : {S : Type 0} (g : Ghosts S) (limits : Bounds) (store : StoreState) (w : BatchPage) (before after : Database) → IsOf limits store → IsOfSize limits w → HasStore older before store
      → MakesAll g (statements_of w) before after → HasStore older after (with_page store w) × IsAsLarge older before after
  writes_page g limits store w before after of fits has m =
      let low : w.page < length store.pages = omega (arith, fits.page, of.count) in
      let size : length w.bytes ≡ store.page_size = fits.bytes ∙ sym of.page_size in
      let has_part : (at : ℕ) → at < part_count (length w.bytes) → HasPart older before w.page at (part_at (bytes_at store w.page) at) = λ at within. has.parts w.page at low (subst (λ n. at < part_count n) size within) in
      let p = puts_page g Present w.page w.version w.bytes before after has.shelf (version_at store w.page, has.versions w.page low) (λ at within. (part_at (bytes_at store w.page) at, has_part at within)) m in
      let long = length-set store.pages w.page (record { version = w.version; bytes = w.bytes }) in
      let now : StoredPage = record { version = w.version; bytes = w.bytes } in
      let here : get_or (with_page store w).pages w.page no_page ≡ now = get_or-set_same store.pages w.page now no_page low in
      let there : (page : ℕ) → page ≢ w.page → get_or (with_page store w).pages page no_page ≡ get_or store.pages page no_page = λ page apart. get_or-set_other store.pages w.page page now no_page apart in (
        record {
          shelf = p.shelf;
          mark = subst (λ n. (IsMarked older) after store.number store.page_size n) (sym long) (ap (map mark_columns) p.marks ∙ has.mark);
          versions = λ page within. elim (same_or_not page w.page) [
            | inl e ↦ subst (λ k. (HasVersion older) after k (version_at (with_page store w) k)) (sym e) (subst (λ (s : StoredPage). (HasVersion older) after w.page s.version) (sym here) p.put)
            | inr apart ↦
                subst (λ (s : StoredPage). (HasVersion older) after page s.version) (sym (there page apart))
                (ap (map (λ (r : Row). column r 2)) (p.other_versions page apart) ∙ has.versions page (omega (arith, within, long)))
          ];
          parts = λ page place within low. elim (same_or_not page w.page) [
            | inl e ↦
                subst (λ k. (HasPart older) after k place (part_at (bytes_at (with_page store w) k) place)) (sym e)
                (subst (λ (s : StoredPage). (HasPart older) after w.page place (part_at s.bytes place)) (sym here) (p.parts place (subst (λ n. place < part_count n) (sym size) low)))
            | inr apart ↦
                subst (λ (s : StoredPage). (HasPart older) after page place (part_at s.bytes place)) (sym (there page apart))
                (ap (map (λ (r : Row). column r 3)) (p.other_parts page place apart) ∙ has.parts page place (omega (arith, within, long)) low)
          ];
        },
        record {
          versions = p.count (one_long (λ (r : Row). column r 2) (page_rows older before w.page) _ (has.versions w.page low));
          parts = p.parts_count (λ at within. one_long (λ (r : Row). column r 3) (part_rows older before w.page at) _ (has_part at within));
          lives = p.lives;
        },
      )

  writes_pages : {S : Type 0} (g : Ghosts S) (limits : Bounds) (pages : List BatchPage) (store : StoreState) (before after : Database) → IsOf limits store → AllByRecursion (IsOfSize limits) pages → HasStore older before store
      → MakesAll g (pages_statements pages) before after → HasStore older after (record store { pages = overwritten store.pages pages }) × IsAsLarge older before after
  writes_pages g limits [] store before after of fits has m =
      (subst (λ d. (HasStore older) d store) m has, record { versions = ap (λ (d : Database). length (d.trees (page_tree older))) (sym m); parts = ap (λ (d : Database). length (d.trees (part_tree older))) (sym m); lives = ap (λ (d : Database). d.trees (life_tree older)) (sym m) })
  writes_pages g limits (w ∷ pages) store before after of fits has m =
      let split = makes_split g (statements_of w) (pages_statements pages) before after m in
      let one = writes_page g limits store w before split.0 of fits.0 has split.1 in
      let long = length-set store.pages w.page (record { version = w.version; bytes = w.bytes }) in
      let more = writes_pages g limits pages (with_page store w) split.0 after (record { count = long ∙ of.count; page_size = of.page_size }) fits.1 one.0 split.2 in
      (more.0, as_large before split.0 after one.1 more.1)

  -- the statements of a batch write it over the store
  pub writes_batch : {S : Type 0} (g : Ghosts S) (limits : Bounds) (batch : BatchState) (store : StoreState) (before after : Database) → IsOf limits store → Fits limits batch → HasStore older before store
      → MakesAll g (batch_statements batch) before after → HasStore older after (after_batch store batch) × IsAsLarge older before after
  writes_batch g limits batch store before after of fits has m =
      let split = makes_split g (pages_statements batch.pages) (mark_statement batch.number ∷ []) before after m in
      let mid = split.0 in
      let p = writes_pages g limits batch.pages store before mid of (recursion_from_All _ _ fits) has split.1 in
      let made = subst (Makes g (mark_statement batch.number) mid) split.2.2 split.2.1 in
      let s = mark_sets older g mid after batch.number store.number store.page_size (length (overwritten store.pages batch.pages)) p.0.shelf p.0.mark made in (
        record {
          shelf = s.shelf;
          mark = s.put;
          versions = λ page low. ap (λ l. map (λ (r : Row). column r 2) (filter (is_of_page page) l)) s.versions ∙ p.0.versions page low;
          parts = λ page place within low. ap (λ l. map (λ (r : Row). column r 3) (filter (is_at page place) l)) s.parts ∙ p.0.parts page place within low;
        },
        record { versions = ap length s.versions ∙ p.1.versions; parts = ap length s.parts ∙ p.1.parts; lives = s.lives ∙ p.1.lives },
      )
