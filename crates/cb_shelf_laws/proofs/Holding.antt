-- The rows of the tables are a store's where what the tables answer is that store.
use Rattle.std.proofs.Common.{◌≡◌, Bool, ℕ, ◌<◌, pos, List, [], ◌∷◌, map, filter, length, length-set, refl, sym, ap, ◌∙◌, subst, subst₂, arith, ◌*◌}
use Rattle.sqlite_value.specs.declared.value.Value.TheVariants.{Int, Blob}
use Rattle.sqlite_value.specs.declared.keys.Collation.TheVariants.{Binary}
use Rattle.sqlite_value.specs.Order.{Row, column}
use Rattle.sqlite_trees.specs.declared.store.Store.{Ghosts}
use Rattle.sqlite_sql.specs.Term.{Term, col}
use Rattle.sqlite_schema.specs.Rules.{equal}
use Rattle.sqlite.specs.Effect.{Database}
use Rattle.cb_page.specs.Bounds.{Bounds}
use Rattle.cb_commit.specs.Stores.{StoreState, IsOf, version_at}
use Rattle.cb_commit.specs.declared.store.StoredPage.{StoredPage}
use Rattle.cb_commit.specs.declared.batch.BatchPage.{BatchPage}
use Rattle.cb_commit.specs.Batches.{BatchState, after_batch, overwritten}
use Rattle.cb_shelf.specs.Statements.{Statement, MakesAll, batch_statements, part_count}
use Rattle.cb_shelf.specs.Asking.{RepliesRow}
use Rattle.cb_shelf.specs.Writing.{Fits}
use Rattle.cb_shelf.specs.LifeRows.{LifeState}
use Rattle.cb_shelf.specs.Reading.{mark_values, number_values}
use Rattle.cb_shelf.specs.Newer.{HoldsNewer}
use Rattle.cb_shelf_laws.specs.Tables.{schema, mark_tree, page_tree, part_tree}
use Rattle.cb_shelf_laws.specs.Rows.{IsShelf, is_of_page, page_rows, part_rows, mark_columns}
use Rattle.cb_shelf_laws.specs.Rows.{IsMarked, HasVersion, HasPart, HasStore, PutsLife, is_at}
use Rattle.cb_shelf_laws.proofs.Counting.{all_pass, tells_count}
use Rattle.cb_shelf_laws.proofs.Lists.{filter_same}
use Rattle.cb_shelf_laws.proofs.Marking.{one_mapped}
use Rattle.cb_shelf_laws.proofs.Paging.{writes_batch}
use Rattle.cb_shelf_laws.proofs.Selecting.{one_test, two_tests, passes, told_row, tells_row}
use Rattle.cb_shelf_laws.proofs.Texts.{by_page, by_place, marks_text, marks_get, marks_unlisted}
use Rattle.cb_shelf_laws.proofs.Texts.{version_text, version_get, version_unlisted, bytes_text}
use Rattle.cb_shelf_laws.proofs.Texts.{bytes_get, bytes_unlisted, pages_text, pages_get}
use Rattle.cb_shelf_laws.proofs.Texts.{pages_unlisted, parts_text, parts_get, parts_unlisted}

-- a batch leaves as many pages as there were
pub over_pages : (pages : List StoredPage) (batch : List BatchPage) → length (overwritten pages batch) ≡ length pages
over_pages pages [] = refl
over_pages pages (w ∷ batch) = over_pages _ batch ∙ length-set pages w.page _

abbrev pub version_of : ℕ → Statement
version_of page = record { text = version_text; params = Int (pos page) ∷ [] }

abbrev pub part_of : ℕ → ℕ → Statement
part_of page place = record { text = bytes_text; params = Int (pos page) ∷ Int (pos place) ∷ [] }

module _ (older : Bool) where
  -- ---- the version of a page

  pub of_page : (db : Database) (page : ℕ) → filter (passes (page_tree older) by_page (col 1 2 ∷ []) (Int (pos page) ∷ [])) (db.trees (page_tree older)) ≡ page_rows older db page
  of_page db page = filter_same _ _ (db.trees (page_tree older)) (λ r here. one_test (is_of_page page r))

  version_told : (db : Database) (page version : ℕ) → db.schema ≡ schema older → RepliesRow db (version_of page) (number_values version) → HasVersion older db page version
  version_told db page version has h =
      let r = told_row (schema older) version_text (page_tree older) by_page (col 1 2 ∷ []) _ (version_get older) (version_unlisted older) (Int (pos page) ∷ []) db (number_values version) has h in
      ap (map (λ (r : Row). column r 2)) (sym (of_page db page) ∙ r.1) ∙ ap (λ v. v ∷ []) r.2.0

  version_tells : (db after : Database) (page before version : ℕ) → db.schema ≡ schema older → after.schema ≡ schema older → RepliesRow db (version_of page) (number_values before) → HasVersion older after page version
      → RepliesRow after (version_of page) (number_values version)
  version_tells db after page before version has still h is =
      let r = one_mapped (λ (r : Row). column r 2) (page_rows older after page) _ is in
      tells_row (schema older) version_text (page_tree older) by_page (col 1 2 ∷ []) _ (version_get older) (version_unlisted older) (Int (pos page) ∷ []) db after (number_values before) (number_values version) has still h r.0 (of_page after page ∙ r.1) (r.2, tt)

  -- ---- a part

  pub at_place : (db : Database) (page place : ℕ) → filter (passes (part_tree older) by_place (col 1 3 ∷ []) (Int (pos page) ∷ Int (pos place) ∷ [])) (db.trees (part_tree older)) ≡ part_rows older db page place
  at_place db page place = filter_same _ _ (db.trees (part_tree older)) (λ r here. two_tests (equal Binary (column r 1) (Int (pos page))) (equal Binary (column r 2) (Int (pos place))))

  part_told : (db : Database) (page place : ℕ) (bytes : List ℕ) → db.schema ≡ schema older → RepliesRow db (part_of page place) (Blob bytes ∷ []) → HasPart older db page place bytes
  part_told db page place bytes has h =
      let r = told_row (schema older) bytes_text (part_tree older) by_place (col 1 3 ∷ []) _ (bytes_get older) (bytes_unlisted older) (Int (pos page) ∷ Int (pos place) ∷ []) db (Blob bytes ∷ []) has h in
      ap (map (λ (r : Row). column r 3)) (sym (at_place db page place) ∙ r.1) ∙ ap (λ v. v ∷ []) r.2.0

  part_tells : (db after : Database) (page place : ℕ) (before bytes : List ℕ) → db.schema ≡ schema older → after.schema ≡ schema older → RepliesRow db (part_of page place) (Blob before ∷ []) → HasPart older after page place bytes
      → RepliesRow after (part_of page place) (Blob bytes ∷ [])
  part_tells db after page place before bytes has still h is =
      let r = one_mapped (λ (r : Row). column r 3) (part_rows older after page place) _ is in
      tells_row (schema older) bytes_text (part_tree older) by_place (col 1 3 ∷ []) _ (bytes_get older) (bytes_unlisted older) (Int (pos page) ∷ Int (pos place) ∷ []) db after (Blob before ∷ []) (Blob bytes ∷ []) has still h r.0 (at_place after page place ∙ r.1)
      (r.2, tt)

  -- ---- the mark

  abbrev pub mark_shown : List Term
  mark_shown = col 1 0 ∷ col 1 2 ∷ col 1 3 ∷ col 1 4 ∷ []

  mark_told : (db : Database) (number page_size pages : ℕ) → db.schema ≡ schema older → RepliesRow db (record { text = marks_text; params = [] }) (mark_values number page_size pages) → IsMarked older db number page_size pages
  mark_told db number page_size pages has h =
      let r = told_row (schema older) marks_text (mark_tree older) [] mark_shown _ (marks_get older) (marks_unlisted older) [] db (mark_values number page_size pages) has h in
      ap (map mark_columns) (sym (all_pass (db.trees (mark_tree older))) ∙ r.1) ∙ ap (λ v. v ∷ []) (rw (r.2.0, r.2.1.0, r.2.1.1.0, r.2.1.1.1.0) refl)

  mark_tells : (db after : Database) (before number page_size pages : ℕ) → db.schema ≡ schema older → after.schema ≡ schema older
      → RepliesRow db (record { text = marks_text; params = [] }) (mark_values before page_size pages) → IsMarked older after number page_size pages
      → RepliesRow after (record { text = marks_text; params = [] }) (mark_values number page_size pages)
  mark_tells db after before number page_size pages has still h is =
      let r = one_mapped mark_columns (after.trees (mark_tree older)) _ is in
      tells_row (schema older) marks_text (mark_tree older) [] mark_shown _ (marks_get older) (marks_unlisted older) [] db after (mark_values before page_size pages) (mark_values number page_size pages) has still h r.0 (all_pass (after.trees (mark_tree older)) ∙ r.1)
      (ap (λ (l : Row). column l 0) r.2, (ap (λ (l : Row). column l 1) r.2, (ap (λ (l : Row). column l 2) r.2, (ap (λ (l : Row). column l 3) r.2, tt))))

  -- ---- the store

  pub holds_rows : (db : Database) (store : StoreState) → IsShelf older db → HoldsNewer db store → HasStore older db store
  holds_rows db store shelf holds = record {
    shelf = shelf;
    mark = mark_told db store.number store.page_size (length store.pages) shelf.schema holds.mark;
    versions = λ page low. version_told db page (version_at store page) shelf.schema (holds.each page low).version;
    parts = λ page place low within. part_told db page place _ shelf.schema ((holds.each page low).parts place within);
  }

  -- the rows that another database has instead are what it answers
  rows_hold : (db after : Database) (store now : StoreState) → IsShelf older db → HoldsNewer db store → length now.pages ≡ length store.pages → now.page_size ≡ store.page_size → HasStore older after now → length (after.trees (page_tree older)) ≡ length (db.trees (page_tree older)) → length (after.trees (part_tree older)) ≡ length (db.trees (part_tree older))
      → HoldsNewer after now
  rows_hold db after store now shelf holds pages size has versions parts =
      let still = has.shelf.schema in
      record {
        mark = mark_tells db after store.number now.number now.page_size (length now.pages) shelf.schema still
            (subst₂ (λ s n. RepliesRow db (record { text = marks_text; params = [] }) (mark_values store.number s n)) (sym size) (sym pages) holds.mark) has.mark;
        pages = subst (λ n. RepliesRow after (record { text = pages_text; params = [] }) (number_values n)) (sym pages)
            (tells_count (schema older) pages_text (page_tree older) _ (pages_get older) (pages_unlisted older) [] db after (number_values (length store.pages)) shelf.schema still versions holds.pages);
        parts = subst₂ (λ s n. RepliesRow after (record { text = parts_text; params = [] }) (number_values (n * part_count s))) (sym size) (sym pages)
            (tells_count (schema older) parts_text (part_tree older) _ (parts_get older) (parts_unlisted older) [] db after (number_values (length store.pages * part_count store.page_size)) shelf.schema still parts holds.parts);
        each = λ page low.
            let there = holds.each page (omega (arith, low, pages)) in record {
              version = version_tells db after page _ (version_at now page) shelf.schema still there.version (has.versions page low);
              parts = λ place within. part_tells db after page place _ _ shelf.schema still (there.parts place (subst (λ s. place < part_count s) size within)) (has.parts page place low within);
            };
      }

  -- The statements of a batch that fits write it over the store that the tables hold.
  pub batch_held : {S : Type 0} (g : Ghosts S) (limits : Bounds) (store : StoreState) (batch : BatchState) (before after : Database) → IsShelf older before → IsOf limits store → HoldsNewer before store → Fits limits batch
      → MakesAll g (batch_statements batch) before after → IsShelf older after × HoldsNewer after (after_batch store batch)
  batch_held g limits store batch before after shelf of holds fits m =
      let wrote = writes_batch older g limits batch store before after of fits (holds_rows before store shelf holds) m in
      (wrote.0.shelf, rows_hold before after store (after_batch store batch) shelf holds (over_pages store.pages batch.pages) refl wrote.0 wrote.1.versions wrote.1.parts)

  -- The row of a life leaves the store that the tables hold.
  pub life_held : (store : StoreState) (life : LifeState) (before after : Database) → IsShelf older before → HoldsNewer before store → PutsLife older life before after → HoldsNewer after store
  life_held store life before after shelf holds p =
      let has = holds_rows before store shelf holds in
      rows_hold before after store store shelf holds refl refl (record {
        shelf = p.shelf;
        mark = ap (map mark_columns) p.marks ∙ has.mark;
        versions = λ page low. ap (λ l. map (λ (r : Row). column r 2) (filter (is_of_page page) l)) p.pages ∙ has.versions page low;
        parts = λ page place low within. ap (λ l. map (λ (r : Row). column r 3) (filter (is_at page place) l)) p.parts ∙ has.parts page place low within;
      }) (ap length p.pages) (ap length p.parts)
