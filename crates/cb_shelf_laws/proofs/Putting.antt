-- What the statements that put a page in make of the tables.
use Rattle.std.proofs.Common.{◌≡◌, ◌≢◌, ◌⊎◌, inl, inr, ℕ, ℤ, pos, Bool, true, false, not, ◌&&◌, ◌||◌, List, [], ◌∷◌, drop, map, None, Ok, refl, sym, ap, ◌∙◌, subst, subst₂, arith, true≢false}
use Rattle.std.specs.Ordering.{is_eq}
use Rattle.std.proofs.lemmas.Bool.{false_from_ne_true, and_parts, and_from}
use Rattle.sqlite_value.specs.declared.value.Value.TheVariants.{Null, Int, Blob}
use Rattle.sqlite_value.specs.declared.keys.Collation.TheVariants.{Binary}
use Rattle.sqlite_value.specs.Order.{Row, column, value_cmp}
use Rattle.sqlite_trees.specs.Tree.{Trees, rowid, put_row}
use Rattle.sqlite_trees.specs.declared.store.Store.{Ghosts}
use Rattle.sqlite_trees.specs.declared.store.Shape.TheVariants.{Table as shape}
use Rattle.sqlite_trees.specs.View.{IsShaped}
use Rattle.sqlite_trees.proofs.TreeLemmas.{IsShaped-filter, IsShaped-put_row}
use Rattle.sqlite_schema.specs.Rules.{equal}
use Rattle.sqlite_schema.specs.declared.schema.Keys.TheVariants.{Enforced}
use Rattle.sqlite_schema.specs.declared.command.Command.TheVariants.{InsertOr}
use Rattle.sqlite_schema.specs.declared.command.Conflict.TheVariants.{Replace}
use Rattle.sqlite_schema.specs.declared.command.Source.TheVariants.{Values}
use Rattle.sqlite_rules.specs.declared.error.Rowids.TheVariants.{Chosen}
use Rattle.sqlite_rules.specs.Calls.{ids_of}
use Rattle.sqlite_rules.specs.Cast.{cast_row}
use Rattle.sqlite_rules.specs.Edit.{next_rowid, with_rowid, is_taken}
use Rattle.sqlite_rules.specs.Keys.{AreConflicts, conflicts}
use Rattle.sqlite_rules.specs.Lists.{Has}
use Rattle.sqlite_rules.proofs.ListLemmas.{some_from}
use Rattle.sqlite_rules.proofs.PlaceLemmas.{next_is_free}
use Rattle.sqlite.specs.Effect.{Database}
use Rattle.sqlite.specs.Does.{Tally}
use Rattle.sqlite.specs.Rows.{Task}
use Rattle.sqlite.specs.State.{State, Executes}
use Rattle.sqlite.specs.Held.{state}
use Rattle.sqlite.proofs.Callers.{runs_as}
use Rattle.cb_shelf.specs.Statements.{Makes, page_statement, part_statement, part_at}
use Rattle.cb_shelf.specs.declared.rows.PageRows.TheVariants.{Absent}
use Rattle.cb_shelf_laws.specs.Tables.{schema, mark_tree, page_tree, part_tree, life_tree}
use Rattle.cb_shelf_laws.specs.Rows.{IsShelf, is_of_page, is_at, PutsVersion, PutsPart}
use Rattle.cb_shelf_laws.proofs.Equal.{equal_ties, equal_itself, equal_numbers, equal_both}
use Rattle.cb_shelf_laws.proofs.Equal.{cast_number, cast_null, plain_key}
use Rattle.cb_shelf_laws.proofs.Lists.{IsReplaced, alone_there, same_elsewhere, counted}
use Rattle.cb_shelf_laws.proofs.Lists.{filter_same}
use Rattle.cb_shelf_laws.proofs.Replacing.{went, same_value, taken_out, IsPut, inserts}
use Rattle.cb_shelf_laws.proofs.Schemas.{page_table, part_table, page_there, part_there, mark_clear}
use Rattle.cb_shelf_laws.proofs.Schemas.{page_clear, part_clear, life_clear, no_works, did}
use Rattle.cb_shelf_laws.proofs.Texts.{page_text, page_terms, page_put, page_plain, part_text}
use Rattle.cb_shelf_laws.proofs.Texts.{part_terms, part_put, part_plain}

-- The row is put in place of those that pass the test.
pub replaced : (task : Task) (new : Row) (db after : Trees) (found : List Row) (p : Row → Bool) → IsShaped shape (db task.table.tree)
    → AreConflicts None task.schema.indexes task.table (db task.table.tree) new found
    → ((r : Row) → Has (db task.table.tree) r → conflicts None task.schema.indexes task.table new r ≡ p r)
    → IsPut task new (ids_of found) db after → IsReplaced p new (db task.table.tree) (after task.table.tree)
replaced task new db after found p shaped are same put =
    let rows = db task.table.tree in
    let left = taken_out rows found (conflicts None task.schema.indexes task.table new) shaped are.sound are.complete ∙ filter_same _ (λ r. not (p r)) rows (λ r h. ap not (same r h)) in
    record { fresh = subst (λ l. is_taken l new ≡ false) left put.fresh; is = put.rows ∙ ap (put_row new) left }

module _ (older : Bool) where
  -- ---- the version of a page

  abbrev page_row : ℕ → ℕ → Row
  page_row page version = Int (pos page) ∷ Null ∷ Int (pos version) ∷ []

  page_cast : (page version : ℕ) → cast_row (page_table older) (page_row page version) ≡ page_row page version
  page_cast page version = rw (cast_number (pos page), cast_number (pos version), cast_null) refl

  one_test : (x : Bool) → ((x && true) || false) ≡ x
  one_test true = refl
  one_test false = refl

  page_conflicts : (page version : ℕ) (r : Row) → conflicts None (schema older).indexes (page_table older) (page_row page version) r ≡ is_of_page page r
  page_conflicts page version r = by older
    where
      by : (older : Bool) → conflicts None (schema older).indexes (page_table older) (page_row page version) r ≡ is_of_page page r
      by true = rw plain_key (one_test (is_of_page page r))
      by false = rw plain_key (one_test (is_of_page page r))

  page_executes : (old new : State) (count page version : ℕ) → IsShelf older old.now → Executes page_text (Int (pos page) ∷ Int (pos version) ∷ []) old new (Ok count) → PutsVersion older page version old.now new.now
  page_executes old new count page version shelf h =
      let params = Int (pos page) ∷ Int (pos version) ∷ [] in
      let row = page_row page version in
      let command = InsertOr (page_tree older) Replace (Values page_terms 3) [] in
      let w = runs_as page_text params old new (schema older) shelf.schema command (page_put older) (page_plain older) count h in
      let done = went (did old new w.tally params (schema older) (page_tree older) (page_table older) command shelf.schema (page_there older) w.changed) in
      let task : Task = record { limit = old.step_limit; keys = Enforced; schema = schema older; table = page_table older; params = params } in
      let rows = old.now.trees (page_tree older) in
      let i = inserts task (no_works older (page_tree older)) row (page_cast page version) old.now.trees row (Values page_terms 3) done.0 refl (λ all s. s.1)
      (ap (with_rowid Chosen rows) (page_cast page version)) done.1 in
      let now = ap (λ (p : Tally × Database). p.1) (same_value (went (went done.2).2).2) in
      let trees : new.now.trees ≡ done.0.trees = ap (λ (d : Database). d.trees) now in
      let r = replaced task row old.now.trees done.0.trees i.0 (is_of_page page) shelf.pages i.1 (λ x here. page_conflicts page version x) i.2 in
      let s : IsReplaced (is_of_page page) row rows (new.now.trees (page_tree older)) = subst (λ (t : Trees). IsReplaced (is_of_page page) row rows (t (page_tree older))) (sym trees) r in
      let marks = ap (λ (t : Trees). t (mark_tree older)) trees ∙ i.2.others (mark_tree older) (λ e. omega (arith, e)) (mark_clear older) in
      let parts = ap (λ (t : Trees). t (part_tree older)) trees ∙ i.2.others (part_tree older) (λ e. omega (arith, e)) (part_clear older) in
      let lives = ap (λ (t : Trees). t (life_tree older)) trees ∙ i.2.others (life_tree older) (λ e. omega (arith, e)) (life_clear older) in
      record {
        shelf = record {
          schema = ap (λ (d : Database). d.schema) now;
          marks = subst (IsShaped shape) (sym marks) shelf.marks;
          pages = subst (IsShaped shape) (sym s.is) (IsShaped-put_row row _ refl (IsShaped-filter shape _ rows shelf.pages));
          parts = subst (IsShaped shape) (sym parts) shelf.parts;
          lives = subst (IsShaped shape) (sym lives) shelf.lives;
        };
        put = alone_there (is_of_page page) row rows _ s (equal_itself (pos page));
        others = λ other apart.
            same_elsewhere (is_of_page page) row rows _ s (is_of_page other) (false_from_ne_true _ (λ is. apart (sym (equal_numbers page other is))))
            (λ x here is. false_from_ne_true _ (λ too. apart (equal_both (rowid x) other page is too)));
        count = counted (is_of_page page) row rows _ s;
        marks = marks;
        parts = parts;
        lives = lives;
      }

  pub page_puts : {S : Type 0} (g : Ghosts S) (before after : Database) (page version : ℕ) → IsShelf older before → Makes g (page_statement Absent page version) before after → PutsVersion older page version before after
  page_puts g before after page version shelf m =
      subst₂ (PutsVersion older page version) m.starts m.ends (page_executes (state g m.from) (state g m.to) m.count page version (subst (IsShelf older) (sym m.starts) shelf) m.runs)

  -- ---- a part of a page

  abbrev part_source : ℕ → ℕ → List ℕ → Row
  part_source page place bytes = Null ∷ Int (pos page) ∷ Int (pos place) ∷ Blob bytes ∷ []

  abbrev part_row : ℤ → ℕ → ℕ → List ℕ → Row
  part_row id page place bytes = Int id ∷ Int (pos page) ∷ Int (pos place) ∷ Blob bytes ∷ []

  source_cast : (page place : ℕ) (bytes : List ℕ) → cast_row (part_table older) (part_source page place bytes) ≡ part_source page place bytes
  source_cast page place bytes = rw (cast_number (pos page), cast_number (pos place), cast_null) refl

  part_cast : (id : ℤ) (page place : ℕ) (bytes : List ℕ) → cast_row (part_table older) (part_row id page place bytes) ≡ part_row id page place bytes
  part_cast id page place bytes = rw (cast_number id, cast_number (pos page), cast_number (pos place)) refl

  two_tests : (x y z : Bool) → x ≡ false → ((x && true) || ((y && (z && true)) || false)) ≡ (y && z)
  two_tests true y z e = absurd (true≢false e)
  two_tests false true true e = refl
  two_tests false true false e = refl
  two_tests false false z e = refl

  -- a row whose rowid is another
  rowid_apart : (id : ℤ) (rest : Row) (rows : List Row) (r : Row) → is_taken rows (Int id ∷ rest) ≡ false → Has rows r → equal Binary (rowid r) (Int id) ≡ false
  rowid_apart id rest rows r free here = false_from_ne_true _ (λ is.
      absurd (true≢false (sym (some_from (λ x. is_eq (value_cmp (rowid x) (Int id))) rows r here (ap is_eq (equal_ties (rowid r) (Int id) is))) ∙ free)))

  part_conflicts : (id : ℤ) (page place : ℕ) (bytes : List ℕ) (rows : List Row) (r : Row) → is_taken rows (part_row id page place bytes) ≡ false → Has rows r
      → conflicts None (schema older).indexes (part_table older) (part_row id page place bytes) r ≡ is_at page place r
  part_conflicts id page place bytes rows r free here = by older
    where
      tests : (equal Binary (rowid r) (Int id) && true) || ((equal Binary (column r 1) (Int (pos page)) && (equal Binary (column r 2) (Int (pos place)) && true)) || false) ≡ is_at page place r
      tests = two_tests (equal Binary (rowid r) (Int id)) (equal Binary (column r 1) (Int (pos page))) (equal Binary (column r 2) (Int (pos place))) (rowid_apart id (Int (pos page) ∷ Int (pos place) ∷ Blob bytes ∷ []) rows r free here)

      by : (older : Bool) → conflicts None (schema older).indexes (part_table older) (part_row id page place bytes) r ≡ is_at page place r
      by true = rw plain_key tests
      by false = rw plain_key tests

  part_executes : (old new : State) (count page place : ℕ) (bytes : List ℕ) → IsShelf older old.now
      → Executes part_text (Int (pos page) ∷ Int (pos place) ∷ Blob bytes ∷ []) old new (Ok count) → PutsPart older page place bytes old.now new.now
  part_executes old new count page place bytes shelf h =
      let params = Int (pos page) ∷ Int (pos place) ∷ Blob bytes ∷ [] in
      let rows = old.now.trees (part_tree older) in
      let id = next_rowid rows in
      let row = part_row id page place bytes in
      let p = is_at page place in
      let command = InsertOr (part_tree older) Replace (Values part_terms 4) [] in
      let w = runs_as part_text params old new (schema older) shelf.schema command (part_put older) (part_plain older) count h in
      let done = went (did old new w.tally params (schema older) (part_tree older) (part_table older) command shelf.schema (part_there older) w.changed) in
      let task : Task = record { limit = old.step_limit; keys = Enforced; schema = schema older; table = part_table older; params = params } in
      let i = inserts task (no_works older (part_tree older)) row (part_cast id page place bytes) old.now.trees (part_source page place bytes) (Values part_terms 4) done.0 refl (λ all s. s.1)
      (ap (with_rowid Chosen rows) (source_cast page place bytes)) done.1 in
      let now = ap (λ (p : Tally × Database). p.1) (same_value (went (went done.2).2).2) in
      let trees : new.now.trees ≡ done.0.trees = ap (λ (d : Database). d.trees) now in
      let free = next_is_free Chosen rows (drop 1 row) shelf.parts.0 shelf.parts.1 in
      let r = replaced task row old.now.trees done.0.trees i.0 p shelf.parts i.1 (λ x here. part_conflicts id page place bytes rows x free here) i.2 in
      let s : IsReplaced p row rows (new.now.trees (part_tree older)) = subst (λ (t : Trees). IsReplaced p row rows (t (part_tree older))) (sym trees) r in
      let marks = ap (λ (t : Trees). t (mark_tree older)) trees ∙ i.2.others (mark_tree older) (λ e. omega (arith, e)) (mark_clear older) in
      let pages = ap (λ (t : Trees). t (page_tree older)) trees ∙ i.2.others (page_tree older) (λ e. omega (arith, e)) (page_clear older) in
      let lives = ap (λ (t : Trees). t (life_tree older)) trees ∙ i.2.others (life_tree older) (λ e. omega (arith, e)) (life_clear older) in
      record {
        shelf = record {
          schema = ap (λ (d : Database). d.schema) now;
          marks = subst (IsShaped shape) (sym marks) shelf.marks;
          pages = subst (IsShaped shape) (sym pages) shelf.pages;
          parts = subst (IsShaped shape) (sym s.is) (IsShaped-put_row row _ refl (IsShaped-filter shape _ rows shelf.parts));
          lives = subst (IsShaped shape) (sym lives) shelf.lives;
        };
        put = ap (map (drop 1)) (alone_there p row rows _ s (and_from _ _ (equal_itself (pos page)) (equal_itself (pos place))));
        others = λ other at apart.
            same_elsewhere p row rows _ s (is_at other at)
            (false_from_ne_true _ (λ is. apart_at page place other at apart (equal_numbers page other (and_parts _ _ is).0) (equal_numbers place at (and_parts _ _ is).1)))
            (λ x here is. false_from_ne_true _ (λ too.
            apart_at page place other at apart (equal_both (column x 1) page other (and_parts _ _ too).0 (and_parts _ _ is).0) (equal_both (column x 2) place at (and_parts _ _ too).1 (and_parts _ _ is).1)));
        count = counted p row rows _ s;
        marks = marks;
        pages = pages;
        lives = lives;
      }
    where
      apart_at : (page place other at : ℕ) → (other ≢ page) ⊎ (at ≢ place) → page ≡ other → place ≡ at → ⊥
      apart_at page place other at (inl apart) same there = apart (sym same)
      apart_at page place other at (inr apart) same there = apart (sym there)

  pub part_puts : {S : Type 0} (g : Ghosts S) (before after : Database) (page place : ℕ) (bytes : List ℕ) → IsShelf older before → Makes g (part_statement Absent page bytes place) before after
      → PutsPart older page place (part_at bytes place) before after
  part_puts g before after page place bytes shelf m =
      subst₂ (PutsPart older page place (part_at bytes place)) m.starts m.ends
      (part_executes (state g m.from) (state g m.to) m.count page place (part_at bytes place) (subst (IsShelf older) (sym m.starts) shelf) m.runs)
