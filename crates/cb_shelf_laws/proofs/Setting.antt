-- What the statements of a page whose rows are there make of the tables.
use Rattle.std.proofs.Common.{◌≡◌, ◌≢◌, ◌⊎◌, inl, inr, ℕ, pos, Bool, true, false, not, List, [], ◌∷◌, map, filter, length, Ok, refl, sym, ap, ap₂, ◌∙◌, subst, subst₂, arith}
use Rattle.std.proofs.lemmas.Bool.{false_from_ne_true, and_parts, and_from, not-true}
use Rattle.sqlite_value.specs.declared.value.Value.TheVariants.{Null, Int, Blob}
use Rattle.sqlite_value.specs.declared.keys.Collation.TheVariants.{Binary}
use Rattle.sqlite_value.specs.Order.{Row, column}
use Rattle.sqlite_trees.specs.Tree.{Trees, rowid, put_row}
use Rattle.sqlite_trees.specs.declared.store.Store.{Ghosts}
use Rattle.sqlite_trees.specs.declared.store.Shape.TheVariants.{Table as shape}
use Rattle.sqlite_trees.specs.View.{IsShaped, is_int}
use Rattle.sqlite_trees.proofs.TreeLemmas.{IsShaped-filter, IsShaped-put_row}
use Rattle.sqlite_schema.specs.Rules.{equal}
use Rattle.sqlite_schema.specs.declared.schema.Table.{Table}
use Rattle.sqlite_schema.specs.declared.schema.Schema.{Schema}
use Rattle.sqlite_schema.specs.declared.schema.Keys.TheVariants.{Enforced}
use Rattle.sqlite_schema.specs.declared.schema.Kind.TheVariants.{Integer}
use Rattle.sqlite_schema.specs.declared.command.Command.TheVariants.{Update}
use Rattle.sqlite_rules.specs.declared.error.Rowids.TheVariants.{Given}
use Rattle.sqlite_rules.specs.Calls.{ids_of}
use Rattle.sqlite_rules.specs.Cast.{cast, cast_row}
use Rattle.sqlite_rules.specs.Edit.{edit_of, id_in, is_taken, taken_by, without_all, Applies}
use Rattle.sqlite_rules.specs.Lists.{Has}
use Rattle.sqlite_rules.proofs.ListLemmas.{all_has, has_filtered, has_kept}
use Rattle.sqlite_rules.proofs.TableLemmas.{int_is}
use Rattle.sqlite.specs.Effect.{Database}
use Rattle.sqlite.specs.Does.{Tally}
use Rattle.sqlite.specs.Rows.{Written}
use Rattle.sqlite.specs.State.{State, Executes}
use Rattle.sqlite.specs.Held.{state}
use Rattle.sqlite.proofs.Callers.{runs_as, one_step}
use Rattle.cb_shelf.specs.Statements.{Makes, page_statement, part_statement, part_at}
use Rattle.cb_shelf.specs.declared.rows.PageRows.TheVariants.{Present}
use Rattle.cb_shelf_laws.specs.Tables.{schema, mark_tree, page_tree, part_tree, life_tree}
use Rattle.cb_shelf_laws.specs.Rows.{IsShelf, is_of_page, is_at, page_rows, part_rows, HasVersion}
use Rattle.cb_shelf_laws.specs.Rows.{HasPart, SetsVersion, SetsPart}
use Rattle.cb_shelf_laws.proofs.Equal.{equal_both, cast_number, cast_null, cast_equal}
use Rattle.cb_shelf_laws.proofs.Lists.{IsReplaced, alone_there, same_elsewhere, counted}
use Rattle.cb_shelf_laws.proofs.Lists.{filter_same}
use Rattle.cb_shelf_laws.proofs.Marking.{one_mapped}
use Rattle.cb_shelf_laws.proofs.Replacing.{went, same_value, taken_out}
use Rattle.cb_shelf_laws.proofs.Selecting.{program, passes, tells_one, one_test, two_tests}
use Rattle.cb_shelf_laws.proofs.Schemas.{page_table, part_table, page_there, part_there, mark_clear}
use Rattle.cb_shelf_laws.proofs.Schemas.{page_clear, part_clear, life_clear, no_works, did}
use Rattle.cb_shelf_laws.proofs.Texts.{select, by_page, by_place, set_page_text, set_page_terms}
use Rattle.cb_shelf_laws.proofs.Texts.{set_page_put, set_page_plain, set_part_text, set_part_terms}
use Rattle.cb_shelf_laws.proofs.Texts.{set_part_put, set_part_plain}

-- ---- the one row that passes a test is set

module _ (p : Row → Bool) (rows : List Row) (r : Row) (one : filter p rows ≡ r ∷ []) where
  pub is_there : Has rows r × (p r ≡ true)
  is_there = has_filtered p rows r (subst (λ l. Has l r) (sym one) (inl refl))

  -- it has a whole number as its rowid
  pub has_id : IsShaped shape rows → rowid r ≡ Int (id_in (rowid r))
  has_id shaped = int_is (rowid r) (all_has (λ x. is_int (rowid x) ≡ true) rows r shaped.1 is_there.0)

  left_out : (source : Row) → IsShaped shape rows → without_all rows (ids_of ((rowid r ∷ source) ∷ [])) ≡ filter (λ x. not (p x)) rows
  left_out source shaped =
      taken_out rows ((rowid r ∷ []) ∷ []) p shaped
      (λ x h. (r, is_there.0, is_there.1, elim h [ inl e ↦ e | inr none ↦ absurd none ]))
      (λ y here passes. elim (subst (λ l. Has l y) one (has_kept p rows y here passes)) [ inl e ↦ inl (ap (λ x. rowid x ∷ []) e) | inr none ↦ absurd none ])

  -- what UPDATE puts there, if this is the only row that it finds
  pub set_there : (schema : Schema) (table : Table) (db next : Trees) (found : List Row) (source new : Row) → rows ≡ db table.tree → IsShaped shape rows → found ≡ (rowid r ∷ source) ∷ [] → cast_row table source ≡ new
      → Applies schema Enforced db (edit_of db table (ids_of found) Given 1 found) next → IsReplaced p new rows (next table.tree)
  set_there schema table db next found source new same shaped are cast a =
      let b = subst (λ (f : List Row). Applies schema Enforced db (edit_of db table (ids_of f) Given 1 f) next) are a in
      let left : without_all (db table.tree) (ids_of ((rowid r ∷ source) ∷ [])) ≡ filter (λ x. not (p x)) rows = ap (λ l. without_all l (ids_of ((rowid r ∷ source) ∷ []))) (sym same) ∙ left_out source shaped in
      record {
        fresh = subst₂ (λ (l : List Row) (n : Row). is_taken l n ≡ false) left cast (not-true _ (and_parts _ _ b.fresh).0);
        is = b.rows ∙ ap₂ put_row cast left;
      }

module _ (older : Bool) where
  -- ---- the version of a page

  page_executes : (old new : State) (count page before version : ℕ) → IsShelf older old.now → HasVersion older old.now page before
      → Executes set_page_text (Int (pos page) ∷ Int (pos version) ∷ []) old new (Ok count) → SetsVersion older page version old.now new.now
  page_executes old new count page before version shelf has h =
      let params = Int (pos page) ∷ Int (pos version) ∷ [] in
      let db = old.now.trees in
      let rows = db (page_tree older) in
      let p = is_of_page page in
      let command = Update (page_tree older) (program (select (page_tree older) by_page set_page_terms)) in
      let w = runs_as set_page_text params old new (schema older) shelf.schema command (set_page_put older) (set_page_plain older) count h in
      let done = went (did old new w.tally params (schema older) (page_tree older) (page_table older) command shelf.schema (page_there older) w.changed) in
      let asked = went done.1 in
      let put = went asked.2 in
      let now = ap (λ (p : Tally × Database). p.1) (same_value (went (went done.2).2).2) in
      let trees : new.now.trees ≡ put.0 = ap (λ (d : Database). d.trees) now ∙ ap (λ (it : Written). it.trees) (same_value put.2) in
      let one = one_mapped (λ (x : Row). column x 2) (page_rows older old.now page) (Int (pos before)) has in
      let r = one.0 in
      let id = has_id p rows r one.1 shelf.pages in
      let source = rowid r ∷ Null ∷ Int (pos version) ∷ [] in
      let row = Int (id_in (rowid r)) ∷ Null ∷ Int (pos version) ∷ [] in
      let casts : cast_row (page_table older) source ≡ row = ap (λ v. cast Integer v ∷ cast Integer Null ∷ cast Integer (Int (pos version)) ∷ []) id ∙ rw (cast_number (id_in (rowid r)), cast_null, cast_number (pos version)) refl in
      let there : filter (passes (page_tree older) by_page set_page_terms params) rows ≡ r ∷ [] = filter_same _ _ rows (λ x here. one_test (is_of_page page x)) ∙ one.1 in
      let found : asked.0 ≡ (rowid r ∷ source) ∷ [] = tells_one (page_tree older) by_page set_page_terms params (record { schema = schema older; trees = db }) asked.0 r there asked.1 in
      let edit = edit_of db (page_table older) (ids_of asked.0) Given 1 asked.0 in
      let a = one_step (schema older) Enforced db put.0 edit (no_works older edit.table.tree (taken_by db edit) edit.news) put.1 in
      let s0 = set_there p rows r one.1 (schema older) (page_table older) db put.0 asked.0 source row refl shelf.pages found casts a in
      let s : IsReplaced p row rows (new.now.trees (page_tree older)) = subst (λ (t : Trees). IsReplaced p row rows (t (page_tree older))) (sym trees) s0 in
      let of : p row ≡ true = subst (λ v. equal Binary v (Int (pos page)) ≡ true) id (is_there p rows r one.1).1 in
      let marks = ap (λ (t : Trees). t (mark_tree older)) trees ∙ a.others (mark_tree older) (λ e. omega (arith, e)) (mark_clear older) in
      let parts = ap (λ (t : Trees). t (part_tree older)) trees ∙ a.others (part_tree older) (λ e. omega (arith, e)) (part_clear older) in
      let lives = ap (λ (t : Trees). t (life_tree older)) trees ∙ a.others (life_tree older) (λ e. omega (arith, e)) (life_clear older) in
      record {
        shelf = record {
          schema = ap (λ (d : Database). d.schema) now;
          marks = subst (IsShaped shape) (sym marks) shelf.marks;
          pages = subst (IsShaped shape) (sym s.is) (IsShaped-put_row row _ refl (IsShaped-filter shape _ rows shelf.pages));
          parts = subst (IsShaped shape) (sym parts) shelf.parts;
          lives = subst (IsShaped shape) (sym lives) shelf.lives;
        };
        put = ap (map (λ (x : Row). column x 2)) (alone_there p row rows _ s of);
        others = λ other apart.
            same_elsewhere p row rows _ s (is_of_page other) (false_from_ne_true _ (λ is. apart (sym (equal_both (Int (id_in (rowid r))) page other of is))))
            (λ x here is. false_from_ne_true _ (λ too. apart (equal_both (rowid x) other page is too)));
        count = omega (arith, counted p row rows _ s, ap length one.1);
        marks = marks;
        parts = parts;
        lives = lives;
      }

  pub page_sets : {S : Type 0} (g : Ghosts S) (before after : Database) (page old version : ℕ) → IsShelf older before → HasVersion older before page old → Makes g (page_statement Present page version) before after
      → SetsVersion older page version before after
  page_sets g before after page old version shelf has m =
      subst₂ (SetsVersion older page version) m.starts m.ends
      (page_executes (state g m.from) (state g m.to) m.count page old version (subst (IsShelf older) (sym m.starts) shelf) (subst (λ d. (HasVersion older) d page old) (sym m.starts) has) m.runs)

  -- ---- a part of a page

  part_executes : (old new : State) (count page place : ℕ) (before bytes : List ℕ) → IsShelf older old.now → HasPart older old.now page place before
      → Executes set_part_text (Int (pos page) ∷ Int (pos place) ∷ Blob bytes ∷ []) old new (Ok count) → SetsPart older page place bytes old.now new.now
  part_executes old new count page place before bytes shelf has h =
      let params = Int (pos page) ∷ Int (pos place) ∷ Blob bytes ∷ [] in
      let db = old.now.trees in
      let rows = db (part_tree older) in
      let p = is_at page place in
      let command = Update (part_tree older) (program (select (part_tree older) by_place set_part_terms)) in
      let w = runs_as set_part_text params old new (schema older) shelf.schema command (set_part_put older) (set_part_plain older) count h in
      let done = went (did old new w.tally params (schema older) (part_tree older) (part_table older) command shelf.schema (part_there older) w.changed) in
      let asked = went done.1 in
      let put = went asked.2 in
      let now = ap (λ (p : Tally × Database). p.1) (same_value (went (went done.2).2).2) in
      let trees : new.now.trees ≡ put.0 = ap (λ (d : Database). d.trees) now ∙ ap (λ (it : Written). it.trees) (same_value put.2) in
      let one = one_mapped (λ (x : Row). column x 3) (part_rows older old.now page place) (Blob before) has in
      let r = one.0 in
      let id = has_id p rows r one.1 shelf.parts in
      let no = cast Integer (column r 1) in
      let at = cast Integer (column r 2) in
      let source = rowid r ∷ column r 1 ∷ column r 2 ∷ Blob bytes ∷ [] in
      let row = Int (id_in (rowid r)) ∷ no ∷ at ∷ Blob bytes ∷ [] in
      let casts : cast_row (part_table older) source ≡ row = ap (λ v. v ∷ no ∷ at ∷ Blob bytes ∷ []) (ap (cast Integer) id ∙ cast_number (id_in (rowid r))) in
      let there : filter (passes (part_tree older) by_place set_part_terms params) rows ≡ r ∷ [] =
      filter_same _ _ rows (λ x here. two_tests (equal Binary (column x 1) (Int (pos page))) (equal Binary (column x 2) (Int (pos place)))) ∙ one.1 in
      let found : asked.0 ≡ (rowid r ∷ source) ∷ [] = tells_one (part_tree older) by_place set_part_terms params (record { schema = schema older; trees = db }) asked.0 r there asked.1 in
      let edit = edit_of db (part_table older) (ids_of asked.0) Given 1 asked.0 in
      let a = one_step (schema older) Enforced db put.0 edit (no_works older edit.table.tree (taken_by db edit) edit.news) put.1 in
      let s0 = set_there p rows r one.1 (schema older) (part_table older) db put.0 asked.0 source row refl shelf.parts found casts a in
      let s : IsReplaced p row rows (new.now.trees (part_tree older)) = subst (λ (t : Trees). IsReplaced p row rows (t (part_tree older))) (sym trees) s0 in
      let was = and_parts _ _ (is_there p rows r one.1).1 in
      let of_page : equal Binary no (Int (pos page)) ≡ true = cast_equal (column r 1) (pos page) was.0 in
      let of_place : equal Binary at (Int (pos place)) ≡ true = cast_equal (column r 2) (pos place) was.1 in
      let marks = ap (λ (t : Trees). t (mark_tree older)) trees ∙ a.others (mark_tree older) (λ e. omega (arith, e)) (mark_clear older) in
      let pages = ap (λ (t : Trees). t (page_tree older)) trees ∙ a.others (page_tree older) (λ e. omega (arith, e)) (page_clear older) in
      let lives = ap (λ (t : Trees). t (life_tree older)) trees ∙ a.others (life_tree older) (λ e. omega (arith, e)) (life_clear older) in
      record {
        shelf = record {
          schema = ap (λ (d : Database). d.schema) now;
          marks = subst (IsShaped shape) (sym marks) shelf.marks;
          pages = subst (IsShaped shape) (sym pages) shelf.pages;
          parts = subst (IsShaped shape) (sym s.is) (IsShaped-put_row row _ refl (IsShaped-filter shape _ rows shelf.parts));
          lives = subst (IsShaped shape) (sym lives) shelf.lives;
        };
        put = ap (map (λ (x : Row). column x 3)) (alone_there p row rows _ s (and_from _ _ of_page of_place));
        others = λ other beside apart.
            same_elsewhere p row rows _ s (is_at other beside)
            (false_from_ne_true _ (λ is. apart_at page place other beside apart (equal_both no page other of_page (and_parts _ _ is).0) (equal_both at place beside of_place (and_parts _ _ is).1)))
            (λ x here is. false_from_ne_true _ (λ too.
            apart_at page place other beside apart (equal_both (column x 1) page other (and_parts _ _ too).0 (and_parts _ _ is).0) (equal_both (column x 2) place beside (and_parts _ _ too).1 (and_parts _ _ is).1)));
        count = omega (arith, counted p row rows _ s, ap length one.1);
        marks = marks;
        pages = pages;
        lives = lives;
      }
    where
      apart_at : (page place other at : ℕ) → (other ≢ page) ⊎ (at ≢ place) → page ≡ other → place ≡ at → ⊥
      apart_at page place other at (inl apart) same there = apart (sym same)
      apart_at page place other at (inr apart) same there = apart (sym there)

  pub part_sets : {S : Type 0} (g : Ghosts S) (before after : Database) (page place : ℕ) (old bytes : List ℕ) → IsShelf older before → HasPart older before page place old → Makes g (part_statement Present page bytes place) before after
      → SetsPart older page place (part_at bytes place) before after
  part_sets g before after page place old bytes shelf has m =
      subst₂ (SetsPart older page place (part_at bytes place)) m.starts m.ends
      (part_executes (state g m.from) (state g m.to) m.count page place old (part_at bytes place) (subst (IsShelf older) (sym m.starts) shelf) (subst (λ d. (HasPart older) d page place old) (sym m.starts) has) m.runs)
