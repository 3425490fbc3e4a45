-- What the statement of a batch's number makes of the tables.
use Rattle.std.proofs.Common.{◌≡◌, ℕ, pos, Bool, true, not, cond, List, [], ◌∷◌, map, filter, Ok, refl, sym, ap, ap₂, ◌∙◌, subst, subst₂, arith}
use Rattle.std.specs.Ordering.{is_eq}
use Rattle.std.proofs.lemmas.Bool.{and_from}
use Rattle.std.proofs.lemmas.Cmp.{tied_itself}
use Rattle.sqlite_value.specs.declared.value.Value.TheVariants.{Null, Int}
use Rattle.sqlite_value.specs.declared.keys.Collation.TheVariants.{Binary}
use Rattle.sqlite_value.specs.Order.{Row, column, value_cmp}
use Rattle.sqlite_value.proofs.OrderLemmas.{value_cmp_total}
use Rattle.sqlite_trees.specs.Tree.{Trees, has_rowid, put_row}
use Rattle.sqlite_trees.specs.declared.store.Store.{Ghosts}
use Rattle.sqlite_trees.specs.declared.store.Shape.TheVariants.{Table as shape}
use Rattle.sqlite_trees.specs.View.{IsShaped}
use Rattle.sqlite_sql.specs.Term.{Term, lit, col, op2}
use Rattle.sqlite_sql.specs.declared.ops.BinaryOp.TheVariants.{Compare}
use Rattle.sqlite_sql.specs.declared.ops.CompareOp.TheVariants.{Eq}
use Rattle.sqlite_schema.specs.Rules.{equal}
use Rattle.sqlite_schema.specs.declared.schema.Keys.TheVariants.{Enforced}
use Rattle.sqlite_schema.specs.declared.command.Command.TheVariants.{Update}
use Rattle.sqlite_rules.specs.declared.error.Rowids.TheVariants.{Given}
use Rattle.sqlite_rules.specs.Calls.{ids_of}
use Rattle.sqlite_rules.specs.Cast.{cast_row}
use Rattle.sqlite_rules.specs.Edit.{edit_of, edited, taken_by, without_all}
use Rattle.sqlite.specs.Effect.{Database}
use Rattle.sqlite.specs.Does.{Tally}
use Rattle.sqlite.specs.Rows.{Written}
use Rattle.sqlite.specs.State.{State, Executes}
use Rattle.sqlite.specs.Held.{state}
use Rattle.sqlite.proofs.Callers.{runs_as, one_step}
use Rattle.cb_shelf.specs.Statements.{Makes, mark_statement}
use Rattle.cb_shelf.specs.Reading.{mark_values}
use Rattle.cb_shelf_laws.specs.Tables.{schema, mark_tree, page_tree, part_tree, life_tree}
use Rattle.cb_shelf_laws.specs.Rows.{IsShelf, mark_columns, IsMarked, SetsNumber}
use Rattle.cb_shelf_laws.proofs.Equal.{equal_itself, cast_number, cast_null}
use Rattle.cb_shelf_laws.proofs.Replacing.{went, same_value}
use Rattle.cb_shelf_laws.proofs.Selecting.{program, passes, shown, tells_one}
use Rattle.cb_shelf_laws.proofs.Schemas.{mark_table, mark_there, page_clear, part_clear, life_clear}
use Rattle.cb_shelf_laws.proofs.Schemas.{no_works, did}
use Rattle.cb_shelf_laws.proofs.Texts.{mark_text, mark_query, mark_put, mark_plain}

-- one element is mapped to one
pub one_mapped : {X Y : Type 0} (f : X → Y) (xs : List X) (y : Y) → map f xs ≡ y ∷ [] → (x : X) × (xs ≡ x ∷ []) × (f x ≡ y)
one_mapped f [] y e = absurd cc
one_mapped f (x ∷ []) y e = (x, refl, cc)
one_mapped f (x ∷ z ∷ more) y e = absurd cc

abbrev pub mark_row : ℕ → ℕ → ℕ → Row
mark_row number page_size pages = Int (pos 1) ∷ Null ∷ Int (pos number) ∷ Int (pos page_size) ∷ Int (pos pages) ∷ []

module _ (older : Bool) where
  pub mark_cast : (number page_size pages : ℕ) → cast_row (mark_table older) (mark_row number page_size pages) ≡ mark_row number page_size pages
  mark_cast number page_size pages = rw (cast_number (pos 1), cast_null, cast_number (pos number), cast_number (pos page_size), cast_number (pos pages)) refl

  abbrev tests : List Term
  tests = op2 (Compare Eq Binary) (col 1 0) (lit (Int (pos 1))) ∷ []

  abbrev project : List Term
  project = col 1 0 ∷ col 1 0 ∷ lit Null ∷ col 0 0 ∷ col 1 3 ∷ col 1 4 ∷ []

  mark_executes : (old new : State) (count number before page_size pages : ℕ) → IsShelf older old.now → IsMarked older old.now before page_size pages
      → Executes mark_text (Int (pos number) ∷ []) old new (Ok count) → SetsNumber older number page_size pages old.now new.now
  mark_executes old new count number before page_size pages shelf marked h =
      let params = Int (pos number) ∷ [] in
      let db = old.now.trees in
      let row = mark_row number page_size pages in
      let command = Update (mark_tree older) (program (mark_query older)) in
      let w = runs_as mark_text params old new (schema older) shelf.schema command (mark_put older) (mark_plain older) count h in
      let done = went (did old new w.tally params (schema older) (mark_tree older) (mark_table older) command shelf.schema (mark_there older) w.changed) in
      let asked = went done.1 in
      let put = went asked.2 in
      let now = ap (λ (p : Tally × Database). p.1) (same_value (went (went done.2).2).2) in
      let trees : new.now.trees ≡ put.0 = ap (λ (d : Database). d.trees) now ∙ ap (λ (it : Written). it.trees) (same_value put.2) in
      let one = one_mapped mark_columns (db (mark_tree older)) (mark_values before page_size pages) marked in
      let r = one.0 in
      let id : column r 0 ≡ Int (pos 1) = ap (λ (l : Row). column l 0) one.2 in
      let size : column r 3 ≡ Int (pos page_size) = ap (λ (l : Row). column l 2) one.2 in
      let all : column r 4 ≡ Int (pos pages) = ap (λ (l : Row). column l 3) one.2 in
      let is : passes (mark_tree older) tests project params r ≡ true = and_from _ _ (subst (λ v. equal Binary v (Int (pos 1)) ≡ true) (sym id) (equal_itself (pos 1))) refl in
      let there : filter (passes (mark_tree older) tests project params) (db (mark_tree older)) ≡ r ∷ [] = ap (filter (passes (mark_tree older) tests project params)) one.1 ∙ ap (λ (b : Bool). cond b (r ∷ []) []) is in
      let shows : shown (mark_tree older) tests project params r ≡ Int (pos 1) ∷ row = rw (id, size, all) refl in
      let rows = tells_one (mark_tree older) tests project params (record { schema = schema older; trees = db }) asked.0 r there asked.1 ∙ ap (λ x. x ∷ []) shows in
      let edit = edit_of db (mark_table older) (ids_of asked.0) Given 1 asked.0 in
      let a = one_step (schema older) Enforced db put.0 edit (no_works older edit.table.tree (taken_by db edit) edit.news) put.1 in
      let has : has_rowid (pos 1) r ≡ true = ap (λ v. is_eq (value_cmp v (Int (pos 1)))) id ∙ ap is_eq (tied_itself value_cmp_total (Int (pos 1))) in
      let none : without_all (db (mark_tree older)) (pos 1 ∷ []) ≡ [] = ap (λ l. without_all l (pos 1 ∷ [])) one.1 ∙ ap (λ (b : Bool). cond (not b) (r ∷ []) []) has in
      let edit : edited db (edit_of db (mark_table older) (ids_of asked.0) Given 1 asked.0) ≡ row ∷ [] =
      ap (λ rs. edited db (edit_of db (mark_table older) (ids_of rs) Given 1 rs)) rows ∙ ap₂ put_row (mark_cast number page_size pages) none in
      let marks : new.now.trees (mark_tree older) ≡ row ∷ [] = ap (λ (t : Trees). t (mark_tree older)) trees ∙ a.rows ∙ edit in
      let versions = ap (λ (t : Trees). t (page_tree older)) trees ∙ a.others (page_tree older) (λ e. omega (arith, e)) (page_clear older) in
      let parts = ap (λ (t : Trees). t (part_tree older)) trees ∙ a.others (part_tree older) (λ e. omega (arith, e)) (part_clear older) in
      let lives = ap (λ (t : Trees). t (life_tree older)) trees ∙ a.others (life_tree older) (λ e. omega (arith, e)) (life_clear older) in
      record {
        shelf = record {
          schema = ap (λ (d : Database). d.schema) now;
          marks = subst (IsShaped shape) (sym marks) ((tt, tt), (refl, tt));
          pages = subst (IsShaped shape) (sym versions) shelf.pages;
          parts = subst (IsShaped shape) (sym parts) shelf.parts;
          lives = subst (IsShaped shape) (sym lives) shelf.lives;
        };
        put = ap (map mark_columns) marks;
        versions = versions;
        parts = parts;
        lives = lives;
      }

  pub mark_sets : {S : Type 0} (g : Ghosts S) (before after : Database) (number old page_size pages : ℕ) → IsShelf older before → IsMarked older before old page_size pages → Makes g (mark_statement number) before after
      → SetsNumber older number page_size pages before after
  mark_sets g before after number old page_size pages shelf marked m =
      subst₂ (SetsNumber older number page_size pages) m.starts m.ends
      (mark_executes (state g m.from) (state g m.to) m.count number old page_size pages (subst (IsShelf older) (sym m.starts) shelf) (subst (λ d. (IsMarked older) d old page_size pages) (sym m.starts) marked) m.runs)
