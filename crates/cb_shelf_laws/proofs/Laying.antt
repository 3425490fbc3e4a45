-- The statements that put a store into tables that were just made.
use Rattle.std.proofs.Common.{◌≡◌, inl, inr, ℕ, ◌<◌, pos, Bool, true, false, cond, slice_get, Some, List, [], ◌∷◌, ◌++◌, map, flat_map, filter, length, Ok, refl, sym, ap, ap₂, ◌∙◌, subst, subst₂, arith}
use Rattle.std.specs.List.{range_with_len}
use Rattle.sqlite_value.specs.declared.value.Value.TheVariants.{Int}
use Rattle.sqlite_value.specs.Order.{Row, column}
use Rattle.sqlite_trees.specs.Tree.{Trees, put_row}
use Rattle.sqlite_trees.specs.declared.store.Store.{Ghosts}
use Rattle.sqlite_trees.specs.declared.store.Shape.TheVariants.{Table as shape}
use Rattle.sqlite_trees.specs.View.{IsShaped}
use Rattle.sqlite_schema.specs.declared.schema.Table.{Table}
use Rattle.sqlite_schema.specs.declared.schema.Keys.TheVariants.{Enforced}
use Rattle.sqlite_schema.specs.declared.program.Program.{Program}
use Rattle.sqlite_schema.specs.declared.command.Command.TheVariants.{Insert, Delete}
use Rattle.sqlite_schema.specs.declared.command.Source.TheVariants.{Values}
use Rattle.sqlite_rules.specs.declared.error.Rowids.TheVariants.{Chosen, Given}
use Rattle.sqlite_rules.specs.Calls.{ids_of}
use Rattle.sqlite_rules.specs.Edit.{edit_of, edited, taken_by, with_rowid}
use Rattle.sqlite_rules.specs.Lists.{Has}
use Rattle.sqlite.specs.Effect.{Database}
use Rattle.sqlite.specs.Does.{Tally}
use Rattle.sqlite.specs.Rows.{Written}
use Rattle.sqlite.specs.State.{State, Executes}
use Rattle.sqlite.specs.Given.{IsPlain}
use Rattle.sqlite.specs.Held.{state}
use Rattle.sqlite.specs.Listing.{understood}
use Rattle.sqlite.proofs.Callers.{command_of, runs_as, one_step}
use Rattle.cb_commit.specs.Stores.{StoreState, IsSound, no_page, version_at, bytes_at}
use Rattle.cb_shelf.specs.Statements.{Makes, MakesAll, part_at, part_count}
use Rattle.cb_shelf.specs.declared.rows.PageRows.TheVariants.{Absent}
use Rattle.cb_shelf.specs.LifeRows.{life_row, unserved}
use Rattle.cb_shelf.specs.Opening.{plain, stored_statements, first_pages, mark_row, laid, table_statements, clear_statements}
use Rattle.cb_shelf_laws.specs.Tables.{schema, found_schema, old_page_table, old_mark_table}
use Rattle.cb_shelf_laws.specs.Tables.{mark_tree, page_tree, part_tree, life_tree}
use Rattle.cb_shelf_laws.specs.Rows.{IsShelf, IsLife, is_of_page, is_at, page_rows, part_rows}
use Rattle.cb_shelf_laws.specs.Rows.{mark_columns, SetsNumber, HasVersion, HasPart, HasStore}
use Rattle.cb_shelf_laws.specs.Rows.{HasFullPages}
use Rattle.cb_shelf_laws.proofs.Creating.{tables_made}
use Rattle.cb_shelf_laws.proofs.Living.{life_puts}
use Rattle.cb_shelf_laws.proofs.Marking as marking
use Rattle.cb_shelf_laws.proofs.Marking.{mark_cast}
use Rattle.cb_shelf_laws.proofs.Paging.{has_or_not, in_range, makes_split, puts_page}
use Rattle.cb_shelf_laws.proofs.Replacing.{went, same_value}
use Rattle.cb_shelf_laws.proofs.Schemas.{mark_table, mark_there, mark_clear, page_clear, part_clear}
use Rattle.cb_shelf_laws.proofs.Schemas.{life_clear, no_works, did}
use Rattle.cb_shelf_laws.proofs.Texts.{clear_page_text, clear_mark_text, clear_query, clear_page}
use Rattle.cb_shelf_laws.proofs.Texts.{clear_page_plain, clear_mark, clear_mark_plain, first_text}
use Rattle.cb_shelf_laws.proofs.Texts.{first_terms, first_put, first_plain}

module _ (older : Bool) where
  first_executes : (old new : State) (count number page_size pages : ℕ) → IsShelf older old.now → old.now.trees (mark_tree older) ≡ [] → Executes first_text (Int (pos number) ∷ Int (pos page_size) ∷ Int (pos pages) ∷ []) old new (Ok count)
      → SetsNumber older number page_size pages old.now new.now
  first_executes old new count number page_size pages shelf none h =
      let params = Int (pos number) ∷ Int (pos page_size) ∷ Int (pos pages) ∷ [] in
      let db = old.now.trees in
      let row = marking.mark_row number page_size pages in
      let command = Insert (mark_tree older) (Values first_terms 5) in
      let w = runs_as first_text params old new (schema older) shelf.schema command (first_put older) (first_plain older) count h in
      let done = went (did old new w.tally params (schema older) (mark_tree older) (mark_table older) command shelf.schema (mark_there older) w.changed) in
      let now = ap (λ (p : Tally × Database). p.1) (same_value (went (went done.2).2).2) in
      let given = went done.1 in
      let written = went (went given.2).2 in
      let counted = went written.2 in
      let trees : new.now.trees ≡ written.0 = ap (λ (d : Database). d.trees) now ∙ ap (λ (it : Written). it.trees) (same_value counted.2) ∙ same_value counted.1 in
      let edit = edit_of db (mark_table older) [] Chosen 0 given.0 in
      let a = one_step (schema older) Enforced db written.0 edit (no_works older edit.table.tree (taken_by db edit) edit.news) written.1 in
      let edit : edited db (edit_of db (mark_table older) [] Chosen 0 given.0) ≡ row ∷ [] =
      ap (λ all. edited db (edit_of db (mark_table older) [] Chosen 0 all)) given.1.1 ∙ ap₂ put_row (ap (with_rowid Chosen (db (mark_tree older))) (mark_cast older number page_size pages)) none in
      let marks : new.now.trees (mark_tree older) ≡ row ∷ [] = ap (λ (t : Trees). t (mark_tree older)) trees ∙ a.rows ∙ edit in
      let versions = ap (λ (t : Trees). t (page_tree older)) trees ∙ a.others (page_tree older) (λ e. omega (arith, e)) (page_clear older) in
      let parts = ap (λ (t : Trees). t (part_tree older)) trees ∙ a.others (part_tree older) (λ e. omega (arith, e)) (part_clear older) in
      let lives = ap (λ (t : Trees). t (life_tree older)) trees ∙ a.others (life_tree older) (λ e. omega (arith, e)) (life_clear older) in
      record {
        shelf = record {
          schema = ap (λ (d : Database). d.schema) now;
          marks = subst (IsShaped shape) (sym marks) ((tt, tt), (refl, tt));
          pages = subst (IsShaped shape) (sym versions) shelf.pages;
          parts = subst (IsShaped shape) (sym parts) shelf.parts;
          lives = subst (IsShaped shape) (sym lives) shelf.lives;
        };
        put = ap (map mark_columns) marks;
        versions = versions;
        parts = parts;
        lives = lives;
      }

  first_set : {S : Type 0} (g : Ghosts S) (before after : Database) (store : StoreState) → IsShelf older before → before.trees (mark_tree older) ≡ [] → Makes g (mark_row store) before after
      → SetsNumber older store.number store.page_size (length store.pages) before after
  first_set g before after store shelf none m =
      subst₂ (SetsNumber older store.number store.page_size (length store.pages)) m.starts m.ends
      (first_executes (state g m.from) (state g m.to) m.count store.number store.page_size (length store.pages) (subst (IsShelf older) (sym m.starts) shelf) (subst (λ (d : Database). d.trees (mark_tree older) ≡ []) (sym m.starts) none) m.runs)

  record HasPages (store : StoreState) (pages : List ℕ) (before after : Database) : Type 0 where
    shelf : IsShelf older after
    versions : (page : ℕ) → Has pages page → HasVersion older after page (version_at store page)
    parts : (page at : ℕ) → Has pages page → at < part_count (length (bytes_at store page)) → HasPart older after page at (part_at (bytes_at store page) at)
    other_versions : (page : ℕ) → (Has pages page → ⊥) → page_rows older after page ≡ page_rows older before page
    other_parts : (page at : ℕ) → (Has pages page → ⊥) → part_rows older after page at ≡ part_rows older before page at
    marks : after.trees (mark_tree older) ≡ before.trees (mark_tree older)
    lives : after.trees (life_tree older) ≡ before.trees (life_tree older)

  puts_pages : {S : Type 0} (g : Ghosts S) (store : StoreState) (pages : List ℕ) (before after : Database) → IsShelf older before → MakesAll g (flat_map (stored_statements store) pages) before after → HasPages store pages before after
  puts_pages g store [] before after shelf m = record {
    shelf = subst (IsShelf older) m shelf;
    versions = λ page h. absurd h;
    parts = λ page at h low. absurd h;
    other_versions = λ page none. ap (λ (d : Database). (page_rows older) d page) (sym m);
    other_parts = λ page at none. ap (λ (d : Database). (part_rows older) d page at) (sym m);
    marks = ap (λ (d : Database). d.trees (mark_tree older)) (sym m);
    lives = ap (λ (d : Database). d.trees (life_tree older)) (sym m);
  }
  puts_pages g store (page ∷ pages) before after shelf m =
      let split = makes_split g (stored_statements store page) (flat_map (stored_statements store) pages) before after m in
      let mid = split.0 in
      let p = puts_page older g Absent page (version_at store page) (bytes_at store page) before mid shelf tt (λ at low. tt) split.1 in
      let more = puts_pages g store pages mid after p.shelf split.2 in
      record {
        shelf = more.shelf;
        versions = λ other h. elim (has_or_not pages other) [
          | inl later ↦ more.versions other later
          | inr none ↦ elim h [
            | inl e ↦
                subst (λ k. (HasVersion older) after k (version_at store k)) (sym e)
                (ap (map (λ (r : Row). column r 2)) (more.other_versions page (λ there. none (subst (Has pages) (sym e) there))) ∙ p.put)
            | inr later ↦ absurd (none later)
          ]
        ];
        parts = λ other at h low. elim (has_or_not pages other) [
          | inl later ↦ more.parts other at later low
          | inr none ↦ elim h [
            | inl e ↦
                subst (λ k. (HasPart older) after k at (part_at (bytes_at store k) at)) (sym e)
                (ap (map (λ (r : Row). column r 3)) (more.other_parts page at (λ there. none (subst (Has pages) (sym e) there))) ∙ p.parts at (subst (λ k. at < part_count (length (bytes_at store k))) e low))
            | inr later ↦ absurd (none later)
          ]
        ];
        other_versions = λ other none. more.other_versions other (λ h. none (inr h)) ∙ p.other_versions other (λ e. none (inl e));
        other_parts = λ other at none. more.other_parts other at (λ h. none (inr h)) ∙ p.other_parts other at (λ e. none (inl e));
        marks = more.marks ∙ p.marks;
        lives = more.lives ∙ p.lives;
      }

  -- a shelf's tables have the rows that they had
  record Keeps (before after : Database) : Type 0 where
    shelf : IsShelf older after
    marks : after.trees (mark_tree older) ≡ before.trees (mark_tree older)
    versions : after.trees (page_tree older) ≡ before.trees (page_tree older)
    parts : after.trees (part_tree older) ≡ before.trees (part_tree older)
    lives : after.trees (life_tree older) ≡ before.trees (life_tree older)

-- ---- the older tables are emptied

empties : (old new : State) (count at : ℕ) (table : Table) (sql : List ℕ) (q : Program) → at < 2 → table.tree ≡ at → slice_get (schema true).tables at ≡ Some table
    → command_of (understood (schema true) sql) ≡ Delete at q → IsPlain (understood (schema true) sql) → IsShelf true old.now → Executes sql [] old new (Ok count) → Keeps true old.now new.now
empties old new count at table sql q low is there command plain shelf h =
    let w = runs_as sql [] old new (schema true) shelf.schema (Delete at q) command plain count h in
    let db = old.now.trees in
    let done = went (did old new w.tally [] (schema true) at table (Delete at q) shelf.schema there w.changed) in
    let now = ap (λ (p : Tally × Database). p.1) (same_value (went (went done.2).2).2) in
    let asked = went done.1 in
    let gone = went asked.2 in
    let trees : new.now.trees ≡ gone.0 = ap (λ (d : Database). d.trees) now ∙ ap (λ (it : Written). it.trees) (same_value gone.2) in
    let edit = edit_of db table (ids_of asked.0) Given 0 [] in
    let a = one_step (schema true) Enforced db gone.0 edit (no_works true edit.table.tree (taken_by db edit) edit.news) gone.1 in
    let marks = ap (λ (t : Trees). t (mark_tree true)) trees ∙ a.others (mark_tree true) (λ e. omega (arith, e, low, is)) (mark_clear true) in
    let versions = ap (λ (t : Trees). t (page_tree true)) trees ∙ a.others (page_tree true) (λ e. omega (arith, e, low, is)) (page_clear true) in
    let parts = ap (λ (t : Trees). t (part_tree true)) trees ∙ a.others (part_tree true) (λ e. omega (arith, e, low, is)) (part_clear true) in
    let lives = ap (λ (t : Trees). t (life_tree true)) trees ∙ a.others (life_tree true) (λ e. omega (arith, e, low, is)) (life_clear true) in
    record {
      shelf = record {
        schema = ap (λ (d : Database). d.schema) now;
        marks = subst (IsShaped shape) (sym marks) shelf.marks;
        pages = subst (IsShaped shape) (sym versions) shelf.pages;
        parts = subst (IsShaped shape) (sym parts) shelf.parts;
        lives = subst (IsShaped shape) (sym lives) shelf.lives;
      };
      marks = marks;
      versions = versions;
      parts = parts;
      lives = lives;
    }

emptied : {S : Type 0} (g : Ghosts S) (before after : Database) (at : ℕ) (table : Table) (sql : List ℕ) (q : Program) → at < 2 → table.tree ≡ at → slice_get (schema true).tables at ≡ Some table
    → command_of (understood (schema true) sql) ≡ Delete at q → IsPlain (understood (schema true) sql) → IsShelf true before → Makes g (plain sql) before after → Keeps true before after
emptied g before after at table sql q low is there command ok shelf m =
    subst₂ (Keeps true) m.starts m.ends (empties (state g m.from) (state g m.to) m.count at table sql q low is there command ok (subst (IsShelf true) (sym m.starts) shelf) m.runs)

old_emptied : {S : Type 0} (g : Ghosts S) (older : Bool) (before after : Database) → IsShelf older before → MakesAll g (cond older clear_statements []) before after → Keeps older before after
old_emptied g false before after shelf m = record {
  shelf = subst (IsShelf false) m shelf;
  marks = ap (λ (d : Database). d.trees (mark_tree false)) (sym m);
  versions = ap (λ (d : Database). d.trees (page_tree false)) (sym m);
  parts = ap (λ (d : Database). d.trees (part_tree false)) (sym m);
  lives = ap (λ (d : Database). d.trees (life_tree false)) (sym m);
}
old_emptied g true before after shelf m =
    let first = emptied g before m.0 0 old_page_table clear_page_text (clear_query 0) (omega arith) refl refl clear_page clear_page_plain shelf m.1 in
    let second = emptied g m.0 m.2.0 1 (record old_mark_table { tree = 1 }) clear_mark_text (clear_query 1) (omega arith) refl refl clear_mark clear_mark_plain first.shelf m.2.1 in
    subst (Keeps true before) m.2.2 (record { shelf = second.shelf; marks = second.marks ∙ first.marks; versions = second.versions ∙ first.versions; parts = second.parts ∙ first.parts; lives = second.lives ∙ first.lives })

-- a store with full pages that is put into new tables is what the rows are
pub full_laid : {S : Type 0} (g : Ghosts S) (older : Bool) (store : StoreState) (before after : Database) → HasFullPages store → before.schema ≡ found_schema older → MakesAll g (laid store older) before after
    → HasStore older after store
full_laid g older store before after full has m =
    let n = length store.pages in
    let made = makes_split g table_statements (first_pages store n ++ mark_row store ∷ life_row (unserved older) ∷ cond older clear_statements []) before after m in
    let tables = tables_made g older before made.0 has made.1 in
    let put = makes_split g (first_pages store n) (mark_row store ∷ life_row (unserved older) ∷ cond older clear_statements []) made.0 after made.2 in
    let p = puts_pages older g store (range_with_len 0 n) made.0 put.0 tables.0 put.1 in
    let s = first_set older g put.0 put.2.0 store p.shelf (p.marks ∙ tables.1.marks) put.2.1 in
    let l = life_puts older g put.2.0 put.2.2.0 (unserved older) s.shelf put.2.2.1 in
    let k = old_emptied g older put.2.2.0 after l.shelf put.2.2.2 in
    let there : (page : ℕ) → page < n → Has (range_with_len 0 n) page = λ page low. in_range n 0 page (omega arith) (omega (arith, low)) in
    record {
      shelf = k.shelf;
      mark = ap (map mark_columns) (k.marks ∙ l.marks) ∙ s.put;
      versions = λ page low. ap (λ l. map (λ (r : Row). column r 2) (filter (is_of_page page) l)) (k.versions ∙ l.pages ∙ s.versions) ∙ p.versions page (there page low);
      parts = λ page place low within.
          ap (λ l. map (λ (r : Row). column r 3) (filter (is_at page place) l)) (k.parts ∙ l.parts ∙ s.parts)
          ∙ p.parts page place (there page low) (subst (λ k. place < part_count k) (sym (full page no_page low)) within);
    }

-- and so is a sound one
pub store_laid : {S : Type 0} (g : Ghosts S) (older : Bool) (store : StoreState) (before after : Database) → IsSound store → before.schema ≡ found_schema older → MakesAll g (laid store older) before after → HasStore older after store
store_laid g older store before after sound has m = full_laid g older store before after (λ page other low. (sound.pages page other low).size) has m

-- and the row of life is that of tables that no server has served
pub life_laid : {S : Type 0} (g : Ghosts S) (older : Bool) (store : StoreState) (before after : Database) → before.schema ≡ found_schema older → MakesAll g (laid store older) before after → IsLife older after (unserved older)
life_laid g older store before after has m =
    let n = length store.pages in
    let made = makes_split g table_statements (first_pages store n ++ mark_row store ∷ life_row (unserved older) ∷ cond older clear_statements []) before after m in
    let tables = tables_made g older before made.0 has made.1 in
    let put = makes_split g (first_pages store n) (mark_row store ∷ life_row (unserved older) ∷ cond older clear_statements []) made.0 after made.2 in
    let p = puts_pages older g store (range_with_len 0 n) made.0 put.0 tables.0 put.1 in
    let s = first_set older g put.0 put.2.0 store p.shelf (p.marks ∙ tables.1.marks) put.2.1 in
    let l = life_puts older g put.2.0 put.2.2.0 (unserved older) s.shelf put.2.2.1 in
    let k = old_emptied g older put.2.2.0 after l.shelf put.2.2.2 in
    ap (filter (is_of_page 1)) k.lives ∙ l.put
