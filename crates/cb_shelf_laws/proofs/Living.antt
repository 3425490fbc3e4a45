-- What the statement that puts the row of life makes of the tables, and what they answer then.
use Rattle.std.proofs.Common.{◌≡◌, ℕ, pos, Bool, true, false, ◌&&◌, ◌||◌, [], ◌∷◌, None, Ok, refl, sym, ap, ◌∙◌, subst, subst₂, arith}
use Rattle.sqlite_value.specs.declared.value.Value.TheVariants.{Null, Int}
use Rattle.sqlite_value.specs.Order.{Row}
use Rattle.sqlite_trees.specs.Tree.{Trees}
use Rattle.sqlite_trees.specs.declared.store.Store.{Ghosts}
use Rattle.sqlite_trees.specs.declared.store.Shape.TheVariants.{Table as shape}
use Rattle.sqlite_trees.specs.View.{IsShaped}
use Rattle.sqlite_trees.proofs.TreeLemmas.{IsShaped-filter, IsShaped-put_row}
use Rattle.sqlite_schema.specs.declared.schema.Keys.TheVariants.{Enforced}
use Rattle.sqlite_schema.specs.declared.command.Command.TheVariants.{InsertOr}
use Rattle.sqlite_schema.specs.declared.command.Conflict.TheVariants.{Replace}
use Rattle.sqlite_schema.specs.declared.command.Source.TheVariants.{Values}
use Rattle.sqlite_rules.specs.declared.error.Rowids.TheVariants.{Chosen}
use Rattle.sqlite_rules.specs.Cast.{cast_row}
use Rattle.sqlite_rules.specs.Edit.{with_rowid}
use Rattle.sqlite_rules.specs.Keys.{conflicts}
use Rattle.sqlite.specs.Effect.{Database}
use Rattle.sqlite.specs.Does.{Tally}
use Rattle.sqlite.specs.Rows.{Task}
use Rattle.sqlite.specs.State.{State, Executes}
use Rattle.sqlite.specs.Held.{state}
use Rattle.sqlite.proofs.Callers.{runs_as}
use Rattle.cb_shelf.specs.Statements.{Makes}
use Rattle.cb_shelf.specs.LifeRows.{LifeState, life_row}
use Rattle.cb_shelf_laws.specs.Tables.{schema, mark_tree, page_tree, part_tree, life_tree}
use Rattle.cb_shelf_laws.specs.Tables.{life_place}
use Rattle.cb_shelf_laws.specs.Rows.{IsShelf, is_of_page, PutsLife}
use Rattle.cb_shelf_laws.proofs.Equal.{equal_itself, cast_number, cast_null, plain_key}
use Rattle.cb_shelf_laws.proofs.Lists.{IsReplaced, alone_there}
use Rattle.cb_shelf_laws.proofs.Putting.{replaced}
use Rattle.cb_shelf_laws.proofs.Replacing.{went, same_value, inserts}
use Rattle.cb_shelf_laws.proofs.Schemas.{life_table, life_there, mark_clear, page_clear, part_clear}
use Rattle.cb_shelf_laws.proofs.Schemas.{no_works, did}
use Rattle.cb_shelf_laws.proofs.Texts.{life_text, life_terms, life_put, life_plain}

module _ (older : Bool) where
  abbrev line : LifeState → Row
  line life = Int (pos 1) ∷ Null ∷ Int (pos life.floor) ∷ Int (pos life.below) ∷ []

  line_cast : (life : LifeState) → cast_row (life_table older) (line life) ≡ line life
  line_cast life = rw (cast_number (pos 1), cast_number (pos life.floor), cast_number (pos life.below), cast_null) refl

  one_test : (x : Bool) → ((x && true) || false) ≡ x
  one_test true = refl
  one_test false = refl

  line_conflicts : (life : LifeState) (r : Row) → conflicts None (schema older).indexes (life_table older) (line life) r ≡ is_of_page 1 r
  line_conflicts life r = by older
    where
      by : (older : Bool) → conflicts None (schema older).indexes (life_table older) (line life) r ≡ is_of_page 1 r
      by true = rw plain_key (one_test (is_of_page 1 r))
      by false = rw plain_key (one_test (is_of_page 1 r))

  life_executes : (old new : State) (count : ℕ) (life : LifeState) → IsShelf older old.now → Executes life_text (Int (pos life.floor) ∷ Int (pos life.below) ∷ []) old new (Ok count) → PutsLife older life old.now new.now
  life_executes old new count life shelf h =
      let params = Int (pos life.floor) ∷ Int (pos life.below) ∷ [] in
      let row = line life in
      let command = InsertOr (life_place older) Replace (Values life_terms 4) [] in
      let w = runs_as life_text params old new (schema older) shelf.schema command (life_put older) (life_plain older) count h in
      let done = went (did old new w.tally params (schema older) (life_place older) (life_table older) command shelf.schema (life_there older) w.changed) in
      let task : Task = record { limit = old.step_limit; keys = Enforced; schema = schema older; table = life_table older; params = params } in
      let rows = old.now.trees (life_tree older) in
      let i = inserts task (no_works older (life_tree older)) row (line_cast life) old.now.trees row (Values life_terms 4) done.0 refl (λ all s. s.1)
      (ap (with_rowid Chosen rows) (line_cast life)) done.1 in
      let now = ap (λ (p : Tally × Database). p.1) (same_value (went (went done.2).2).2) in
      let trees : new.now.trees ≡ done.0.trees = ap (λ (d : Database). d.trees) now in
      let r = replaced task row old.now.trees done.0.trees i.0 (is_of_page 1) shelf.lives i.1 (λ x here. line_conflicts life x) i.2 in
      let s : IsReplaced (is_of_page 1) row rows (new.now.trees (life_tree older)) = subst (λ (t : Trees). IsReplaced (is_of_page 1) row rows (t (life_tree older))) (sym trees) r in
      let marks = ap (λ (t : Trees). t (mark_tree older)) trees ∙ i.2.others (mark_tree older) (λ e. omega (arith, e)) (mark_clear older) in
      let pages = ap (λ (t : Trees). t (page_tree older)) trees ∙ i.2.others (page_tree older) (λ e. omega (arith, e)) (page_clear older) in
      let parts = ap (λ (t : Trees). t (part_tree older)) trees ∙ i.2.others (part_tree older) (λ e. omega (arith, e)) (part_clear older) in
      record {
        shelf = record {
          schema = ap (λ (d : Database). d.schema) now;
          marks = subst (IsShaped shape) (sym marks) shelf.marks;
          pages = subst (IsShaped shape) (sym pages) shelf.pages;
          parts = subst (IsShaped shape) (sym parts) shelf.parts;
          lives = subst (IsShaped shape) (sym s.is) (IsShaped-put_row row _ refl (IsShaped-filter shape _ rows shelf.lives));
        };
        put = alone_there (is_of_page 1) row rows _ s (equal_itself (pos 1));
        marks = marks;
        pages = pages;
        parts = parts;
      }

  pub life_puts : {S : Type 0} (g : Ghosts S) (before after : Database) (life : LifeState) → IsShelf older before → Makes g (life_row life) before after → PutsLife older life before after
  life_puts g before after life shelf m =
      subst₂ (PutsLife older life) m.starts m.ends (life_executes (state g m.from) (state g m.to) m.count life (subst (IsShelf older) (sym m.starts) shelf) m.runs)
