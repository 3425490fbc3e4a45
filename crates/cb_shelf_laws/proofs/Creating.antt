-- The statements that create the tables.
use Rattle.std.proofs.Common.{◌≡◌, ℕ, Bool, true, List, [], false, None, Ok, refl, sym, ap, ◌∙◌, subst, subst₂}
use Rattle.sqlite_tied.specs.Compute.{everything}
use Rattle.sqlite_trees.specs.Tree.{Trees}
use Rattle.sqlite_trees.specs.declared.store.Store.{Ghosts}
use Rattle.sqlite_trees.specs.declared.store.Shape.TheVariants.{Table as shape}
use Rattle.sqlite_trees.specs.View.{IsShaped}
use Rattle.sqlite_schema.specs.declared.schema.Table.{Table}
use Rattle.sqlite_schema.specs.declared.schema.Schema.{Schema}
use Rattle.sqlite_schema.specs.declared.command.Command.TheVariants.{CreateTable}
use Rattle.sqlite_catalog.specs.Change.{created, next_tree, KeepsRows}
use Rattle.sqlite.specs.Compile.{table_defined_by}
use Rattle.sqlite.specs.Effect.{Database}
use Rattle.sqlite.specs.Does.{Tally, lacks_sequence}
use Rattle.sqlite.specs.Given.{IsPlain}
use Rattle.sqlite.specs.Held.{state}
use Rattle.sqlite.specs.Listing.{understood}
use Rattle.sqlite.specs.State.{State, Writes, Executes}
use Rattle.sqlite.proofs.Callers.{command_of, statement_of, runs_as}
use Rattle.cb_shelf.specs.Statements.{Makes, MakesAll}
use Rattle.cb_shelf.specs.LifeRows as life
use Rattle.cb_shelf.specs.Opening as text
use Rattle.cb_shelf.specs.Opening.{plain, table_statements}
use Rattle.cb_shelf_laws.specs.Tables.{no_schema, old_schema, found_schema, schema, old_page_text}
use Rattle.cb_shelf_laws.specs.Tables.{old_mark_text, old_page_table, old_mark_table}
use Rattle.cb_shelf_laws.specs.Tables.{old_statements, unlived_schema, mark_table, page_table}
use Rattle.cb_shelf_laws.specs.Tables.{part_table, life_table, mark_tree, page_tree, part_tree}
use Rattle.cb_shelf_laws.specs.Tables.{life_tree}
use Rattle.cb_shelf_laws.specs.Rows.{IsShelf, HasNoRows}
use Rattle.cb_shelf_laws.proofs.Replacing.{went, same_value}

-- the schema once mark2 is made, and once page2 is
abbrev one : Bool → Schema
one true = created old_schema mark_table
one false = created no_schema mark_table

abbrev two : Bool → Schema
two true = created (one true) page_table
two false = created (one false) page_table

-- a text creates a table under a schema
pub record Creates (schema : Schema) (sql : List ℕ) (table : Table) : Type 0 where
  command : command_of (understood schema sql) ≡ CreateTable
  plain : IsPlain (understood schema sql)
  whole : statement_of sql (understood schema sql) ≡ sql
  defined : table_defined_by sql ≡ Ok table
  uncounted : lacks_sequence (created schema table) ≡ false

mark_creates : (older : Bool) → Creates (found_schema older) text.mark_table mark_table
unfolding understood everything
mark_creates true = record { command = refl; plain = (refl, refl); whole = refl; defined = refl; uncounted = refl }
mark_creates false = record { command = refl; plain = (refl, refl); whole = refl; defined = refl; uncounted = refl }

page_creates : (older : Bool) → Creates (one older) text.page_table page_table
unfolding understood everything
page_creates true = record { command = refl; plain = (refl, refl); whole = refl; defined = refl; uncounted = refl }
page_creates false = record { command = refl; plain = (refl, refl); whole = refl; defined = refl; uncounted = refl }

part_creates : (older : Bool) → Creates (two older) text.part_table part_table
unfolding understood everything
part_creates true = record { command = refl; plain = (refl, refl); whole = refl; defined = refl; uncounted = refl }
part_creates false = record { command = refl; plain = (refl, refl); whole = refl; defined = refl; uncounted = refl }

pub life_creates : (older : Bool) → Creates (unlived_schema older) life.life_table life_table
unfolding understood everything
life_creates true = record { command = refl; plain = (refl, refl); whole = refl; defined = refl; uncounted = refl }
life_creates false = record { command = refl; plain = (refl, refl); whole = refl; defined = refl; uncounted = refl }

old_page_creates : Creates no_schema old_page_text old_page_table
unfolding understood everything
old_page_creates = record { command = refl; plain = (refl, refl); whole = refl; defined = refl; uncounted = refl }

old_mark_creates : Creates (created no_schema old_page_table) old_mark_text old_mark_table
unfolding understood everything
old_mark_creates = record { command = refl; plain = (refl, refl); whole = refl; defined = refl; uncounted = refl }

pub record IsCreated (schema : Schema) (table : Table) (before after : Database) : Type 0 where
  pub is : after.schema ≡ created schema table
  pub empty : after.trees (next_tree schema) ≡ []
  pub others : KeepsRows schema.tables before.trees after.trees

creates : (schema : Schema) (sql : List ℕ) (table : Table) (old new : State) (count : ℕ) → Creates schema sql table → old.now.schema ≡ schema → Executes sql [] old new (Ok count) → IsCreated schema table old.now new.now
creates schema sql table old new count c has h =
    let w = subst (λ t. Writes old new None CreateTable t [] count) c.whole (runs_as sql [] old new schema has CreateTable c.command c.plain count h) in
    let all = went w.changed in
    let first = went all.1 in
    let made = first.1 in
    let both : Ok made.table ≡ Ok table = sym made.defined ∙ c.defined in
    let same : made.table ≡ table = cc in
    let is : first.0.schema ≡ created schema table = made.is ∙ ap (λ s. created s made.table) has ∙ ap (created schema) same in
    let none : lacks_sequence first.0.schema ≡ false = ap lacks_sequence is ∙ c.uncounted in
    let now : new.now ≡ first.0 = ap (λ (p : Tally × Database). p.1) (same_value all.2) ∙ same_value (rw none at first.2) in
    record {
      is = ap (λ (d : Database). d.schema) now ∙ is;
      empty = ap (λ (d : Database). d.trees (next_tree schema)) now ∙ subst (λ s. first.0.trees (next_tree s) ≡ []) has made.empty;
      others = subst (λ (d : Database). KeepsRows schema.tables old.now.trees d.trees) (sym now) (subst (λ (s : Schema). KeepsRows s.tables old.now.trees first.0.trees) has made.others);
    }

pub makes : {S : Type 0} (g : Ghosts S) (schema : Schema) (sql : List ℕ) (table : Table) (before after : Database) → Creates schema sql table → before.schema ≡ schema → Makes g (plain sql) before after → IsCreated schema table before after
makes g schema sql table before after c has m =
    subst₂ (IsCreated schema table) m.starts m.ends (creates schema sql table (state g m.from) (state g m.to) m.count c (ap (λ (d : Database). d.schema) m.starts ∙ has) m.runs)

-- the tables of an older generation are there
pub old_made : {S : Type 0} (g : Ghosts S) (before after : Database) → before.schema ≡ no_schema → MakesAll g old_statements before after → after.schema ≡ old_schema
old_made g before after has m =
    let first = makes g no_schema old_page_text old_page_table before m.0 old_page_creates has m.1 in
    let second = makes g (created no_schema old_page_table) old_mark_text old_mark_table m.0 m.2.0 old_mark_creates first.is m.2.1 in
    ap (λ (d : Database). d.schema) (sym m.2.2) ∙ second.is

-- ---- the four tables

first_is : (older : Bool) → created (found_schema older) mark_table ≡ one older
first_is true = refl
first_is false = refl

second_is : (older : Bool) → created (one older) page_table ≡ two older
second_is true = refl
second_is false = refl

third_is : (older : Bool) → created (two older) part_table ≡ unlived_schema older
third_is true = refl
third_is false = refl

pub fourth_is : (older : Bool) → created (unlived_schema older) life_table ≡ schema older
fourth_is true = refl
fourth_is false = refl

mark_next : (older : Bool) → next_tree (found_schema older) ≡ mark_tree older
mark_next true = refl
mark_next false = refl

page_next : (older : Bool) → next_tree (one older) ≡ page_tree older
page_next true = refl
page_next false = refl

part_next : (older : Bool) → next_tree (two older) ≡ part_tree older
part_next true = refl
part_next false = refl

pub life_next : (older : Bool) → next_tree (unlived_schema older) ≡ life_tree older
life_next true = refl
life_next false = refl

keeps_one : (older : Bool) (a b : Trees) → KeepsRows (one older).tables a b → b (mark_tree older) ≡ a (mark_tree older)
keeps_one true a b h = h.1.1.0
keeps_one false a b h = h.0

keeps_two : (older : Bool) (a b : Trees) → KeepsRows (two older).tables a b → (b (mark_tree older) ≡ a (mark_tree older)) × (b (page_tree older) ≡ a (page_tree older))
keeps_two true a b h = (h.1.1.0, h.1.1.1.0)
keeps_two false a b h = (h.0, h.1.0)

pub keeps_three : (older : Bool) (a b : Trees) → KeepsRows (unlived_schema older).tables a b → (b (mark_tree older) ≡ a (mark_tree older)) × (b (page_tree older) ≡ a (page_tree older)) × (b (part_tree older) ≡ a (part_tree older))
keeps_three true a b h = (h.1.1.0, h.1.1.1.0, h.1.1.1.1.0)
keeps_three false a b h = (h.0, h.1.0, h.1.1.0)

-- the four tables are there, with no row
pub tables_made : {S : Type 0} (g : Ghosts S) (older : Bool) (before after : Database) → before.schema ≡ found_schema older → MakesAll g table_statements before after → IsShelf older after × HasNoRows older after
tables_made g older before after has m =
    let first = makes g (found_schema older) text.mark_table mark_table before m.0 (mark_creates older) has m.1 in
    let second = makes g (one older) text.page_table page_table m.0 m.2.0 (page_creates older) (first.is ∙ first_is older) m.2.1 in
    let third = makes g (two older) text.part_table part_table m.2.0 m.2.2.0 (part_creates older) (second.is ∙ second_is older) m.2.2.1 in
    let fourth = makes g (unlived_schema older) life.life_table life_table m.2.2.0 m.2.2.2.0 (life_creates older) (third.is ∙ third_is older) m.2.2.2.1 in
    let last = m.2.2.2.2 in
    let db = m.2.2.2.0.trees in
    let kept = keeps_two older m.2.0.trees m.2.2.0.trees third.others in
    let still = keeps_three older m.2.2.0.trees db fourth.others in
    let marks : db (mark_tree older) ≡ [] = still.0 ∙ kept.0 ∙ keeps_one older m.0.trees m.2.0.trees second.others ∙ subst (λ t. m.0.trees t ≡ []) (mark_next older) first.empty in
    let pages : db (page_tree older) ≡ [] = still.1 ∙ kept.1 ∙ subst (λ t. m.2.0.trees t ≡ []) (page_next older) second.empty in
    let parts : db (part_tree older) ≡ [] = still.2 ∙ subst (λ t. m.2.2.0.trees t ≡ []) (part_next older) third.empty in
    let lives : db (life_tree older) ≡ [] = subst (λ t. db t ≡ []) (life_next older) fourth.empty in
    let none : HasNoRows older m.2.2.2.0 = record { marks = marks; pages = pages; parts = parts; lives = lives } in (
      subst (IsShelf older) last (record {
        schema = fourth.is ∙ fourth_is older;
        marks = subst (IsShaped shape) (sym marks) (tt, tt);
        pages = subst (IsShaped shape) (sym pages) (tt, tt);
        parts = subst (IsShaped shape) (sym parts) (tt, tt);
        lives = subst (IsShaped shape) (sym lives) (tt, tt);
      }),
      subst (HasNoRows older) last none,
    )
