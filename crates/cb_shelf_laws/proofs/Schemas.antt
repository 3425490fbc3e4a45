-- What the schemas of a shelf's tables have in common, whether older tables stand before them.
use Rattle.std.proofs.Common.{◌≡◌, ℕ, Bool, true, false, List, [], None, Some, Option, Ok, refl, subst, arith, slice_get}
use Rattle.sqlite_value.specs.Order.{Row}
use Rattle.sqlite_schema.specs.declared.schema.Table.{Table}
use Rattle.sqlite_schema.specs.declared.schema.Schema.{Schema}
use Rattle.sqlite_schema.specs.declared.schema.Keys.TheVariants.{Enforced}
use Rattle.sqlite_schema.specs.declared.command.Command.{Command}
use Rattle.sqlite_rules.specs.Action.{works}
use Rattle.sqlite_rules.specs.Edit.{IsNoIndex}
use Rattle.sqlite.specs.Does.{Tally, AtPlace, OnTable, OnRows}
use Rattle.sqlite.specs.State.{State, mode_of}
use Rattle.cb_shelf_laws.specs.Tables as tables
use Rattle.cb_shelf_laws.specs.Tables.{schema, mark_tree, page_tree, part_tree, life_tree}
use Rattle.cb_shelf_laws.specs.Tables.{life_place}

-- ---- the tables, as the schema has them

abbrev pub mark_table : Bool → Table
mark_table older = record tables.mark_table { tree = mark_tree older }

abbrev pub page_table : Bool → Table
page_table older = record tables.page_table { tree = page_tree older }

abbrev pub part_table : Bool → Table
part_table older = record tables.part_table { tree = part_tree older }

abbrev pub life_table : Bool → Table
life_table older = record tables.life_table { tree = life_tree older }

pub mark_there : (older : Bool) → slice_get (schema older).tables (mark_tree older) ≡ Some (mark_table older)
mark_there true = refl
mark_there false = refl

pub page_there : (older : Bool) → slice_get (schema older).tables (page_tree older) ≡ Some (page_table older)
page_there true = refl
page_there false = refl

pub part_there : (older : Bool) → slice_get (schema older).tables (part_tree older) ≡ Some (part_table older)
part_there true = refl
part_there false = refl

pub life_there : (older : Bool) → slice_get (schema older).tables (life_place older) ≡ Some (life_table older)
life_there true = refl
life_there false = refl

-- no tree of theirs is an index's
pub mark_clear : (older : Bool) → IsNoIndex (schema older) (mark_tree older)
mark_clear true = (λ e. omega (arith, e), tt)
mark_clear false = (λ e. omega (arith, e), tt)

pub page_clear : (older : Bool) → IsNoIndex (schema older) (page_tree older)
page_clear true = (λ e. omega (arith, e), tt)
page_clear false = (λ e. omega (arith, e), tt)

pub part_clear : (older : Bool) → IsNoIndex (schema older) (part_tree older)
part_clear true = (λ e. omega (arith, e), tt)
part_clear false = (λ e. omega (arith, e), tt)

pub life_clear : (older : Bool) → IsNoIndex (schema older) (life_tree older)
life_clear true = (λ e. omega (arith, e), tt)
life_clear false = (λ e. omega (arith, e), tt)

-- no foreign key acts
pub no_works : (older : Bool) (tree : ℕ) (olds news : List Row) → works (schema older) Enforced 0 tree olds news ≡ []
no_works true tree olds news = refl
no_works false tree olds news = refl

-- ---- a command on a table

-- it does what it says of the table that the schema has at its place
pub did : (old new : State) (tally : Tally) (params : Row) (schema : Schema) (at : ℕ) (table : Table) (command : Command) → old.now.schema ≡ schema → slice_get schema.tables at ≡ Some table
    → OnTable old.step_limit (mode_of old) params old.now at (λ task. OnRows task (mode_of old) None command old.now.trees) (Ok (tally, new.now))
    → OnRows (record { limit = old.step_limit; keys = (mode_of old).keys; schema = schema; table = table; params = params }) (mode_of old) None command old.now.trees (Ok (tally, new.now))
did old new tally params schema at table command has there h =
    subst (λ (o : Option Table). AtPlace (λ (t : Table). OnRows (record { limit = old.step_limit; keys = (mode_of old).keys; schema = schema; table = t; params = params }) (mode_of old) None command old.now.trees) o (Ok (tally, new.now))) there
    (subst (λ (s : Schema). AtPlace (λ (t : Table). OnRows (record { limit = old.step_limit; keys = (mode_of old).keys; schema = s; table = t; params = params }) (mode_of old) None command old.now.trees) (slice_get s.tables at) (Ok (tally, new.now))) has h)
