-- The tables that a shelf writes, as its schema has them.
use Rattle.std.specs.Prelude.{ℕ, ◌+◌, Bool, true, false, List, [], ◌∷◌, ◌++◌}
use Rattle.std.specs.Prelude.{codes, Some, None}
use Rattle.sqlite_value.specs.declared.keys.Collation.TheVariants.{Binary}
use Rattle.sqlite_value.specs.declared.value.Value.TheVariants.{Null}
use Rattle.sqlite_schema.specs.declared.schema.Kind.{Kind}
use Rattle.sqlite_schema.specs.declared.schema.Kind.TheVariants.{Integer, Blob}
use Rattle.sqlite_schema.specs.declared.schema.Column.{Column}
use Rattle.sqlite_schema.specs.declared.schema.Table.{Table}
use Rattle.sqlite_schema.specs.declared.schema.Schema.{Schema}
use Rattle.sqlite_catalog.specs.Change.{created}
use Rattle.cb_shelf.specs.Statements.{Statement}
use Rattle.cb_shelf.specs.Opening.{plain}

-- a column of a strict table
abbrev pub column : List ℕ → Kind → Bool → Column
column name kind not_null = record {
  name = name;
  kind = kind;
  is_strict = true;
  not_null = not_null;
  default = Null;
  collation = Binary;
}

-- a strict table with an integer key, the first of its columns
abbrev pub keyed : List ℕ → List Column → Table
keyed name columns = record {
  name = name;
  tree = 0;
  columns = columns;
  key = Some 0;
  primary = 0 ∷ [];
  uniques = [];
  orders = [];
  checks = [];
  references = [];
  computed = [];
  stamps = record { places = []; terms = []; formats = [] };
  is_counted = false;
}

abbrev pub mark_table : Table
mark_table = keyed (codes "mark2") (column (codes "id") Integer false
    ∷ column (codes "commits") Integer true ∷ column (codes "page_size") Integer true
    ∷ column (codes "pages") Integer true ∷ [])

abbrev pub page_table : Table
page_table = keyed (codes "page2") (column (codes "no") Integer false
    ∷ column (codes "version") Integer true ∷ [])

abbrev pub part_table : Table
part_table = record {
  name = codes "part";
  tree = 0;
  columns = column (codes "no") Integer true ∷ column (codes "place") Integer true
      ∷ column (codes "body") Blob true ∷ [];
  key = None;
  primary = 1 ∷ 2 ∷ [];
  uniques = (1 ∷ 2 ∷ []) ∷ [];
  orders = (record { digits = 0 }) ∷ [];
  checks = [];
  references = [];
  computed = [];
  stamps = record { places = []; terms = []; formats = [] };
  is_counted = false;
}

abbrev pub life_table : Table
life_table = keyed (codes "life") (column (codes "id") Integer false
    ∷ column (codes "floor") Integer true ∷ column (codes "below") Integer true ∷ [])

-- the tables of an older generation, which a shelf copies and leaves empty
abbrev pub old_page_table : Table
old_page_table = keyed (codes "page") (column (codes "no") Integer false
    ∷ column (codes "version") Integer true ∷ column (codes "body") Blob true ∷ [])

abbrev pub old_mark_table : Table
old_mark_table = keyed (codes "mark") (column (codes "id") Integer false
    ∷ column (codes "commits") Integer true ∷ column (codes "page_size") Integer true ∷ [])

abbrev pub old_page_text : List ℕ
old_page_text = codes "CREATE TABLE page(no INTEGER PRIMARY KEY, "
    ++ codes "version INTEGER NOT NULL, body BLOB NOT NULL) STRICT"

abbrev pub old_mark_text : List ℕ
old_mark_text = codes "CREATE TABLE mark(id INTEGER PRIMARY KEY, commits INTEGER NOT NULL, "
    ++ codes "page_size INTEGER NOT NULL) STRICT"

-- the statements that make them
abbrev pub old_statements : List Statement
old_statements = plain old_page_text ∷ plain old_mark_text ∷ []

-- the schema with no table
abbrev pub no_schema : Schema
no_schema = record { tables = []; indexes = []; views = [] }

-- the schema that they make
abbrev pub old_schema : Schema
old_schema = created (created no_schema old_page_table) old_mark_table

-- the schema that an open finds which makes the tables: the older ones, or none
abbrev pub found_schema : Bool → Schema
found_schema true = old_schema
found_schema false = no_schema

-- the schema that the first three statements make of it which create the tables: also that of
-- tables which a server served that kept no row of its lives
abbrev pub unlived_schema : Bool → Schema
unlived_schema true = created (created (created old_schema mark_table) page_table) part_table
unlived_schema false = created (created (created no_schema mark_table) page_table) part_table

-- the schema that all four make
abbrev pub schema : Bool → Schema
schema true =
    created (created (created (created old_schema mark_table) page_table) part_table) life_table
schema false =
    created (created (created (created no_schema mark_table) page_table) part_table) life_table

-- the trees of the rows of mark2, page2, part and life; the first three are each at the place of
-- its tree
abbrev pub mark_tree : Bool → ℕ
mark_tree true = 2
mark_tree false = 0

abbrev pub page_tree : Bool → ℕ
page_tree older = mark_tree older + 1

abbrev pub part_tree : Bool → ℕ
part_tree older = mark_tree older + 2

abbrev pub life_tree : Bool → ℕ
life_tree older = mark_tree older + 4

-- life is the fourth table; the tree between part's and its own is of part's key
abbrev pub life_place : Bool → ℕ
life_place older = mark_tree older + 3
