-- What an open may do to a database.
use Rattle.std.specs.Prelude.{◌≡◌, ◌<◌, ◌⊎◌, ℕ, pos, Bool, true, false, if◌then◌else◌, List, []}
use Rattle.std.specs.Prelude.{◌∷◌, ◌++◌, length, IsTrue, codes}
use Rattle.std.specs.List.{range_with_len, flat_map}
use Rattle.sqlite.specs.declared.types.Value.TheVariants.{Int}
use Rattle.sqlite.specs.Store.{Ghosts}
use Rattle.sqlite.specs.Effect.{Database}
use Rattle.sqlite.specs.Tree.{Trees}
use Rattle.sqlite.specs.Held.{Held, state}
use Rattle.cb_page.specs.Bounds.{Bounds}
use Rattle.cb_commit.specs.Stores.{StoreState, IsOf, zeros, version_at, bytes_at}
use Rattle.sqlite_schema.specs.declared.schema.Schema.{Schema}
use Rattle.cb_shelf.specs.Inside.{can_answer}
use Rattle.cb_shelf.specs.declared.opening.TablesFound.{TablesFound}
use Rattle.cb_shelf.specs.declared.opening.TablesFound.TheVariants.{Nothing as none, Old as older}
use Rattle.cb_shelf.specs.declared.opening.TablesFound.TheVariants.{New as newer}
use Rattle.cb_shelf.specs.declared.opening.Found.{Found}
use Rattle.cb_shelf.specs.declared.opening.Found.TheVariants.{Nothing, Old, New}
use Rattle.cb_shelf.specs.Statements.{Statement, MakesAll, page_statements}
use Rattle.cb_shelf.specs.declared.rows.PageRows.TheVariants.{Absent}
use Rattle.cb_shelf.specs.Asking.{RepliesRow, RepliesElse}
use Rattle.cb_shelf.specs.declared.reading.Generation.TheVariants.{Older, Newer}
use Rattle.cb_shelf.specs.LifeRows.{life_row, life_table, unserved}
use Rattle.cb_shelf.specs.Reading.{question, number_values, IsNumber, Holds, Misfits}

-- a statement with no parameters
abbrev pub plain : List ℕ → Statement
plain text = record { text = text; params = [] }

abbrev pub mark_table : List ℕ
mark_table = codes "CREATE TABLE mark2(id INTEGER PRIMARY KEY, commits INTEGER NOT NULL, "
    ++ codes "page_size INTEGER NOT NULL, pages INTEGER NOT NULL) STRICT"

abbrev pub page_table : List ℕ
page_table = codes "CREATE TABLE page2(no INTEGER PRIMARY KEY, version INTEGER NOT NULL) STRICT"

abbrev pub part_table : List ℕ
part_table = codes "CREATE TABLE part(no INTEGER NOT NULL, place INTEGER NOT NULL, "
    ++ codes "body BLOB NOT NULL, PRIMARY KEY(no, place)) STRICT"

-- makes the four tables
abbrev pub table_statements : List Statement
table_statements =
    plain mark_table ∷ plain page_table ∷ plain part_table ∷ plain life_table ∷ []

-- puts a page of a store in
abbrev pub stored_statements : StoreState → ℕ → List Statement
stored_statements store page =
    page_statements Absent page (version_at store page) (bytes_at store page)

-- sets the first pages of a store, so many
abbrev pub first_pages : StoreState → ℕ → List Statement
first_pages store count = flat_map (stored_statements store) (range_with_len 0 count)

-- puts the one row in that has the number of the last commit and the limits
abbrev pub mark_row : StoreState → Statement
mark_row store = record {
  text = codes "INSERT INTO mark2 (id, commits, page_size, pages) VALUES (1, ?1, ?2, ?3)";
  params = Int (pos store.number) ∷ Int (pos store.page_size) ∷ Int (pos (length store.pages)) ∷ [];
}

-- takes all rows of the old tables out
abbrev pub clear_statements : List Statement
clear_statements = plain (codes "DELETE FROM page") ∷ plain (codes "DELETE FROM mark") ∷ []

-- makes the tables and puts a store in; where it was copied, the old tables are emptied
abbrev pub laid : StoreState → Bool → List Statement
laid store copied = table_statements
    ++ (first_pages store (length store.pages)
    ++ (mark_row store ∷ life_row (unserved copied) ∷ (if copied then clear_statements else [])))

-- a database that statements make of the one which an open connection sees
abbrev pub LaidBy : {S : Type 0} → Ghosts S → List Statement → Held S → Trees → Type 0
LaidBy g statements old trees = IsTrue (state g old).is_open
    × (db : Database) × MakesAll g statements (state g old).now db × (trees ≡ db.trees)

-- a store that was found is of these limits
abbrev pub IsFound : Bounds → Found → Type 0
IsFound limits Nothing = Unit {0}
IsFound limits (Old store) = IsOf limits store
IsFound limits New = Unit {0}

abbrev pub page_count : List ℕ
page_count = codes "SELECT count(*) FROM page"

abbrev pub mark_count : List ℕ
mark_count = codes "SELECT count(*) FROM mark"

-- the tables of the older generation are all there, or none is
abbrev pub HasOld : Schema → Bool → Type 0
HasOld schema there = (can_answer schema (codes "SELECT no, version, body FROM page") ≡ there)
    × (can_answer schema (codes "SELECT id, commits, page_size FROM mark") ≡ there)

-- the tables that a shelf writes are all there, or none is
abbrev pub HasNew : Schema → Bool → Type 0
HasNew schema there =
    (can_answer schema (codes "SELECT id, commits, page_size, pages FROM mark2") ≡ there)
    × (can_answer schema (codes "SELECT no, version FROM page2") ≡ there)
    × (can_answer schema (codes "SELECT no, place, body FROM part") ≡ there)

-- the older tables have rows, or they have none
abbrev pub HasRows : Database → Bool → Type 0
HasRows db true = ((count : ℕ) × (0 < count)
    × RepliesRow db (question page_count) (number_values count))
    ⊎ ((count : ℕ) × (0 < count) × RepliesRow db (question mark_count) (number_values count))
HasRows db false = RepliesRow db (question page_count) (number_values 0)
    × RepliesRow db (question mark_count) (number_values 0)

-- whether there are older tables with a row, where it is known if they are there
abbrev pub HasRowsIf : Bool → Database → Bool → Type 0
HasRowsIf true db rows = HasRows db rows
HasRowsIf false db rows = rows ≡ false

-- the older tables don't say how many rows they have
abbrev pub Uncounted : Database → Type 0
Uncounted db = RepliesElse db (question page_count) IsNumber
    ⊎ RepliesElse db (question mark_count) IsNumber

-- the older tables are not there, or they have no rows
abbrev pub HasNoRows : Database → Type 0
HasNoRows db = HasOld db.schema false ⊎ (HasOld db.schema true × HasRows db false)

-- Which tables a database has: none; only older ones, with rows; or those that a shelf writes, and
-- no older row.
abbrev pub Has : Database → TablesFound → Type 0
Has db none = HasOld db.schema false × HasNew db.schema false
Has db older = HasOld db.schema true × HasRows db true × HasNew db.schema false
Has db newer = HasNew db.schema true × HasNoRows db

-- Tables of which no store is opened or copied: only some of a generation; both generations, the
-- older one with rows; older ones with no rows, and none that a shelf writes; or older ones that
-- don't say how many rows they have.
pub data IsMixed (db : Database) : Type 0 where
  some_old : ((there : Bool) → ¬ HasOld db.schema there) → IsMixed db
  some_new : ((there : Bool) → ¬ HasNew db.schema there) → IsMixed db
  both : HasOld db.schema true → HasRows db true → HasNew db.schema true → IsMixed db
  bare : HasOld db.schema true → HasRows db false → HasNew db.schema false → IsMixed db
  uncounted : HasOld db.schema true → Uncounted db → IsMixed db

-- the tables that a find is of
abbrev pub tables_of : Found → TablesFound
tables_of Nothing = none
tables_of (Old store) = older
tables_of New = newer

-- the store that was found is in the tables
abbrev pub IsFoundIn : Bounds → Database → Found → Type 0
IsFoundIn limits db Nothing = Unit {0}
IsFoundIn limits db (Old store) = Holds Older db store
IsFoundIn limits db New = (store : StoreState) × IsOf limits store × Holds Newer db store

-- the rows of these tables are no store of the limits
abbrev pub MisfitsFor : TablesFound → Bounds → Database → Type 0
MisfitsFor none limits db = ⊥
MisfitsFor older limits db = Misfits Older limits db
MisfitsFor newer limits db = Misfits Newer limits db

-- what a look finds: which tables there are, and the store in them
abbrev pub Finds : Bounds → Database → Found → Type 0
Finds limits db found = Has db (tables_of found) × IsFoundIn limits db found

-- the tables are of no store of these limits
pub data Misshapen (limits : Bounds) (db : Database) : Type 0 where
  mixed : IsMixed db → Misshapen limits db
  older_rows : Has db older → Misfits Older limits db → Misshapen limits db
  newer_rows : Has db newer → Misfits Newer limits db → Misshapen limits db

-- The tables are there already, with a store of these limits; or there were none, and they are made
-- with zeros; or only those of the older generation were, and the store in them is copied, and they
-- are emptied.
abbrev pub LaysOut : {S : Type 0} → Ghosts S → Bounds → Database → Database → Type 0
LaysOut g limits before after =
    (Finds limits before New × (before ≡ after))
    ⊎ ((Finds limits before Nothing × MakesAll g (laid (zeros limits) false) before after)
    ⊎ ((store : StoreState) × Finds limits before (Old store) × IsOf limits store
    × MakesAll g (laid store true) before after))

-- a database that an open may make of the one which a connection sees
abbrev pub Opened : {S : Type 0} → Ghosts S → Bounds → Held S → Trees → Type 0
Opened g limits old trees = (db : Database)
    × LaysOut g limits (state g old).now db × (trees ≡ db.trees)
