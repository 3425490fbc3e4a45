-- What a statement makes of the rows of the tables, each table as a map from its key to its rows.
use Rattle.std.specs.Prelude.{◌≡◌, ◌≢◌, ◌⊎◌, ℕ, ◌+◌, ◌<◌, pos, Bool, ◌&&◌, List, [], ◌∷◌, drop}
use Rattle.std.specs.Prelude.{filter, map, length}
use Rattle.std.specs.List.{All}
use Rattle.sqlite_value.specs.declared.keys.Collation.TheVariants.{Binary}
use Rattle.sqlite_value.specs.declared.value.Value.TheVariants.{Null, Int, Blob}
use Rattle.sqlite_value.specs.Order.{Row, column}
use Rattle.sqlite_trees.specs.Tree.{rowid}
use Rattle.sqlite_trees.specs.declared.store.Shape.TheVariants.{Table as table}
use Rattle.sqlite_trees.specs.View.{IsShaped}
use Rattle.sqlite_schema.specs.Rules.{equal}
use Rattle.sqlite.specs.Effect.{Database}
use Rattle.cb_commit.specs.Stores.{StoreState, version_at, bytes_at}
use Rattle.cb_shelf.specs.Statements.{part_at, part_count}
use Rattle.cb_shelf.specs.LifeRows.{LifeState}
use Rattle.cb_shelf.specs.Reading.{mark_values}
use Rattle.cb_shelf_laws.specs.Tables.{schema, mark_tree, page_tree, part_tree}
use Rattle.cb_shelf_laws.specs.Tables.{life_tree}

-- The four tables, and no other but those of an older generation where `older` says so. Their rows
-- have whole numbers as rowids, which rise.
pub record IsShelf (older : Bool) (db : Database) : Type 0 where
  pub schema : db.schema ≡ schema older
  pub marks : IsShaped table (db.trees (mark_tree older))
  pub pages : IsShaped table (db.trees (page_tree older))
  pub parts : IsShaped table (db.trees (part_tree older))
  pub lives : IsShaped table (db.trees (life_tree older))

-- a row of page2 is of this page, as SQL compares numbers
abbrev pub is_of_page : ℕ → Row → Bool
is_of_page page row = equal Binary (rowid row) (Int (pos page))

-- a row of part is of this page and place
abbrev pub is_at : ℕ → ℕ → Row → Bool
is_at page place row =
    equal Binary (column row 1) (Int (pos page)) && equal Binary (column row 2) (Int (pos place))

-- the rows of page2 that are of a page
abbrev pub page_rows : Bool → Database → ℕ → List Row
page_rows older db page = filter (is_of_page page) (db.trees (page_tree older))

-- the rows of part that are of a page and a place
abbrev pub part_rows : Bool → Database → ℕ → ℕ → List Row
part_rows older db page place = filter (is_at page place) (db.trees (part_tree older))

-- The page has one row, with the version. Each other page has the rows that it had, and so have the
-- other tables; a row is more, or one for those that the page had.
pub record PutsVersion (older : Bool) (page version : ℕ) (before after : Database) : Type 0 where
  pub shelf : IsShelf older after
  pub put : page_rows older after page ≡ (Int (pos page) ∷ Null ∷ Int (pos version) ∷ []) ∷ []
  pub others : (other : ℕ) → other ≢ page
      → page_rows older after other ≡ page_rows older before other
  pub count : length (after.trees (page_tree older)) + length (page_rows older before page)
      ≡ length (before.trees (page_tree older)) + 1
  pub marks : after.trees (mark_tree older) ≡ before.trees (mark_tree older)
  pub parts : after.trees (part_tree older) ≡ before.trees (part_tree older)
  pub lives : after.trees (life_tree older) ≡ before.trees (life_tree older)

-- The same of a part: the page and the place have one row, with the bytes.
pub record PutsPart (older : Bool) (page place : ℕ) (bytes : List ℕ) (before after : Database) :
    Type 0 where
  pub shelf : IsShelf older after
  pub put : map (drop 1) (part_rows older after page place)
      ≡ (Int (pos page) ∷ Int (pos place) ∷ Blob bytes ∷ []) ∷ []
  pub others : (other at : ℕ) → (other ≢ page) ⊎ (at ≢ place)
      → part_rows older after other at ≡ part_rows older before other at
  pub count : length (after.trees (part_tree older)) + length (part_rows older before page place)
      ≡ length (before.trees (part_tree older)) + 1
  pub marks : after.trees (mark_tree older) ≡ before.trees (mark_tree older)
  pub pages : after.trees (page_tree older) ≡ before.trees (page_tree older)
  pub lives : after.trees (life_tree older) ≡ before.trees (life_tree older)

-- what a row of mark2 says: its identity, the last commit, the bytes of a page, the count of pages
abbrev pub mark_columns : Row → Row
mark_columns row = column row 0 ∷ column row 2 ∷ column row 3 ∷ column row 4 ∷ []

-- mark2 has one row, with these
abbrev pub IsMarked : Bool → Database → ℕ → ℕ → ℕ → Type 0
IsMarked older db number page_size pages =
    map mark_columns (db.trees (mark_tree older)) ≡ mark_values number page_size pages ∷ []

-- The row of mark2 has the number, and else what it had; the other tables have the rows that they
-- had.
pub record SetsNumber (older : Bool) (number page_size pages : ℕ) (before after : Database) :
    Type 0 where
  pub shelf : IsShelf older after
  pub put : IsMarked older after number page_size pages
  pub versions : after.trees (page_tree older) ≡ before.trees (page_tree older)
  pub parts : after.trees (part_tree older) ≡ before.trees (part_tree older)
  pub lives : after.trees (life_tree older) ≡ before.trees (life_tree older)

-- page2 has one row for the page, with the version
abbrev pub HasVersion : Bool → Database → ℕ → ℕ → Type 0
HasVersion older db page version =
    map (λ row. column row 2) (page_rows older db page) ≡ Int (pos version) ∷ []

-- part has one row for the page and the place, with the bytes
abbrev pub HasPart : Bool → Database → ℕ → ℕ → List ℕ → Type 0
HasPart older db page place bytes =
    map (λ row. column row 3) (part_rows older db page place) ≡ Blob bytes ∷ []

-- The page has one row, with the version. Each other page has the rows that it had, and so have the
-- other tables; there are as many rows as before.
pub record SetsVersion (older : Bool) (page version : ℕ) (before after : Database) : Type 0 where
  pub shelf : IsShelf older after
  pub put : HasVersion older after page version
  pub others : (other : ℕ) → other ≢ page
      → page_rows older after other ≡ page_rows older before other
  pub count : length (after.trees (page_tree older)) ≡ length (before.trees (page_tree older))
  pub marks : after.trees (mark_tree older) ≡ before.trees (mark_tree older)
  pub parts : after.trees (part_tree older) ≡ before.trees (part_tree older)
  pub lives : after.trees (life_tree older) ≡ before.trees (life_tree older)

-- The same of a part: the page and the place have one row, with the bytes.
pub record SetsPart (older : Bool) (page place : ℕ) (bytes : List ℕ) (before after : Database) :
    Type 0 where
  pub shelf : IsShelf older after
  pub put : HasPart older after page place bytes
  pub others : (other at : ℕ) → (other ≢ page) ⊎ (at ≢ place)
      → part_rows older after other at ≡ part_rows older before other at
  pub count : length (after.trees (part_tree older)) ≡ length (before.trees (part_tree older))
  pub marks : after.trees (mark_tree older) ≡ before.trees (mark_tree older)
  pub pages : after.trees (page_tree older) ≡ before.trees (page_tree older)
  pub lives : after.trees (life_tree older) ≡ before.trees (life_tree older)

-- the rows of the tables are those of a store
pub record HasStore (older : Bool) (db : Database) (store : StoreState) : Type 0 where
  pub shelf : IsShelf older db
  pub mark : IsMarked older db store.number store.page_size (length store.pages)
  pub versions : (page : ℕ) → page < length store.pages
      → HasVersion older db page (version_at store page)
  pub parts : (page place : ℕ) → page < length store.pages → place < part_count store.page_size
      → HasPart older db page place (part_at (bytes_at store page) place)

-- each page of a store has the store's size
abbrev pub HasFullPages : StoreState → Type 0
HasFullPages store = All (λ page. length page.bytes ≡ store.page_size) store.pages

-- page2 and part have as many rows as before, and life has those that it had
pub record IsAsLarge (older : Bool) (before after : Database) : Type 0 where
  pub versions : length (after.trees (page_tree older)) ≡ length (before.trees (page_tree older))
  pub parts : length (after.trees (part_tree older)) ≡ length (before.trees (part_tree older))
  pub lives : after.trees (life_tree older) ≡ before.trees (life_tree older)

-- the tables have no row
pub record HasNoRows (older : Bool) (db : Database) : Type 0 where
  pub marks : db.trees (mark_tree older) ≡ []
  pub pages : db.trees (page_tree older) ≡ []
  pub parts : db.trees (part_tree older) ≡ []
  pub lives : db.trees (life_tree older) ≡ []

-- the rows of life that tell of the lives
abbrev pub life_rows : Bool → Database → List Row
life_rows older db = filter (is_of_page 1) (db.trees (life_tree older))

-- what the row says
abbrev pub IsLife : Bool → Database → LifeState → Type 0
IsLife older db life =
    life_rows older db
    ≡ (Int (pos 1) ∷ Null ∷ Int (pos life.floor) ∷ Int (pos life.below) ∷ []) ∷ []

-- The row of life says this; the other tables have the rows that they had.
pub record PutsLife (older : Bool) (life : LifeState) (before after : Database) : Type 0 where
  pub shelf : IsShelf older after
  pub put : IsLife older after life
  pub marks : after.trees (mark_tree older) ≡ before.trees (mark_tree older)
  pub pages : after.trees (page_tree older) ≡ before.trees (page_tree older)
  pub parts : after.trees (part_tree older) ≡ before.trees (part_tree older)
