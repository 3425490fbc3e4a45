-- What a database answers to a question.
use Rattle.std.specs.Prelude.{◌≡◌, ℕ, ◌+◌, List, [], ◌∷◌, length, Ok}
use Rattle.sqlite_schema.specs.declared.schema.Schema.{Schema}
use Rattle.sqlite_resolve.specs.declared.compiled.Compiled.{Compiled}
use Rattle.sqlite.specs.Order.{Row, column}
use Rattle.sqlite.specs.Effect.{Database, Reads}
use Rattle.sqlite.specs.Given.{IsPlain}
use Rattle.sqlite.specs.Listing.{understood, reads_listing, IsSourceOf}
use Rattle.cb_shelf.specs.Statements.{Statement}

-- Whatever tables there are, a statement of this text shows no rows that it wrote, and doesn't read
-- the time.
abbrev pub IsQuestion : List ℕ → Type 0
IsQuestion text = (schema : Schema) (compiled : Compiled)
    → understood schema text ≡ Ok compiled → IsPlain (Ok compiled)

-- these rows are an answer of the database to a question
pub record Replies (db : Database) (question : Statement) (rows : List Row) : Type 0 where
  pub compiled : Compiled
  pub is : understood db.schema question.text ≡ Ok compiled
  pub plain : IsPlain (Ok compiled)
  pub given : length question.params ≡ length compiled.names
  pub source : Database
  pub source_is : IsSourceOf (reads_listing db.schema question.text) db source
  pub reads : Reads compiled.command source question.params rows

-- a row has these values from a column on
abbrev pub HasFrom : Row → ℕ → Row → Type 0
HasFrom row at [] = Unit {0}
HasFrom row at (value ∷ more) = (column row at ≡ value) × HasFrom row (at + 1) more

-- there is one row, which begins with these values
abbrev pub IsRow : List Row → Row → Type 0
IsRow rows values = (row : Row) × (rows ≡ row ∷ []) × HasFrom row 0 values

-- an answer to the question is one row, which begins with these values
abbrev pub RepliesRow : Database → Statement → Row → Type 0
RepliesRow db question values =
    (rows : List Row) × Replies db question rows × IsRow rows values

-- an answer to the question isn't one row which begins with values that fit
abbrev pub RepliesElse : Database → Statement → (Row → Type 0) → Type 0
RepliesElse db question Fits = (rows : List Row) × Replies db question rows
    × ((values : Row) → Fits values → ¬ IsRow rows values)
