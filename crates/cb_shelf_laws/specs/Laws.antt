-- What the statements of a batch make of the tables of a shelf, as laws.
use Rattle.std.specs.Prelude.{◌≡◌, Bool, true, ℕ, List, [], ◌∷◌}
use Rattle.sqlite.specs.Store.{Ghosts}
use Rattle.sqlite.specs.Effect.{Database}
use Rattle.cb_page.specs.Bounds.{Bounds}
use Rattle.cb_commit.specs.Stores.{StoreState, IsOf, IsSound, zeros}
use Rattle.cb_commit.specs.Batches.{BatchState, after_batch}
use Rattle.cb_shelf.specs.Statements.{Makes, MakesAll, page_statement, part_statement}
use Rattle.cb_shelf.specs.Statements.{mark_statement, batch_statements, part_at}
use Rattle.cb_shelf.specs.declared.rows.PageRows.TheVariants.{Absent, Present}
use Rattle.cb_shelf.specs.Writing.{Fits}
use Rattle.cb_shelf.specs.LifeRows.{LifeState, life_row}
use Rattle.cb_shelf.specs.Living.{life_statements}
use Rattle.cb_shelf.specs.Newer.{HoldsNewer}
use Rattle.cb_shelf.specs.Opening.{laid, table_statements, LaysOut}
use Rattle.cb_shelf_laws.specs.Tables.{no_schema, old_schema, found_schema, old_statements}
use Rattle.cb_shelf_laws.specs.Rows.{IsShelf, PutsVersion, PutsPart, SetsNumber, IsMarked, HasStore}
use Rattle.cb_shelf_laws.specs.Rows.{HasFullPages, IsAsLarge, HasNoRows, HasVersion, HasPart}
use Rattle.cb_shelf_laws.specs.Rows.{SetsVersion, SetsPart}

-- What a shelf does to tables that it made: it opens them again, or it writes a batch; a life of
-- a server begins over them, with this row, or its row is set to this one.
pub data Step : Type 0 where
  reopened : Step
  written : BatchState → Step
  lived : LifeState → Step
  raised : LifeState → Step

-- steps made one database of another, one after the other, and every batch fits the limits
abbrev pub MakesSteps : {S : Type 0} → Ghosts S → Bounds → List Step → Database → Database → Type 0
MakesSteps g limits [] before after = before ≡ after
MakesSteps g limits (reopened ∷ steps) before after = (between : Database)
    × LaysOut g limits before between × MakesSteps g limits steps between after
MakesSteps g limits (written batch ∷ steps) before after = Fits limits batch × (between : Database)
    × MakesAll g (batch_statements batch) before between × MakesSteps g limits steps between after
MakesSteps g limits (lived life ∷ steps) before after = (between : Database)
    × MakesAll g (life_statements life) before between × MakesSteps g limits steps between after
MakesSteps g limits (raised life ∷ steps) before after = (between : Database)
    × MakesAll g (life_row life ∷ []) before between × MakesSteps g limits steps between after

-- a store with the batches of these steps written over it, in order
abbrev pub after_steps : StoreState → List Step → StoreState
after_steps store [] = store
after_steps store (reopened ∷ steps) = after_steps store steps
after_steps store (written batch ∷ steps) = after_steps (after_batch store batch) steps
after_steps store (lived life ∷ steps) = after_steps store steps
after_steps store (raised life ∷ steps) = after_steps store steps

-- what tables answer that have the rows of a store
abbrev pub AnswersAreTheRows : Type 0
AnswersAreTheRows = (older : Bool) (store answered : StoreState) (db : Database)
    → HasFullPages store → HasFullPages answered → HasStore older db store
    → HoldsNewer db answered → answered ≡ store

module _ {S : Type 0} (g : Ghosts S) where
  -- the statements that create the tables of an older generation, where there is no table
  abbrev pub OlderTablesAreMade : Type 0
  OlderTablesAreMade = (before after : Database) → before.schema ≡ no_schema
      → MakesAll g old_statements before after → after.schema ≡ old_schema

  -- the statements that create the tables, where there is none of a shelf
  abbrev pub TablesAreMade : Type 0
  TablesAreMade = (older : Bool) (before after : Database)
      → before.schema ≡ found_schema older
      → MakesAll g table_statements before after → IsShelf older after × HasNoRows older after

  -- the statements that make the tables with a store, where there is none of a shelf
  abbrev pub StoresAreLaid : Type 0
  StoresAreLaid = (older : Bool) (store : StoreState) (before after : Database) → IsSound store
      → before.schema ≡ found_schema older → MakesAll g (laid store older) before after
      → HasStore older after store

  -- the statement that puts the version of a page in
  abbrev pub VersionsArePut : Type 0
  VersionsArePut = (older : Bool) (before after : Database) (page version : ℕ)
      → IsShelf older before → Makes g (page_statement Absent page version) before after
      → PutsVersion older page version before after

  -- the statement that puts one part of a page in
  abbrev pub PartsArePut : Type 0
  PartsArePut = (older : Bool) (before after : Database) (page place : ℕ) (bytes : List ℕ)
      → IsShelf older before
      → Makes g (part_statement Absent page bytes place) before after
      → PutsPart older page place (part_at bytes place) before after

  -- the statement that sets the version of a page which has a row
  abbrev pub VersionsAreSet : Type 0
  VersionsAreSet = (older : Bool) (before after : Database) (page old version : ℕ)
      → IsShelf older before → HasVersion older before page old
      → Makes g (page_statement Present page version) before after
      → SetsVersion older page version before after

  -- the statement that sets a part of a page which has a row
  abbrev pub PartsAreSet : Type 0
  PartsAreSet = (older : Bool) (before after : Database) (page place : ℕ) (old bytes : List ℕ)
      → IsShelf older before → HasPart older before page place old
      → Makes g (part_statement Present page bytes place) before after
      → SetsPart older page place (part_at bytes place) before after

  -- the statement of the last commit's number
  abbrev pub NumbersAreSet : Type 0
  NumbersAreSet = (older : Bool) (before after : Database) (number old page_size pages : ℕ)
      → IsShelf older before → IsMarked older before old page_size pages
      → Makes g (mark_statement number) before after
      → SetsNumber older number page_size pages before after

  -- the statements of a batch, by the rows
  abbrev pub BatchesAreWritten : Type 0
  BatchesAreWritten = (older : Bool) (limits : Bounds) (batch : BatchState) (store : StoreState)
      (before after : Database) → IsOf limits store → Fits limits batch
      → HasStore older before store
      → MakesAll g (batch_statements batch) before after
      → HasStore older after (after_batch store batch) × IsAsLarge older before after

  -- the statements of a batch, by what the tables answer
  abbrev pub BatchesAreHeld : Type 0
  BatchesAreHeld = (older : Bool) (limits : Bounds) (store : StoreState) (batch : BatchState)
      (before after : Database) → IsShelf older before → IsOf limits store → HoldsNewer before store
      → Fits limits batch → MakesAll g (batch_statements batch) before after
      → IsShelf older after × HoldsNewer after (after_batch store batch)

  -- what the tables answer after an open, where there was none
  abbrev pub FirstLoadsAreZeros : Type 0
  FirstLoadsAreZeros = (limits : Bounds) (answered : StoreState) (before after : Database)
      → before.schema ≡ no_schema → LaysOut g limits before after → HasFullPages answered
      → HoldsNewer after answered → answered ≡ zeros limits

  -- what the tables answer after the open that made them, and the steps since
  abbrev pub LoadsFollowBatches : Type 0
  LoadsFollowBatches = (limits : Bounds) (steps : List Step) (answered : StoreState)
      (before opened after : Database) → before.schema ≡ no_schema
      → LaysOut g limits before opened → MakesSteps g limits steps opened after
      → HasFullPages answered → HoldsNewer after answered
      → answered ≡ after_steps (zeros limits) steps

  -- what they answer after an open that copied the store of older tables, and the steps since
  abbrev pub LoadsFollowCopies : Type 0
  LoadsFollowCopies = (limits : Bounds) (steps : List Step) (store answered : StoreState)
      (before opened after : Database) → before.schema ≡ old_schema → IsOf limits store
      → HasFullPages store → MakesAll g (laid store true) before opened
      → MakesSteps g limits steps opened after → HasFullPages answered
      → HoldsNewer after answered → answered ≡ after_steps store steps

  -- what they answer after these steps, where they were found with a store
  abbrev pub LoadsFollowFinds : Type 0
  LoadsFollowFinds = (older : Bool) (limits : Bounds) (steps : List Step)
      (store answered : StoreState) (before after : Database) → IsShelf older before
      → IsOf limits store → HasFullPages store → HoldsNewer before store
      → MakesSteps g limits steps before after → HasFullPages answered → HoldsNewer after answered
      → answered ≡ after_steps store steps
