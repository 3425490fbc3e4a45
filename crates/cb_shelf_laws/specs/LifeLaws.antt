-- What the statements of a life make of the tables of a shelf, and what these tell then, as laws.
use Rattle.std.specs.Prelude.{◌≡◌, Bool}
use Rattle.sqlite_trees.specs.declared.store.Shape.TheVariants.{Table as table}
use Rattle.sqlite_trees.specs.View.{IsShaped}
use Rattle.sqlite.specs.Store.{Ghosts}
use Rattle.sqlite.specs.Effect.{Database}
use Rattle.cb_page.specs.Bounds.{Bounds}
use Rattle.cb_commit.specs.Stores.{StoreState, IsOf}
use Rattle.cb_commit.specs.Batches.{BatchState}
use Rattle.cb_shelf.specs.Statements.{Makes, MakesAll, batch_statements}
use Rattle.cb_shelf.specs.Writing.{Fits}
use Rattle.cb_shelf.specs.LifeRows.{LifeState, life_row, unkept_below, unserved}
use Rattle.cb_shelf.specs.Living.{Follows, life_from, life_statements}
use Rattle.cb_shelf.specs.Newer.{HoldsNewer}
use Rattle.cb_shelf.specs.Opening.{laid}
use Rattle.cb_shelf_laws.specs.Tables.{found_schema, unlived_schema, mark_tree, page_tree}
use Rattle.cb_shelf_laws.specs.Tables.{part_tree}
use Rattle.cb_shelf_laws.specs.Rows.{IsShelf, IsLife, PutsLife, HasStore}

-- The tables of a server that kept no row of its lives: all but life. Their rows have whole numbers
-- as rowids, which rise.
pub record IsUnlived (older : Bool) (db : Database) : Type 0 where
  pub schema : db.schema ≡ unlived_schema older
  pub marks : IsShaped table (db.trees (mark_tree older))
  pub pages : IsShaped table (db.trees (page_tree older))
  pub parts : IsShaped table (db.trees (part_tree older))

-- the life after those that the tables tell of is the one after that in the row
abbrev pub LivesFollow : Type 0
LivesFollow = (older : Bool) (db : Database) (before life : LifeState) → IsShelf older db
    → IsLife older db before → Follows db life → life ≡ life_from before.below

-- or the one from 2^61 on, where no server kept a row
abbrev pub UnlivedLivesFollow : Type 0
UnlivedLivesFollow = (older : Bool) (db : Database) (life : LifeState) → IsUnlived older db
    → Follows db life → life ≡ life_from unkept_below

module _ {S : Type 0} (g : Ghosts S) where
  -- the row of a life is put
  abbrev pub LivesArePut : Type 0
  LivesArePut = (older : Bool) (life : LifeState) (before after : Database) → IsShelf older before
      → Makes g (life_row life) before after → PutsLife older life before after

  -- a life begins
  abbrev pub LivesBegin : Type 0
  LivesBegin = (older : Bool) (life : LifeState) (before after : Database) → IsShelf older before
      → MakesAll g (life_statements life) before after → PutsLife older life before after

  -- or the first one of which there is a row
  abbrev pub UnlivedLivesBegin : Type 0
  UnlivedLivesBegin = (older : Bool) (life : LifeState) (before after : Database)
      → IsUnlived older before
      → MakesAll g (life_statements life) before after → PutsLife older life before after

  -- a batch leaves the row as it was
  abbrev pub BatchesKeepLives : Type 0
  BatchesKeepLives = (older : Bool) (limits : Bounds) (batch : BatchState) (store : StoreState)
      (life : LifeState) (before after : Database) → IsOf limits store → Fits limits batch
      → HasStore older before store → IsLife older before life
      → MakesAll g (batch_statements batch) before after → IsLife older after life

  -- and the row leaves the store that the tables hold
  abbrev pub LivesKeepStores : Type 0
  LivesKeepStores = (older : Bool) (store : StoreState) (life : LifeState)
      (before after : Database) → IsShelf older before → HoldsNewer before store
      → PutsLife older life before after → HoldsNewer after store

  -- The first life over tables that had no row of one leaves the store that they hold: their rows
  -- are that store's.
  abbrev pub UnlivedKeepStores : Type 0
  UnlivedKeepStores = (older : Bool) (store : StoreState) (life : LifeState)
      (before after : Database) → IsUnlived older before → HoldsNewer before store
      → PutsLife older life before after → HasStore older after store

  -- the row of tables that an open makes
  abbrev pub LivesAreLaid : Type 0
  LivesAreLaid = (older : Bool) (store : StoreState) (before after : Database)
      → before.schema ≡ found_schema older → MakesAll g (laid store older) before after
      → IsLife older after (unserved older)
