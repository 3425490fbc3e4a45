-- What it is to open a store's tables, to begin a life over them, and to read them. This project's
-- rules.
use Rattle.std.specs.Prelude.{IsTrue}
use Rattle.sqlite.specs.Held.{Held, state}
use Rattle.sqlite.specs.State.{HasCleanDisk, Survives}
use Rattle.sqlite.specs.Store.{Ghosts}
use Rattle.cb_commit.specs.Stores.{StoreState}
use Rattle.cb_page.specs.Bounds.{Bounds}
use Rattle.cb_shelf.specs.LifeRows.{LifeState}
use Rattle.cb_shelf.specs.Living.{Begun, Follows, life_statements}
use Rattle.cb_shelf.specs.Newer.{HoldsNewer}
use Rattle.cb_shelf.specs.Opening.{LaysOut, Opened}
use Rattle.cb_shelf.specs.Inside.{IsSame, IsSettled}
use Rattle.cb_shelf.specs.Statements.{MakesAll}

module _ {S : Type 0} (g : Ghosts S) where
  -- This life began over the tables: it follows those that they told of, and its row is on disk.
  pub record BeginsLife (life : LifeState) (old begun : Held S) : Type 0 where
    pub follows : HasCleanDisk (state g begun) → Follows (state g old).now life
    pub made : HasCleanDisk (state g begun)
        → MakesAll g (life_statements life) (state g old).now (state g begun).committed
    pub settled : HasCleanDisk (state g begun) → IsSettled (state g begun)
    pub crash : Survives (state g old) (state g begun) (Begun g old)

module _ {S : Type 0} (g : Ghosts S) (limits : Bounds) where
  -- A shelf was opened over the database: its tables are laid out, on disk.
  pub record OpensShelf (old opened : Held S) : Type 0 where
    pub laid_out : HasCleanDisk (state g opened) → IsTrue (state g opened).is_open
        → LaysOut g limits (state g old).now (state g opened).committed
    pub settled : HasCleanDisk (state g opened) → IsTrue (state g opened).is_open
        → IsSettled (state g opened)
    pub crash : Survives (state g old) (state g opened) (Opened g limits old)

  -- The store that the tables hold was read, and they are as before.
  pub record ReadsStore (store : StoreState) (old new : Held S) : Type 0 where
    pub holds : HasCleanDisk (state g new) → HoldsNewer (state g old).now store
    pub same : HasCleanDisk (state g new) → IsSame (state g old) (state g new)
