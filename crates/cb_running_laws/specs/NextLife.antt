-- What the tables of a shelf tell the next life of the server that was served over them.
use Rattle.std.specs.Prelude.{Bool, List}
use Rattle.sqlite.specs.Effect.{Database}
use Rattle.sqlite.specs.Held.{state}
use Rattle.sqlite.specs.State.{HasCleanDisk}
use Rattle.sqlite.specs.Store.{Ghosts}
use Rattle.cb_commit.specs.Stores.{StoreState, IsOf}
use Rattle.cb_page.specs.Bounds.{Bounds}
use Rattle.cb_server.specs.Knowing.{KnowsBelow}
use Rattle.cb_shelf.specs.LifeRows.{LifeState}
use Rattle.cb_shelf.specs.Living.{Follows}
use Rattle.cb_shelf_laws.specs.Rows.{HasStore, IsLife}
use Rattle.cb_serve.specs.Rounds.{Round, Standing}
use Rattle.cb_serve.specs.Serving.{AreRounds}

-- The rows of the tables are those of a store of these limits, and the row of life is of this one.
pub record IsKept (older : Bool) (limits : Bounds) (life : LifeState) (db : Database) : Type 0 where
  pub store : StoreState
  pub of : IsOf limits store
  pub has : HasStore older db store
  pub row : IsLife older db life

-- Behind rounds of a life whose row the tables had, each client's current incarnation is below the
-- floor of each life that may follow; and the row is that of the life as it is then.
abbrev pub NextLifeIsNew : {S : Type 0} → Ghosts S → Type 0
NextLifeIsNew {S} g = (older : Bool) (limits : Bounds) (rounds : List Round) (old new : Standing S)
    (life last next : LifeState) → IsKept older limits life (state g old.tables).now
    → KnowsBelow old.server life.below → AreRounds g limits rounds old new life last
    → HasCleanDisk (state g new.tables)
    → IsKept older limits last (state g new.tables).now
    × (Follows (state g new.tables).now next → KnowsBelow new.server next.floor)
