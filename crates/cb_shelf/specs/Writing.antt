-- What a batch has to be, and what a write leaves.
use Rattle.std.specs.Prelude.{◌≡◌, ◌<◌, length}
use Rattle.std.specs.List.{All}
use Rattle.cb_page.specs.Bounds.{Bounds}
use Rattle.cb_commit.specs.declared.batch.BatchPage.{BatchPage}
use Rattle.cb_commit.specs.Batches.{BatchState}
use Rattle.sqlite.specs.Store.{Ghosts}
use Rattle.sqlite.specs.Tree.{Trees}
use Rattle.sqlite.specs.Effect.{Database}
use Rattle.sqlite.specs.Held.{Held, state}
use Rattle.cb_shelf.specs.Statements.{MakesAll, batch_statements}

-- a page of a store of these limits, of their size
pub record IsOfSize (limits : Bounds) (written : BatchPage) : Type 0 where
  pub page : written.page < limits.pages
  pub bytes : length written.bytes ≡ limits.page_size

-- every page of a batch is one of the store's
abbrev pub Fits : Bounds → BatchState → Type 0
Fits limits batch = All (IsOfSize limits) batch.pages

-- a database that the statements of a batch make of the one that a connection sees
abbrev pub Wrote : {S : Type 0} → Ghosts S → BatchState → Held S → Trees → Type 0
Wrote g batch old trees = (db : Database)
    × MakesAll g (batch_statements batch) (state g old).now db × (trees ≡ db.trees)
