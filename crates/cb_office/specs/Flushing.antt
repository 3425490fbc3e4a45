-- What a flusher makes of the tables.
use Rattle.std.specs.Prelude.{◌≡◌, ◌⊎◌, List, [], ◌∷◌, Option, Some, None, IsTrue}
use Rattle.std.specs.List.{AllByRecursion}
use Rattle.sqlite.specs.Effect.{Database}
use Rattle.sqlite.specs.Held.{Held, state}
use Rattle.sqlite.specs.State.{HasCleanDisk}
use Rattle.sqlite.specs.Store.{Ghosts}
use Rattle.sqlite.specs.Tree.{Trees}
use Rattle.cb_commit.specs.Batches.{BatchState}
use Rattle.cb_page.specs.Bounds.{Bounds}
use Rattle.cb_shelf.specs.Inside.{IsSettled}
use Rattle.cb_shelf.specs.Statements.{MakesAll, batch_statements}
use Rattle.cb_shelf.specs.Writing.{Fits}

-- the batches made one database of another, one after another
abbrev pub MakesBatches : {S : Type 0} → Ghosts S → List BatchState → (before after : Database)
    → Type 0
MakesBatches g [] before after = before ≡ after
MakesBatches g (batch ∷ rest) before after = (between : Database)
    × MakesAll g (batch_statements batch) before between × MakesBatches g rest between after

module _ {S : Type 0} (g : Ghosts S) (limits : Bounds) where
  -- These batches were written, one after another, and they fit. Where no transaction was open, the
  -- last is committed.
  pub record WritesAll (batches : List BatchState) (old new : Held S) : Type 0 where
    pub fit : AllByRecursion (Fits limits) batches
    pub made : HasCleanDisk (state g new)
        → MakesBatches g batches (state g old).now (state g new).now
    pub settled : HasCleanDisk (state g new) → IsSettled (state g old) → IsSettled (state g new)

  -- These were, as long as the connection is open.
  pub record LeavesAll (batches : List BatchState) (old new : Held S) : Type 0 where
    pub fit : AllByRecursion (Fits limits) batches
    pub made : HasCleanDisk (state g new) → IsTrue (state g new).is_open
        → MakesBatches g batches (state g old).now (state g new).now

  -- some batches were written
  abbrev pub WritesSome : (old new : Held S) → Type 0
  WritesSome old new = (batches : List BatchState) × WritesAll batches old new

  -- so where the flusher stopped
  abbrev pub LeavesSome : (old new : Held S) → Type 0
  LeavesSome old new = (batches : List BatchState) × LeavesAll batches old new

  -- the batch that was held was written first, if there was one
  abbrev pub WritesFirst : (held : Option BatchState) → (old new : Held S) → Type 0
  WritesFirst None old new = WritesSome old new
  WritesFirst (Some held) old new =
      (rest : List BatchState) × WritesAll (held ∷ rest) old new

  -- so where the flusher stopped, unless it wrote nothing
  abbrev pub LeavesFirst : (held : Option BatchState) → (old new : Held S) → Type 0
  LeavesFirst None old new = LeavesSome old new
  LeavesFirst (Some held) old new =
      LeavesAll [] old new ⊎ ((rest : List BatchState) × LeavesAll (held ∷ rest) old new)

  -- Tries, one after another, each of which wrote some batches and stopped: they began at these
  -- connections, the last one first.
  abbrev pub TriesAt : List (Held S) → (old new : Held S) → Type 0
  TriesAt [] old new = new ≡ old
  TriesAt (at ∷ earlier) old new = TriesAt earlier old at × LeavesSome at new

  -- so of some tries
  abbrev pub Tries : (old new : Held S) → Type 0
  Tries old new = (at : List (Held S)) × TriesAt at old new

  -- some batches were written behind some tries
  abbrev pub WritesAtLast : (old new : Held S) → Type 0
  WritesAtLast old new = (stop : Held S) × Tries old stop × WritesSome stop new

module _ {S : Type 0} (g : Ghosts S) where
  -- a database that some batches make of the one that a connection sees
  abbrev pub MadeSome : Held S → Trees → Type 0
  MadeSome old trees = (batches : List BatchState) × (db : Database)
      × MakesBatches g batches (state g old).now db × (trees ≡ db.trees)

  -- so, and the one that was held is the first of them
  abbrev pub MadeFirst : (held : Option BatchState) → Held S → Trees → Type 0
  MadeFirst None old trees = MadeSome old trees
  MadeFirst (Some held) old trees = (rest : List BatchState) × (db : Database)
      × MakesBatches g (held ∷ rest) (state g old).now db × (trees ≡ db.trees)

  -- a database that some batches make of the one that it sees behind some tries
  abbrev pub MadeAtLast : Bounds → Held S → Trees → Type 0
  MadeAtLast limits old trees =
      (stop : Held S) × Tries g limits old stop × MadeSome stop trees
