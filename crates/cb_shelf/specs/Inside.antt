-- What a step inside a transaction does, and what a connection keeps.
use Rattle.std.specs.Prelude.{◌≡◌, ℕ, Bool, false, List, IsTrue, IfOk, OnOk, Result, Err, is_ok}
use Rattle.sqlite_schema.specs.declared.schema.Schema.{Schema}
use Rattle.sqlite.specs.Store.{Ghosts}
use Rattle.sqlite.specs.declared.error.Error.{Error}
use Rattle.sqlite.specs.declared.error.Error.TheVariants.{SqlInputError}
use Rattle.sqlite.specs.Effect.{Database}
use Rattle.sqlite.specs.State.{State, HasCleanDisk, KeepsCommit, Survives}
use Rattle.sqlite.specs.Held.{Held, state}
use Rattle.sqlite.specs.Listing.{understood}
use Rattle.cb_shelf.specs.declared.fault.ShelfFault.{ShelfFault}
use Rattle.cb_shelf.specs.declared.fault.ShelfFault.TheVariants.{Shape}

-- A step inside a transaction: where it is answered the database becomes another one and the
-- transaction goes on; nothing is committed, and no crash leaves anything new.
pub record Inside {S X E : Type 0} (g : Ghosts S) (Becomes : Database → Database → Type 0)
    (before after : Held S) (result : Result X E) : Type 0 where
  pub ran : HasCleanDisk (state g after) → IsTrue before.in_transaction
      → OnOk result (Becomes (state g before).now (state g after).now × IsTrue after.in_transaction)
  pub kept : HasCleanDisk (state g after) → IsTrue before.in_transaction
      → KeepsCommit (state g before) (state g after)
  pub survives : Survives (state g before) (state g after) (λ _. ⊥)

-- A question about the database: where it is answered the answer is so of it, and it is as it was;
-- where the tables are blamed, they are amiss.
pub record Tells {S X : Type 0} (g : Ghosts S) (Told : Database → X → Type 0)
    (Amiss : Database → Type 0) (before after : Held S) (result : Result X ShelfFault) :
    Type 0 where
  pub told : HasCleanDisk (state g after) → IfOk result (Told (state g before).now)
  pub same : HasCleanDisk (state g after) → OnOk result ((state g after).now ≡ (state g before).now)
  pub blamed : HasCleanDisk (state g after) → result ≡ Err Shape → Amiss (state g before).now

-- the tables are never blamed
abbrev pub IsNever : Database → Type 0
IsNever db = ⊥

-- whatever the database becomes
abbrev pub IsAny : Database → Database → Type 0
IsAny before after = Unit {0}

-- as before, as long as the connection is open
pub record IsSame (old new : State) : Type 0 where
  pub was_open : IsTrue new.is_open → IsTrue old.is_open
  pub now : IsTrue new.is_open → new.now ≡ old.now
  pub committed : IsTrue new.is_open → new.committed ≡ old.committed

-- No transaction is open, and what the connection sees is what was committed: the next call begins
-- with what this one committed.
pub record IsSettled (s : State) : Type 0 where
  pub ended : s.in_transaction ≡ false
  pub same : s.now ≡ s.committed

-- the text is refused, and not the call
abbrev pub IsOfText : Error → Type 0
IsOfText (SqlInputError fault) = Unit {0}
IsOfText _ = ⊥

-- whether the tables of a schema can answer a query
abbrev pub can_answer : Schema → List ℕ → Bool
can_answer schema query = is_ok (understood schema query)
