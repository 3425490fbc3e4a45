-- A life of the server that a service has: its shelf has room for the incarnations that the server
-- knows, before anything is said to them.
use Rattle.std.specs.Prelude.{◌≡◌, ◌≤◌, ℕ, [], ◌∷◌}
use Rattle.sqlite.specs.Held.{Held, state}
use Rattle.sqlite.specs.State.{HasCleanDisk, Survives}
use Rattle.sqlite.specs.Store.{Ghosts}
use Rattle.sqlite.specs.Tree.{Trees}
use Rattle.cb_page.specs.Bounds.{Bounds}
use Rattle.cb_protocol.specs.Server.{Server}
use Rattle.cb_server.specs.Knowing.{KnowsBelow}
use Rattle.cb_shelf.specs.LifeRows.{LifeState, life_row}
use Rattle.cb_shelf.specs.Living.{MadeBy, raised}
use Rattle.cb_shelf.specs.Inside.{IsSame, IsSettled}
use Rattle.cb_shelf.specs.Statements.{MakesAll}
use Rattle.cb_serve.specs.Rounds.{IsRound, Round, Standing}
use Rattle.cb_serve.specs.declared.fault.RoundFault.{RoundFault}
use Rattle.cb_serve.specs.declared.fault.RoundFault.TheVariants as round

module _ {S : Type 0} (g : Ghosts S) where
  -- The life had room and is as before, and so are the tables; or its row was set, in a transaction
  -- of its own, and gives it room for an incarnation.
  pub data MakesRoom (old new : LifeState) (old_tables new_tables : Held S) : Type 0 where
    had : new ≡ old → new_tables ≡ old_tables → MakesRoom old new old_tables new_tables
    made : (incarnation : ℕ) → old.below ≤ incarnation → new ≡ raised old incarnation
        → (HasCleanDisk (state g new_tables)
        → MakesAll g (life_row new ∷ []) (state g old_tables).now (state g new_tables).committed)
        → (HasCleanDisk (state g new_tables) → IsSettled (state g new_tables))
        → Survives (state g old_tables) (state g new_tables)
        (MadeBy g (life_row new ∷ []) old_tables)
        → MakesRoom old new old_tables new_tables

  -- The tables have room for all that the server knows.
  pub record KeepsRoom (server : Server) (old new : LifeState) (old_tables new_tables : Held S)
      : Type 0 where
    pub room : MakesRoom old new old_tables new_tables
    pub known : KnowsBelow server new.below

  -- why there is no room: the row was refused; on a clean disk the tables are as before
  abbrev pub RefusesRoom : RoundFault → (old new : Held S) → Type 0
  RefusesRoom round.Store old new =
      HasCleanDisk (state g new) → IsSame (state g old) (state g new)
  RefusesRoom round.Memory old new =
      HasCleanDisk (state g new) → IsSame (state g old) (state g new)
  RefusesRoom _ old new = ⊥

  -- the tables with a row that gives room
  abbrev pub MayMakeRoom : LifeState → Held S → Trees → Type 0
  MayMakeRoom life old trees = (incarnation : ℕ)
      × MadeBy g (life_row (raised life incarnation) ∷ []) old trees

  -- A round of a life: the pieces are taken; then the tables get room for whom the server knows
  -- now; then what is said goes out, and all that is committed is written, as in any round over
  -- these tables.
  pub record IsRoundOfLife (limits : Bounds) (step : Round) (old new : Standing S)
      (old_life new_life : LifeState) : Type 0 where
    pub mid : Held S
    pub room : MakesRoom old_life new_life old.tables mid
    pub is : IsRound g limits step (record old { tables = mid }) new
    pub known : KnowsBelow new.server new_life.below
