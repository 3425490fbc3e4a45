-- What a service over a store's file does, and what is said of it. This project's rules.
use Rattle.std.specs.Prelude.{◌≡◌, ◌⊎◌, ℕ, Bool, true, false, Option, Some, None, Result, Ok, Err}
use Rattle.std.specs.Prelude.{List}
use Rattle.std.specs.Io.KnownBytes.{Appends}
use Rattle.sqlite.specs.Held.{Held, state}
use Rattle.sqlite.specs.State.{HasCleanDisk}
use Rattle.sqlite.specs.Store.{Ghosts}
use Rattle.cb_console.specs.RunSettings.{BecomesOfConfig, PrintsRefusal}
use Rattle.cb_console.specs.Settings.{IsConfig, RefusesConfig}
use Rattle.cb_console.specs.declared.config.Config.{Config}
use Rattle.cb_console.specs.declared.config.ConfigFault.{ConfigFault}
use Rattle.cb_console.specs.declared.running.RunFault.{RunFault}
use Rattle.cb_commit.specs.Stores.{StoreState}
use Rattle.cb_page.specs.Bounds.{Bounds}
use Rattle.cb_serve.specs.Announcing.{StaysUnannounced, announcement}
use Rattle.cb_serve.specs.Endings.{PrintsEnding, becomes_of_shelf}
use Rattle.cb_serve.specs.Serving.{IsServed, refused}
use Rattle.cb_serve.specs.declared.fault.RoundFault.{RoundFault}
use Rattle.cb_serve.specs.declared.serving.Served.{Served}
use Rattle.cb_shelf.specs.LifeRows.{LifeState}
use Rattle.cb_shelf.specs.Inside.{IsSame}
use Rattle.cb_play.specs.StoreFiles.{BeginsLife, OpensShelf, ReadsStore}
use Rattle.cb_play.specs.declared.store_file.Reach.{Reach}
use Rattle.cb_play.specs.declared.store_file.Reach.TheVariants as reach
use Rattle.cb_play.specs.declared.store_file.StoreEnd.{StoreEnd}
use Rattle.cb_play.specs.declared.store_file.StoreFile.{StoreFile}

-- what goes out before the first frame is read: the life's announcement, or nothing
abbrev pub TellsLife : (announces : Bool) → (floor : ℕ) → (old_out new_out : Option (List ℕ))
    → Type 0
TellsLife true floor old_out new_out = Appends old_out new_out (announcement floor)
TellsLife false floor old_out new_out = new_out ≡ old_out

module _ {S : Type 0} (g : Ghosts S) (limits : Bounds) (announces : Bool) where
  -- the life was told, if it is to be, and the frames were served over the store; or it wasn't told
  -- whole, no frame was read, and the tables are as before
  abbrev pub ServesLife : StoreState → LifeState → Served → (old new : Held S)
      → (old_in new_in old_out new_out : Option (List ℕ)) → Type 0
  ServesLife store life served old new old_in new_in old_out new_out =
      ((told : Option (List ℕ)) × TellsLife announces life.floor old_out told
      × IsServed g limits store life served old new old_in new_in told new_out)
      ⊎ ((f : RoundFault) × (served ≡ refused f)
      × StaysUnannounced f life.floor old_out new_out × (new_in ≡ old_in) × (new ≡ old))

  -- A life of the server began over the tables, the store in them was read, and the frames were
  -- served over it in that life.
  pub record ServesStore (served : Served) (old new : Held S)
      (old_in new_in old_out new_out : Option (List ℕ)) : Type 0 where
    pub life : LifeState
    pub begun : Held S
    pub begins : BeginsLife g life old begun
    pub store : StoreState
    pub tables : Held S
    pub reads : ReadsStore g limits store begun tables
    pub serves : ServesLife store life served tables new old_in new_in old_out new_out

  -- A life began over the tables, and else they stayed.
  pub record BeginsAlone (old new : Held S) : Type 0 where
    pub life : LifeState
    pub begun : Held S
    pub begins : BeginsLife g life old begun
    pub same : HasCleanDisk (state g new) → IsSame (state g begun) (state g new)

  -- a store that came so far was refused, and its very fault is told: nothing was read or put out,
  -- and on a clean disk the database is as before, as long as the connection is open; but for a
  -- life that may have begun
  abbrev pub IsRefused : Reach → Served → (old new : Held S)
      → (old_in new_in old_out new_out : Option (List ℕ)) → Type 0
  IsRefused (reach.Refused e) served old new old_in new_in old_out new_out =
      (served ≡ refused (becomes_of_shelf e)) × (new_in ≡ old_in) × (new_out ≡ old_out)
      × ((HasCleanDisk (state g new) → IsSame (state g old) (state g new)) ⊎ BeginsAlone old new)
  IsRefused _ served old new old_in new_in old_out new_out = ⊥

  -- what came of the tables of a shelf, whose store came so far: it was read, or refused
  abbrev pub ServesTables : Reach → Served → (old new : Held S)
      → (old_in new_in old_out new_out : Option (List ℕ)) → Type 0
  ServesTables reach.Read served old new old_in new_in old_out new_out =
      ServesStore served old new old_in new_in old_out new_out
  ServesTables came served old new old_in new_in old_out new_out =
      IsRefused came served old new old_in new_in old_out new_out

  -- The database was opened as a shelf, and it was served over its tables; or it was refused.
  abbrev pub ServesDatabase : Reach → Served → (old new : Held S)
      → (old_in new_in old_out new_out : Option (List ℕ)) → Type 0
  ServesDatabase came served old new old_in new_in old_out new_out =
      ((opened : Held S) × OpensShelf g limits old opened
      × ServesTables came served opened new old_in new_in old_out new_out)
      ⊎ IsRefused came served old new old_in new_in old_out new_out

-- How a service ended over a store that came so far: one that was refused, when it was opened, laid
-- out or read, by its very fault, with nothing passed over.
abbrev pub TellsReached : Reach → Served → Type 0
TellsReached (reach.Refused e) served = served ≡ refused (becomes_of_shelf e)
TellsReached reach.Read served = Unit {0}
TellsReached _ served = ⊥

-- The file of that path was opened as the store, and how the service over it ended is said.
pub record PrintsServed (path : List ℕ) (ended : StoreEnd) (old_err new_err : Option (List ℕ))
    : Type 0 where
  pub file : StoreFile
  pub opened : ended.file ≡ Some file
  pub of_path : file.path.now ≡ path
  pub served : Served
  pub tells : TellsReached file.reach served
  pub prints : PrintsEnding served.passed_over served.ending ended.status old_err new_err

-- Of a configuration's text: where it means settings, how the service over the store in the file of
-- this path ended is said; else why it means none, and nothing is read or put out, and no file was
-- opened.
abbrev pub PrintsService : (config_bytes path : List ℕ) → Result Config ConfigFault → StoreEnd
    → (old_in new_in old_out new_out old_err new_err : Option (List ℕ)) → Type 0
PrintsService config_bytes path (Ok settings) ended old_in new_in old_out new_out old_err new_err =
    IsConfig config_bytes settings × PrintsServed path ended old_err new_err
PrintsService config_bytes path (Err e) ended old_in new_in old_out new_out old_err new_err =
    RefusesConfig config_bytes e × (new_in ≡ old_in) × (new_out ≡ old_out)
    × (ended.file ≡ None) × (becomes : RunFault) × BecomesOfConfig e becomes
    × PrintsRefusal becomes ended.status old_err new_err

-- A service under a configuration's text, over the store in the file of a path, says how it ended.
pub record IsService (config_bytes path : List ℕ) (ended : StoreEnd)
    (old_in new_in old_out new_out old_err new_err : Option (List ℕ)) : Type 0 where
  pub settings : Result Config ConfigFault
  pub prints : PrintsService config_bytes path settings ended
      old_in new_in old_out new_out old_err new_err
