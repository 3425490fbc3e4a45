-- Tables that hold a store, and a service that begins with them.
use Rattle.std.proofs.Common.{◌≡◌, inr, ℕ, List, Option, refl, subst, sym}
use Rattle.sqlite.specs.Effect.{Database}
use Rattle.sqlite.specs.Held.{Held, state}
use Rattle.sqlite.specs.State.{HasCleanDisk}
use Rattle.sqlite.specs.Store.{Ghosts}
use Rattle.cb_commit.specs.Stores.{StoreState}
use Rattle.cb_page.specs.Bounds.{Bounds}
use Rattle.cb_serve.specs.Serving.{HoldsStore, IsServed, refused}
use Rattle.cb_serve.specs.declared.fault.RoundFault.TheVariants as round
use Rattle.cb_serve.specs.declared.serving.Served.{Served}
use Rattle.cb_shelf.specs.LifeRows.{LifeState}
use Rattle.cb_shelf.specs.Newer.{HoldsNewer}
use Rattle.cb_shelf.specs.Inside.{IsSame}

module _ {S : Type 0} (g : Ghosts S) where
  -- tables whose store was read hold it still
  pub holds_still : (store : StoreState) (old tables : Held S) → (HasCleanDisk (state g tables) → HoldsNewer (state g old).now store)
      → (HasCleanDisk (state g tables) → IsSame (state g old) (state g tables)) → HoldsStore g store tables
  holds_still store old tables holds same clean is_open = subst (λ (db : Database). HoldsNewer db store) (sym ((same clean).now is_open)) (holds clean)

  -- no memory to begin with
  pub lacks_memory : (limits : Bounds) (store : StoreState) (life : LifeState) (served : Served) (tables : Held S) (old_in old_out : Option (List ℕ))
      → HoldsStore g store tables → served ≡ refused round.Memory → IsServed g limits store life served tables tables old_in old_in old_out old_out
  lacks_memory limits store life served tables old_in old_out holds told = inr (record { told = told; tables = refl; holds = holds; unread = refl; unsaid = refl })
