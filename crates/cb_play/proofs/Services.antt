-- A service over the tables of a database that was opened.
use Rattle.std.proofs.Common.{◌≡◌, ℕ, Bool, List, Option, inl, inr, refl, subst, sym}
use Rattle.sqlite.specs.Held.{Held, state}
use Rattle.sqlite.specs.State.{HasCleanDisk}
use Rattle.sqlite.specs.Store.{Ghosts}
use Rattle.cb_commit.specs.Stores.{StoreState}
use Rattle.cb_page.specs.Bounds.{Bounds}
use Rattle.cb_serve.specs.Announcing.{StaysUnannounced}
use Rattle.cb_serve.specs.Endings.{becomes_of_shelf}
use Rattle.cb_serve.specs.declared.fault.RoundFault.{RoundFault}
use Rattle.cb_serve.specs.Serving.{refused}
use Rattle.cb_serve.specs.declared.serving.Served.{Served}
use Rattle.cb_shelf.specs.LifeRows.{LifeState}
use Rattle.cb_shelf.specs.Newer.{HoldsNewer}
use Rattle.cb_shelf.specs.Inside.{IsSame}
use Rattle.cb_shelf.specs.declared.fault.ShelfFault.{ShelfFault}
use Rattle.cb_play.specs.Services.{ServesDatabase, ServesLife, ServesTables}
use Rattle.cb_play.specs.StoreFiles.{BeginsLife, OpensShelf}
use Rattle.cb_play.specs.declared.store_file.Reach.{Reach}
use Rattle.cb_play.specs.declared.store_file.Reach.TheVariants as reach

-- it was served, and the connection given back
pub opened_and_served : {S : Type 0} (g : Ghosts S) (limits : Bounds) (announces : Bool) (came : Reach) (served : Served) (old opened after new : Held S)
    (in1 in2 out1 out2 : Option (List ℕ)) → new ≡ after → OpensShelf g limits old opened → ServesTables g limits announces came served opened after in1 in2 out1 out2
    → ServesDatabase g limits announces came served old new in1 in2 out1 out2
opened_and_served {S} g limits announces came served old opened after new in1 in2 out1 out2 same opens serves =
    inl (opened, opens, subst (λ (h : Held S). ServesTables g limits announces came served opened h in1 in2 out1 out2) (sym same) serves)

-- a life began over its tables, the store in them was read, and served over in that life
pub read_and_served : {S : Type 0} (g : Ghosts S) (limits : Bounds) (announces : Bool) (store : StoreState) (life : LifeState) (came : Reach) (served : Served) (old begun tables new : Held S)
    (in1 in2 out1 out2 : Option (List ℕ)) → came ≡ reach.Read → BeginsLife g life old begun
    → (HasCleanDisk (state g tables) → HoldsNewer (state g begun).now store) → (HasCleanDisk (state g tables) → IsSame (state g begun) (state g tables))
    → ServesLife g limits announces store life served tables new in1 in2 out1 out2 → ServesTables g limits announces came served old new in1 in2 out1 out2
read_and_served g limits announces store life came served old begun tables new in1 in2 out1 out2 was_read begins holds same serves =
    subst (λ (r : Reach). ServesTables g limits announces r served old new in1 in2 out1 out2) (sym was_read)
    (record { life = life; begun = begun; begins = begins; store = store; tables = tables; reads = record { holds = holds; same = same }; serves = serves })

-- no life could begin
pub refused_at_begin : {S : Type 0} (g : Ghosts S) (limits : Bounds) (announces : Bool) (e : ShelfFault) (came : Reach) (served : Served) (old new : Held S) (ins outs : Option (List ℕ))
    → came ≡ reach.Refused e → served ≡ refused (becomes_of_shelf e) → (HasCleanDisk (state g new) → IsSame (state g old) (state g new))
    → ServesTables g limits announces came served old new ins ins outs outs
refused_at_begin g limits announces e came served old new ins outs was_refused told same =
    subst (λ (r : Reach). ServesTables g limits announces r served old new ins ins outs outs) (sym was_refused) (told, refl, refl, inl same)

-- the store couldn't be read in a life that had begun
pub refused_at_read : {S : Type 0} (g : Ghosts S) (limits : Bounds) (announces : Bool) (e : ShelfFault) (life : LifeState) (came : Reach) (served : Served) (old begun new : Held S) (ins outs : Option (List ℕ))
    → came ≡ reach.Refused e → served ≡ refused (becomes_of_shelf e) → BeginsLife g life old begun → (HasCleanDisk (state g new) → IsSame (state g begun) (state g new))
    → ServesTables g limits announces came served old new ins ins outs outs
refused_at_read g limits announces e life came served old begun new ins outs was_refused told begins same =
    subst (λ (r : Reach). ServesTables g limits announces r served old new ins ins outs outs) (sym was_refused)
    (told, refl, refl, inr (record { life = life; begun = begun; begins = begins; same = same }))

-- the life wasn't told
pub untold : {S : Type 0} (g : Ghosts S) (limits : Bounds) (announces : Bool) (store : StoreState) (life : LifeState) (f : RoundFault) (served : Served) (tables : Held S) (ins out1 out2 : Option (List ℕ))
    → served ≡ refused f → StaysUnannounced f life.floor out1 out2 → ServesLife g limits announces store life served tables tables ins ins out1 out2
untold g limits announces store life f served tables ins out1 out2 told stays = inr (f, told, stays, refl, refl)
