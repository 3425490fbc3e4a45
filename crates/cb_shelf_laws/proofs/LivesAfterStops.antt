-- Which lives the tables tell of after any steps.
use Rattle.std.proofs.Common.{◌≡◌, ℕ, ◌<◌, ◌≤◌, Bool, true, false, List, [], ◌∷◌, Option, Some, None, refl, sym, ap, ◌∙◌, subst, arith}
use Rattle.std.proofs.lemmas.List.{length-replicate}
use Rattle.sqlite_trees.specs.declared.store.Store.{Ghosts}
use Rattle.sqlite.specs.Effect.{Database}
use Rattle.cb_page.specs.Bounds.{Bounds}
use Rattle.cb_commit.specs.Stores.{StoreState, IsOf, zeros, zero_page}
use Rattle.cb_commit.specs.Batches.{BatchState, after_batch}
use Rattle.cb_shelf.specs.Events.{Event, after_event}
use Rattle.cb_shelf.specs.Events.Event.{committed, taken, written, reported}
use Rattle.cb_shelf.specs.LifeRows.{LifeState, unserved}
use Rattle.cb_shelf.specs.Living as living
use Rattle.cb_shelf.specs.Living.{Follows, life_from}
use Rattle.cb_shelf_laws.proofs.Following.{lays_zeros, leaves_shelf, zeros_full}
use Rattle.cb_shelf_laws.proofs.Holding.{holds_rows, over_pages}
use Rattle.cb_shelf_laws.proofs.Laying.{full_laid, life_laid}
use Rattle.cb_shelf_laws.proofs.Lives.{batch_keeps, begins, follows, row_set, store_left}
use Rattle.cb_shelf_laws.proofs.Lives.{unlived_begins}
use Rattle.cb_shelf_laws.proofs.Paging.{writes_batch}
use Rattle.cb_shelf_laws.proofs.Unlived.{unlived_kept}
use Rattle.cb_shelf_laws.specs.Rows.{IsLife, HasStore}
use Rattle.cb_shelf_laws.specs.Stops.{AreNew, Course, FirstOpen, FloorsAreNew, MakesStep}
use Rattle.cb_shelf_laws.specs.Stops.{MakesSteps, Step, Writes, after_step, after_steps, begun}
use Rattle.cb_shelf_laws.specs.Stops.FirstOpen.{made, copied, found, unlived}
use Rattle.cb_shelf_laws.specs.Stops.Step.{happened, refused, reopened, lived, raised, stopped}

-- The rows are those of some store of these limits, and tell of this life.
record Tells (older : Bool) (limits : Bounds) (life : LifeState) (db : Database) : Type 0 where
  store : StoreState
  of : IsOf limits store
  has : HasStore older db store
  row : IsLife older db life

-- floors that are new below a number are so below each greater one
new_below : (floors : List ℕ) (least below more : ℕ) → below ≤ more → AreNew floors least below → AreNew floors least more
new_below [] least below more le new = tt
new_below (floor ∷ floors) least below more le new = (let l = new.0 in omega (arith, l, le), new.1, new.2)

module _ {S : Type 0} (g : Ghosts S) (older : Bool) (limits : Bounds) where
  -- a batch
  tells_written : (held : Option BatchState) (life : LifeState) (before after : Database) → Writes g limits held before after → Tells older limits life before → Tells older limits life after
  tells_written None life before after w t = subst (Tells older limits life) w t
  tells_written (Some batch) life before after w t = record {
    store = after_batch t.store batch;
    of = record { count = over_pages t.store.pages batch.pages ∙ t.of.count; page_size = t.of.page_size };
    has = (writes_batch older g limits batch t.store before after t.of w.0 t.has w.1).0;
    row = batch_keeps g older limits batch t.store life before after t.of w.0 t.has t.row w.1;
  }

  -- each step
  tells_on : (c : Course) (step : Step) (before after : Database) → MakesStep g limits c step before after → Tells older limits c.life before → Tells older limits (after_step c step).life after
  tells_on c (happened (committed commit)) before after m t = subst (Tells older limits c.life) m.1 t
  tells_on c (happened taken) before after m t = subst (Tells older limits c.life) m.1 t
  tells_on c (happened written) before after m t = tells_written c.present.held c.life before after m.1 t
  tells_on c (happened reported) before after m t = subst (Tells older limits c.life) m.1 t
  tells_on c refused before after m t = subst (Tells older limits c.life) m t
  tells_on c reopened before after m t = subst (Tells older limits c.life) (leaves_shelf g older limits before after t.has.shelf m) t
  tells_on c (lived life) before after m t =
      let p = begins g older life before after t.has.shelf m.1 in record { store = t.store; of = t.of; has = store_left older t.store life before after t.has p; row = p.put }
  tells_on c (raised incarnation) before after m t =
      let life : LifeState = living.raised c.life incarnation in
      let p = row_set g older life before after t.has.shelf m.1 in record { store = t.store; of = t.of; has = store_left older t.store life before after t.has p; row = p.put }
  tells_on c (stopped false) before after m t = subst (Tells older limits c.life) (leaves_shelf g older limits before after t.has.shelf m) t
  tells_on c (stopped true) before after m t =
      let w = tells_written c.present.held c.life before m.0 m.1 t in
      subst (Tells older limits c.life) (leaves_shelf g older limits m.0 after w.has.shelf m.2) w

  -- the floors so far, from a number on that is no greater than the one that the tables tell
  record Rise (least : ℕ) (c : Course) : Type 0 where
    from : least ≤ c.life.below
    new : AreNew c.floors least c.life.below

  rise_on : (least : ℕ) (c : Course) (step : Step) (before after : Database) → MakesStep g limits c step before after → Tells older limits c.life before → Rise least c → Rise least (after_step c step)
  rise_on least c (happened event) before after m t r = record { from = r.from; new = r.new }
  rise_on least c refused before after m t r = r
  rise_on least c reopened before after m t r = r
  rise_on least c (lived life) before after m t r =
      let is : life ≡ life_from c.life.below = follows older before c.life life t.has.shelf t.row m.0 in
      let floor : life.floor ≡ c.life.below = ap (λ (l : LifeState). l.floor) is in
      let below = ap (λ (l : LifeState). l.below) is in let from = r.from in record {
        from = omega (arith, from, below);
        new = (omega (arith, floor, below), omega (arith, floor, from), subst (AreNew c.floors least) (sym floor) r.new);
      }
  rise_on least c (raised incarnation) before after m t r = let from = r.from in let le = m.0 in record {
    from = omega (arith, from, le);
    new = new_below c.floors least c.life.below _ (omega (arith, le)) r.new;
  }
  rise_on least c (stopped false) before after m t r = record { from = r.from; new = r.new }
  rise_on least c (stopped true) before after m t r = record { from = r.from; new = r.new }

  -- all of them
  all_rise : (least : ℕ) (steps : List Step) (c : Course) (before after : Database) → MakesSteps g limits c steps before after → Tells older limits c.life before → Rise least c
      → Tells older limits (after_steps c steps).life after × Rise least (after_steps c steps)
  all_rise least [] c before after m t r = (subst (Tells older limits c.life) m t, r)
  all_rise least (step ∷ steps) c before after m t r =
      all_rise least steps (after_step c step) m.0 after m.2 (tells_on c step before m.0 m.1 t) (rise_on least c step before m.0 m.1 t r)

  floors_of : (steps : List Step) (opening : StoreState) (life next : LifeState) (first after : Database) → MakesSteps g limits (begun opening life) steps first after → Tells older limits life first
      → AreNew (after_steps (begun opening life) steps).floors life.below (after_steps (begun opening life) steps).life.below × (Follows after next → next ≡ life_from (after_steps (begun opening life) steps).life.below)
  floors_of steps opening life next first after m t =
      let all = all_rise life.below steps (begun opening life) first after m t (record { from = omega arith; new = tt }) in
      (all.1.new, λ follow. follows older after (after_steps (begun opening life) steps).life next all.0.has.shelf all.0.row follow)

pub floors_are_new : {S : Type 0} (g : Ghosts S) → FloorsAreNew g
floors_are_new g limits steps opening life next before first after (made none lays is served) m =
    let laid_there = lays_zeros g limits before first none lays in
    floors_of g false limits steps opening life next first after m (record {
      store = zeros limits;
      of = record { count = length-replicate limits.pages (zero_page limits.page_size); page_size = refl };
      has = full_laid g false (zeros limits) before first (zeros_full limits) none laid_there;
      row = subst (IsLife false first) (sym served) (life_laid g false (zeros limits) before first none laid_there);
    })
floors_are_new g limits steps opening life next before first after (copied old laid_there of pages served) m =
    floors_of g true limits steps opening life next first after m (record {
      store = opening;
      of = of;
      has = full_laid g true opening before first pages old laid_there;
      row = subst (IsLife true first) (sym served) (life_laid g true opening before first old laid_there);
    })
floors_are_new g limits steps opening life next before first after (found older shelf told there lays of pages) m =
    let same = leaves_shelf g older limits before first shelf lays in
    floors_of g older limits steps opening life next first after m (subst (Tells older limits life) same (record { store = opening; of = of; has = holds_rows older before opening shelf there; row = told }))
floors_are_new g limits steps opening life next before first after (unlived older none there follow lives of pages) m =
    let p = unlived_begins g older life before first none lives in
    floors_of g older limits steps opening life next first after m (record { store = opening; of = of; has = unlived_kept older opening life before first none there p; row = p.put })
