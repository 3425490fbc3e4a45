-- What the rounds of a life leave in the tables.
use Rattle.std.proofs.Common.{◌∙◌, Bool, List, [], ◌∷◌, map, filter, Option, Some, None, ap, arith, subst, sym}
use Rattle.sqlite.specs.Effect.{Database}
use Rattle.sqlite.specs.Order.{Row, column}
use Rattle.sqlite.specs.Held.{Held, state}
use Rattle.sqlite.specs.State.{HasCleanDisk}
use Rattle.sqlite.specs.Store.{Ghosts}
use Rattle.cb_commit.specs.Batches.{BatchState, after_batch}
use Rattle.cb_page.specs.Bounds.{Bounds}
use Rattle.cb_server.specs.Knowing.{KnowsBelow}
use Rattle.cb_shelf.specs.LifeRows.{LifeState}
use Rattle.cb_shelf_laws.proofs.Holding.{over_pages}
use Rattle.cb_shelf_laws.proofs.Lives.{batch_keeps, follows, puts}
use Rattle.cb_shelf_laws.proofs.Paging.{writes_batch}
use Rattle.cb_shelf_laws.specs.Rows.{PutsLife, is_at, is_of_page, mark_columns}
use Rattle.cb_serve.specs.Living.{MakesRoom}
use Rattle.cb_serve.specs.Living.MakesRoom.{had, made}
use Rattle.cb_serve.specs.Rounds.{Round, Standing, Writes}
use Rattle.cb_serve.specs.Serving.{AreRounds}
use Rattle.cb_running_laws.specs.NextLife.{IsKept, NextLifeIsNew}

-- the row of another life is put
put_kept : (older : Bool) (limits : Bounds) (life now : LifeState) (before after : Database) → IsKept older limits life before → PutsLife older now before after → IsKept older limits now after
put_kept older limits life now before after k p = record {
  store = k.store;
  of = k.of;
  has = record {
    shelf = p.shelf;
    mark = ap (map mark_columns) p.marks ∙ k.has.mark;
    versions = λ page low. ap (λ l. map (λ (r : Row). column r 2) (filter (is_of_page page) l)) p.pages ∙ k.has.versions page low;
    parts = λ page place low within. ap (λ l. map (λ (r : Row). column r 3) (filter (is_at page place) l)) p.parts ∙ k.has.parts page place low within;
  };
  row = p.put;
}

module _ {S : Type 0} (g : Ghosts S) (older : Bool) (limits : Bounds) where
  -- a disk that is clean at the end was clean before
  pub clean_at : (old mid : Held S) (life now : LifeState) → MakesRoom g life now old mid → HasCleanDisk (state g mid) → HasCleanDisk (state g old)
  clean_at old mid life now (had l t) clean = subst (λ (h : Held S). HasCleanDisk (state g h)) t clean
  clean_at old mid life now (made i b e m s crash) clean = omega (arith, crash.clean)

  pub clean_before : (rounds : List Round) (old new : Standing S) (life last : LifeState) → AreRounds g limits rounds old new life last → HasCleanDisk (state g new.tables) → HasCleanDisk (state g old.tables)
  clean_before [] old new life last are clean = subst (λ (s : Standing S). HasCleanDisk (state g s.tables)) are.0 clean
  clean_before (round ∷ rounds) old new life last are clean =
      let later = clean_before rounds are.1 new are.2 last are.4 clean in
      clean_at old.tables are.3.mid life are.2 are.3.room (let c = are.3.is.crash.clean in omega (arith, c, later))

  -- the tables get room
  room_kept : (old mid : Held S) (life now : LifeState) → MakesRoom g life now old mid → HasCleanDisk (state g mid) → IsKept older limits life (state g old).now → IsKept older limits now (state g mid).now
  room_kept old mid life now (had l t) clean k =
      subst (λ (h : Held S). IsKept older limits now (state g h).now) (sym t) (subst (λ (x : LifeState). IsKept older limits x (state g old).now) (sym l) k)
  room_kept old mid life now (made i b e m s crash) clean k =
      let ran = m clean in
      subst (IsKept older limits now) (ran.2 ∙ sym (s clean).same) (put_kept older limits life now (state g old).now ran.0 k (puts g older now (state g old).now ran.0 k.has.shelf ran.1))

  -- a batch is written
  batch_kept : (batch : Option BatchState) (old new : Held S) (life : LifeState) → Writes g limits batch old new → HasCleanDisk (state g new) → IsKept older limits life (state g old).now → IsKept older limits life (state g new).now
  batch_kept None old new life w clean k = subst (λ (h : Held S). IsKept older limits life (state g h).now) (sym w) k
  batch_kept (Some batch) old new life w clean k =
      let m = w.made clean in
      subst (IsKept older limits life) (sym (w.settled clean).same) (record {
        store = after_batch k.store batch;
        of = record { count = over_pages k.store.pages batch.pages ∙ k.of.count; page_size = k.of.page_size };
        has = (writes_batch older g limits batch k.store (state g old).now (state g new).committed k.of w.fits k.has m).0;
        row = batch_keeps g older limits batch k.store life (state g old).now (state g new).committed k.of w.fits k.has k.row m;
      })

  -- What rounds leave: the tables have the row of the life as it is then, and whom the server knows
  -- is below its number.
  kept : (rounds : List Round) (old new : Standing S) (life last : LifeState) → IsKept older limits life (state g old.tables).now → KnowsBelow old.server life.below → AreRounds g limits rounds old new life last
      → HasCleanDisk (state g new.tables) → IsKept older limits last (state g new.tables).now × KnowsBelow new.server last.below
  kept [] old new life last k known are clean = (
    subst (λ (s : Standing S). IsKept older limits last (state g s.tables).now) (sym are.0) (subst (λ (x : LifeState). IsKept older limits x (state g old.tables).now) (sym are.1) k),
    subst (λ (s : Standing S). KnowsBelow s.server last.below) (sym are.0) (subst (λ (x : LifeState). KnowsBelow old.server x.below) (sym are.1) known),
  )
  kept (round ∷ rounds) old new life last k known are clean =
      let later = clean_before rounds are.1 new are.2 last are.4 clean in
      let early : HasCleanDisk (state g are.3.mid) = (let c = are.3.is.crash.clean in omega (arith, c, later)) in
      kept rounds are.1 new are.2 last
      (batch_kept round.batch are.3.mid are.1.tables are.2 are.3.is.written later (room_kept old.tables are.3.mid life are.2 are.3.room early k))
      are.3.known are.4 clean

pub next_is_new : {S : Type 0} (g : Ghosts S) → NextLifeIsNew g
next_is_new g older limits rounds old new life last next k known are clean =
    let all = kept g older limits rounds old new life last k known are clean in
    (all.0, λ follow. let is = follows older (state g new.tables).now last next all.0.has.shelf all.0.row follow in subst (λ (l : LifeState). KnowsBelow new.server l.floor) (sym is) all.1)
