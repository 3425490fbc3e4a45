-- Batches that are written, one after another.
use Rattle.std.proofs.Common.{inl, inr, List, [], ◌∷◌, ◌++◌, Some, refl, sym, subst, arith}
use Rattle.std.specs.List.{AllByRecursion}
use Rattle.sqlite.specs.Effect.{Database}
use Rattle.sqlite.specs.Held.{Held, state}
use Rattle.sqlite.specs.State.{HasCleanDisk, Survives}
use Rattle.sqlite.specs.Store.{Ghosts}
use Rattle.sqlite.specs.Tree.{Trees}
use Rattle.sqlite.proofs.StateLemmas.{survives_then, survives_weaker}
use Rattle.cb_commit.specs.Batches.{BatchState}
use Rattle.cb_page.specs.Bounds.{Bounds}
use Rattle.cb_office.specs.Flushing.{LeavesAll, LeavesFirst, LeavesSome, MadeFirst, MadeSome, MakesBatches, WritesAll, WritesFirst, WritesSome}
use Rattle.cb_shelf.specs.Flushing.{WritesOne, WritesOrStays}
use Rattle.cb_shelf.specs.Statements.{MakesAll, batch_statements}
use Rattle.cb_shelf.specs.Writing.{Fits, Wrote}

all_more : (limits : Bounds) (batches : List BatchState) (batch : BatchState) → AllByRecursion (Fits limits) batches → Fits limits batch → AllByRecursion (Fits limits) (batches ++ batch ∷ [])
all_more limits [] batch a f = (f, tt)
all_more limits (b ∷ batches) batch a f = (a.0, all_more limits batches batch a.1 f)

module _ {S : Type 0} (g : Ghosts S) where
  -- one batch more
  makes_more : (batches : List BatchState) (batch : BatchState) (a b c : Database) → MakesBatches g batches a b → MakesAll g (batch_statements batch) b c → MakesBatches g (batches ++ batch ∷ []) a c
  makes_more [] batch a b c before one = (c, subst (λ (d : Database). MakesAll g (batch_statements batch) d c) (sym before) one, refl)
  makes_more (first ∷ batches) batch a b c before one = (before.0, before.1, makes_more batches batch before.0 b c before.2 one)

  -- nothing happens
  pub survives_still : (a : Held S) (P : Trees → Type 0) → Survives (state g a) (state g a) P
  survives_still a P = record {
    clean = omega arith;
    shield = λ s. s;
    counts = omega arith;
    limit = refl;
    closes = λ clean still. inl still;
    crash = λ clean db left. inl left;
  }

  module _ (limits : Bounds) where
    pub nothing : (a : Held S) → WritesSome g limits a a
    nothing a = ([], record { fit = tt; made = λ clean. refl; settled = λ clean s. s })

    -- what one batch makes of what a connection sees
    one_made : (batch : BatchState) (a b : Held S) → WritesOne g limits batch a b → HasCleanDisk (state g b) → MakesAll g (batch_statements batch) (state g a).now (state g b).now
    one_made batch a b one clean = subst (λ (d : Database). MakesAll g (batch_statements batch) (state g a).now d) (sym (one.settled clean).same) (one.made clean)

    pub writes_more : (batch : BatchState) (a b c : Held S) (P : Trees → Type 0) → WritesSome g limits a b → WritesOne g limits batch b c → Survives (state g b) (state g c) P → WritesSome g limits a c
    writes_more batch a b c P some one kept = (
      some.0 ++ batch ∷ [],
      record {
        fit = all_more limits some.0 batch some.1.fit one.fits;
        made = λ clean. let early : HasCleanDisk (state g b) = omega (arith, kept.clean) in makes_more some.0 batch _ _ _ (some.1.made early) (one_made batch b c one clean);
        settled = λ clean s. one.settled clean;
      },
    )

    -- so a crash leaves
    pub survives_more : (batch : BatchState) (a b c : Held S) → WritesSome g limits a b → Survives (state g a) (state g b) (MadeSome g a) → Survives (state g b) (state g c) (Wrote g batch b)
        → Survives (state g a) (state g c) (MadeSome g a)
    survives_more batch a b c some before one =
        survives_then (state g a) (state g b) (state g c) (MadeSome g a) (Wrote g batch b) (MadeSome g a) (λ _ db made. made)
        (λ clean db wrote. let early : HasCleanDisk (state g b) = omega (arith, one.clean) in (some.0 ++ batch ∷ [], wrote.0, makes_more some.0 batch _ _ _ (some.1.made early) wrote.1, wrote.2))
        before one

    leaves : (batches : List BatchState) (a b : Held S) → WritesAll g limits batches a b → LeavesAll g limits batches a b
    leaves batches a b all = record { fit = all.fit; made = λ clean still. all.made clean }

    pub leaves_some : (a b : Held S) → WritesSome g limits a b → LeavesSome g limits a b
    leaves_some a b some = (some.0, leaves some.0 a b some.1)

    -- a batch is refused behind them
    pub stops : (batch : BatchState) (a b c : Held S) (P : Trees → Type 0) → WritesSome g limits a b → WritesOrStays g limits batch b c → Survives (state g b) (state g c) P → LeavesSome g limits a c
    stops batch a b c P some (inl one) kept = leaves_some a c (writes_more batch a b c P some one kept)
    stops batch a b c P some (inr same) kept = (
      some.0,
      record {
        fit = some.1.fit;
        made = λ clean still. let early : HasCleanDisk (state g b) = omega (arith, kept.clean) in subst (λ (d : Database). MakesBatches g some.0 (state g a).now d) (sym ((same clean).now still)) (some.1.made early);
      },
    )

    -- the batch that is held is written, and then some
    pub writes_first : (held : BatchState) (a b c : Held S) (P : Trees → Type 0) → WritesOne g limits held a b → WritesSome g limits b c → Survives (state g b) (state g c) P → WritesFirst g limits (Some held) a c
    writes_first held a b c P one some kept = (
      some.0,
      record {
        fit = (one.fits, some.1.fit);
        made = λ clean. let early : HasCleanDisk (state g b) = omega (arith, kept.clean) in ((state g b).now, one_made held a b one early, some.1.made clean);
        settled = λ clean s. let early : HasCleanDisk (state g b) = omega (arith, kept.clean) in some.1.settled clean (one.settled early);
      },
    )

    pub leaves_first : (held : BatchState) (a b c : Held S) (P : Trees → Type 0) → WritesOne g limits held a b → LeavesSome g limits b c → Survives (state g b) (state g c) P → LeavesFirst g limits (Some held) a c
    leaves_first held a b c P one some kept = inr (
      some.0,
      record {
        fit = (one.fits, some.1.fit);
        made = λ clean still. let early : HasCleanDisk (state g b) = omega (arith, kept.clean) in ((state g b).now, one_made held a b one early, some.1.made clean still);
      },
    )

    -- it is refused again
    pub stops_first : (held : BatchState) (a b : Held S) → WritesOrStays g limits held a b → LeavesFirst g limits (Some held) a b
    stops_first held a b (inl one) = inr ([], record { fit = (one.fits, tt); made = λ clean still. ((state g b).now, one_made held a b one clean, refl) })
    stops_first held a b (inr same) = inl (record { fit = tt; made = λ clean still. sym ((same clean).now still) })

    pub survives_first : (held : BatchState) (a b c : Held S) → WritesOne g limits held a b → Survives (state g a) (state g b) (Wrote g held a) → Survives (state g b) (state g c) (MadeSome g b)
        → Survives (state g a) (state g c) (MadeFirst g (Some held) a)
    survives_first held a b c one before more =
        survives_then (state g a) (state g b) (state g c) (Wrote g held a) (MadeSome g b) (MadeFirst g (Some held) a) (λ _ db wrote. ([], wrote.0, (wrote.0, wrote.1, refl), wrote.2))
        (λ clean db made. let early : HasCleanDisk (state g b) = omega (arith, more.clean) in (made.0, made.1, ((state g b).now, one_made held a b one early, made.2), made.3))
        before more

    pub survives_held : (held : BatchState) (a b : Held S) → Survives (state g a) (state g b) (Wrote g held a) → Survives (state g a) (state g b) (MadeFirst g (Some held) a)
    survives_held held a b one =
        survives_weaker (state g a) (state g b) (Wrote g held a) (MadeFirst g (Some held) a) (λ _ db wrote. ([], wrote.0, (wrote.0, wrote.1, refl), wrote.2)) one
