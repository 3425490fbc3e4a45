-- Tries of a flusher, one after another.
use Rattle.std.proofs.Common.{inl, inr, [], ◌∷◌, Option, Some, None, refl}
use Rattle.sqlite.specs.Held.{Held, state}
use Rattle.sqlite.specs.State.{Survives}
use Rattle.sqlite.specs.Store.{Ghosts}
use Rattle.sqlite.specs.Tree.{Trees}
use Rattle.sqlite.proofs.StateLemmas.{survives_then, survives_weaker}
use Rattle.cb_commit.specs.Batches.{BatchState}
use Rattle.cb_page.specs.Bounds.{Bounds}
use Rattle.cb_office.specs.Flushing.{LeavesFirst, LeavesSome, MadeAtLast, MadeFirst, MadeSome, Tries, WritesAtLast, WritesFirst, WritesSome}

module _ {S : Type 0} (g : Ghosts S) (limits : Bounds) where
  -- a batch that was held is one of those that were written
  some_written : (held : Option BatchState) (a b : Held S) → WritesFirst g limits held a b → WritesSome g limits a b
  some_written None a b w = w
  some_written (Some batch) a b w = (batch ∷ w.0, w.1)

  some_left : (held : Option BatchState) (a b : Held S) → LeavesFirst g limits held a b → LeavesSome g limits a b
  some_left None a b l = l
  some_left (Some batch) a b (inl none) = ([], none)
  some_left (Some batch) a b (inr some) = (batch ∷ some.0, some.1)

  some_made : (held : Option BatchState) (a : Held S) (trees : Trees) → MadeFirst g held a trees → MadeSome g a trees
  some_made None a trees m = m
  some_made (Some batch) a trees m = (batch ∷ m.0, m.1, m.2, m.3)

  untried : (a : Held S) → Tries g limits a a
  untried a = ([], refl)

  one_more : (a b c : Held S) → Tries g limits a b → LeavesSome g limits b c → Tries g limits a c
  one_more a b c tries left = (b ∷ tries.0, (tries.1, left))

  module _ (a b : Held S) where
    -- the first try
    pub first_left : LeavesSome g limits a b → Tries g limits a b
    first_left left = one_more a a b (untried a) left

    pub first_written : WritesSome g limits a b → WritesAtLast g limits a b
    first_written written = (a, untried a, written)

    pub first_survives : Survives (state g a) (state g b) (MadeSome g a) → Survives (state g a) (state g b) (MadeAtLast g limits a)
    first_survives one = survives_weaker (state g a) (state g b) (MadeSome g a) (MadeAtLast g limits a) (λ _ trees made. (a, untried a, made)) one

    -- a later one
    module _ (tries : Tries g limits a b) (held : Option BatchState) (c : Held S) where
      pub later_left : LeavesFirst g limits held b c → Tries g limits a c
      later_left left = one_more a b c tries (some_left held b c left)

      pub later_written : WritesFirst g limits held b c → WritesAtLast g limits a c
      later_written written = (b, tries, some_written held b c written)

      pub later_survives : Survives (state g a) (state g b) (MadeAtLast g limits a) → Survives (state g b) (state g c) (MadeFirst g held b) → Survives (state g a) (state g c) (MadeAtLast g limits a)
      later_survives before one =
          survives_then (state g a) (state g b) (state g c) (MadeAtLast g limits a) (MadeFirst g held b) (MadeAtLast g limits a) (λ _ trees made. made) (λ _ trees made. (b, tries, some_made held b trees made)) before one
