-- Events drawn so far, and one more.
use Rattle.std.proofs.Common.{◌≡◌, ℕ, List, [], ◌∷◌, ◌++◌, length, Result, Ok, Err, append_assoc, subst}
use Rattle.std.specs.Prelude.{IfOk}
use Rattle.std.proofs.lemmas.List.{append-nil}
use Rattle.cb_transcript.specs.Drawn.{DrawingState, starts}
use Rattle.cb_schedule.specs.Draws.{AreDrawn, AreNext, IsNext, IsOpening}
use Rattle.cb_transcript.specs.declared.event.Event.{Event}
use Rattle.cb_page.specs.Bounds.{Bounds}
use Rattle.cb_schedule.specs.WorldState.{WorldState}

-- whatever is drawn from a drawing in a world continues these events, drawn from the first ones
pub record DrawnTo (first : DrawingState) (first_world : WorldState) (events : List Event) (drawing : DrawingState) (world : WorldState) : Type 0 where
  pub more : (later : List Event) → AreNext drawing world later → AreNext first first_world (events ++ later)

pub drawn_none : (drawing : DrawingState) (world : WorldState) → DrawnTo drawing world [] drawing world
drawn_none drawing world = record { more = λ later next. next }

pub drawn_more : (first : DrawingState) (first_world : WorldState) (events : List Event) (drawing : DrawingState) (world : WorldState) (event : Event)
    (after : DrawingState) (world_after : WorldState) → DrawnTo first first_world events drawing world → IsNext drawing world event after world_after
    → DrawnTo first first_world (events ++ event ∷ []) after world_after
drawn_more first first_world events drawing world event after world_after so_far one =
    record { more = λ later next. rw (append_assoc events (event ∷ []) later) (so_far.more (event ∷ later) (after, world_after, one, next)) }

pub drawn_all : (first : DrawingState) (first_world : WorldState) (events : List Event) (drawing : DrawingState) (world : WorldState)
    → DrawnTo first first_world events drawing world → AreNext first first_world events
drawn_all first first_world events drawing world so_far = subst (λ (drawn : List Event). AreNext first first_world drawn) (append-nil events) (so_far.more [] tt)

-- so many events that are drawn from the first drawing in an opening world are those of the seed
pub are_drawn : {A E : Type 0} (result : Result A E) (items : A → List Event) (bounds : Bounds) (seed count : ℕ) (world : WorldState) → IsOpening bounds world
    → IfOk result (λ drawn. length (items drawn) ≡ count) → IfOk result (λ drawn. AreNext (starts bounds seed) world (items drawn))
    → IfOk result (λ drawn. AreDrawn bounds seed count (items drawn))
are_drawn (Ok drawn) items bounds seed count world opening as_many next = record { as_many = as_many; world = world; is_opening = opening; are_next = next }
are_drawn (Err e) items bounds seed count world opening as_many next = tt
