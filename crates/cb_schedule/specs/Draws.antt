-- Which events are drawn in a world that plays them. This project's rules.
use Rattle.std.specs.Prelude.{◌≡◌, ℕ, ⊤, List, [], ◌∷◌, length}
use Rattle.cb_commit.specs.Stores.{zeros}
use Rattle.cb_cache.specs.CacheState.{limits_of}
use Rattle.cb_transcript.specs.Drawn.{DrawingState, drawn_event, drawn_kind, starts, words_of}
use Rattle.cb_transcript.specs.RandomWords.{after_words}
use Rattle.cb_transcript.specs.declared.event.Event.{Event}
use Rattle.cb_server_state.specs.States.{opening_of}
use Rattle.cb_page.specs.Bounds.{Bounds}
use Rattle.cb_protocol.specs.World.{new_world}
use Rattle.cb_transcript.specs.declared.answer.Answer.{Answer}
use Rattle.cb_schedule.specs.Plays.{Steps}
use Rattle.cb_schedule.specs.WorldState.{Represents, WorldState, told}

-- how many packets were sent in the world
abbrev pub sent_in : WorldState → ℕ
sent_in world = length world.net.packets.sent

-- the drawing after its next event: it has used up the words of that
abbrev pub after_event : DrawingState → (sent : ℕ) → DrawingState
after_event drawing sent = record drawing {
  generator = after_words (after_words drawing.generator 1) (words_of (drawn_kind drawing sent));
}

-- The event is the drawing's next in a world in which so many packets were sent, and the world
-- plays it.
pub record IsNext (drawing : DrawingState) (world : WorldState) (event : Event)
    (drawing_after : DrawingState) (world_after : WorldState) : Type 0 where
  pub drawn : event ≡ drawn_event drawing (sent_in world)
  pub words : drawing_after ≡ after_event drawing (sent_in world)
  pub answer : Answer
  pub played : Steps world event answer world_after

-- these events are drawn one after another, from a drawing in a world
abbrev pub AreNext : DrawingState → WorldState → List Event → Type 0
AreNext drawing world [] = ⊤
AreNext drawing world (event ∷ events) = (drawing_after : DrawingState)
    × (world_after : WorldState) × IsNext drawing world event drawing_after world_after
    × AreNext drawing_after world_after events

-- The world over a store of zeros in which nothing has happened.
pub record IsOpening (bounds : Bounds) (world : WorldState) : Type 0 where
  pub limits : world.limits ≡ bounds
  pub tells : told world ≡ record { opening = zeros bounds; entries = []; commits = [] }
  pub packets : world.net.packets.sent ≡ []
  pub shows : Represents world (new_world (limits_of bounds) (opening_of (zeros bounds)))

-- So many events are drawn by the words of a seed, the first one in a world of zeros in which
-- nothing has happened.
pub record AreDrawn (bounds : Bounds) (seed count : ℕ) (events : List Event) : Type 0 where
  pub as_many : length events ≡ count
  pub world : WorldState
  pub is_opening : IsOpening bounds world
  pub are_next : AreNext (starts bounds seed) world events
