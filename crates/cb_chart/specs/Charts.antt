-- What a chart shows of the events that were played.
use Rattle.std.specs.Prelude.{◌≡◌, ◌∷◌, List, [], map, length}
use Rattle.cb_transcript.specs.declared.event.Event.{Event}
use Rattle.cb_page.specs.Bounds.{Bounds}
use Rattle.cb_transcript.specs.declared.answer.Answer.{Answer}
use Rattle.cb_schedule.specs.Draws.{IsOpening}
use Rattle.cb_schedule.specs.Plays.{Steps}
use Rattle.cb_schedule.specs.WorldState.{WorldState}
use Rattle.cb_chart.specs.Arrows.{arrows_from, sendings_from}
use Rattle.cb_chart.specs.Bars.{AreBars}
use Rattle.cb_chart.specs.Sights.{sight}
use Rattle.cb_chart.specs.declared.chart.Chart.{Chart}

-- the worlds that come of one by these events, one world after each
abbrev pub Passes : WorldState → List Event → List WorldState → Type 0
Passes w [] [] = Unit {0}
Passes w (event ∷ events) (v ∷ worlds) =
    ((answer : Answer) × Steps w event answer v) × Passes v events worlds
Passes w _ _ = ⊥

-- the last of the worlds that come of one
abbrev pub last_of : WorldState → List WorldState → WorldState
last_of w [] = w
last_of w (v ∷ worlds) = last_of v worlds

-- The chart shows these events, played over a store of zeros: each packet that was sent, an arrow
-- to each event that took one, a bar exactly where a client can read a copy after an event, and
-- after each event how many commits there were.
pub record Shows (limits : Bounds) (events : List Event) (chart : Chart) : Type 0 where
  pub first : WorldState
  pub is_opening : IsOpening limits first
  pub worlds : List WorldState
  pub passes : Passes first events worlds
  pub last : chart.world ≡ last_of first worlds
  pub made : map (λ entry. entry.event) chart.world.transcript ≡ events
  pub sendings : chart.sendings.items ≡ sendings_from 0 chart.world.transcript
  pub arrows : chart.arrows.items ≡ arrows_from [] 0 chart.world.transcript
  pub bars : AreBars (map sight worlds) chart.bars.items
  pub commits : map (λ mark. mark.commits) chart.marks.items ≡ map (λ w. length w.commits) worlds
