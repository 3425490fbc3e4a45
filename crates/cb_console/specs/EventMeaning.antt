-- What the line of an event means to a reader of schedules.
use Rattle.std.specs.Prelude.{◌≡◌, ◌<◌, ◌^◌, ⊤, ℕ, List, [], ◌∷◌, ◌++◌, None, Some, replicate}
use Rattle.cb_page.specs.Bounds.{Bounds}
use Rattle.cb_page.specs.Faults.{first_fault}
use Rattle.cb_transcript.specs.ScheduleText.{event_of_line, line_causes}
use Rattle.cb_transcript.specs.declared.event.Call.{Call}
use Rattle.cb_transcript.specs.declared.event.Call.TheVariants as call
use Rattle.cb_transcript.specs.declared.event.Event.{Event}
use Rattle.cb_transcript.specs.declared.event.Event.TheVariants as event
use Rattle.cb_console.specs.DrawnText.{event_text}

-- there is a line of the call: a write fills a page of the limits' size, of one byte or more, with
-- one byte
abbrev pub HasArguments : Bounds → Call → Type 0
HasArguments limits (call.Read page) = page < 2 ^ 62
HasArguments limits (call.Want page) = page < 2 ^ 62
HasArguments limits (call.Peek page) = page < 2 ^ 62
HasArguments limits (call.Write page bytes) = (page < 2 ^ 62) × (0 < limits.page_size)
    × ((byte : ℕ) × (byte < 256) × (bytes ≡ replicate limits.page_size byte))
HasArguments limits other = ⊤

-- there is a line of the event
abbrev pub HasLine : Bounds → Event → Type 0
HasLine limits (event.Call client made) = (client < 2 ^ 62) × HasArguments limits made
HasLine limits (event.Restart client) = client < 2 ^ 62
HasLine limits (event.Take packet) = packet < 2 ^ 62
HasLine limits (event.FlushTo number) = number < 2 ^ 62
HasLine limits other = ⊤

-- the page of a call is there
abbrev pub HasPage : Bounds → Call → Type 0
HasPage limits (call.Read page) = page < limits.pages
HasPage limits (call.Want page) = page < limits.pages
HasPage limits (call.Peek page) = page < limits.pages
HasPage limits (call.Write page bytes) = page < limits.pages
HasPage limits other = ⊤

-- the client and the page of an event are there
abbrev pub IsWithin : Bounds → Event → Type 0
IsWithin limits (event.Call client made) = (client < limits.clients) × HasPage limits made
IsWithin limits (event.Restart client) = client < limits.clients
IsWithin limits other = ⊤

-- the text of an event is a line, which means the event; and whatever its number is, the line has
-- no fault where the event's client and page are there
abbrev pub LinesMeanEvents : Type 0
LinesMeanEvents = (limits : Bounds) (e : Event) → HasLine limits e → (line : List ℕ)
    × (event_text e ≡ line ++ 10 ∷ []) × (event_of_line limits line ≡ Some e)
    × ((number : ℕ) → IsWithin limits e → first_fault (line_causes limits number line) ≡ None)
