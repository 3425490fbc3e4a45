-- Which events carry the bytes of a page.
use Rattle.cb_transcript.specs.declared.event.Call.{Call}
use Rattle.cb_transcript.specs.declared.event.Call.TheVariants as call
use Rattle.cb_transcript.specs.declared.event.Event.{Event}
use Rattle.cb_transcript.specs.declared.event.Event.TheVariants as event

-- the call is a write
abbrev pub HasBytes : Call → Type 0
HasBytes (call.Write page bytes) = Unit {0}
HasBytes other = ⊥

-- the event is a client's write
abbrev pub CallsWithBytes : Event → Type 0
CallsWithBytes (event.Call client made) = HasBytes made
CallsWithBytes other = ⊥
