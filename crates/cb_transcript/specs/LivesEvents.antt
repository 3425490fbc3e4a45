-- Which events over all lives of a server carry the bytes of a page.
use Rattle.cb_transcript.specs.Events.{CallsWithBytes}
use Rattle.cb_transcript.specs.declared.lives_event.LivesEvent.{LivesEvent}
use Rattle.cb_transcript.specs.declared.lives_event.LivesEvent.TheVariants as lives

-- the event is a client's write
abbrev pub CarriesBytes : LivesEvent → Type 0
CarriesBytes (lives.Within event) = CallsWithBytes event
CarriesBytes (lives.ServerRestarts floor number) = ⊥
