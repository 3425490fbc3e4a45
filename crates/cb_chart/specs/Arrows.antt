-- The arrows of a chart: which event sent a packet, and which took it.
use Rattle.std.specs.Prelude.{◌==◌, ◌&&◌, ◌+◌, ◌++◌, ℕ, nat_lt, Bool, List, [], ◌∷◌, map}
use Rattle.std.specs.Prelude.{Option, Some, None, if◌then◌else◌}
use Rattle.std.specs.List.{list_any}
use Rattle.std.specs.Option.{option_to_list}
use Rattle.cb_chart.specs.declared.arrows.Arrow.{Arrow}
use Rattle.cb_chart.specs.declared.arrows.Sending.{Sending}
use Rattle.cb_transcript.specs.declared.event.Event.{Event}
use Rattle.cb_transcript.specs.declared.event.Event.TheVariants as event
use Rattle.cb_transcript.specs.declared.answer.AnswerWord.{AnswerWord}
use Rattle.cb_transcript.specs.declared.answer.AnswerWord.TheVariants as word
use Rattle.cb_transcript.specs.declared.answer.SentPacket.{SentPacket}
use Rattle.cb_transcript.specs.declared.answer.TranscriptEntry.{TranscriptEntry}

-- the packet, sent by that event
abbrev pub sent_by : (event : ℕ) → SentPacket → Sending
sent_by at packet = record { packet = packet; event = at }

-- the number of the packet that an event took, if it took one
abbrev pub packet_taken : Event → AnswerWord → Option ℕ
packet_taken (event.Take packet) word.Taken = Some packet
packet_taken _ _ = None

-- the sending of the packet of that number
abbrev pub sending_of : List Sending → (number : ℕ) → Option Sending
sending_of [] number = None
sending_of (sending ∷ sendings) number =
    if sending.packet.number == number then Some sending else sending_of sendings number

-- the arrow of a packet that was sent so, to the event that took it
abbrev pub arrow_of : Option Sending → (taken : ℕ) → Option Arrow
arrow_of None at = None
arrow_of (Some sending) at =
    Some (record { packet = sending.packet; sent = sending.event; taken = at })

-- the arrow to an event that took that packet
abbrev pub arrow_by : List Sending → Option ℕ → (taken : ℕ) → Option Arrow
arrow_by sendings None at = None
arrow_by sendings (Some number) at = arrow_of (sending_of sendings number) at

-- the arrow to an event that was answered so, if it took a packet
abbrev pub arrow_to : List Sending → Event → AnswerWord → (event : ℕ) → Option Arrow
arrow_to sendings made answered at = arrow_by sendings (packet_taken made answered) at

-- the packets that events sent, each with its event, of which the first has that number
abbrev pub sendings_from : (event : ℕ) → List TranscriptEntry → List Sending
sendings_from at [] = []
sendings_from at (entry ∷ entries) =
    map (sent_by at) entry.answer.sent ++ sendings_from (at + 1) entries

-- the arrows to events, of which the first has that number: each comes from what was sent before
-- these events, or up to its own
abbrev pub arrows_from : List Sending → (event : ℕ) → List TranscriptEntry → List Arrow
arrows_from before at [] = []
arrows_from before at (entry ∷ entries) =
    option_to_list
    (arrow_to (before ++ map (sent_by at) entry.answer.sent) entry.event entry.answer.word at)
    ++ arrows_from (before ++ map (sent_by at) entry.answer.sent) (at + 1) entries

-- an event took the packet of that number
abbrev pub is_taken : List Arrow → (number : ℕ) → Bool
is_taken arrows number = list_any (λ arrow. arrow.packet.number == number) arrows

-- an earlier event took the packet of that arrow, too
abbrev pub is_again : List Arrow → Arrow → Bool
is_again arrows arrow =
    list_any
    (λ other. (other.packet.number == arrow.packet.number) && nat_lt other.taken arrow.taken)
    arrows
