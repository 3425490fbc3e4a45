-- How an event is spelled as a line of a schedule. This project's rules.
use Rattle.std.specs.Prelude.{ℕ, List, [], ◌∷◌, ◌++◌, codes, slice_index}
use Rattle.std.specs.Fmt.{decimal}
use Rattle.cb_transcript.specs.declared.event.Call.{Call}
use Rattle.cb_transcript.specs.declared.event.Call.TheVariants as call
use Rattle.cb_transcript.specs.declared.event.Event.{Event}
use Rattle.cb_transcript.specs.declared.event.Event.TheVariants as event

-- the word of a call
abbrev pub call_name : Call → List ℕ
call_name call.Hello = codes "hello"
call_name call.Begin = codes "begin"
call_name (call.Read page) = codes "read"
call_name (call.Want page) = codes "want"
call_name (call.Write page bytes) = codes "write"
call_name call.Finish = codes "finish"
call_name call.Drop = codes "drop"
call_name call.Again = codes "again"
call_name (call.Peek page) = codes "peek"

-- the numbers behind a call's client, with a space before each; bytes are told by the first one
abbrev pub arguments_text : Call → List ℕ
arguments_text (call.Read page) = codes " " ++ decimal page
arguments_text (call.Want page) = codes " " ++ decimal page
arguments_text (call.Peek page) = codes " " ++ decimal page
arguments_text (call.Write page bytes) =
    codes " " ++ (decimal page ++ (codes " " ++ decimal (slice_index bytes 0)))
arguments_text other = []

-- the line of an event: one space between words, numbers without leading zeros
abbrev pub event_text : Event → List ℕ
event_text (event.Call client made) =
    call_name made ++ (codes " " ++ (decimal client ++ (arguments_text made ++ 10 ∷ [])))
event_text (event.Take packet) = codes "take " ++ (decimal packet ++ 10 ∷ [])
event_text (event.Restart client) = codes "restart " ++ (decimal client ++ 10 ∷ [])
event_text event.AgainServer = codes "again server\n"
event_text event.Flush = codes "flush\n"
event_text (event.FlushTo number) = codes "flush " ++ (decimal number ++ 10 ∷ [])
