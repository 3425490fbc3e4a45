-- Which event is drawn next. This project's rule.
use Rattle.std.specs.Prelude.{ℕ, ◌-◌, ◌%◌, ◌≤◌, ⊤, ◌==◌, nat_lt, nat_le, min, replicate}
use Rattle.std.specs.Prelude.{if◌then◌else◌}
use Rattle.cb_transcript.specs.RandomWords.{after_words, word_at}
use Rattle.cb_transcript.specs.declared.kind.Kind.{Kind}
use Rattle.cb_transcript.specs.declared.kind.Kind.TheVariants as kind
use Rattle.cb_transcript.specs.declared.event.Call.{Call}
use Rattle.cb_transcript.specs.declared.event.Call.TheVariants as call
use Rattle.cb_transcript.specs.declared.event.Event.{Event}
use Rattle.cb_transcript.specs.declared.event.Event.TheVariants as event
use Rattle.cb_page.specs.Bounds.{Bounds}
use Rattle.rand_pcg.specs.Lcg.{Lcg, increment_of, started}
use Rattle.rand_pcg.specs.Pcg.{multiplier_64}

-- the limits of a world, and a generator as it stands
pub record DrawingState : Type 0 where
  pub limits : Bounds
  pub generator : Lcg

-- the generator of a seed, at stream 0
abbrev pub starts : Bounds → (seed : ℕ) → DrawingState
starts limits seed = record {
  limits = limits;
  generator = started 64 multiplier_64 seed (increment_of 64 0);
}

-- the kind that a number below 32 stands for, each line up to the number before its own
abbrev pub kind_of : ℕ → Kind
kind_of k =
    if nat_lt k 1 then kind.Hello else
    if nat_lt k 3 then kind.Begin else
    if nat_lt k 7 then kind.Read else
    if nat_lt k 9 then kind.Want else
    if nat_lt k 11 then kind.Write else
    if nat_lt k 13 then kind.Finish else
    if nat_lt k 14 then kind.Drop else
    if nat_lt k 15 then kind.Restart else
    if nat_lt k 16 then kind.AgainClient else
    if nat_lt k 17 then kind.AgainServer else
    if nat_lt k 19 then kind.Flush else
    if nat_lt k 26 then kind.TakeLate else
    kind.TakeAny

-- the same where so many packets were sent: with none to take there is a Hello
abbrev pub kind_at : (sent : ℕ) → ℕ → Kind
kind_at sent k = if sent == 0 then (if nat_le 19 k then kind.Hello else kind_of k) else kind_of k

-- where a packet is to be taken there is one
abbrev pub HasPacket : (sent : ℕ) → Kind → Type 0
HasPacket sent kind.TakeLate = 1 ≤ sent
HasPacket sent kind.TakeAny = 1 ≤ sent
HasPacket sent other = ⊤

-- a call of the client that the first word says
abbrev pub call_by : Bounds → (word : ℕ → ℕ) → Call → Event
call_by limits word made = event.Call (word 0 % limits.clients) made

-- The event of a kind, with what its words say: first the client, then the page, then the byte; or
-- the packet, which is one of the last eight or any.
abbrev pub event_of : Bounds → (sent : ℕ) → (word : ℕ → ℕ) → Kind → Event
event_of limits sent word kind.Hello = call_by limits word call.Hello
event_of limits sent word kind.Begin = call_by limits word call.Begin
event_of limits sent word kind.Read = call_by limits word (call.Read (word 1 % limits.pages))
event_of limits sent word kind.Want = call_by limits word (call.Want (word 1 % limits.pages))
event_of limits sent word kind.Write = call_by limits word
    (call.Write (word 1 % limits.pages) (replicate limits.page_size (word 2 % 256)))
event_of limits sent word kind.Finish = call_by limits word call.Finish
event_of limits sent word kind.Drop = call_by limits word call.Drop
event_of limits sent word kind.Restart = event.Restart (word 0 % limits.clients)
event_of limits sent word kind.AgainClient = call_by limits word call.Again
event_of limits sent word kind.AgainServer = event.AgainServer
event_of limits sent word kind.Flush = event.Flush
event_of limits sent word kind.TakeLate = event.Take (sent - 1 - word 0 % min sent 8)
event_of limits sent word kind.TakeAny = event.Take (word 0 % sent)

-- how many words it takes
abbrev pub words_of : Kind → ℕ
words_of kind.Read = 2
words_of kind.Want = 2
words_of kind.Write = 3
words_of kind.AgainServer = 0
words_of kind.Flush = 0
words_of other = 1

-- the kind that the next word says
abbrev pub drawn_kind : DrawingState → (sent : ℕ) → Kind
drawn_kind drawing sent = kind_at sent (word_at drawing.generator 0 % 32)

-- the event that it and the words behind it say
abbrev pub drawn_event : DrawingState → (sent : ℕ) → Event
drawn_event drawing sent = event_of drawing.limits sent
    (word_at (after_words drawing.generator 1)) (drawn_kind drawing sent)
