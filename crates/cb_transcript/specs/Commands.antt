-- The table of commands: the words that a line begins with, what numbers stand behind them, and the
-- event that they make. This project's rule. A new command is one line in each definition here.
use Rattle.std.specs.Prelude.{
  ℕ,
  Bool,
  true,
  ◌&&◌,
  nat_lt,
  List,
  [],
  ◌∷◌,
  Option,
  Some,
  None,
  if◌then◌else◌,
  codes,
  replicate,
  slice_index,
}
use Rattle.std.specs.Option.{option_map}
use Rattle.std.specs.Str.{bytes_eq}
use Rattle.cb_page.specs.Bounds.{Bounds}
use Rattle.cb_page.specs.Numbers.{is_number}
use Rattle.cb_transcript.specs.declared.command.Command.{Command}
use Rattle.cb_transcript.specs.declared.command.Command.TheVariants as command
use Rattle.cb_transcript.specs.declared.command.SpelledEvent.{SpelledEvent}
use Rattle.cb_transcript.specs.declared.command.SpelledEvent.TheVariants as spelled
use Rattle.cb_transcript.specs.declared.event.Call.TheVariants as call
use Rattle.cb_transcript.specs.declared.event.Event.{Event}
use Rattle.cb_transcript.specs.declared.event.Event.TheVariants as event

-- the command of a first word
unfoldable pub command_named : List ℕ → Option Command
command_named word =
    if bytes_eq word (codes "hello") then Some (command.Call call.Hello) else
    if bytes_eq word (codes "begin") then Some (command.Call call.Begin) else
    if bytes_eq word (codes "read") then Some command.Read else
    if bytes_eq word (codes "peek") then Some command.Peek else
    if bytes_eq word (codes "want") then Some command.Want else
    if bytes_eq word (codes "write") then Some command.Write else
    if bytes_eq word (codes "finish") then Some (command.Call call.Finish) else
    if bytes_eq word (codes "drop") then Some (command.Call call.Drop) else
    if bytes_eq word (codes "restart") then Some command.Restart else
    if bytes_eq word (codes "take") then Some command.Take else
    if bytes_eq word (codes "again") then Some (command.Call call.Again) else
    if bytes_eq word (codes "flush") then Some command.FlushTo else
    None

-- a command, and the words behind it, as its next word tells: `again server` is a command of two
-- words, and `flush` by itself is one too
abbrev pub told_apart : Command → List (List ℕ) → Command × List (List ℕ)
told_apart (command.Call call.Again) (next ∷ rest) =
    if bytes_eq next (codes "server") then (command.Event event.AgainServer, rest)
    else (command.Call call.Again, next ∷ rest)
told_apart command.FlushTo [] = (command.Event event.Flush, [])
told_apart other rest = (other, rest)

-- the command that words begin with, and the words behind it
abbrev pub command_of : (first : List ℕ) (rest : List (List ℕ))
    → Option (Command × List (List ℕ))
command_of first rest = option_map (λ named. told_apart named rest) (command_named first)

-- what a number behind a command stands for
pub data Argument : Type 0 where
  Client Page Byte Number Floor : Argument

-- the numbers that a command wants behind it
abbrev pub arguments_of : Command → List Argument
arguments_of (command.Event made) = []
arguments_of (command.Call made) = Client ∷ []
arguments_of command.Read = Client ∷ Page ∷ []
arguments_of command.Want = Client ∷ Page ∷ []
arguments_of command.Peek = Client ∷ Page ∷ []
arguments_of command.Write = Client ∷ Page ∷ Byte ∷ []
arguments_of command.Restart = Client ∷ []
arguments_of command.Take = Number ∷ []
arguments_of command.FlushTo = Number ∷ []

-- what a command spells with these numbers
abbrev pub spelled_by : Command → List ℕ → SpelledEvent
spelled_by (command.Event made) numbers = spelled.Whole made
spelled_by (command.Call made) numbers = spelled.Whole (event.Call (slice_index numbers 0) made)
spelled_by command.Read numbers =
    spelled.Whole (event.Call (slice_index numbers 0) (call.Read (slice_index numbers 1)))
spelled_by command.Want numbers =
    spelled.Whole (event.Call (slice_index numbers 0) (call.Want (slice_index numbers 1)))
spelled_by command.Peek numbers =
    spelled.Whole (event.Call (slice_index numbers 0) (call.Peek (slice_index numbers 1)))
spelled_by command.Write numbers =
    spelled.Write (slice_index numbers 0) (slice_index numbers 1) (slice_index numbers 2)
spelled_by command.Restart numbers = spelled.Whole (event.Restart (slice_index numbers 0))
spelled_by command.Take numbers = spelled.Whole (event.Take (slice_index numbers 0))
spelled_by command.FlushTo numbers = spelled.Whole (event.FlushTo (slice_index numbers 0))

-- the event that is spelled: a write fills a page of the limits' size with its byte
abbrev pub event_of : Bounds → SpelledEvent → Event
event_of limits (spelled.Whole made) = made
event_of limits (spelled.Write client page byte) =
    event.Call client (call.Write page (replicate limits.page_size byte))

-- whether there is such a client, page or byte, and whether a floor is an incarnation
abbrev pub is_in_range : Bounds → Argument → ℕ → Bool
is_in_range limits Client n = nat_lt n limits.clients
is_in_range limits Page n = nat_lt n limits.pages
is_in_range limits Byte n = nat_lt n 256
is_in_range limits Number n = true
is_in_range limits Floor n = is_number n

-- the same of the numbers behind a command, each for what it stands for
abbrev pub are_in_range : Bounds → List Argument → List ℕ → Bool
are_in_range limits [] numbers = true
are_in_range limits (wanted ∷ more) [] = true
are_in_range limits (wanted ∷ more) (n ∷ numbers) =
    is_in_range limits wanted n && are_in_range limits more numbers
