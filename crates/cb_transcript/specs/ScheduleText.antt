-- Which texts are schedules, the events that they mean, and the fault of any other text. This
-- project's rules.
use Rattle.std.specs.Prelude.{
  ◌≡◌,
  ℕ,
  Bool,
  true,
  not,
  ◌&&◌,
  ◌==◌,
  nat_le,
  List,
  [],
  ◌∷◌,
  ◌++◌,
  length,
  map,
  Option,
  Some,
  None,
  is_some,
  Result,
  Ok,
  Err,
  if◌then◌else◌,
  slice_index,
}
use Rattle.std.specs.List.{list_all}
use Rattle.std.specs.Option.{option_map}
use Rattle.cb_page.specs.Bounds.{Bounds}
use Rattle.cb_page.specs.Faults.{first_fault}
use Rattle.cb_transcript.specs.Commands.{Argument, command_of, arguments_of, spelled_by, event_of}
use Rattle.cb_transcript.specs.Commands.{are_in_range}
use Rattle.cb_transcript.specs.Lines.{Grammar, IsText, RefusesText}
use Rattle.cb_transcript.specs.Pieces.{words_of, is_text, is_number, number_of}
use Rattle.cb_transcript.specs.declared.command.Command.{Command}
use Rattle.cb_transcript.specs.declared.command.SpelledEvent.{SpelledEvent}
use Rattle.cb_transcript.specs.declared.event.Event.{Event}
use Rattle.cb_transcript.specs.declared.text.ScheduleFault.{ScheduleFault}
use Rattle.cb_transcript.specs.declared.text.ScheduleFault.TheVariants as fault

-- whether a line with this first word is a comment, which is skipped: it begins with #
abbrev pub is_comment : List ℕ → Bool
is_comment first = slice_index first 0 == 35

-- what the words of a line spell, if the line has no fault: nothing in an empty line and a comment
abbrev pub spelled_of_words : List (List ℕ) → Option SpelledEvent
spelled_of_words [] = None
spelled_of_words (first ∷ rest) =
    if is_comment first then None
    else option_map (λ found. spelled_by found.0 (map number_of found.1)) (command_of first rest)

-- what a line spells
abbrev pub spelled_of_line : List ℕ → Option SpelledEvent
spelled_of_line line = spelled_of_words (words_of line)

-- the event that a line means
abbrev pub event_of_line : Bounds → List ℕ → Option Event
event_of_line limits line = option_map (event_of limits) (spelled_of_line line)

-- the faults of the words behind a command, each behind the test of its cause, lowest first
abbrev pub argument_causes : Bounds → ℕ → List Argument → List (List ℕ)
    → List (Bool × ScheduleFault)
argument_causes limits number wanted words =
    (not (length words == length wanted), fault.Count number)
    ∷ (not (list_all is_number words), fault.Number number)
    ∷ (not (are_in_range limits wanted (map number_of words)), fault.Range number)
    ∷ []

-- the faults of a line behind its command, if it begins with one
abbrev pub command_causes : Bounds → ℕ → Option (Command × List (List ℕ))
    → List (Bool × ScheduleFault)
command_causes limits number None = (true, fault.Word number) ∷ []
command_causes limits number (Some (command, rest)) =
    argument_causes limits number (arguments_of command) rest

-- the faults of a line's words: an empty line and a comment have none
abbrev pub words_causes : Bounds → ℕ → List (List ℕ) → List (Bool × ScheduleFault)
words_causes limits number [] = []
words_causes limits number (first ∷ rest) = if is_comment first then []
    else command_causes limits number (command_of first rest)

-- the faults of a line by itself, under its number; a comment must be text too
abbrev pub line_causes : Bounds → ℕ → List ℕ → List (Bool × ScheduleFault)
line_causes limits number line =
    (not (is_text line), fault.NotText number) ∷ words_causes limits number (words_of line)

-- the most events of a schedule
abbrev pub most_events : ℕ
most_events = 1000000

-- the faults of a line behind so many events of earlier lines: its own, and then that it has one
-- event too many
abbrev pub causes_behind : Bounds → ℕ → ℕ → List ℕ → List (Bool × ScheduleFault)
causes_behind limits number earlier line =
    line_causes limits number line
    ++ (is_some (spelled_of_line line) && nat_le most_events earlier, fault.Long number) ∷ []

-- what the lines of a schedule may say
abbrev pub schedule_grammar : Bounds → Grammar Event
schedule_grammar limits = record { causes = causes_behind limits; event = event_of_line limits }

-- The text is a schedule of these events.
abbrev pub IsSchedule : Bounds → List ℕ → List Event → Type 0
IsSchedule limits text events = IsText (schedule_grammar limits) text events

-- Why a text was not read as a schedule.
abbrev pub Refuses : Bounds → List ℕ → ScheduleFault → Type 0
Refuses limits text fault = RefusesText (schedule_grammar limits) text fault

-- what a reader of one line answers: its value where no cause stands, else the first fault
abbrev pub Gives : {X : Type 0} → Option ScheduleFault → X → Result X ScheduleFault → Type 0
Gives first value (Ok x) = (first ≡ None) × (x ≡ value)
Gives first value (Err e) = first ≡ Some e
