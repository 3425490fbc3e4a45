-- Which texts are schedules over several lives of a server, and the events that they mean: the
-- lines of a schedule, and one more, by which the server restarts. This project's rules.
use Rattle.std.specs.Prelude.{ℕ, Bool, not, ◌&&◌, nat_le, List, [], ◌∷◌, ◌++◌, map, codes, Option}
use Rattle.std.specs.Prelude.{Some, None, is_some, if◌then◌else◌, slice_index}
use Rattle.std.specs.Option.{option_map}
use Rattle.std.specs.Str.{bytes_eq}
use Rattle.cb_page.specs.Bounds.{Bounds}
use Rattle.cb_transcript.specs.Commands.{Argument, Floor, Number, event_of}
use Rattle.cb_transcript.specs.Lines.{Grammar, IsText, RefusesText}
use Rattle.cb_transcript.specs.Pieces.{words_of, is_text, number_of}
use Rattle.cb_transcript.specs.ScheduleText.{argument_causes, most_events, spelled_of_words}
use Rattle.cb_transcript.specs.ScheduleText.{words_causes}
use Rattle.cb_transcript.specs.declared.lives_event.LivesEvent.{LivesEvent}
use Rattle.cb_transcript.specs.declared.lives_event.LivesEvent.TheVariants as lives
use Rattle.cb_transcript.specs.declared.lives_text.SpelledLine.{SpelledLine}
use Rattle.cb_transcript.specs.declared.lives_text.SpelledLine.TheVariants as spelled
use Rattle.cb_transcript.specs.declared.text.ScheduleFault.{ScheduleFault}
use Rattle.cb_transcript.specs.declared.text.ScheduleFault.TheVariants as fault

-- whether a line with this first word restarts the server
abbrev pub is_life : List ℕ → Bool
is_life first = bytes_eq first (codes "life")

-- the numbers behind it: the floor of the new life, and the last commit that is on disk
abbrev pub life_arguments : List Argument
life_arguments = Floor ∷ Number ∷ []

-- the restart that these numbers spell
abbrev pub spelled_life : List ℕ → SpelledLine
spelled_life numbers = spelled.Life (slice_index numbers 0) (slice_index numbers 1)

-- what the words of a line spell, if the line has no fault
abbrev pub line_of_words : List (List ℕ) → Option SpelledLine
line_of_words [] = None
line_of_words (first ∷ rest) =
    if is_life first then Some (spelled_life (map number_of rest))
    else option_map (λ event. spelled.Within event) (spelled_of_words (first ∷ rest))

-- what a line spells
abbrev pub line_spelled_by : List ℕ → Option SpelledLine
line_spelled_by line = line_of_words (words_of line)

-- the event that is spelled
abbrev pub lives_event_of : Bounds → SpelledLine → LivesEvent
lives_event_of limits (spelled.Within event) = lives.Within (event_of limits event)
lives_event_of limits (spelled.Life floor number) = lives.ServerRestarts floor number

-- the event that a line means
abbrev pub lives_event_of_line : Bounds → List ℕ → Option LivesEvent
lives_event_of_line limits line = option_map (lives_event_of limits) (line_spelled_by line)

-- the faults of a line's words
abbrev pub lives_words_causes : Bounds → ℕ → List (List ℕ) → List (Bool × ScheduleFault)
lives_words_causes limits number [] = []
lives_words_causes limits number (first ∷ rest) =
    if is_life first then argument_causes limits number life_arguments rest
    else words_causes limits number (first ∷ rest)

-- the faults of a line by itself, under its number
abbrev pub lives_line_causes : Bounds → ℕ → List ℕ → List (Bool × ScheduleFault)
lives_line_causes limits number line =
    (not (is_text line), fault.NotText number) ∷ lives_words_causes limits number (words_of line)

-- the faults of a line behind so many events of earlier lines
abbrev pub lives_causes_behind : Bounds → ℕ → ℕ → List ℕ → List (Bool × ScheduleFault)
lives_causes_behind limits number earlier line =
    lives_line_causes limits number line
    ++ (is_some (line_spelled_by line) && nat_le most_events earlier, fault.Long number) ∷ []

-- what the lines of a schedule of lives may say
abbrev pub lives_grammar : Bounds → Grammar LivesEvent
lives_grammar limits =
    record { causes = lives_causes_behind limits; event = lives_event_of_line limits }

-- The text is a schedule of lives with these events.
abbrev pub IsLivesSchedule : Bounds → List ℕ → List LivesEvent → Type 0
IsLivesSchedule limits text events = IsText (lives_grammar limits) text events

-- Why a text was not read as a schedule of lives.
abbrev pub RefusesLives : Bounds → List ℕ → ScheduleFault → Type 0
RefusesLives limits text fault = RefusesText (lives_grammar limits) text fault
