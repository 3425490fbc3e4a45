-- The lines of a schedule of lives.
use Rattle.std.proofs.Common.{◌≡◌, ◌≢◌, ℕ, Bool, true, false, List, [], ◌∷◌, Option, Some, None, Ok, map, slice_index, refl, ap}
use Rattle.std.specs.Prelude.{⊤, if◌then◌else◌}
use Rattle.cb_page.specs.Bounds.{Bounds}
use Rattle.cb_page.specs.Faults.{first_fault}
use Rattle.cb_transcript.specs.Commands.{Argument, arguments_of, command_of}
use Rattle.cb_transcript.specs.LivesText.{is_life, life_arguments, line_spelled_by}
use Rattle.cb_transcript.specs.LivesText.{lives_line_causes, lives_words_causes}
use Rattle.cb_transcript.specs.Pieces.{is_text, number_of, words_of}
use Rattle.cb_transcript.specs.ScheduleText.{Gives, argument_causes, command_causes, is_comment}
use Rattle.cb_transcript.specs.ScheduleText.{words_causes}
use Rattle.cb_transcript.specs.declared.command.Command.{Command}
use Rattle.cb_transcript.specs.declared.lives_text.SpelledLine.TheVariants as spelled
use Rattle.cb_transcript.specs.declared.text.ScheduleFault.{ScheduleFault}
use Rattle.cb_transcript.specs.declared.text.ScheduleFault.TheVariants as fault

-- none of these faults is want of memory
abbrev NoMemory : List (Bool × ScheduleFault) → Type 0
NoMemory [] = ⊤
NoMemory (cause ∷ causes) = (cause.1 ≢ fault.Memory) × NoMemory causes

first_named : (causes : List (Bool × ScheduleFault)) (e : ScheduleFault) → NoMemory causes → first_fault causes ≡ Some e → e ≢ fault.Memory
first_named [] e none h = cc
first_named ((true, first) ∷ causes) e none h = λ same. let is : first ≡ fault.Memory = cc in none.0 is
first_named ((false, first) ∷ causes) e none h = first_named causes e none.1 h

by_test : (test : Bool) (xs ys : List (Bool × ScheduleFault)) → NoMemory xs → NoMemory ys → NoMemory (if test then xs else ys)
by_test true xs ys one other = one
by_test false xs ys one other = other

of_arguments : (limits : Bounds) (n : ℕ) (wanted : List Argument) (words : List (List ℕ)) → NoMemory (argument_causes limits n wanted words)
of_arguments limits n wanted words = (λ h. cc, (λ h. cc, (λ h. cc, tt)))

of_command : (limits : Bounds) (n : ℕ) (found : Option (Command × List (List ℕ))) → NoMemory (command_causes limits n found)
of_command limits n None = (λ h. cc, tt)
of_command limits n (Some (command, rest)) = of_arguments limits n (arguments_of command) rest

of_words : (limits : Bounds) (n : ℕ) (words : List (List ℕ)) → NoMemory (lives_words_causes limits n words)
of_words limits n [] = tt
of_words limits n (first ∷ rest) =
    by_test (is_life first) (argument_causes limits n life_arguments rest) (words_causes limits n (first ∷ rest)) (of_arguments limits n life_arguments rest)
    (by_test (is_comment first) [] (command_causes limits n (command_of first rest)) tt (of_command limits n (command_of first rest)))

-- no line has want of memory for its fault
pub lives_fault : (limits : Bounds) (n : ℕ) (line : List ℕ) (e : ScheduleFault) → first_fault (lives_line_causes limits n line) ≡ Some e → e ≢ fault.Memory
lives_fault limits n line e h = first_named (lives_line_causes limits n line) e (λ same. cc, of_words limits n (words_of line)) h

-- a line of `life`, whose numbers have no fault
pub life_line : (limits : Bounds) (n : ℕ) (bytes first : List ℕ) (words : List (List ℕ)) (floor number : ℕ) → is_text bytes ≡ true → words_of bytes ≡ first ∷ words → is_life first ≡ true
    → (first_fault (argument_causes limits n life_arguments words) ≡ None) × (◌≡◌ {A = ℕ × ℕ} (floor, number) (slice_index (map number_of words) 0, slice_index (map number_of words) 1))
    → Gives (first_fault (lives_line_causes limits n bytes)) (line_spelled_by bytes) (Ok (Some (spelled.Life floor number)))
life_line limits n bytes first words floor number text is life gives =
    rw (text, is, life) (gives.0, ap (λ (both : ℕ × ℕ). Some (spelled.Life both.0 both.1)) gives.1)
