-- What is printed for the events and behind them. This project's rules.
use Rattle.std.specs.Prelude.{ℕ, ◌+◌, ◌==◌, Bool, true, false, List, [], ◌∷◌, ◌++◌, codes}
use Rattle.std.specs.Prelude.{Option, Some, None, if◌then◌else◌}
use Rattle.std.specs.List.{list_all, flat_map}
use Rattle.std.specs.Fmt.{decimal}
use Rattle.cb_console.specs.Escaped.{two_digits}
use Rattle.cb_frame.specs.Kinds.{name_of}
use Rattle.cb_transcript.specs.RefusalTexts.{refusal_text, restart_refusal_text}
use Rattle.cb_transcript.specs.declared.answer.AnswerWord.{AnswerWord}
use Rattle.cb_transcript.specs.declared.answer.AnswerWord.TheVariants as word
use Rattle.cb_transcript.specs.declared.answer.SentPacket.{SentPacket}
use Rattle.cb_transcript.specs.declared.answer.Answer.{Answer}
use Rattle.cb_transcript.specs.declared.answer.TranscriptEntry.{TranscriptEntry}
use Rattle.cb_transcript.specs.declared.lives_transcript.LivesEntry.{LivesEntry}
use Rattle.cb_transcript.specs.declared.lives_transcript.LivesEntry.TheVariants as entry
use Rattle.cb_transcript.specs.declared.restart.RestartAnswer.{RestartAnswer}
use Rattle.cb_transcript.specs.declared.restart.RestartAnswer.TheVariants as restart

-- the byte that all the bytes are, if they are all one
unfoldable pub only_byte : List ℕ → Option ℕ
only_byte [] = None
only_byte (first ∷ rest) = if list_all (λ byte. byte == first) rest then Some first else None

-- bytes that are all the one given, if one is given; else each of them
abbrev pub bytes_by : Option ℕ → List ℕ → List ℕ
bytes_by (Some byte) bytes = codes "bytes all " ++ two_digits byte
bytes_by None bytes = codes "bytes " ++ flat_map two_digits bytes

-- the bytes of a page: of one byte throughout that byte alone
abbrev pub bytes_text : List ℕ → List ℕ
bytes_text bytes = bytes_by (only_byte bytes) bytes

-- the words of an answer
abbrev pub word_text : AnswerWord → List ℕ
word_text word.Ok = codes "ok"
word_text (word.Bytes bytes) = bytes_text bytes
word_text word.Asked = codes "asked"
word_text word.Permitted = codes "permitted"
word_text word.Nothing = codes "none"
word_text (word.Flushed number) = codes "flushed " ++ decimal number
word_text word.Taken = codes "taken"
word_text word.NoPacket = codes "nopacket"
word_text (word.Refused fault) = codes "refused " ++ refusal_text fault
word_text word.ServerExhausted = codes "refused 1 Exhausted"
word_text word.NoClient = codes "noclient"

-- a packet that was sent: its number, kind and client
abbrev pub packet_text : SentPacket → List ℕ
packet_text sent =
    codes " " ++ (decimal sent.number ++ (codes ":" ++ (name_of sent.kind
    ++ (codes ":" ++ decimal sent.client))))

-- the line of an event at its place: the answer, and the packets sent
abbrev pub line : ℕ → Answer → List ℕ
line place answer =
    decimal place ++ (codes " " ++ (word_text answer.word
    ++ (flat_map packet_text answer.sent ++ 10 ∷ [])))

-- whether the server restarted, or why not
abbrev pub restart_text : RestartAnswer → List ℕ
restart_text restart.Restarted = codes "restarted"
restart_text (restart.Refused refusal) = codes "refused " ++ restart_refusal_text refusal

-- the line of what happened over several lives of the server, at its place
abbrev pub lives_line : ℕ → LivesEntry → List ℕ
lives_line place (entry.Within told) = line place told.answer
lives_line place (entry.ServerRestarts told) =
    decimal place ++ (codes " " ++ (restart_text told.answer ++ 10 ∷ []))

-- the lines of a list, each by its item and its place, the first at this place
abbrev pub numbered_lines : {E : Type 0} → (ℕ → E → List ℕ) → ℕ → List E → List ℕ
numbered_lines text place [] = []
numbered_lines text place (item ∷ items) = text place item ++ numbered_lines text (place + 1) items

-- the lines of events, the first at this place
abbrev pub lines_from : ℕ → List TranscriptEntry → List ℕ
lines_from place entries = numbered_lines (λ n entry. line n entry.answer) place entries

-- the same over several lives of the server
abbrev pub lives_lines_from : ℕ → List LivesEntry → List ℕ
lives_lines_from place entries = numbered_lines lives_line place entries

abbrev pub yes_or_no : Bool → List ℕ
yes_or_no true = codes "yes"
yes_or_no false = codes "no"

-- The last two lines: the number of commits, and whether they are serial.
abbrev pub last_lines : ℕ → Bool → List ℕ
last_lines commits serial =
    codes "commits " ++ (decimal commits ++ (codes "\nserial: " ++ (yes_or_no serial ++ 10 ∷ [])))
