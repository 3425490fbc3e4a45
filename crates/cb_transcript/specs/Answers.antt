-- Which answers carry the bytes of a page, and which take memory to copy.
use Rattle.std.specs.Prelude.{◌<◌, ◌⊎◌, length}
use Rattle.cb_transcript.specs.declared.answer.Answer.{Answer}
use Rattle.cb_transcript.specs.declared.answer.AnswerWord.{AnswerWord}
use Rattle.cb_transcript.specs.declared.answer.AnswerWord.TheVariants as word

-- the word is the bytes that a read or a peek found
abbrev pub IsBytes : AnswerWord → Type 0
IsBytes (word.Bytes bytes) = Unit {0}
IsBytes other = ⊥

-- an answer with page bytes or with packets; a copy takes memory for them alone
abbrev pub TakesMemory : Answer → Type 0
TakesMemory answer = IsBytes answer.word ⊎ (0 < length answer.sent)
