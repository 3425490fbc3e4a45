-- A store under replay.
use Rattle.std.specs.Prelude.{◌≡◌, ℕ, ◌+◌, ◌<◌, List, [], length, map, take, slice_index_or}
use Rattle.std.specs.Prelude.{Bool, IsTrue, ◌↔◌, Option, Some, None}
use Rattle.cb_protocol.specs.Basics.{Bytes, update}
use Rattle.cb_protocol.specs.Serial.{Legal, Operation, Put, Saw, after_operations}
use Rattle.cb_transcript.specs.Operations.{operations_at}
use Rattle.cb_transcript.specs.declared.replay.Replay.{Replay}
use Rattle.cb_transcript.specs.declared.answer.TranscriptEntry.{TranscriptEntry}

-- the pages of a store under replay
abbrev pub shown : Replay → ℕ → Bytes
shown replay page = slice_index_or (map (λ bytes. bytes.now) replay.pages.items) page []

-- it has the bytes of every page number
abbrev pub HasEveryPage : Replay → Type 0
HasEveryPage replay = length replay.pages.items ≡ 4096

-- the store before and after an operation, and whether it answers so
abbrev pub AnswersAs : (ℕ → Bytes) → Option Operation → (ℕ → Bytes) → Bool → Type 0
AnswersAs before (Some (Saw page bytes)) after answer =
    (after ≡ before) × (IsTrue answer ↔ (bytes ≡ before page))
AnswersAs before (Some (Put page bytes)) after answer =
    (after ≡ update before page bytes) × IsTrue answer
AnswersAs before None after answer = (after ≡ before) × IsTrue answer

-- All operations are legal, and the store is what they leave; or those before that place are, and
-- with the one at that place they aren't.
abbrev pub IsPlayedTo : List TranscriptEntry → Replay → List ℕ → Replay → Option ℕ → Type 0
IsPlayedTo entries before places after None =
    Legal (shown before) (operations_at entries places)
    × (shown after ≡ after_operations (shown before) (operations_at entries places))
IsPlayedTo entries before places after (Some at) =
    (at < length places)
    × Legal (shown before) (operations_at entries (take at places))
    × (Legal (shown before) (operations_at entries (take (at + 1) places)) → ⊥)
