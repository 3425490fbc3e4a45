-- Which operation of a history is the first that isn't legal.
use Rattle.std.specs.Prelude.{◌≡◌, ℕ, ◌+◌, List, [], ◌∷◌, ◌++◌, length, ⊤}
use Rattle.cb_commit.specs.Stores.{bytes_at}
use Rattle.cb_protocol.specs.Basics.{Bytes}
use Rattle.cb_protocol.specs.Serial.{IsSerial, Legal, Operation, store_left}
use Rattle.cb_transcript.specs.Transcripts.{TranscriptState, told_operations}
use Rattle.cb_transcript.specs.declared.serial.Verdict.{Verdict}
use Rattle.cb_transcript.specs.declared.serial.Verdict.TheVariants as verdict

-- Of these transactions that operation is the first that isn't legal: all transactions before its
-- own are a serial history, and on the store that they leave the operations before it are legal,
-- but not with it. Both places are counted from 1 (textbook: serializability).
pub record FirstIllegal (store : ℕ → Bytes) (transactions : List (List Operation)) (commit op : ℕ)
    : Type 0 where
  pub earlier : List (List Operation)
  pub legal : List Operation
  pub operation : Operation
  pub rest : List Operation
  pub later : List (List Operation)
  pub splits : transactions ≡ earlier ++ (legal ++ operation ∷ rest) ∷ later
  pub commit_place : commit ≡ length earlier + 1
  pub op_place : op ≡ length legal + 1
  pub serial_before : IsSerial store earlier
  pub legal_before : Legal (store_left store earlier) legal
  pub illegal : Legal (store_left store earlier) (legal ++ operation ∷ []) → ⊥

-- a verdict that names an operation names the first that isn't legal
abbrev pub NamesFirst : TranscriptState → Verdict → Type 0
NamesFirst transcript verdict.Serial = ⊤
NamesFirst transcript (verdict.Not commit op) =
    FirstIllegal (bytes_at transcript.opening) (told_operations transcript) commit op
