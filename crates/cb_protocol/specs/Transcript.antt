-- The operations of a transcript: what reads and writes were answered, in which transaction. A
-- plain filter, which knows no grants and no messages.
use Rattle.std.specs.Prelude.{ℕ, ◌+◌, if◌then◌else◌, ◌==◌, List, [], ◌∷◌}
use Rattle.cb_protocol.specs.Answers.{AnswerWord, AnsweredBytes, AnsweredOk}
use Rattle.cb_protocol.specs.ClientCalls.{Call, CallBegin, CallRead, CallWrite}
use Rattle.cb_protocol.specs.Serial.{Operation, PerformedOperation, Put, Saw}
use Rattle.cb_protocol.specs.World.{ClientCalls, Event, Restart, TranscriptEntry}

-- a client's incarnation after an event that was answered so
abbrev pub incarnation_after : Event → AnswerWord → (client incarnation : ℕ) → ℕ
incarnation_after (Restart restarted) AnsweredOk client incarnation =
    if restarted == client then incarnation + 1 else incarnation
incarnation_after _ _ client incarnation = incarnation

-- a client's incarnation: one more than its restarts so far
abbrev pub incarnation_at : List TranscriptEntry → (client : ℕ) → ℕ
incarnation_at [] client = 1
incarnation_at (last ∷ earlier) client =
    incarnation_after last.event last.word client (incarnation_at earlier client)

-- how many transactions a client began in its incarnation, after an event that was answered so
abbrev pub transaction_after : Event → AnswerWord → (client txn : ℕ) → ℕ
transaction_after (Restart restarted) AnsweredOk client txn = if restarted == client then 0 else txn
transaction_after (ClientCalls caller CallBegin) AnsweredOk client txn =
    if caller == client then txn + 1 else txn
transaction_after _ _ client txn = txn

-- a client's transaction: how many it began in this incarnation
abbrev pub transaction_at : List TranscriptEntry → (client : ℕ) → ℕ
transaction_at [] client = 0
transaction_at (last ∷ earlier) client =
    transaction_after last.event last.word client (transaction_at earlier client)

-- one more operation of a client, in its transaction
abbrev pub add_operation : List TranscriptEntry → (client : ℕ) → Operation
    → List PerformedOperation → List PerformedOperation
add_operation earlier client operation performed = record {
  client = client;
  incarnation = incarnation_at earlier client;
  txn = transaction_at earlier client;
  operation = operation;
} ∷ performed

-- a read that was answered with bytes, and a write that was accepted, are operations
abbrev pub call_operation : List TranscriptEntry → (client : ℕ) → Call → AnswerWord
    → List PerformedOperation → List PerformedOperation
call_operation earlier client (CallRead page) (AnsweredBytes bytes) performed =
    add_operation earlier client (Saw page bytes) performed
call_operation earlier client (CallWrite page bytes) AnsweredOk performed =
    add_operation earlier client (Put page bytes) performed
call_operation earlier client _ _ performed = performed

-- the operations of a transcript, the newest first
abbrev pub transcript_operations : List TranscriptEntry → List PerformedOperation
transcript_operations [] = []
transcript_operations (last ∷ earlier) = elim last.event [
  | ClientCalls client call ↦
      call_operation earlier client call last.word (transcript_operations earlier)
  | _ ↦ transcript_operations earlier
]
