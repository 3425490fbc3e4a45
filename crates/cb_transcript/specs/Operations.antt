-- The operations of a transcript, as the serial check walks over them.
use Rattle.std.specs.Prelude.{◌≡◌, ℕ, ◌<◌, List, [], reverse, slice_get}
use Rattle.std.specs.Prelude.{slice_index_or, Bool, nat_eq, ◌&&◌, Option, Some, None}
use Rattle.std.specs.Prelude.{option_map, Vec}
use Rattle.std.specs.List.{All, filter_map}
use Rattle.std.specs.HashMap.{HashMap, get}
use Rattle.cb_transcript.specs.declared.event.Call.{Call}
use Rattle.cb_transcript.specs.declared.event.Call.TheVariants as call
use Rattle.cb_transcript.specs.declared.event.Event.{Event}
use Rattle.cb_transcript.specs.declared.event.Event.TheVariants as event
use Rattle.cb_protocol.specs.Serial.{PerformedOperation, transaction_operations}
use Rattle.cb_protocol.specs.Serial as serial
use Rattle.cb_protocol.specs.Transcript.{add_operation, incarnation_at, transaction_at}
use Rattle.cb_protocol.specs.Transcript.{transcript_operations}
use Rattle.cb_protocol.specs.World.{TranscriptEntry as ToldEntry}
use Rattle.cb_transcript.specs.declared.answer.AnswerWord.{AnswerWord}
use Rattle.cb_transcript.specs.declared.answer.AnswerWord.TheVariants as word
use Rattle.cb_transcript.specs.declared.answer.TranscriptEntry.{TranscriptEntry}
use Rattle.cb_transcript.specs.declared.current_transaction.CurrentTransaction.{CurrentTransaction}
use Rattle.cb_transcript.specs.declared.transactions.TransactionKey.{TransactionKey}

-- the operation that a call was, by its answer: a read that was answered with bytes, or a write
-- that was accepted
abbrev pub call_operation : Call → AnswerWord → Option serial.Operation
call_operation (call.Read page) (word.Bytes bytes) = Some (serial.Saw page bytes)
call_operation (call.Write page bytes) word.Ok = Some (serial.Put page bytes)
call_operation _ _ = None

-- the operation of an event, if it has one, with its client
abbrev pub operation_in : Event → AnswerWord → Option (ℕ × serial.Operation)
operation_in (event.Call client made) answered =
    option_map (λ done. (client, done)) (call_operation made answered)
operation_in _ answered = None

-- a client's operation after those performed, if there is one
abbrev pub performed_with : List ToldEntry → Option (ℕ × serial.Operation)
    → List PerformedOperation → List PerformedOperation
performed_with earlier None performed = performed
performed_with earlier (Some done) performed = add_operation earlier done.0 done.1 performed

-- a client before any event
abbrev pub first_standing : CurrentTransaction
first_standing = record { incarnation = 1; begun = 0 }

-- each client's incarnation, and how many transactions it began in it, after what was told
abbrev pub AreStandings : List CurrentTransaction → List ToldEntry → Type 0
AreStandings standings told = (client : ℕ) → client < 32
    → slice_index_or standings client first_standing
    ≡ record { incarnation = incarnation_at told client; begun = transaction_at told client }

-- both name one transaction
abbrev pub same_key : TransactionKey → TransactionKey → Bool
same_key a b =
    nat_eq a.client b.client && (nat_eq a.incarnation b.incarnation && nat_eq a.txn b.txn)

-- the places that a map lists for a transaction
abbrev pub places_of : {A : Type 0} → Option (Vec ℕ A) → List ℕ
places_of None = []
places_of (Some list) = list.items

abbrev pub listed : {A S : Type 0} → HashMap TransactionKey (Vec ℕ A) S → TransactionKey → List ℕ
listed lists key = places_of (get same_key lists key)

-- the operation of the event at a place, if there is one
abbrev pub done_in : Option TranscriptEntry → Option serial.Operation
done_in None = None
done_in (Some entry) = option_map (λ done. done.1) (operation_in entry.event entry.answer.word)

abbrev pub done_at : List TranscriptEntry → ℕ → Option serial.Operation
done_at entries place = done_in (slice_get entries place)

-- the operations of the events at these places
abbrev pub operations_at : List TranscriptEntry → List ℕ → List serial.Operation
operations_at entries places = filter_map (done_at entries) places

-- each of these events is an operation
abbrev pub AreDone : List TranscriptEntry → List ℕ → Type 0
AreDone entries places =
    All (λ place. (done : serial.Operation) × (done_at entries place ≡ Some done)) places

-- For each transaction they are those that the transcript tells of, the oldest first.
pub record HasOperations {A S : Type 0} (lists : HashMap TransactionKey (Vec ℕ A) S)
    (entries : List TranscriptEntry) (told : List ToldEntry) : Type 0 where
  pub done : (key : TransactionKey) → AreDone entries (listed lists key)
  pub operations : (key : TransactionKey)
      → operations_at entries (listed lists key)
      ≡ reverse (transaction_operations (transcript_operations told)
      key.client key.incarnation key.txn)
