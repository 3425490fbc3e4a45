-- Which transaction each client is in, event by event.
use Rattle.std.proofs.Common.{List, [], add-one, ap, get_or, length, map, refl, reverse, take, option_map, ℕ, ◌++◌, ◌+◌, ◌<◌, ◌≤◌, ◌∙◌, ◌∷◌, ◌≡◌, arith}
use Rattle.std.proofs.Math.Seq.{take-suc}
use Rattle.std.proofs.lemmas.List.{length-map, length-reverse, length-take, map-append, reverse-append}
use Rattle.cb_protocol.specs.Answers.{AnswerWord, AnsweredOk}
use Rattle.cb_protocol.specs.ClientCalls.{CallBegin}
use Rattle.cb_protocol.specs.Transcript.{incarnation_after, incarnation_at, transaction_after, transaction_at}
use Rattle.cb_protocol.specs.World.{ClientCalls, Event, Restart}
use Rattle.cb_protocol.specs.World.{TranscriptEntry as ToldEntry}
use Rattle.cb_transcript.specs.ProtocolEvents.{call_of, entry_of, event_of, transcript_of, word_of}
use Rattle.cb_transcript.specs.declared.event.Call.{Call}
use Rattle.cb_transcript.specs.declared.event.Call.TheVariants as call
use Rattle.cb_transcript.specs.declared.event.Event.{Event as EventData}
use Rattle.cb_transcript.specs.declared.event.Event.TheVariants as event
use Rattle.cb_protocol.specs.Serial.{PerformedOperation}
use Rattle.cb_protocol.specs.Serial as serial
use Rattle.cb_protocol.specs.Transcript as protocol
use Rattle.cb_protocol.specs.Transcript.{transcript_operations}
use Rattle.cb_transcript.specs.Operations.{call_operation, operation_in, performed_with}
use Rattle.cb_transcript.specs.declared.answer.AnswerWord.{AnswerWord as AnswerData}
use Rattle.cb_transcript.specs.declared.answer.AnswerWord.TheVariants as word
use Rattle.cb_transcript.specs.declared.answer.TranscriptEntry.{TranscriptEntry}

-- one more entry is told
pub told_more : (es : List TranscriptEntry) (i : ℕ) (d : TranscriptEntry) → i < length es → transcript_of (take (i + 1) es) ≡ entry_of (get_or es i d) ∷ transcript_of (take i es)
told_more es i d h = let more : take (i + 1) es ≡ take i es ++ get_or es i d ∷ [] = rw add-one (take-suc es i d h) in ap transcript_of more ∙ ap reverse (map-append entry_of (take i es) (get_or es i d ∷ [])) ∙ reverse-append (map entry_of (take i es)) (entry_of (get_or es i d) ∷ [])

incarnation_step : (e : Event) (w : AnswerWord) (c i : ℕ) → incarnation_after e w c i ≤ i + 1
incarnation_step (Restart r) AnsweredOk c i = grind arith
incarnation_step e w c i = grind arith

transaction_step : (e : Event) (w : AnswerWord) (c i : ℕ) → transaction_after e w c i ≤ i + 1
transaction_step (Restart r) AnsweredOk c i = grind arith
transaction_step (ClientCalls k CallBegin) AnsweredOk c i = grind arith
transaction_step e w c i = grind arith

-- a client has restarted, and begun transactions, at most once an entry
pub few_incarnations : (told : List ToldEntry) (c : ℕ) → incarnation_at told c ≤ length told + 1
few_incarnations [] c = omega arith
few_incarnations (t ∷ told) c = let a = incarnation_step t.event t.word c (incarnation_at told c) in let b = few_incarnations told c in omega arith

pub few_transactions : (told : List ToldEntry) (c : ℕ) → transaction_at told c ≤ length told
few_transactions [] c = omega arith
few_transactions (t ∷ told) c = let a = transaction_step t.event t.word c (transaction_at told c) in let b = few_transactions told c in omega arith

call_told : (c : Call) (w : AnswerData) (earlier : List ToldEntry) (client : ℕ) (performed : List PerformedOperation) → protocol.call_operation earlier client (call_of c) (word_of w) performed ≡ performed_with earlier (option_map (λ (o : serial.Operation). (client, o)) (call_operation c w)) performed
call_told (call.Read p) (word.Bytes b) earlier client performed = refl
call_told (call.Write p b) word.Ok earlier client performed = refl
call_told c w earlier client performed = refl

-- as many entries are told
pub told_length : (es : List TranscriptEntry) (i : ℕ) → length (transcript_of (take i es)) ≤ i
told_length es i = rw (length-reverse (map entry_of (take i es)), length-map (take i es) entry_of, length-take i es) (omega arith)

-- the operation of an event is what the protocol's filter finds
pub operation_told : (e : EventData) (w : AnswerData) (earlier : List ToldEntry) → transcript_operations (record { event = event_of e; word = word_of w } ∷ earlier) ≡ performed_with earlier (operation_in e w) (transcript_operations earlier)
operation_told (event.Call client c) w earlier = call_told c w earlier client (transcript_operations earlier)
operation_told e w earlier = refl
