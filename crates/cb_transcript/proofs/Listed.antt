-- Which operations of a transcript are listed, and in what order.
use Rattle.std.proofs.Common.{List, [], All, Bool, true, false, None, Some, Vec, ap, refl, reverse, sym, subst, option_map, get_or, length, Option, nat_eq, ◌&&◌, ℕ, ◌++◌, ◌<◌, ◌∙◌, ◌∷◌, ◌≡◌, cond}
use Rattle.std.specs.HashMap.{HashMap, IsEmpty}
use Rattle.std.specs.Map.{lookup}
use mathlib.Core.List.{reverse-cons}
use Rattle.std.proofs.lemmas.List.Elements.{All-nil, All-push, filter_map-append}
use Rattle.cb_protocol.specs.Serial.{transaction_operations}
use Rattle.cb_protocol.specs.Serial as serial
use Rattle.cb_protocol.specs.Transcript.{incarnation_at, transaction_at, transcript_operations}
use Rattle.cb_protocol.specs.World.{TranscriptEntry as ToldEntry}
use Rattle.cb_transcript.specs.ProtocolEvents.{entry_of}
use Rattle.std.proofs.lemmas.List.{get_or_default}
use Rattle.cb_transcript.specs.declared.current_transaction.CurrentTransaction.{CurrentTransaction}
use Rattle.cb_transcript.specs.Operations.{AreStandings, first_standing, HasOperations, done_at, listed, operation_in, operations_at, performed_with, places_of, same_key}
use Rattle.cb_transcript.proofs.Followed.{operation_told}
use Rattle.cb_transcript.specs.declared.transactions.TransactionKey.{TransactionKey}
use Rattle.cb_transcript.specs.declared.answer.TranscriptEntry.{TranscriptEntry}

-- the key of a transaction's name
abbrev pub key_of : ℕ → ℕ → ℕ → TransactionKey
key_of client incarnation txn = record { client = client; incarnation = incarnation; txn = txn }

-- the event at a place is an operation
abbrev pub IsDone : List TranscriptEntry → ℕ → Type 0
IsDone es place = (o : serial.Operation) × (done_at es place ≡ Some o)

-- a new map lists nothing
pub listed_none : {A S : Type 0} (m : HashMap TransactionKey (Vec ℕ A) S) (es : List TranscriptEntry) → IsEmpty m → HasOperations m es []
listed_none m es h = let none : (key : TransactionKey) → listed m key ≡ [] = λ key. ap (λ xs. places_of (lookup (same_key key) xs)) h in
    record {
      done = λ key. subst (All (IsDone es)) (sym (none key)) (All-nil (IsDone es));
      operations = λ key. ap (operations_at es) (none key);
    }

-- an event that isn't an operation
pub listed_still : {A S : Type 0} (m : HashMap TransactionKey (Vec ℕ A) S) (es : List TranscriptEntry) (e : TranscriptEntry) (told : List ToldEntry) → operation_in e.event e.answer.word ≡ None → HasOperations m es told → HasOperations m es (entry_of e ∷ told)
listed_still m es e told none l = let same : transcript_operations (entry_of e ∷ told) ≡ transcript_operations told = operation_told e.event e.answer.word told ∙ ap (λ o. performed_with told o (transcript_operations told)) none in
    record { done = l.done; operations = λ key. l.operations key ∙ sym (ap (λ ps. reverse (transaction_operations ps key.client key.incarnation key.txn)) same) }

pushed : (es : List TranscriptEntry) (old : List ℕ) (place : ℕ) (o : serial.Operation) (ops : List serial.Operation) → done_at es place ≡ Some o → operations_at es old ≡ reverse ops → operations_at es (old ++ place ∷ []) ≡ reverse (o ∷ ops)
pushed es old place o ops e h = rw (filter_map-append (done_at es) old (place ∷ []), e, reverse-cons) (ap (λ xs. xs ++ o ∷ []) h)

done_if : (es : List TranscriptEntry) (old : List ℕ) (place : ℕ) (b : Bool) → IsDone es place → All (IsDone es) old → All (IsDone es) (cond b (old ++ place ∷ []) old)
done_if es old place true d h = All-push (IsDone es) old place h d
done_if es old place false d h = h

operations_if : (es : List TranscriptEntry) (old : List ℕ) (place : ℕ) (o : serial.Operation) (ops : List serial.Operation) (b : Bool) → done_at es place ≡ Some o → operations_at es old ≡ reverse ops → operations_at es (cond b (old ++ place ∷ []) old) ≡ reverse (cond b (o ∷ ops) ops)
operations_if es old place o ops true e h = pushed es old place o ops e h
operations_if es old place o ops false e h = h

and_assoc : (a b c : Bool) → (a && (b && c)) ≡ (a && b && c)
and_assoc true b c = refl
and_assoc false b c = refl

-- one more operation is listed
pub listed_more : {A S : Type 0} (m n : HashMap TransactionKey (Vec ℕ A) S) (es : List TranscriptEntry) (e : TranscriptEntry) (told : List ToldEntry) (client place : ℕ) (o : serial.Operation) (k : TransactionKey)
    → operation_in e.event e.answer.word ≡ Some (client, o) → done_at es place ≡ Some o
    → k ≡ record { client = client; incarnation = incarnation_at told client; txn = transaction_at told client }
    → ((q : TransactionKey) → listed n q ≡ cond (same_key k q) (listed m q ++ place ∷ []) (listed m q))
    → HasOperations m es told → HasOperations n es (entry_of e ∷ told)
listed_more m n es e told client place o k is at named added l =
    let more : transcript_operations (entry_of e ∷ told) ≡ record { client = client; incarnation = incarnation_at told client; txn = transaction_at told client; operation = o } ∷ transcript_operations told = operation_told e.event e.answer.word told ∙ ap (λ p. performed_with told p (transcript_operations told)) is in
    let ops = λ (q : TransactionKey). transaction_operations (transcript_operations told) q.client q.incarnation q.txn in
    record {
      done = λ q. subst (All (IsDone es)) (sym (added q)) (done_if es (listed m q) place (same_key k q) (o, at) (l.done q));
      operations = λ q. ap (operations_at es) (added q) ∙ operations_if es (listed m q) place o (ops q) (same_key k q) at (l.operations q)
          ∙ ap (λ (j : TransactionKey). reverse (cond (same_key j q) (o ∷ ops q) (ops q))) named
          ∙ ap (λ (b : Bool). reverse (cond b (o ∷ ops q) (ops q))) (and_assoc (nat_eq client q.client) (nat_eq (incarnation_at told client) q.incarnation) (nat_eq (transaction_at told client) q.txn))
          ∙ sym (ap (λ ps. reverse (transaction_operations ps q.client q.incarnation q.txn)) more);
    }

-- the name of the transaction that a client is in
pub key_named : (ss : List CurrentTransaction) (told : List ToldEntry) (i client n : ℕ) (d : CurrentTransaction) → length ss ≡ 32 → i ≡ client → i < 32 → n ≡ client → AreStandings ss told
    → key_of n (get_or ss i d).incarnation (get_or ss i d).begun ≡ key_of client (incarnation_at told client) (transaction_at told client)
key_named ss told i client n d long at below is standings =
    let here : get_or ss i d ≡ record { incarnation = incarnation_at told i; begun = transaction_at told i } = get_or_default ss i d first_standing (rw long below) ∙ standings i below in
    ap (λ (m : ℕ). key_of m (get_or ss i d).incarnation (get_or ss i d).begun) is ∙ ap (λ (s : CurrentTransaction). key_of client s.incarnation s.begun) here ∙ ap (λ (j : ℕ). key_of client (incarnation_at told j) (transaction_at told j)) at

absurd_none : {X Y : Type 0} {x : X} → None ≡ Some x → Y
absurd_none h = cc

-- an operation's client tells that there is one
pub performed_by : (x : Option (ℕ × serial.Operation)) (client : ℕ) → option_map (λ done. done.0) x ≡ Some client → (o : serial.Operation) × (x ≡ Some (client, o))
performed_by (Some (c, o)) client h = (o, cc)
performed_by None client h = absurd_none h

pub performed_none : (x : Option (ℕ × serial.Operation)) → option_map (λ done. done.0) x ≡ None → x ≡ None
performed_none (Some p) h = cc
performed_none None h = refl
