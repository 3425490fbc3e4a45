-- What the serial check answers.
use Rattle.std.proofs.Common.{List, [], subst, add-one, ap, get_or, length, map, refl, reverse, sym, take, drop, None, Some, ◌≤◌, ℕ, ◌++◌, ◌+◌, ◌<◌, ◌∙◌, ◌∷◌, ◌≡◌, arith}
use mathlib.Core.List.{reverse-cons}
use Rattle.std.proofs.Math.Seq.{append_snoc, split_at, take-suc}
use Rattle.std.proofs.lemmas.List.{map-append, reverse-reverse, length-map, length-take-le}
use Rattle.std.proofs.lemmas.Simd.{map-map}
use Rattle.cb_commit.specs.Stores.{bytes_at}
use Rattle.cb_protocol.specs.Basics.{Bytes, update}
use Rattle.cb_protocol.specs.Serial.{IsSerial, Legal, after_operations, store_left, transaction_operations}
use Rattle.cb_protocol.specs.Serial as serial
use Rattle.cb_protocol.specs.Transcript.{transcript_operations}
use Rattle.cb_transcript.specs.ProtocolEvents.{transcript_of}
use Rattle.cb_transcript.specs.Transcripts.{TranscriptState, name_of, told_operations}
use Rattle.std.proofs.Common.{All, take_all}
use Rattle.std.proofs.lemmas.List.Elements.{filter_map-append}
use Rattle.cb_transcript.specs.Operations.{done_at, operations_at}
use Rattle.cb_transcript.specs.Replays.{IsPlayedTo, shown}
use Rattle.cb_transcript.specs.Verdicts.{FirstIllegal}
use Rattle.cb_transcript.proofs.Listed.{IsDone}
use Rattle.cb_transcript.proofs.Replays.{length_played, taken_more}
use Rattle.cb_transcript.specs.declared.replay.Replay.{Replay}
use Rattle.cb_transcript.specs.declared.transcript.TransactionName.{TransactionName}

-- the operations of a transaction, the oldest first
abbrev pub named : TranscriptState → TransactionName → List serial.Operation
named t name = reverse (transaction_operations (transcript_operations (transcript_of t.entries)) name.client name.incarnation name.txn)

map_reverse : {A B : Type 0} (f : A → B) (xs : List A) → map f (reverse xs) ≡ reverse (map f xs)
map_reverse f [] = refl
map_reverse f (x ∷ xs) = rw (reverse-cons, reverse-cons, map-append) (ap (λ ys. ys ++ f x ∷ []) (map_reverse f xs))

-- what is told is what each name stands for
pub told_by_name : (t : TranscriptState) → told_operations t ≡ map (named t) t.commits
told_by_name t = let g = λ (name : serial.TransactionName). reverse (transaction_operations (transcript_operations (transcript_of t.entries)) name.client name.incarnation name.txn) in
    ap reverse (map_reverse g (map name_of t.commits)) ∙ reverse-reverse (map g (map name_of t.commits)) ∙ map-map g name_of t.commits

serial_push : (m : ℕ → Bytes) (ts : List (List serial.Operation)) (t : List serial.Operation) → IsSerial m ts → Legal (store_left m ts) t → IsSerial m (ts ++ t ∷ [])
serial_push m [] t h l = (l, tt)
serial_push m (u ∷ ts) t h l = (h.0, serial_push (after_operations m u) ts t h.1 l)

left_push : (m : ℕ → Bytes) (ts : List (List serial.Operation)) (t : List serial.Operation) → store_left m (ts ++ t ∷ []) ≡ after_operations (store_left m ts) t
left_push m [] t = refl
left_push m (u ∷ ts) t = left_push (after_operations m u) ts t

legal_within : (m : ℕ → Bytes) (ts : List (List serial.Operation)) (t : List serial.Operation) (us : List (List serial.Operation)) → IsSerial m (ts ++ t ∷ us) → Legal (store_left m ts) t
legal_within m [] t us h = h.0
legal_within m (u ∷ ts) t us h = legal_within (after_operations m u) ts t us h.1

legal_first : (m : ℕ → Bytes) (os ps : List serial.Operation) → Legal m (os ++ ps) → Legal m os
legal_first m [] ps h = tt
legal_first m (serial.Saw q x ∷ os) ps h = (h.0, legal_first m os ps h.1)
legal_first m (serial.Put q x ∷ os) ps h = legal_first (update m q x) os ps h

-- a history with an operation that isn't legal isn't serial
pub illegal_not_serial : (m : ℕ → Bytes) (ts : List (List serial.Operation)) (commit op : ℕ) → FirstIllegal m ts commit op → IsSerial m ts → ⊥
illegal_not_serial m ts commit op f s =
    f.illegal (legal_first (store_left m f.earlier) (f.legal ++ f.operation ∷ []) f.rest
    (rw append_snoc (legal_within m f.earlier (f.legal ++ f.operation ∷ f.rest) f.later (subst (IsSerial m) f.splits s))))

-- The transactions before that place are serial, and the store is what they leave.
pub record ChecksTo (t : TranscriptState) (now : ℕ → Bytes) (i : ℕ) : Type 0 where
  pub serial : IsSerial (bytes_at t.opening) (map (named t) (take i t.commits))
  pub left : now ≡ store_left (bytes_at t.opening) (map (named t) (take i t.commits))

named_more : (t : TranscriptState) (i : ℕ) (d : TransactionName) → i < length t.commits → map (named t) (take (i + 1) t.commits) ≡ map (named t) (take i t.commits) ++ named t (get_or t.commits i d) ∷ []
named_more t i d h = rw (add-one, take-suc t.commits i d h) (map-append (named t) (take i t.commits) (get_or t.commits i d ∷ []))

-- one more transaction
pub checks_more : (t : TranscriptState) (now after : ℕ → Bytes) (i : ℕ) (d : TransactionName) (os : List serial.Operation) → i < length t.commits → os ≡ named t (get_or t.commits i d) → Legal now os → after ≡ after_operations now os → ChecksTo t now i → ChecksTo t after (i + 1)
checks_more t now after i d os h e legal left l =
    let before = map (named t) (take i t.commits) in
    let more = named_more t i d h in
    let at_store : Legal (store_left (bytes_at t.opening) before) (named t (get_or t.commits i d)) = subst (λ (xs : List serial.Operation). Legal (store_left (bytes_at t.opening) before) xs) e (subst (λ (m : ℕ → Bytes). Legal m os) l.left legal) in
    record {
      serial = rw more (serial_push (bytes_at t.opening) before (named t (get_or t.commits i d)) l.serial at_store);
      left = left ∙ ap (λ (m : ℕ → Bytes). after_operations m os) l.left ∙ ap (after_operations (store_left (bytes_at t.opening) before)) e
          ∙ sym (ap (store_left (bytes_at t.opening)) more ∙ left_push (bytes_at t.opening) before (named t (get_or t.commits i d)));
    }

split_there : {X : Type 0} (xs : List X) (i : ℕ) (d : X) → i < length xs → xs ≡ take i xs ++ get_or xs i d ∷ drop (i + 1) xs
split_there xs i d h = rw add-one (split_at xs i d h)

length_before : {A B : Type 0} (f : A → B) (xs : List A) (i : ℕ) → i < length xs → i + 1 ≡ length (map f (take i xs)) + 1
length_before f xs i h = let within : i ≤ length xs = omega arith in ap (λ n. n + 1) (sym (length-map (take i xs) f ∙ length-take-le i xs within))

-- an operation that isn't legal
pub checks_stop : (t : TranscriptState) (now : ℕ → Bytes) (i op : ℕ) (d : TransactionName) (before : List serial.Operation) (o : serial.Operation) (rest : List serial.Operation) → i < length t.commits → before ++ o ∷ rest ≡ named t (get_or t.commits i d) → op ≡ length before → Legal now before → (Legal now (before ++ o ∷ []) → ⊥) → ChecksTo t now i → FirstIllegal (bytes_at t.opening) (told_operations t) (i + 1) (op + 1)
checks_stop t now i op d before o rest h e at legal illegal l = record {
  earlier = map (named t) (take i t.commits);
  legal = before;
  operation = o;
  rest = rest;
  later = map (named t) (drop (i + 1) t.commits);
  splits = told_by_name t ∙ ap (map (named t)) (split_there t.commits i d h) ∙ map-append (named t) (take i t.commits) (get_or t.commits i d ∷ drop (i + 1) t.commits)
      ∙ ap (λ (os : List serial.Operation). map (named t) (take i t.commits) ++ os ∷ map (named t) (drop (i + 1) t.commits)) (sym e);
  commit_place = length_before (named t) t.commits i h;
  op_place = ap (λ n. n + 1) at;
  serial_before = l.serial;
  legal_before = subst (λ (m : ℕ → Bytes). Legal m before) l.left legal;
  illegal = λ more. illegal (subst (λ (m : ℕ → Bytes). Legal m (before ++ o ∷ [])) (sym l.left) more);
}

-- a transaction whose operations are all legal
pub goes_on : (t : TranscriptState) (before after : Replay) (i : ℕ) (d : TransactionName) (ps : List ℕ) → i < length t.commits → operations_at t.entries ps ≡ named t (get_or t.commits i d) → IsPlayedTo t.entries before ps after None → ChecksTo t (shown before) i → ChecksTo t (shown after) (i + 1)
goes_on t before after i d ps h e p l = checks_more t (shown before) (shown after) i d (operations_at t.entries ps) h e p.0 p.1 l

-- a transaction with an operation that isn't
pub stops_first : (t : TranscriptState) (before after : Replay) (i at : ℕ) (d : TransactionName) (ps : List ℕ) → i < length t.commits → All (IsDone t.entries) ps → operations_at t.entries ps ≡ named t (get_or t.commits i d) → IsPlayedTo t.entries before ps after (Some at) → ChecksTo t (shown before) i → FirstIllegal (bytes_at t.opening) (told_operations t) (i + 1) (at + 1)
stops_first t before after i at d ps h all e p l =
    let there = all at 0 p.0 in
    let rest = operations_at t.entries (drop (at + 1) ps) in
    let splits : operations_at t.entries ps ≡ operations_at t.entries (take at ps) ++ there.0 ∷ rest = ap (operations_at t.entries) (split_there ps at 0 p.0) ∙ filter_map-append (done_at t.entries) (take at ps) (get_or ps at 0 ∷ drop (at + 1) ps) ∙ rw there.1 refl in
    checks_stop t (shown before) i at d (operations_at t.entries (take at ps)) there.0 rest h (sym splits ∙ e) (sym (length_played t.entries ps at all p.0)) p.1
    (λ legal. p.2 (subst (Legal (shown before)) (sym (taken_more t.entries ps at 0 there.0 p.0 there.1)) legal)) l

-- all transactions were gone through
pub all_serial : (t : TranscriptState) (now : ℕ → Bytes) (i : ℕ) → length t.commits ≤ i → ChecksTo t now i → IsSerial (bytes_at t.opening) (told_operations t)
all_serial t now i h l = subst (IsSerial (bytes_at t.opening)) (ap (map (named t)) (take_all i t.commits h) ∙ sym (told_by_name t)) l.serial
