-- What a replay shows of each page, and what a whole one says.
use Rattle.std.proofs.Common.{List, [], All, add-one, arith, suc-le-suc, true≢false, ap, get_or, subst, Some, suc, zero, true, false, length, refl, sym, take, ℕ, ◌++◌, ◌+◌, ◌<◌, ◌∙◌, ◌∷◌, ◌≡◌}
use Rattle.std.proofs.Math.Seq.{take-suc}
use Rattle.std.proofs.lemmas.List.Elements.{filter_map-append}
use Rattle.cb_protocol.specs.Basics.{Bytes, update}
use Rattle.cb_protocol.specs.Serial.{Legal, Put, Saw, after_operations}
use Rattle.cb_protocol.specs.Serial as serial
use Rattle.cb_transcript.specs.Operations.{done_at, operations_at}
use Rattle.cb_transcript.specs.Replays.{AnswersAs}
use Rattle.cb_transcript.proofs.Listed.{IsDone}
use Rattle.cb_transcript.specs.declared.answer.TranscriptEntry.{TranscriptEntry}

legal_saw : (m : ℕ → Bytes) (os : List serial.Operation) (p : ℕ) (b : Bytes) → Legal m os → b ≡ after_operations m os p → Legal m (os ++ Saw p b ∷ [])
legal_saw m [] p b h e = (e, tt)
legal_saw m (Saw q x ∷ os) p b h e = (h.0, legal_saw m os p b h.1 e)
legal_saw m (Put q x ∷ os) p b h e = legal_saw (update m q x) os p b h e

was_shown : (m : ℕ → Bytes) (os : List serial.Operation) (p : ℕ) (b : Bytes) → Legal m (os ++ Saw p b ∷ []) → b ≡ after_operations m os p
was_shown m [] p b h = h.0
was_shown m (Saw q x ∷ os) p b h = was_shown m os p b h.1
was_shown m (Put q x ∷ os) p b h = was_shown (update m q x) os p b h

legal_put : (m : ℕ → Bytes) (os : List serial.Operation) (p : ℕ) (b : Bytes) → Legal m os → Legal m (os ++ Put p b ∷ [])
legal_put m [] p b h = tt
legal_put m (Saw q x ∷ os) p b h = (h.0, legal_put m os p b h.1)
legal_put m (Put q x ∷ os) p b h = legal_put (update m q x) os p b h

after_saw : (m : ℕ → Bytes) (os : List serial.Operation) (p : ℕ) (b : Bytes) → after_operations m (os ++ Saw p b ∷ []) ≡ after_operations m os
after_saw m [] p b = refl
after_saw m (Saw q x ∷ os) p b = after_saw m os p b
after_saw m (Put q x ∷ os) p b = after_saw (update m q x) os p b

after_put : (m : ℕ → Bytes) (os : List serial.Operation) (p : ℕ) (b : Bytes) → after_operations m (os ++ Put p b ∷ []) ≡ update (after_operations m os) p b
after_put m [] p b = refl
after_put m (Saw q x ∷ os) p b = after_put m os p b
after_put m (Put q x ∷ os) p b = after_put (update m q x) os p b

-- one more place
pub taken_more : (es : List TranscriptEntry) (ps : List ℕ) (i d : ℕ) (o : serial.Operation) → i < length ps → done_at es (get_or ps i d) ≡ Some o → operations_at es (take (i + 1) ps) ≡ operations_at es (take i ps) ++ o ∷ []
taken_more es ps i d o h e = rw (add-one, take-suc ps i d h, filter_map-append (done_at es) (take i ps) (get_or ps i d ∷ []), e) refl

-- The store so far: what the operations before that place leave, all of them legal.
pub record PlaysTo (m : ℕ → Bytes) (es : List TranscriptEntry) (ps : List ℕ) (now : ℕ → Bytes) (i : ℕ) : Type 0 where
  pub legal : Legal m (operations_at es (take i ps))
  pub left : now ≡ after_operations m (operations_at es (take i ps))

pub plays_saw : (m now : ℕ → Bytes) (es : List TranscriptEntry) (ps : List ℕ) (i d : ℕ) (p : ℕ) (b : Bytes) → i < length ps → done_at es (get_or ps i d) ≡ Some (Saw p b) → b ≡ now p → PlaysTo m es ps now i → PlaysTo m es ps now (i + 1)
plays_saw m now es ps i d p b h e shows l = let more = taken_more es ps i d (Saw p b) h e in
    record {
      legal = rw more (legal_saw m (operations_at es (take i ps)) p b l.legal (shows ∙ ap (λ (f : ℕ → Bytes). f p) l.left));
      left = l.left ∙ sym (ap (after_operations m) more ∙ after_saw m (operations_at es (take i ps)) p b);
    }

pub plays_put : (m now next : ℕ → Bytes) (es : List TranscriptEntry) (ps : List ℕ) (i d : ℕ) (p : ℕ) (b : Bytes) → i < length ps → done_at es (get_or ps i d) ≡ Some (Put p b) → next ≡ update now p b → PlaysTo m es ps now i → PlaysTo m es ps next (i + 1)
plays_put m now next es ps i d p b h e put l = let more = taken_more es ps i d (Put p b) h e in
    record {
      legal = rw more (legal_put m (operations_at es (take i ps)) p b l.legal);
      left = put ∙ ap (λ (f : ℕ → Bytes). update f p b) l.left ∙ sym (ap (after_operations m) more ∙ after_put m (operations_at es (take i ps)) p b);
    }

pub stops_at : (m now : ℕ → Bytes) (es : List TranscriptEntry) (ps : List ℕ) (i d : ℕ) (p : ℕ) (b : Bytes) → i < length ps → done_at es (get_or ps i d) ≡ Some (Saw p b) → (b ≡ now p → ⊥) → PlaysTo m es ps now i → Legal m (operations_at es (take (i + 1) ps)) → ⊥
stops_at m now es ps i d p b h e apart l legal = let more = taken_more es ps i d (Saw p b) h e in
    apart (was_shown m (operations_at es (take i ps)) p b (subst (Legal m) more legal) ∙ ap (λ (f : ℕ → Bytes). f p) (sym l.left))

-- such an event is there
pub done_within : (es : List TranscriptEntry) (p : ℕ) (o : serial.Operation) → done_at es p ≡ Some o → p < length es
done_within [] p o h = cc
done_within (e ∷ es) zero o h = omega arith
done_within (e ∷ es) (suc p) o h = suc-le-suc (done_within es p o h)

-- the event at that place was answered as the store would
pub plays_on : (m now next : ℕ → Bytes) (es : List TranscriptEntry) (ps : List ℕ) (i d : ℕ) (o : serial.Operation) → i < length ps → done_at es (get_or ps i d) ≡ Some o → AnswersAs now (Some o) next true → PlaysTo m es ps now i → PlaysTo m es ps next (i + 1)
plays_on m now next es ps i d (Saw p b) h e a l = subst (λ (f : ℕ → Bytes). PlaysTo m es ps f (i + 1)) (sym a.0) (plays_saw m now es ps i d p b h e (a.1.0 refl) l)
plays_on m now next es ps i d (Put p b) h e a l = plays_put m now next es ps i d p b h e a.0 l

-- it wasn't
pub plays_stop : (m now next : ℕ → Bytes) (es : List TranscriptEntry) (ps : List ℕ) (i d : ℕ) (o : serial.Operation) → i < length ps → done_at es (get_or ps i d) ≡ Some o → AnswersAs now (Some o) next false → PlaysTo m es ps now i → Legal m (operations_at es (take (i + 1) ps)) → ⊥
plays_stop m now next es ps i d (Saw p b) h e a l = stops_at m now es ps i d p b h e (λ same. true≢false (sym (a.1.1 same))) l
plays_stop m now next es ps i d (Put p b) h e a l = λ legal. true≢false (sym a.1)

-- each of these events is an operation
pub length_played : (es : List TranscriptEntry) (ps : List ℕ) (i : ℕ) → All (IsDone es) ps → i < length ps → length (operations_at es (take i ps)) ≡ i
length_played es [] i all h = omega arith
length_played es (p ∷ ps) zero all h = refl
length_played es (p ∷ ps) (suc i) all h = let first : 0 < length (p ∷ ps) = omega arith in let within : i < length ps = omega arith in
    rw (all 0 0 first).1 (ap suc (length_played es ps i (λ k d l. all (suc k) d (suc-le-suc l)) within))
