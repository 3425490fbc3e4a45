-- The operations of a transaction, page by page and as a whole.
use Rattle.std.proofs.Common.{List, None, Option, Some, [], arith, map, refl, reverse, sym, ℕ, ◌++◌, ◌<◌, ◌∙◌, ◌∷◌, ◌≡◌}
use mathlib.Core.List.{reverse-cons}
use Rattle.cb_protocol.proofs.HistoryKept.{history_operations}
use Rattle.cb_protocol.proofs.Machine.{CommittedTransaction, ListsWrites}
use Rattle.cb_protocol.proofs.Invariant.{SessionFacts, LegalAt, MessageFact, at_page}
use Rattle.cb_protocol.specs.Cache.{Cache}
use Rattle.cb_protocol.specs.Basics.{Bytes, update}
use Rattle.cb_protocol.specs.Messages.{Commit, PageWrite, write_of_page}
use Rattle.cb_protocol.specs.Serial.{Operation, Put, Saw, IsSerial, Legal, after_operations, store_left}
use Rattle.cb_protocol.specs.Session.{Session, Store, new_bytes}

legal_push_saw : (m : ℕ → Bytes) (os : List Operation) (p : ℕ) (b : Bytes) → Legal m os → b ≡ after_operations m os p → Legal m (os ++ Saw p b ∷ [])
legal_push_saw m [] p b h e = (e, tt)
legal_push_saw m (Saw q x ∷ os) p b h e = (h.0, legal_push_saw m os p b h.1 e)
legal_push_saw m (Put q x ∷ os) p b h e = legal_push_saw (update m q x) os p b h e

legal_push_put : (m : ℕ → Bytes) (os : List Operation) (p : ℕ) (b : Bytes) → Legal m os → Legal m (os ++ Put p b ∷ [])
legal_push_put m [] p b h = tt
legal_push_put m (Saw q x ∷ os) p b h = (h.0, legal_push_put m os p b h.1)
legal_push_put m (Put q x ∷ os) p b h = legal_push_put (update m q x) os p b h

after_push_saw : (m : ℕ → Bytes) (os : List Operation) (p : ℕ) (b : Bytes) → after_operations m (os ++ Saw p b ∷ []) ≡ after_operations m os
after_push_saw m [] p b = refl
after_push_saw m (Saw q x ∷ os) p b = after_push_saw m os p b
after_push_saw m (Put q x ∷ os) p b = after_push_saw (update m q x) os p b

after_push_put : (m : ℕ → Bytes) (os : List Operation) (p : ℕ) (b : Bytes) → after_operations m (os ++ Put p b ∷ []) ≡ update (after_operations m os) p b
after_push_put m [] p b = refl
after_push_put m (Saw q x ∷ os) p b = after_push_put m os p b
after_push_put m (Put q x ∷ os) p b = after_push_put (update m q x) os p b

saw_rest : (p q : ℕ) (b x : Bytes) (os : List Operation) → LegalAt p b (Saw q x ∷ os) → LegalAt p b os
saw_rest p q b x os h = grind arith

saw_that : (p : ℕ) (b x : Bytes) (os : List Operation) → LegalAt p b (Saw p x ∷ os) → at_page p b os ≡ x
saw_that p b x os h = grind arith

put_rest : (p q : ℕ) (b x : Bytes) (os : List Operation) → LegalAt p b (Put q x ∷ os) → LegalAt p b os
put_rest p q b x os h = grind arith

-- what a transaction leaves, page by page, is what it leaves
pub after_pages : (m : ℕ → Bytes) (os : List Operation) (p : ℕ) → after_operations m (reverse os) p ≡ at_page p (m p) os
after_pages m [] p = refl
after_pages m (Saw q x ∷ os) p = rw (reverse-cons, after_push_saw) (after_pages m os p)
after_pages m (Put q x ∷ os) p = rw (reverse-cons, after_push_put) (grind (arith, after_pages m os p))

-- legal at each page, it is legal
pub legal_pages : (m : ℕ → Bytes) (os : List Operation) → ((p : ℕ) → LegalAt p (m p) os) → Legal m (reverse os)
legal_pages m [] h = tt
legal_pages m (Saw q x ∷ os) h = rw reverse-cons (legal_push_saw m (reverse os) q x (legal_pages m os (λ p. saw_rest p q (m p) x os (h p))) (sym (saw_that q (m q) x os (h q)) ∙ sym (after_pages m os q)))
legal_pages m (Put q x ∷ os) h = rw reverse-cons (legal_push_put m (reverse os) q x (legal_pages m os (λ p. put_rest p q (m p) x os (h p))))

serial_push : (m : ℕ → Bytes) (ts : List (List Operation)) (t : List Operation) → IsSerial m ts → Legal (store_left m ts) t → IsSerial m (ts ++ t ∷ [])
serial_push m [] t h l = (l, tt)
serial_push m (u ∷ ts) t h l = (h.0, serial_push (after_operations m u) ts t h.1 l)

left_push : (m : ℕ → Bytes) (ts : List (List Operation)) (t : List Operation) → store_left m (ts ++ t ∷ []) ≡ after_operations (store_left m ts) t
left_push m [] t = refl
left_push m (u ∷ ts) t = left_push (after_operations m u) ts t

pub committed_push : (e : CommittedTransaction) (es : List CommittedTransaction) → history_operations (e ∷ es) ≡ history_operations es ++ reverse e.operations ∷ []
committed_push e es = reverse-cons (reverse e.operations) (map (λ (x : CommittedTransaction). reverse x.operations) es)

-- one more commit
pub serial_more : (opening bytes bytes' : ℕ → Bytes) (es : List CommittedTransaction) (e : CommittedTransaction) → IsSerial opening (history_operations es) → ((p : ℕ) → store_left opening (history_operations es) p ≡ bytes p)
    → ((p : ℕ) → LegalAt p (bytes p) e.operations) → IsSerial opening (history_operations (e ∷ es))
serial_more o bytes bytes' es e h l a = rw (committed_push e es) (serial_push o (history_operations es) (reverse e.operations) h (legal_pages (store_left o (history_operations es)) e.operations (λ p. rw (l p) (a p))))

pub leaves_more : (opening bytes bytes' : ℕ → Bytes) (es : List CommittedTransaction) (e : CommittedTransaction) → ((p : ℕ) → store_left opening (history_operations es) p ≡ bytes p)
    → ((p : ℕ) → at_page p (bytes p) e.operations ≡ bytes' p) → (p : ℕ) → store_left opening (history_operations (e ∷ es)) p ≡ bytes' p
leaves_more o bytes bytes' es e l a p = rw (committed_push e es, left_push) (after_pages (store_left o (history_operations es)) e.operations p ∙ (rw (l p) (a p)))

-- a commit that is applied is what its client's transaction did
pub applied_legal : (c : ℕ) (s : Store) (t : Session) (k : Cache) (x : ℕ) (ws : List PageWrite) (p : ℕ) → SessionFacts c s t k → MessageFact c s t k (Commit x ws) → t.ended < x → LegalAt p (s.bytes p) k.operations
applied_legal c s t k x ws p h n l = grind arith

-- what a commit's message says, before it is applied
committing : (c : ℕ) (s : Store) (t : Session) (k : Cache) (x : ℕ) (ws : List PageWrite) → MessageFact c s t k (Commit x ws) → t.ended < x → (x ≡ k.number) × ListsWrites ws k
committing c s t k x ws n l = grind arith

pub applied_leaves : (c : ℕ) (s : Store) (t : Session) (k : Cache) (x : ℕ) (ws : List PageWrite) (p : ℕ) → SessionFacts c s t k → MessageFact c s t k (Commit x ws) → t.ended < x → at_page p (s.bytes p) k.operations ≡ new_bytes (write_of_page ws p) (s.bytes p)
applied_leaves c s t k x ws p h n l = go (write_of_page ws p) refl
  where
    q : (x ≡ k.number) × ListsWrites ws k
    q = committing c s t k x ws n l

    live : t.ended < k.number
    live = omega (arith, q.0, l)

    go : (r : Option PageWrite) → write_of_page ws p ≡ r → at_page p (s.bytes p) k.operations ≡ new_bytes r (s.bytes p)
    go None e = h.clean p live (q.1.no_other p e)
    go (Some v) e = (let d = h.dirty p live (q.1.each p v e).0 in let f = (q.1.each p v e).2 in cc)
