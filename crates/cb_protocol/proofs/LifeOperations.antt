-- The operations of one life within the transcript of all, and what a client of a former life still does.
use Rattle.std.proofs.Common.{Bool, List, None, Option, Some, [], ap, arith, false, if◌then◌else◌, inl, inr, nat_le, refl, subst, sym, true, ℕ, ◌<◌, ◌∙◌, ◌∷◌, ◌≡◌, ◌≢◌, ◌≤◌}
use Rattle.cb_protocol.proofs.Cases.{call_refused, fault_of_read, fault_of_write}
use Rattle.cb_protocol.proofs.ClientSteps.{cache_after_steps, cache_of, performed_by_steps}
use Rattle.cb_protocol.proofs.Machine.{performed_after}
use Rattle.cb_protocol.specs.Answers.{AnswerWord, ClientFault}
use Rattle.cb_protocol.specs.Basics.{Bytes, IsIn, Limits}
use Rattle.cb_protocol.specs.Cache.{Cache, CacheChange, Committing, Idle, Open, TransactionState, cache_after, is_committing, is_idle}
use Rattle.cb_protocol.specs.Client.{Client, ClientStep, ChangeCache, EndTransaction, MarkDue, MarkDueDowngrade, MarkWanted, Say, SetAsk, client_after}
use Rattle.cb_protocol.specs.ClientCalls.{Call, CallAgain, CallBegin, CallDrop, CallFinish, CallHello, CallPeek, CallRead, CallWant, CallWrite, call_fault, client_call}
use Rattle.cb_protocol.specs.Serial.{PerformedOperation, transaction_operations}
use Rattle.cb_protocol.specs.Transcript.{call_operation, incarnation_at, transaction_at}
use Rattle.cb_protocol.specs.World.{TranscriptEntry}

-- the operations of incarnations from the floor on
abbrev pub of_life : ℕ → List PerformedOperation → List PerformedOperation
of_life floor [] = []
of_life floor (o ∷ os) = if nat_le floor o.incarnation then o ∷ of_life floor os else of_life floor os

life_change : (floor : ℕ) (ls : List PerformedOperation) (c i x : ℕ) (m : CacheChange) → floor ≤ i → of_life floor (performed_after ls c i x m) ≡ performed_after (of_life floor ls) c i x m
life_change floor ls c i x m l = grind arith

stale_change : (floor : ℕ) (ls : List PerformedOperation) (c i x : ℕ) (m : CacheChange) → i < floor → of_life floor (performed_after ls c i x m) ≡ of_life floor ls
stale_change floor ls c i x m l = grind arith

-- a client of the life does steps
pub life_lines : (floor : ℕ) (b : Bool) (ls : List PerformedOperation) (c i : ℕ) (k : Cache) (steps : List ClientStep) → floor ≤ i → of_life floor (performed_by_steps b ls c i k steps) ≡ performed_by_steps b (of_life floor ls) c i k steps
life_lines floor b ls c i k [] l = refl
life_lines floor b ls c i k (ChangeCache m ∷ steps) l = life_lines floor b (performed_after ls c i k.number m) c i (cache_after b k m) steps l
    ∙ ap (λ (x : List PerformedOperation). performed_by_steps b x c i (cache_after b k m) steps) (life_change floor ls c i k.number m l)
life_lines floor b ls c i k (Say y ∷ steps) l = life_lines floor b ls c i k steps l
life_lines floor b ls c i k (SetAsk a ∷ steps) l = life_lines floor b ls c i k steps l
life_lines floor b ls c i k (MarkWanted p ∷ steps) l = life_lines floor b ls c i k steps l
life_lines floor b ls c i k (MarkDue p ∷ steps) l = life_lines floor b ls c i k steps l
life_lines floor b ls c i k (MarkDueDowngrade p y ∷ steps) l = life_lines floor b ls c i k steps l
life_lines floor b ls c i k (EndTransaction y ∷ steps) l = life_lines floor b ls c i k steps l

-- a client of a former life does
pub stale_lines : (floor : ℕ) (b : Bool) (ls : List PerformedOperation) (c i : ℕ) (k : Cache) (steps : List ClientStep) → i < floor → of_life floor (performed_by_steps b ls c i k steps) ≡ of_life floor ls
stale_lines floor b ls c i k [] l = refl
stale_lines floor b ls c i k (ChangeCache m ∷ steps) l = stale_lines floor b (performed_after ls c i k.number m) c i (cache_after b k m) steps l ∙ stale_change floor ls c i k.number m l
stale_lines floor b ls c i k (Say y ∷ steps) l = stale_lines floor b ls c i k steps l
stale_lines floor b ls c i k (SetAsk a ∷ steps) l = stale_lines floor b ls c i k steps l
stale_lines floor b ls c i k (MarkWanted p ∷ steps) l = stale_lines floor b ls c i k steps l
stale_lines floor b ls c i k (MarkDue p ∷ steps) l = stale_lines floor b ls c i k steps l
stale_lines floor b ls c i k (MarkDueDowngrade p y ∷ steps) l = stale_lines floor b ls c i k steps l
stale_lines floor b ls c i k (EndTransaction y ∷ steps) l = stale_lines floor b ls c i k steps l

-- the transactions of the life are whole in it
pub life_transaction : (floor : ℕ) (ls : List PerformedOperation) (c i t : ℕ) → floor ≤ i → transaction_operations (of_life floor ls) c i t ≡ transaction_operations ls c i t
life_transaction floor [] c i t l = refl
life_transaction floor (o ∷ os) c i t l = let h = life_transaction floor os c i t l in grind arith

other_change : (ls : List PerformedOperation) (c i y : ℕ) (m : CacheChange) (d j x : ℕ) → j ≢ i → transaction_operations (performed_after ls c i y m) d j x ≡ transaction_operations ls d j x
other_change ls c i y m d j x ne = grind arith

-- another incarnation's transactions gain nothing
pub other_incarnation : (b : Bool) (ls : List PerformedOperation) (c i : ℕ) (k : Cache) (steps : List ClientStep) (d j x : ℕ) → j ≢ i → transaction_operations (performed_by_steps b ls c i k steps) d j x ≡ transaction_operations ls d j x
other_incarnation b ls c i k [] d j x ne = refl
other_incarnation b ls c i k (ChangeCache m ∷ steps) d j x ne = other_incarnation b (performed_after ls c i k.number m) c i (cache_after b k m) steps d j x ne ∙ other_change ls c i k.number m d j x ne
other_incarnation b ls c i k (Say y ∷ steps) d j x ne = other_incarnation b ls c i k steps d j x ne
other_incarnation b ls c i k (SetAsk a ∷ steps) d j x ne = other_incarnation b ls c i k steps d j x ne
other_incarnation b ls c i k (MarkWanted p ∷ steps) d j x ne = other_incarnation b ls c i k steps d j x ne
other_incarnation b ls c i k (MarkDue p ∷ steps) d j x ne = other_incarnation b ls c i k steps d j x ne
other_incarnation b ls c i k (MarkDueDowngrade p y ∷ steps) d j x ne = other_incarnation b ls c i k steps d j x ne
other_incarnation b ls c i k (EndTransaction y ∷ steps) d j x ne = other_incarnation b ls c i k steps d j x ne

-- an operation from the floor on is of the life
pub in_life : (floor : ℕ) (ls : List PerformedOperation) (o : PerformedOperation) → floor ≤ o.incarnation → IsIn o ls → IsIn o (of_life floor ls)
in_life floor [] o l i = i
in_life floor (p ∷ ls) o l i = go (nat_le floor p.incarnation) refl (in_life floor ls o l)
  where
    stale : nat_le floor p.incarnation ≡ false → p ≡ o → ⊥
    stale e q = let k : p.incarnation < floor = grind arith in let z = ap (λ (x : PerformedOperation). x.incarnation) q in omega (arith, k, z, l)

    go : (r : Bool) → nat_le floor p.incarnation ≡ r → (IsIn o ls → IsIn o (of_life floor ls)) → IsIn o (if r then p ∷ of_life floor ls else of_life floor ls)
    go true e h = elim i [ inl q ↦ inl q | inr j ↦ inr (h j) ]
    go false e h = elim i [ inl q ↦ absurd (stale e q) | inr j ↦ h j ]

-- where all operations are of below the floor, there is none of the life
pub none_of_life : (floor : ℕ) (ls : List PerformedOperation) → ((o : PerformedOperation) → IsIn o ls → o.incarnation < floor) → of_life floor ls ≡ []
none_of_life floor [] f = refl
none_of_life floor (o ∷ ls) f = go (nat_le floor o.incarnation) refl (none_of_life floor ls (λ x i. f x (inr i)))
  where
    below : nat_le floor o.incarnation ≡ true → ⊥
    below e = let l : floor ≤ o.incarnation = grind arith in let k = f o (inl refl) in omega (arith, l, k)

    go : (r : Bool) → nat_le floor o.incarnation ≡ r → of_life floor ls ≡ [] → (if r then o ∷ of_life floor ls else of_life floor ls) ≡ []
    go true e h = absurd (below e)
    go false e h = h

-- the client's transaction t can perform nothing more
abbrev pub IsPast : Cache → ℕ → Type 0
IsPast k t = (t ≤ k.number) × (t ≡ k.number → k.status ≢ Open)

past_change : (b : Bool) (k : Cache) (m : CacheChange) (t : ℕ) → IsPast k t → IsPast (cache_after b k m) t
past_change b k m t p = grind arith

past_cache : (b : Bool) (k : Cache) (steps : List ClientStep) (t : ℕ) → IsPast k t → IsPast (cache_after_steps b k steps) t
past_cache b k [] t p = p
past_cache b k (ChangeCache m ∷ steps) t p = past_cache b (cache_after b k m) steps t (past_change b k m t p)
past_cache b k (Say y ∷ steps) t p = past_cache b k steps t p
past_cache b k (SetAsk a ∷ steps) t p = past_cache b k steps t p
past_cache b k (MarkWanted q ∷ steps) t p = past_cache b k steps t p
past_cache b k (MarkDue q ∷ steps) t p = past_cache b k steps t p
past_cache b k (MarkDueDowngrade q y ∷ steps) t p = past_cache b k steps t p
past_cache b k (EndTransaction y ∷ steps) t p = past_cache b k steps t p

-- so after any steps
pub past_stays : (b : Bool) (k : Client) (steps : List ClientStep) (t : ℕ) → IsPast k.cache t → IsPast (client_after b k steps).cache t
past_stays b k steps t p = subst (λ (x : Cache). IsPast x t) (sym (cache_of b k steps)) (past_cache b k.cache steps t p)

-- neither idle nor committing is open
is_open_then : (s : TransactionState) → is_idle s ≡ false → is_committing s ≡ false → s ≡ Open
is_open_then Idle a b = absurd cc
is_open_then Open a b = refl
is_open_then Committing a b = absurd cc

read_open : (L : Limits) (k : Client) (p : ℕ) → call_fault L k (CallRead p) ≡ None → k.cache.status ≡ Open
read_open L k p e = let f = sym (fault_of_read L k p) ∙ e in is_open_then k.cache.status (grind arith) (grind arith)

write_open : (L : Limits) (k : Client) (p : ℕ) (b : Bytes) → call_fault L k (CallWrite p b) ≡ None → k.cache.status ≡ Open
write_open L k p b e = let f = sym (fault_of_write L k p b) ∙ e in is_open_then k.cache.status (grind arith) (grind arith)

-- one more operation is of the client's open transaction
one_more : (hs : List TranscriptEntry) (c : ℕ) (x : Call) (word : AnswerWord) (ls : List PerformedOperation) (d j t : ℕ) → (d ≡ c → j ≡ incarnation_at hs c → t ≡ transaction_at hs c → ⊥) → transaction_operations (call_operation hs c x word ls) d j t ≡ transaction_operations ls d j t
one_more hs c x word ls d j t ne = grind arith

-- a call adds no operation to a transaction that is past
pub past_gains_none : (L : Limits) (hs : List TranscriptEntry) (c : ℕ) (k : Client) (x : Call) (ls : List PerformedOperation) (d j t : ℕ) → transaction_at hs c ≡ k.cache.number → (d ≡ c → j ≡ incarnation_at hs c → IsPast k.cache t)
    → transaction_operations (call_operation hs c x (client_call L k x).word ls) d j t ≡ transaction_operations ls d j t
past_gains_none L hs c k x ls d j t n p = by_call x
  where
    apart : k.cache.status ≡ Open → d ≡ c → j ≡ incarnation_at hs c → t ≡ transaction_at hs c → ⊥
    apart o a b e = (p a b).1 (e ∙ n) o

    gains_none : Call → Type 0
    gains_none x = transaction_operations (call_operation hs c x (client_call L k x).word ls) d j t ≡ transaction_operations ls d j t

    go : (x : Call) (f : Option ClientFault) → (f ≡ None → k.cache.status ≡ Open) → ((g : ClientFault) → f ≡ Some g → gains_none x) → gains_none x
    go x None o r = one_more hs c x (client_call L k x).word ls d j t (apart (o refl))
    go x (Some f) o r = r f refl

    by_call : (x : Call) → gains_none x
    by_call CallHello = refl
    by_call CallBegin = refl
    by_call (CallRead q) = go (CallRead q) (call_fault L k (CallRead q)) (read_open L k q) (λ f e. rw (call_refused L k (CallRead q) f e) refl)
    by_call (CallWant q) = refl
    by_call (CallWrite q b) = go (CallWrite q b) (call_fault L k (CallWrite q b)) (write_open L k q b) (λ f e. rw (call_refused L k (CallWrite q b) f e) refl)
    by_call CallFinish = refl
    by_call CallDrop = refl
    by_call CallAgain = refl
    by_call (CallPeek q) = refl
