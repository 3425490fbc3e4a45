-- The transcript, and the laws over every schedule.
use Rattle.std.proofs.Common.{Bool, List, None, Option, Some, [], ap, arith, false, if◌then◌else◌, inl, inr, map, refl, reverse, subst, sym, true, ℕ, ◌+◌, ◌<◌, ◌==◌, ◌∙◌, ◌∷◌, ◌≡◌, ◌≢◌}
use Rattle.cb_protocol.proofs.MachineSteps.{came_now, kept_happens, mover_current, present_good, safe_happens}
use Rattle.cb_protocol.proofs.HistoryKept.{Kept, Recorded, history_names, history_operations}
use Rattle.cb_protocol.proofs.Machine.{ClientMayChange, ClientChanges, ClientSays, CommittedTransaction, Machine, MachineMay, MachineMayRun, ClientRestarts, ServerChanges, ServerSends, MachineStep, WasSent, happens, performed_after, present_cache, put_client, run, start}
use Rattle.cb_protocol.proofs.Invariant.{SessionFacts, MessageFact, Invariant, cache_at_session}
use Rattle.cb_protocol.specs.Cache.{Cache, CacheChange, Idle, Open, cache_after}
use Rattle.cb_protocol.specs.Basics.{Bytes, IsIn, Limits}
use Rattle.cb_protocol.specs.Messages.{Body, Commit, PageWrite}
use Rattle.cb_protocol.specs.Serial.{PerformedOperation, TransactionName, committed_operations, transaction_operations}
use Rattle.cb_protocol.specs.Session.{Admit, ApplyCommit, DropTransaction, GrantRow, BeginTransaction, PermitWrite, RemoveRow, Session, SessionChange, Store, EndPermission, set_commit_number, store_after}
use Rattle.cb_protocol.specs.World.{Opening}

-- the client's number and operations after a change
told_lines : (b : Bool) (ls : List PerformedOperation) (c i : ℕ) (k : Cache) (m : CacheChange) (Came : Body → Type 0) → (k.status ≡ Idle → k.operations ≡ []) → ClientMayChange Came k m
    → (k.status ≢ Idle → transaction_operations ls c i k.number ≡ k.operations) → ((x : ℕ) → k.number < x → transaction_operations ls c i x ≡ [])
    → (((cache_after b k m).status ≢ Idle → transaction_operations (performed_after ls c i k.number m) c i (cache_after b k m).number ≡ (cache_after b k m).operations)
    × ((x : ℕ) → (cache_after b k m).number < x → transaction_operations (performed_after ls c i k.number m) c i x ≡ []))
told_lines b ls c i k m Came r a n l = grind arith

other_lines : (ls : List PerformedOperation) (c i y : ℕ) (m : CacheChange) (d j x : ℕ) → (d ≡ c → j ≡ i → x ≡ y → ⊥) → transaction_operations (performed_after ls c i y m) d j x ≡ transaction_operations ls d j x
other_lines ls c i y m d j x ne = grind arith

-- a entry_ops transaction has no further line
entry_lines : (ls : List PerformedOperation) (c i : ℕ) (k : Cache) (m : CacheChange) (Came : Body → Type 0) (d j x : ℕ) → ClientMayChange Came k m → (k.status ≡ Open → d ≡ c → j ≡ i → x ≡ k.number → ⊥) → transaction_operations (performed_after ls c i k.number m) d j x ≡ transaction_operations ls d j x
entry_lines ls c i k m Came d j x a ne = grind arith

not_made : (c : ℕ) (s : Store) (t : Session) (k : Cache) (d j x : ℕ) → SessionFacts c s t k → s.commit_number d j x ≢ None → k.status ≡ Open → d ≡ c → j ≡ t.current → x ≡ k.number → ⊥
not_made c s t k d j x h n o a b e = grind arith

same : (d c : ℕ) → (d == c) ≡ true → d ≡ c
same d c h = grind arith

differ : (d c : ℕ) → (d == c) ≡ false → d ≡ c → ⊥
differ d c h e = grind arith

-- what holds of each client's incarnation, after one is put
pub put_both : (P : ℕ → ℕ → Cache → Type 0) (f : ℕ → ℕ → Cache) (c i : ℕ) (k : Cache) → P c i k → ((d j : ℕ) → (d ≡ c → j ≡ i → ⊥) → P d j (f d j)) → (d j : ℕ) → P d j (put_client f c i k d j)
put_both P f c i k a b d j = go (d == c) refl (j == i) refl
  where
    go : (r : Bool) → (d == c) ≡ r → (u : Bool) → (j == i) ≡ u → P d j (if r then (if u then k else f d j) else f d j)
    go true h true l = subst (λ x. P x j k) (sym (same d c h)) (subst (λ x. P c x k) (sym (same j i l)) a)
    go true h false l = b d j (λ _ e. differ j i l e)
    go false h u l = b d j (λ e _. differ d c h e)

told_client : (w : Machine) (c : ℕ) (m : CacheChange) → Invariant w → Recorded w → MachineMay w (ClientChanges c m) → Recorded (happens w (ClientChanges c m))
told_client w c m h o a = record {
  now = λ d j. (put_both P w.client c (w.incarnation c) k (mine.0, mine.1) (λ d j ne. (λ s. rw (keep_write d j ne (w.client d j).number) (o.now d j s), λ x l. rw (keep_write d j ne x) (o.later d j x l))) d j).0;
  later = λ d j. (put_both P w.client c (w.incarnation c) k (mine.0, mine.1) (λ d j ne. (λ s. rw (keep_write d j ne (w.client d j).number) (o.now d j s), λ x l. rw (keep_write d j ne x) (o.later d j x l))) d j).1;
  once = o.once;
  entries = λ e i. (
    rw (entry_lines w.performed c (w.incarnation c) (present_cache w c) m (WasSent w c (w.incarnation c)) e.client e.incarnation e.txn a
        (λ operation x y z. not_made c w.store (w.session c) (present_cache w c) e.client e.incarnation e.txn (present_good w c h cur) (o.entries e i).1 operation x (y ∙ sym cur) z)) (o.entries e i).0,
    (o.entries e i).1,
  );
}
  where
    cur : (w.session c).current ≡ w.incarnation c
    cur = mover_current w c m h a

    k : Cache
    k = cache_after w.store.keep_write (present_cache w c) m

    ls : List PerformedOperation
    ls = performed_after w.performed c (w.incarnation c) (present_cache w c).number m

    P : ℕ → ℕ → Cache → Type 0
    P d j x = (x.status ≢ Idle → transaction_operations ls d j x.number ≡ x.operations) × ((y : ℕ) → x.number < y → transaction_operations ls d j y ≡ [])

    mine : P c (w.incarnation c) k
    mine = told_lines w.store.keep_write w.performed c (w.incarnation c) (present_cache w c) m (WasSent w c (w.incarnation c)) (present_good w c h cur).resting a (o.now c (w.incarnation c)) (o.later c (w.incarnation c))

    keep_write : (d j : ℕ) → (d ≡ c → j ≡ w.incarnation c → ⊥) → (x : ℕ) → transaction_operations ls d j x ≡ transaction_operations w.performed d j x
    keep_write d j ne x = other_lines w.performed c (w.incarnation c) (present_cache w c).number m d j x (λ e f _. ne e f)

put_made_there : (f : ℕ → ℕ → ℕ → Option ℕ) (c i x n : ℕ) → set_commit_number f c i x n c i x ≢ None
put_made_there f c i x n = grind arith

applying : (c : ℕ) (s : Store) (t : Session) (k : Cache) (x : ℕ) (ws : List PageWrite) → MessageFact c s t k (Commit x ws) → t.ended < x → (x ≡ k.number) × (k.status ≢ Idle)
applying c s t k x ws n l = grind arith

made_stays : (s : Store) (c : ℕ) (i : Session) (m : SessionChange) (d j x : ℕ) → s.commit_number d j x ≢ None → (store_after s c i m).commit_number d j x ≢ None
made_stays s c i m d j x n = grind arith

told_apply : (w : Machine) (c x : ℕ) (ws : List PageWrite) → Invariant w → Recorded w → MachineMay w (ServerChanges c (ApplyCommit x ws)) → (transaction_operations w.performed c (w.session c).current x ≡ (cache_at_session w c).operations) × (set_commit_number w.store.commit_number c (w.session c).current x (w.store.last_commit + 1) c (w.session c).current x ≢ None)
told_apply w c x ws h o a = let q = applying c w.store (w.session c) (cache_at_session w c) x ws (came_now w c _ h a.0) a.2 in
    (rw q.0 (o.now c (w.session c).current q.1), put_made_there w.store.commit_number c (w.session c).current x (w.store.last_commit + 1))

made_none : (c : ℕ) (s : Store) (t : Session) (k : Cache) (x : ℕ) → SessionFacts c s t k → t.ended < x → s.commit_number c t.current x ≡ None
made_none c s t k x h l = go (s.commit_number c t.current x) refl
  where
    go : (r : Option ℕ) → s.commit_number c t.current x ≡ r → r ≡ None
    go None e = refl
    go (Some n) e = let b = h.over x n e in absurd (omega arith)

-- a transaction that is not made is not in the history
not_again : (es : List CommittedTransaction) (c i x : ℕ) (made : ℕ → ℕ → ℕ → Option ℕ) → made c i x ≡ None → ((e : CommittedTransaction) → IsIn e es → made e.client e.incarnation e.txn ≢ None) → IsIn (record { client = c; incarnation = i; txn = x }) (history_names es) → ⊥
not_again [] c i x made n h j = absurd j
not_again (e ∷ es) c i x made n h j = elim j [
  | inl q ↦ h e (inl refl) (subst (λ (y : TransactionName). made y.client y.incarnation y.txn ≡ None) (sym q) n)
  | inr k ↦ not_again es c i x made n (λ d l. h d (inr l)) k
]

told_happens : (w : Machine) (e : MachineStep) → Invariant w → Recorded w → MachineMay w e → Recorded (happens w e)
told_happens w (ClientChanges c m) h o a = told_client w c m h o a
told_happens w (ClientSays c y) h o a = record { now = o.now; later = o.later; entries = o.entries; once = o.once }
told_happens w (ServerChanges c (Admit i)) h o a = record { now = o.now; later = o.later; entries = o.entries; once = o.once }
told_happens w (ServerChanges c (BeginTransaction x)) h o a = record { now = o.now; later = o.later; entries = o.entries; once = o.once }
told_happens w (ServerChanges c (DropTransaction x)) h o a = record { now = o.now; later = o.later; entries = o.entries; once = o.once }
told_happens w (ServerChanges c (GrantRow p g)) h o a = record { now = o.now; later = o.later; entries = o.entries; once = o.once }
told_happens w (ServerChanges c (PermitWrite p g)) h o a = record { now = o.now; later = o.later; entries = o.entries; once = o.once }
told_happens w (ServerChanges c (RemoveRow p g)) h o a = record { now = o.now; later = o.later; entries = o.entries; once = o.once }
told_happens w (ServerChanges c (EndPermission p g x)) h o a = record { now = o.now; later = o.later; entries = o.entries; once = o.once }
told_happens w (ServerChanges c (ApplyCommit x ws)) h o a = record {
  now = o.now;
  later = o.later;
  once = (not_again w.history c (w.session c).current x w.store.commit_number (made_none c w.store (w.session c) (cache_at_session w c) x (h.good c) a.2) (λ e i. (o.entries e i).1), o.once);
  entries = λ e. elim [
    | inl q ↦ subst (λ (y : CommittedTransaction). (transaction_operations w.performed y.client y.incarnation y.txn ≡ y.operations) × (set_commit_number w.store.commit_number c (w.session c).current x (w.store.last_commit + 1) y.client y.incarnation y.txn ≢ None)) q (told_apply w c x ws h o a)
    | inr i ↦ ((o.entries e i).0, made_stays w.store c (w.session c) (ApplyCommit x ws) e.client e.incarnation e.txn (o.entries e i).1)
  ];
}
told_happens w (ServerSends c i y) h o a = record { now = o.now; later = o.later; entries = o.entries; once = o.once }
told_happens w (ClientRestarts c) h o a = record { now = o.now; later = o.later; entries = o.entries; once = o.once }

pub told_start : (L : Limits) (o : Opening) → Recorded (start L o)
told_start L o = record { now = λ c i n. absurd (n refl); later = λ c i x l. refl; entries = λ e i. absurd i; once = tt }

pub all_kept : (opening : ℕ → Bytes) (es : List MachineStep) (w : Machine) → Invariant w → Kept opening w → Recorded w → MachineMayRun es w → Invariant (run es w) × Kept opening (run es w) × Recorded (run es w)
all_kept o [] w h s t a = (h, s, t)
all_kept o (e ∷ es) w h s t a = all_kept o es (happens w e) (safe_happens w e h a.0) (kept_happens o w e h a.0 s) (told_happens w e h t a.0) a.1

pub kept_start : (L : Limits) (o : Opening) → Kept o.bytes (start L o)
kept_start L o = record { legal = tt; leaves = λ p. refl }

-- the transcript's operations are the entries'
pub same_ops : (ls : List PerformedOperation) (es : List CommittedTransaction) → ((e : CommittedTransaction) → IsIn e es → transaction_operations ls e.client e.incarnation e.txn ≡ e.operations)
    → map (λ (n : TransactionName). reverse (transaction_operations ls n.client n.incarnation n.txn)) (history_names es) ≡ map (λ (e : CommittedTransaction). reverse e.operations) es
same_ops ls [] h = refl
same_ops ls (e ∷ es) h = let a = h e (inl refl) in let b = same_ops ls es (λ d i. h d (inr i)) in cc

pub told_operations : (w : Machine) → Recorded w → committed_operations (history_names w.history) w.performed ≡ history_operations w.history
told_operations w t = ap reverse (same_ops w.performed w.history (λ e i. (t.entries e i).0))
