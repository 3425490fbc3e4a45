-- Until a transaction has ended at the server, each copy has the version that was read, also where
-- it was written; and a committing transaction ends at the server by its commit alone.
use Rattle.std.proofs.Common.{List, None, Some, arith, refl, subst, sym, ℕ, ◌<◌, ◌≡◌, ◌≢◌, ◌≤◌}
use Rattle.cb_protocol.proofs.Followed.{Keeps}
use Rattle.cb_protocol.proofs.Invariant.{MessageFact, SessionFacts, cache_at_session}
use Rattle.cb_protocol.proofs.InvariantKept.{put_client_each, put_each}
use Rattle.cb_protocol.proofs.Machine.{ClientChanges, ClientMayChange, ClientRestarts, ClientSays, Machine, ServerChanges, ServerSends, WasSent, present_cache, start}
use Rattle.cb_protocol.proofs.MachineSteps.{came_now, mover_current, named, present_good, present_now}
use Rattle.cb_protocol.specs.Basics.{Limits, update}
use Rattle.cb_protocol.specs.Cache.{Abandon, Begin, Cache, CacheChange, Committing, Fill, Finish, Install, LetGo, Lock, MakeBare, Read, RefuseGrant, TakeDone, TakePermission, TakeWelcome, WriteBytes, YieldPermission, cache_after, new_cache}
use Rattle.cb_protocol.specs.Messages.{Body, Commit, Drop, PageWrite, write_of_page}
use Rattle.cb_protocol.specs.Session.{Admit, ApplyCommit, BeginTransaction, DropTransaction, EndPermission, GrantRow, PermitWrite, RemoveRow, Session, Store, session_after, store_after}
use Rattle.cb_protocol.specs.World.{Opening}

-- what holds besides of a client at the server's current incarnation
pub record ReadFacts (c : ℕ) (s : Store) (t : Session) (k : Cache) : Type 0 where
  pub version : (p g : ℕ) → t.ended < k.number → k.held p ≡ Some g → k.version p ≡ s.version p
  pub applied : k.status ≡ Committing → k.number ≤ t.ended → s.commit_number c t.current k.number ≢ None

-- a client's change
read_changed : (c : ℕ) (s : Store) (t : Session) (k : Cache) (Came : Body → Type 0) (m : CacheChange) → SessionFacts c s t k → ((y : Body) → Came y → MessageFact c s t k y) → ClientMayChange Came k m → ReadFacts c s t k → ReadFacts c s t (cache_after s.keep_write k m)
read_changed c s t k Came TakeWelcome h f a r = grind arith
read_changed c s t k Came Begin h f a r = grind arith
read_changed c s t k Came (Lock p) h f a r = grind arith
read_changed c s t k Came (Read p b) h f a r = grind arith
read_changed c s t k Came (TakePermission p) h f a r = grind arith
read_changed c s t k Came (WriteBytes p b) h f a r = grind arith
read_changed c s t k Came Finish h f a r = grind arith
read_changed c s t k Came Abandon h f a r = grind arith
read_changed c s t k Came (TakeDone n) h f a r = let d = f _ a.2 in grind arith
read_changed c s t k Came (Install p g v b) h f a r = let d = f _ a.1 in grind arith
read_changed c s t k Came (Fill p g b) h f a r = grind arith
read_changed c s t k Came (RefuseGrant p g) h f a r = grind arith
read_changed c s t k Came (LetGo p) h f a r = grind arith
read_changed c s t k Came (MakeBare p) h f a r = grind arith
read_changed c s t k Came (YieldPermission p) h f a r = grind arith

-- a change of the client's own session
read_admitted : (c : ℕ) (s : Store) (t : Session) (i : ℕ) → ReadFacts c (store_after s c t (Admit i)) (session_after t (Admit i)) new_cache
read_admitted c s t i = grind arith

read_begun : (c : ℕ) (s : Store) (t : Session) (k : Cache) (x : ℕ) → SessionFacts c s t k → t.txn < x → x ≤ k.number → ReadFacts c s t k → ReadFacts c (store_after s c t (BeginTransaction x)) (session_after t (BeginTransaction x)) k
read_begun c s t k x h l m r = grind arith

read_dropped : (c : ℕ) (s : Store) (t : Session) (k : Cache) (x : ℕ) → SessionFacts c s t k → t.txn ≡ x → t.ended < x → MessageFact c s t k (Drop x) → ReadFacts c s t k → ReadFacts c (store_after s c t (DropTransaction x)) (session_after t (DropTransaction x)) k
read_dropped c s t k x h e l n r = grind arith

read_applied : (c : ℕ) (s : Store) (t : Session) (k : Cache) (x : ℕ) (ws : List PageWrite) → MessageFact c s t k (Commit x ws) → t.ended < x → ReadFacts c s t k → ReadFacts c (store_after s c t (ApplyCommit x ws)) (session_after t (ApplyCommit x ws)) k
read_applied c s t k x ws n l r = grind arith

-- the commit of another client, which writes no page that is held
read_other_applied : (c d : ℕ) (s : Store) (t u : Session) (k : Cache) (x : ℕ) (ws : List PageWrite) → d ≢ c → SessionFacts d s u k → ((p : ℕ) (w : PageWrite) → write_of_page ws p ≡ Some w → s.holder p ≡ Some c) → ReadFacts d s u k → ReadFacts d (store_after s c t (ApplyCommit x ws)) u k
read_other_applied c d s t u k x ws ne h a r = grind arith

-- so of each client
abbrev pub AllRead : Machine → Type 0
AllRead w = (c : ℕ) → ReadFacts c w.store (w.session c) (cache_at_session w c)

pub read_at_start : (L : Limits) (o : Opening) → AllRead (start L o)
read_at_start L o c = grind arith

-- a session changes, within its incarnation
session_read : (w : Machine) (c : ℕ) (s : Store) (t : Session) → t.current ≡ (w.session c).current → ReadFacts c s t (cache_at_session w c) → ((d : ℕ) → d ≢ c → ReadFacts d s (w.session d) (cache_at_session w d)) → (d : ℕ) → ReadFacts d s (update w.session c t d) (w.client d (update w.session c t d).current)
session_read w c s t e g og = put_each (λ d x. ReadFacts d s x (w.client d x.current)) w.session c t (subst (λ (j : ℕ). ReadFacts c s t (w.client c j)) (sym e) g) og

pub read_kept : Keeps AllRead
read_kept w (ClientChanges c m) h a r = let e = mover_current w c m h a in
    put_client_each (λ d x. ReadFacts d w.store (w.session d) x) w.client c (w.incarnation c) (cache_after w.store.keep_write (present_cache w c) m) (λ d. (w.session d).current) e
    (read_changed c w.store (w.session c) (present_cache w c) (WasSent w c (w.incarnation c)) m (present_good w c h e) (λ y. present_now w c y h e) a
    (subst (λ (j : ℕ). ReadFacts c w.store (w.session c) (w.client c j)) e (r c))) (λ d _. r d)
read_kept w (ClientSays c y) h a r = r
read_kept w (ServerChanges c (Admit i)) h a r =
    put_each (λ d x. ReadFacts d (store_after w.store c (w.session c) (Admit i)) x (w.client d x.current)) w.session c (session_after (w.session c) (Admit i))
    (subst (λ (k : Cache). ReadFacts c (store_after w.store c (w.session c) (Admit i)) (session_after (w.session c) (Admit i)) k) (sym (h.ahead c i a.1)) (read_admitted c w.store (w.session c) i))
    (λ d ne. record { version = (r d).version; applied = (r d).applied })
read_kept w (ServerChanges c (BeginTransaction x)) h a r = session_read w c _ _ refl
    (read_begun c w.store (w.session c) (cache_at_session w c) x (h.good c) a.1 (named c w.store (w.session c) (cache_at_session w c) a.0.0 x (h.good c) (came_now w c a.0.0 h a.0.1) a.0.2 a.1) (r c))
    (λ d ne. record { version = (r d).version; applied = (r d).applied })
read_kept w (ServerChanges c (DropTransaction x)) h a r = session_read w c _ _ refl
    (read_dropped c w.store (w.session c) (cache_at_session w c) x (h.good c) a.1 a.2 (came_now w c _ h a.0) (r c))
    (λ d ne. record { version = (r d).version; applied = (r d).applied })
read_kept w (ServerChanges c (GrantRow p g)) h a r = session_read w c _ _ refl
    (record { version = (r c).version; applied = (r c).applied }) (λ d ne. record { version = (r d).version; applied = (r d).applied })
read_kept w (ServerChanges c (PermitWrite p g)) h a r = session_read w c _ _ refl
    (record { version = (r c).version; applied = (r c).applied }) (λ d ne. record { version = (r d).version; applied = (r d).applied })
read_kept w (ServerChanges c (RemoveRow p g)) h a r = session_read w c _ _ refl
    (record { version = (r c).version; applied = (r c).applied }) (λ d ne. record { version = (r d).version; applied = (r d).applied })
read_kept w (ServerChanges c (EndPermission p g x)) h a r = session_read w c _ _ refl
    (record { version = (r c).version; applied = (r c).applied }) (λ d ne. record { version = (r d).version; applied = (r d).applied })
read_kept w (ServerChanges c (ApplyCommit x ws)) h a r = session_read w c _ _ refl
    (read_applied c w.store (w.session c) (cache_at_session w c) x ws (came_now w c _ h a.0) a.2 (r c))
    (λ d ne. read_other_applied c d w.store (w.session c) (w.session d) (cache_at_session w d) x ws ne (h.good d) (λ p v e. (a.3 p v e).0) (r d))
read_kept w (ServerSends c i y) h a r = r
read_kept w (ClientRestarts c) h a r = r
