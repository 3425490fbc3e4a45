-- Each event that may happen keeps the invariant.
use Rattle.std.proofs.Common.{List, [], ap, arith, refl, subst, true, ℕ, ◌<◌, ◌∷◌, ◌≡◌, ◌≤◌}
use Rattle.cb_protocol.proofs.MessageFacts.{now_bare, now_begin, now_done, now_fill, now_finish, now_give_up, now_install, now_let_go, now_lock, now_permission, now_put, now_read, now_refuse, now_welcome, now_yield}
use Rattle.cb_protocol.proofs.SerialHistories.{applied_leaves, applied_legal, leaves_more, serial_more}
use Rattle.cb_protocol.proofs.HistoryKept.{Kept}
use Rattle.cb_protocol.proofs.Machine.{ClientMayChange, ClientMaySay, ClientChanges, ClientSays, CommittedTransaction, Machine, MachineMay, MachineMayRun, MaySpeak, NamesTransaction, ClientRestarts, ServerMaySend, ServerChanges, ServerSends, MachineStep, WasSent, happens, present_cache, run}
use Rattle.cb_protocol.proofs.CacheChanges.{good_bare, good_begin, good_done, good_fill, good_finish, good_give_up, good_install, good_let_go, good_lock, good_permission, good_put, good_read, good_refuse, good_welcome, good_yield}
use Rattle.cb_protocol.proofs.Invariant.{MessageHolds, SessionFacts, HasCommitNumber, MessageFact, Invariant, cache_at_session}
use Rattle.cb_protocol.proofs.SessionChanges.{good_apply, good_end, good_grant, good_meet, good_other_admit, good_other_apply, good_other_clear, good_other_down, good_other_gone, good_other_permit, good_permit, good_row_gone, good_take_down, now_apply, now_end, now_grant, now_meet, now_other_admit, now_other_apply, now_other_clear, now_other_down, now_other_gone, now_other_permit, now_permit, now_row_gone, now_take_down}
use Rattle.cb_protocol.proofs.InvariantKept.{safe_admit, safe_client, safe_restart, safe_says, safe_server, up_to_date}
use Rattle.cb_protocol.specs.Cache.{Begin, Cache, CacheChange, Fill, Finish, Abandon, Install, LetGo, Lock, MakeBare, WriteBytes, Read, RefuseGrant, TakeDone, TakePermission, TakeWelcome, YieldPermission, cache_after}
use Rattle.cb_protocol.specs.Basics.{Bytes}
use Rattle.cb_protocol.specs.Messages.{Body, Downgrade, Downgraded, Welcome, write_of_page}
use Rattle.cb_protocol.specs.Session.{Admit, ApplyCommit, DropTransaction, GrantRow, BeginTransaction, PermitWrite, RemoveRow, Session, SessionChange, Store, EndPermission, new_bytes, store_after}

pub now_of : (c : ℕ) (s : Store) (t : Session) (k : Cache) (last i : ℕ) (y : Body) → t.current ≡ i → MessageHolds c s t k last i y → MessageFact c s t k y
now_of c s t k last i y e f = grind arith

pub came_now : (w : Machine) (c : ℕ) (y : Body) → Invariant w → WasSent w c (w.session c).current y → MessageFact c w.store (w.session c) (cache_at_session w c) y
came_now w c y h m = now_of c w.store (w.session c) (cache_at_session w c) (w.incarnation c) _ y refl (h.fine _ m)

pub present_good : (w : Machine) (c : ℕ) → Invariant w → (w.session c).current ≡ w.incarnation c → SessionFacts c w.store (w.session c) (present_cache w c)
present_good w c h e = subst (λ (j : ℕ). SessionFacts c w.store (w.session c) (w.client c j)) e (h.good c)

pub present_now : (w : Machine) (c : ℕ) (y : Body) → Invariant w → (w.session c).current ≡ w.incarnation c → WasSent w c (w.incarnation c) y → MessageFact c w.store (w.session c) (present_cache w c) y
present_now w c y h e m = now_of c w.store (w.session c) (present_cache w c) (w.incarnation c) _ y e (subst (λ (j : ℕ). MessageHolds c w.store (w.session c) (w.client c j) (w.incarnation c) (w.incarnation c) y) e (h.fine _ m))

-- a Welcome that came is of the server's current incarnation
pub welcome_current : (w : Machine) (c : ℕ) → Invariant w → WasSent w c (w.incarnation c) Welcome → (w.session c).current ≡ w.incarnation c
welcome_current w c h m = let f : (w.incarnation c ≤ (w.session c).current) × (w.incarnation c ≡ (w.session c).current → Unit {0}) = h.fine _ m in omega (arith, h.behind c, f.0)

-- what a change of client c asks and gives, at its own state
pub moved : (w : Machine) (c : ℕ) (m : CacheChange) → Invariant w → (w.session c).current ≡ w.incarnation c → ClientMayChange (WasSent w c (w.incarnation c)) (present_cache w c) m
    → SessionFacts c w.store (w.session c) (cache_after w.store.keep_write (present_cache w c) m) × ((y : Body) → MessageFact c w.store (w.session c) (present_cache w c) y → MessageFact c w.store (w.session c) (cache_after w.store.keep_write (present_cache w c) m) y)
moved w c TakeWelcome h e a = (good_welcome c w.store (w.session c) (present_cache w c) (present_good w c h e), λ y. now_welcome c w.store (w.session c) (present_cache w c) y (present_good w c h e))
moved w c Begin h e a = (good_begin c w.store (w.session c) (present_cache w c) (present_good w c h e) a.0 a.1, λ y. now_begin c w.store (w.session c) (present_cache w c) y (present_good w c h e) a.0 a.1)
moved w c (Lock p) h e a = (good_lock c w.store (w.session c) (present_cache w c) p a.2.0 (present_good w c h e) a.0 a.2.1, λ y. now_lock c w.store (w.session c) (present_cache w c) p y (present_good w c h e) a.0)
moved w c (Read p b) h e a = (good_read c w.store (w.session c) (present_cache w c) p b (present_good w c h e) a.0 a.1 a.2, λ y. now_read c w.store (w.session c) (present_cache w c) p b y (present_good w c h e) a.0)
moved w c (TakePermission p) h e a = (good_permission c w.store (w.session c) (present_cache w c) p a.2.0 (present_good w c h e) a.0 a.1 (present_now w c _ h e a.2.1) a.2.2, λ y. now_permission c w.store (w.session c) (present_cache w c) p a.2.0 y (present_good w c h e) a.0 a.1)
moved w c (WriteBytes p b) h e a = (good_put c w.store (w.session c) (present_cache w c) p b a.4.0 (present_good w c h e) a.0 a.1 a.2 a.3 a.4.1, λ y. now_put c w.store (w.session c) (present_cache w c) p b y (present_good w c h e) a.0 a.1)
moved w c Finish h e a = (good_finish c w.store (w.session c) (present_cache w c) (present_good w c h e) a.0 a.1, λ y. now_finish c w.store (w.session c) (present_cache w c) y (present_good w c h e) a.0 a.1)
moved w c Abandon h e a = (good_give_up c w.store (w.session c) (present_cache w c) (present_good w c h e) a.0 a.1, λ y. now_give_up c w.store (w.session c) (present_cache w c) y (present_good w c h e) a.0 a.1)
moved w c (TakeDone n) h e a = (good_done c w.store (w.session c) (present_cache w c) n (present_good w c h e) a.0 a.1 (present_now w c _ h e a.2), λ y. now_done c w.store (w.session c) (present_cache w c) n y (present_good w c h e) a.0 a.1 (present_now w c _ h e a.2))
moved w c (Install p g v b) h e a = (good_install c w.store (w.session c) (present_cache w c) p g v b (present_good w c h e) a.0 (present_now w c _ h e a.1) a.2 a.3, λ y. now_install c w.store (w.session c) (present_cache w c) p g v b y (present_good w c h e) a.0 a.2 a.3)
moved w c (Fill p g b) h e a = (good_fill c w.store (w.session c) (present_cache w c) p g b (present_good w c h e) a.0 (present_now w c _ h e a.1) a.2 a.3, λ y. now_fill c w.store (w.session c) (present_cache w c) p g b y (present_good w c h e) a.0 a.2 a.3)
moved w c (RefuseGrant p g) h e a = (good_refuse c w.store (w.session c) (present_cache w c) p g (present_good w c h e) a.0 a.1, λ y. now_refuse c w.store (w.session c) (present_cache w c) p g y (present_good w c h e) a.0 a.1)
moved w c (LetGo p) h e a = (good_let_go c w.store (w.session c) (present_cache w c) p (present_good w c h e) a.0 a.1, λ y. now_let_go c w.store (w.session c) (present_cache w c) p y (present_good w c h e) a.0 a.1)
moved w c (MakeBare p) h e a = (good_bare c w.store (w.session c) (present_cache w c) p (present_good w c h e) a.0 a.1, λ y. now_bare c w.store (w.session c) (present_cache w c) p y (present_good w c h e) a.0 a.1)
moved w c (YieldPermission p) h e a = (good_yield c w.store (w.session c) (present_cache w c) p (present_good w c h e) a.0 a.1, λ y. now_yield c w.store (w.session c) (present_cache w c) p y (present_good w c h e) a.0 a.1)

pub safe_client_moves : (w : Machine) (c : ℕ) (m : CacheChange) → Invariant w → (w.session c).current ≡ w.incarnation c → MachineMay w (ClientChanges c m) → Invariant (happens w (ClientChanges c m))
safe_client_moves w c m h e a = safe_client w c (cache_after w.store.keep_write (present_cache w c) m) _ h e (moved w c m h e a).0 (moved w c m h e a).1

-- a client that changes is of the server's current incarnation
pub mover_current : (w : Machine) (c : ℕ) (m : CacheChange) → Invariant w → MachineMay w (ClientChanges c m) → (w.session c).current ≡ w.incarnation c
mover_current w c TakeWelcome h a = welcome_current w c h a
mover_current w c Begin h a = up_to_date w c h a.0
mover_current w c (Lock p) h a = up_to_date w c h a.0
mover_current w c (Read p b) h a = up_to_date w c h a.0
mover_current w c (TakePermission p) h a = up_to_date w c h a.0
mover_current w c (WriteBytes p b) h a = up_to_date w c h a.0
mover_current w c Finish h a = up_to_date w c h a.0
mover_current w c Abandon h a = up_to_date w c h a.0
mover_current w c (TakeDone n) h a = up_to_date w c h a.0
mover_current w c (Install p g v b) h a = up_to_date w c h a.0
mover_current w c (Fill p g b) h a = up_to_date w c h a.0
mover_current w c (RefuseGrant p g) h a = up_to_date w c h a.0
mover_current w c (LetGo p) h a = up_to_date w c h a.0
mover_current w c (MakeBare p) h a = up_to_date w c h a.0
mover_current w c (YieldPermission p) h a = up_to_date w c h a.0

pub client_said : (c : ℕ) (s : Store) (t : Session) (k l : Cache) (i : ℕ) (Came : Body → Type 0) (y : Body) → (k.welcomed ≡ true → (t.current ≡ i) × (l ≡ k)) → ((p g x : ℕ) → y ≡ Downgraded p g x → x ≤ t.ended) → MaySpeak k y → ClientMaySay Came k y → MessageHolds c s t l i i y
client_said c s t k l i Came y e d a m = grind arith

yielded : (w : Machine) (c p g x : ℕ) → Invariant w → MachineMay w (ClientSays c (Downgraded p g x)) → x ≤ (w.session c).ended
yielded w c p g x h a = present_now w c (Downgrade p g x) h (up_to_date w c h a.0) a.1.0

pub safe_client_says : (w : Machine) (c : ℕ) (y : Body) → Invariant w → MachineMay w (ClientSays c y) → Invariant (happens w (ClientSays c y))
safe_client_says w c y h a = safe_says w _ h (client_said c w.store (w.session c) (present_cache w c) (cache_at_session w c) (w.incarnation c) (WasSent w c (w.incarnation c)) y
    (λ v. let e = up_to_date w c h v in (e, ap (w.client c) e)) (λ p g x e. yielded w c p g x h (subst (λ (b : Body). MachineMay w (ClientSays c b)) e a)) a.0 a.1)

pub server_said : (c : ℕ) (s : Store) (t : Session) (k : Cache) (last i : ℕ) (y : Body) → ((p : ℕ) → s.version p ≤ s.last_commit) → ((j x n : ℕ) → HasCommitNumber s c j x n → j ≤ t.current) → ServerMaySend s c t i y → MessageHolds c s t k last i y
server_said c s t k last i y v m a = grind arith

pub safe_server_says : (w : Machine) (c i : ℕ) (y : Body) → Invariant w → MachineMay w (ServerSends c i y) → Invariant (happens w (ServerSends c i y))
safe_server_says w c i y h a = safe_says w _ h (server_said c w.store (w.session c) (cache_at_session w c) (w.incarnation c) i y h.versions (h.commit_number c) a)

-- a message that names a transaction, names one that the client has begun
pub named : (c : ℕ) (s : Store) (t : Session) (k : Cache) (y : Body) (x : ℕ) → SessionFacts c s t k → MessageFact c s t k y → NamesTransaction y x → t.txn < x → x ≤ k.number
named c s t k y x h n e l = grind arith

-- facts of the store's own after a change
pub made_after : (c : ℕ) (s : Store) (sessions : ℕ → Session) (m : SessionChange) → ((d i x n : ℕ) → HasCommitNumber s d i x n → i ≤ (sessions d).current) → (d i x n : ℕ) → HasCommitNumber (store_after s c (sessions c) m) d i x n → i ≤ (sessions d).current
made_after c s sessions m h d i x n e = grind (arith, h d i x n)

pub versions_after : (c : ℕ) (i : Session) (s : Store) (m : SessionChange) → ((p : ℕ) → s.version p ≤ s.last_commit) → (p : ℕ) → (store_after s c i m).version p ≤ (store_after s c i m).last_commit
versions_after c i s m h p = grind (arith, h p)

pub safe_server_moves : (w : Machine) (c : ℕ) (m : SessionChange) → Invariant w → MachineMay w (ServerChanges c m) → Invariant (happens w (ServerChanges c m))
safe_server_moves w c (Admit i) h a = safe_admit w c i h a.0 a.1
safe_server_moves w c (BeginTransaction x) h a = safe_server w c _ _ _ h refl (versions_after c (w.session c) w.store (BeginTransaction x) h.versions) (made_after c w.store w.session (BeginTransaction x) h.commit_number)
    (good_meet c w.store (w.session c) (cache_at_session w c) x (h.good c) a.1 (named c w.store (w.session c) (cache_at_session w c) a.0.0 x (h.good c) (came_now w c a.0.0 h a.0.1) a.0.2 a.1))
    (λ y. now_meet c w.store (w.session c) (cache_at_session w c) x y (h.good c) a.1 (named c w.store (w.session c) (cache_at_session w c) a.0.0 x (h.good c) (came_now w c a.0.0 h a.0.1) a.0.2 a.1))
    (λ d ne. good_other_clear c d w.store (w.session c) (w.session d) (cache_at_session w d) x ne (h.good d))
    (λ d y ne. now_other_clear c d w.store (w.session c) (w.session d) (cache_at_session w d) x y ne (h.good d))
safe_server_moves w c (DropTransaction x) h a = safe_server w c _ _ _ h refl (versions_after c (w.session c) w.store (DropTransaction x) h.versions) (made_after c w.store w.session (DropTransaction x) h.commit_number)
    (good_end c w.store (w.session c) (cache_at_session w c) x (h.good c) a.1 a.2 (came_now w c _ h a.0))
    (λ y. now_end c w.store (w.session c) (cache_at_session w c) x y (h.good c) a.1 a.2 (came_now w c _ h a.0))
    (λ d ne. good_other_admit c d w.store (w.session c) (w.session d) (cache_at_session w d) x ne (h.good d))
    (λ d y ne. now_other_admit c d w.store (w.session c) (w.session d) (cache_at_session w d) x y ne (h.good d))
safe_server_moves w c (GrantRow p g) h a = safe_server w c _ _ _ h refl (versions_after c (w.session c) w.store (GrantRow p g) h.versions) (made_after c w.store w.session (GrantRow p g) h.commit_number)
    (good_grant c w.store (w.session c) (cache_at_session w c) p g (h.good c) a.0 a.1)
    (λ y. now_grant c w.store (w.session c) (cache_at_session w c) p g y (h.good c) a.0 a.1)
    (λ d ne. h.good d)
    (λ d y ne. λ f. f)
safe_server_moves w c (PermitWrite p g) h a = safe_server w c _ _ _ h refl (versions_after c (w.session c) w.store (PermitWrite p g) h.versions) (made_after c w.store w.session (PermitWrite p g) h.commit_number)
    (good_permit c w.store (w.session c) (cache_at_session w c) p g (h.good c) (came_now w c _ h a.0) a.1 a.2 a.3)
    (λ y. now_permit c w.store (w.session c) (cache_at_session w c) p g y (h.good c) (came_now w c _ h a.0) a.1 a.2 a.3)
    (λ d ne. good_other_permit c d w.store (w.session c) (w.session d) (cache_at_session w d) p g ne (h.good d) (a.4 d ne) a.3)
    (λ d y ne. now_other_permit c d w.store (w.session c) (w.session d) (cache_at_session w d) p g y ne (h.good d) (a.4 d ne) a.3)
safe_server_moves w c (RemoveRow p g) h a = safe_server w c _ _ _ h refl (versions_after c (w.session c) w.store (RemoveRow p g) h.versions) (made_after c w.store w.session (RemoveRow p g) h.commit_number)
    (good_row_gone c w.store (w.session c) (cache_at_session w c) p g (h.good c) (came_now w c _ h a.0) a.1)
    (λ y. now_row_gone c w.store (w.session c) (cache_at_session w c) p g y (h.good c) (came_now w c _ h a.0) a.1)
    (λ d ne. good_other_gone c d w.store (w.session c) (w.session d) (cache_at_session w d) p g ne (h.good d))
    (λ d y ne. now_other_gone c d w.store (w.session c) (w.session d) (cache_at_session w d) p g y ne (h.good d))
safe_server_moves w c (EndPermission p g x) h a = safe_server w c _ _ _ h refl (versions_after c (w.session c) w.store (EndPermission p g x) h.versions) (made_after c w.store w.session (EndPermission p g x) h.commit_number)
    (good_take_down c w.store (w.session c) (cache_at_session w c) p g x (h.good c) (came_now w c _ h a.0) a.1 a.2)
    (λ y. now_take_down c w.store (w.session c) (cache_at_session w c) p g x y (h.good c) (came_now w c _ h a.0) a.1 a.2)
    (λ d ne. good_other_down c d w.store (w.session c) (w.session d) (cache_at_session w d) p g x ne (h.good d))
    (λ d y ne. now_other_down c d w.store (w.session c) (w.session d) (cache_at_session w d) p g x y ne (h.good d))
safe_server_moves w c (ApplyCommit x ws) h a = safe_server w c _ _ _ h refl (versions_after c (w.session c) w.store (ApplyCommit x ws) h.versions) (made_after c w.store w.session (ApplyCommit x ws) h.commit_number)
    (good_apply c w.store (w.session c) (cache_at_session w c) x ws (h.good c) (came_now w c _ h a.0) a.1 a.2 a.3)
    (λ y. now_apply c w.store (w.session c) (cache_at_session w c) x ws y (h.good c) h.versions (came_now w c _ h a.0) a.1 a.2 a.3)
    (λ d ne. good_other_apply c d w.store (w.session c) (w.session d) (cache_at_session w d) x ws ne (h.good d) (λ p v e. (a.3 p v e).0))
    (λ d y ne. now_other_apply c d w.store (w.session c) (w.session d) (cache_at_session w d) x ws y ne (h.good d) h.versions (λ p v e. (a.3 p v e).0))

pub safe_happens : (w : Machine) (e : MachineStep) → Invariant w → MachineMay w e → Invariant (happens w e)
safe_happens w (ClientChanges c m) h a = safe_client_moves w c m h (mover_current w c m h a) a
safe_happens w (ClientSays c y) h a = safe_client_says w c y h a
safe_happens w (ServerChanges c m) h a = safe_server_moves w c m h a
safe_happens w (ServerSends c i y) h a = safe_server_says w c i y h a
safe_happens w (ClientRestarts c) h a = safe_restart w c h

pub safe_run : (es : List MachineStep) (w : Machine) → Invariant w → MachineMayRun es w → Invariant (run es w)
safe_run [] w h a = h
safe_run (e ∷ es) w h a = safe_run es (happens w e) (safe_happens w e h a.0) a.1

pub kept_happens : (opening : ℕ → Bytes) (w : Machine) (e : MachineStep) → Invariant w → MachineMay w e → Kept opening w → Kept opening (happens w e)
kept_happens o w (ClientChanges c m) h a s = record { legal = s.legal; leaves = s.leaves }
kept_happens o w (ClientSays c y) h a s = record { legal = s.legal; leaves = s.leaves }
kept_happens o w (ServerChanges c (Admit i)) h a s = record { legal = s.legal; leaves = s.leaves }
kept_happens o w (ServerChanges c (BeginTransaction x)) h a s = record { legal = s.legal; leaves = s.leaves }
kept_happens o w (ServerChanges c (DropTransaction x)) h a s = record { legal = s.legal; leaves = s.leaves }
kept_happens o w (ServerChanges c (GrantRow p g)) h a s = record { legal = s.legal; leaves = s.leaves }
kept_happens o w (ServerChanges c (PermitWrite p g)) h a s = record { legal = s.legal; leaves = s.leaves }
kept_happens o w (ServerChanges c (RemoveRow p g)) h a s = record { legal = s.legal; leaves = s.leaves }
kept_happens o w (ServerChanges c (EndPermission p g x)) h a s = record { legal = s.legal; leaves = s.leaves }
kept_happens o w (ServerChanges c (ApplyCommit x ws)) h a s =
    let e : CommittedTransaction = record { client = c; incarnation = (w.session c).current; txn = x; operations = (cache_at_session w c).operations } in
    record {
      legal = serial_more o w.store.bytes w.store.bytes w.history e s.legal s.leaves (λ p. applied_legal c w.store (w.session c) (cache_at_session w c) x ws p (h.good c) (came_now w c _ h a.0) a.2);
      leaves = leaves_more o w.store.bytes (λ p. new_bytes (write_of_page ws p) (w.store.bytes p)) w.history e s.leaves (λ p. applied_leaves c w.store (w.session c) (cache_at_session w c) x ws p (h.good c) (came_now w c _ h a.0) a.2);
    }
kept_happens o w (ServerSends c i y) h a s = record { legal = s.legal; leaves = s.leaves }
kept_happens o w (ClientRestarts c) h a s = record { legal = s.legal; leaves = s.leaves }
