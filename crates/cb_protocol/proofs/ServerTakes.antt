-- What the server does at a message is allowed, step by step.
use Rattle.std.proofs.Common.{Bool, List, None, Option, Some, [], arith, false, if◌then◌else◌, inl, inr, nat_le, nat_lt, not, refl, subst, suc, sym, true, zero, ℕ, ◌&&◌, ◌<◌, ◌==◌, ◌∙◌, ◌∷◌, ◌≡◌, ◌≢◌, ◌≤◌}
use Rattle.cb_protocol.proofs.Machine.{NamesTransaction, ServerMayChange, ServerMaySend}
use Rattle.cb_protocol.proofs.ServerOrder.{Fresh, Orderly, Quiet, StepsRight, WaitsWell, orderly_admit, orderly_apply, orderly_end, orderly_enter, orderly_flush, orderly_mark, orderly_meet, orderly_permit, orderly_quit, orderly_row_gone, orderly_take_down, quiet_quit, right_append}
use Rattle.cb_protocol.proofs.SettlingRight.{Speaks, is_some_is, right_dooms, right_settles, speaks_append, speaks_callbacks, speaks_downgrades}
use Rattle.cb_protocol.specs.Basics.{IsIn, is_none, update, is_exactly}
use Rattle.cb_protocol.specs.Messages.{AbortNow, AskRead, AskWrite, Body, Callback, Commit, Done, Downgrade, Downgraded, Drop, GiveBack, Granted, Hello, InUse, MayWrite, Welcome, PageWrite, write_of_page}
use Rattle.cb_protocol.specs.Server.{DeadlockTest, AppliedCommit, ServerStep, EnterQueue, SetFlushed, MarkInUse, ForgetTransaction, Server, Send, ChangeSession, UnmarkInUse, WaitingAsk, server_after, after_server_step}
use Rattle.cb_protocol.specs.Session.{Admit, ApplyCommit, DropTransaction, BeginTransaction, PermitWrite, RemoveRow, SessionChange, EndPermission, session_after, store_after}
use Rattle.cb_protocol.specs.Flush.{dones_between, server_flush}
use Rattle.cb_protocol.specs.Resend.{again_doomed, again_page, again_pages, server_again}
use Rattle.cb_protocol.specs.ServerMessages.{admit_incarnation, commit_allowed, direct_answer, take_ask_read, take_ask_write, has_waiting_ask, repeat_done, enter_queue, take_current, is_empty, if_live, begin_transaction, named_txn, new_ask, server_take, and_then}
use Rattle.cb_protocol.specs.Settling.{send_callbacks, doom_client, send_downgrades, settle_pages, send_to}

right_enters : (Came : ℕ → ℕ → Body → Type 0) (cycle : DeadlockTest) (s : Server) (p : ℕ) (b : WaitingAsk) → Orderly Came s → WaitsWell Came s p b.client b.write_grant → StepsRight Came s (enter_queue cycle s p b)
right_enters Came cycle s p b o w = go (not (is_empty (s.queue p)) && cycle (after_server_step s (EnterQueue p b)) b.client)
  where
    entered : Orderly Came (after_server_step s (EnterQueue p b))
    entered = orderly_enter Came s p b o w

    go : (r : Bool) → StepsRight Came s (if r then EnterQueue p b ∷ doom_client (after_server_step s (EnterQueue p b)) b.client else EnterQueue p b ∷ [])
    go true = let a = right_dooms Came (after_server_step s (EnterQueue p b)) b.client entered w.0 in ((tt, a.0), a.1)
    go false = ((tt, tt), entered)

right_ask_read : (Came : ℕ → ℕ → Body → Type 0) (cycle : DeadlockTest) (s : Server) (c p : ℕ) (r : Option ℕ) → (s.session c).row p ≡ r → Orderly Came s → c < s.clients → (s.session c).ended < (s.session c).txn → StepsRight Came s (take_ask_read cycle s c p r)
right_ask_read Came cycle s c p (Some g) f o l e = (((l, (refl, f, refl, refl)), tt), o)
right_ask_read Came cycle s c p None f o l e = go (has_waiting_ask s c s.pages)
  where
    go : (r : Bool) → StepsRight Came s (if r then [] else enter_queue cycle s p (new_ask c None))
    go true = (tt, o)
    go false = right_enters Came cycle s p (new_ask c None) o (l, e, λ g q. absurd cc)

right_ask_write : (Came : ℕ → ℕ → Body → Type 0) (cycle : DeadlockTest) (s : Server) (c p g : ℕ) → Orderly Came s → c < s.clients → (s.session c).ended < (s.session c).txn → Came c (s.session c).current (AskWrite (s.session c).txn p g) → StepsRight Came s (take_ask_write cycle s c p g)
right_ask_write Came cycle s c p g o l e came = go (is_exactly ((s.session c).row p) g) refl (is_exactly (s.store.holder p) c) refl (has_waiting_ask s c s.pages)
  where
    alone : s.store.holder p ≡ Some c → (d : ℕ) → d ≢ c → (s.session d).row p ≡ None
    alone w d ne = side ((s.session d).row p) refl
      where
        side : (r : Option ℕ) → (s.session d).row p ≡ r → r ≡ None
        side None q = refl
        side (Some x) q = absurd (ne (sym (o.sole p d x c q w)))

    same : (d : ℕ) → s.store.holder p ≡ Some c → s.store.holder p ≡ Some d → d ≡ c
    same d a b = let q : Some d ≡ Some c = sym b ∙ a in cc

    told : s.store.holder p ≡ Some c → (s.session c).row p ≡ Some g → ServerMaySend (store_after s.store c (s.session c) (PermitWrite p g)) c (update s.session c (s.session c) c) (s.session c).current (MayWrite (s.session c).txn p g)
    told w q = grind arith

    permitted : s.store.holder p ≡ Some c → (s.session c).row p ≡ Some g → StepsRight Came s (ChangeSession c (PermitWrite p g) ∷ send_to s c (MayWrite (s.session c).txn p g) ∷ [])
    permitted w q = ((((came, e, q, λ d x. same d w x, alone w), tt), ((l, told w q), tt)), orderly_permit Came s c p g o (alone w))

    go : (r : Bool) → is_exactly ((s.session c).row p) g ≡ r → (u : Bool) → is_exactly (s.store.holder p) c ≡ u → (v : Bool)
        → StepsRight Came s (if not r then [] else if u then ChangeSession c (PermitWrite p g) ∷ send_to s c (MayWrite (s.session c).txn p g) ∷ [] else if v then [] else enter_queue cycle s p (new_ask c (Some g)))
    go false q u f v = (tt, o)
    go true q true f v = permitted (is_some_is (s.store.holder p) c f) (is_some_is ((s.session c).row p) g q)
    go true q false f true = (tt, o)
    go true q false f false = right_enters Came cycle s p (new_ask c (Some g)) o (l, e, λ x y. subst (λ (z : ℕ). Came c (s.session c).current (AskWrite (s.session c).txn p z)) (inner g x y) came)
      where
        inner : (a b : ℕ) → Some a ≡ Some b → a ≡ b
        inner a b z = cc

right_live : (Came : ℕ → ℕ → Body → Type 0) (s : Server) (c t : ℕ) (ds : List ServerStep) → Orderly Came s → c < s.clients → ((s.session c).ended < t → StepsRight Came s ds) → StepsRight Came s (if_live s c t ds)
right_live Came s c t ds o l f = go (nat_lt (s.session c).ended t) refl (s.doomed c)
  where
    below : nat_lt (s.session c).ended t ≡ true → (s.session c).ended < t
    below e = grind arith

    go : (r : Bool) → nat_lt (s.session c).ended t ≡ r → (u : Bool) → StepsRight Came s (if r then (if u then send_to s c (AbortNow t) ∷ [] else ds) else [])
    go true e true = (((l, refl), tt), o)
    go true e false = f (below e)
    go false e u = (tt, o)

allowed_is : (s : Server) (c : ℕ) (ws : List PageWrite) → commit_allowed s c ws ≡ true → (p : ℕ) (w : PageWrite) → write_of_page ws p ≡ Some w → (s.store.holder p ≡ Some c) × ((s.session c).row p ≡ Some w.grant)
allowed_is s c [] e p w f = absurd cc
allowed_is s c (x ∷ xs) e p w f = grind (arith, allowed_is s c xs, is_some_is)

-- a client's transaction ends or begins
right_quit : (Came : ℕ → ℕ → Body → Type 0) (s : Server) (c : ℕ) (m : SessionChange) → Orderly Came s → ServerMayChange (Came c) s.store s.session c m → Fresh (after_server_step s (ForgetTransaction c)) m → (Orderly Came (after_server_step s (ForgetTransaction c)) → Quiet (after_server_step s (ForgetTransaction c)) c → Orderly Came (after_server_step (after_server_step s (ForgetTransaction c)) (ChangeSession c m))) → StepsRight Came s (ForgetTransaction c ∷ ChangeSession c m ∷ [])
right_quit Came s c m o a r f = ((tt, ((a, r), tt)), f (orderly_quit Came s c o) (quiet_quit s c))

right_answers : (Came : ℕ → ℕ → Body → Type 0) (cycle : DeadlockTest) (s : Server) (c : ℕ) (b : Body) → Orderly Came s → c < s.clients → Came c (s.session c).current b → named_txn b ≤ (s.session c).txn → StepsRight Came s (direct_answer cycle s c b)
right_answers Came cycle s c (AskRead t p) o l came n = right_live Came s c t _ o l (λ e. right_ask_read Came cycle s c p ((s.session c).row p) refl o l (omega (arith, e, n)))
right_answers Came cycle s c (AskWrite t p g) o l came n = right_live Came s c t _ o l (λ e. let z = o.step c in let q : t ≡ (s.session c).txn = omega (arith, e, n, z) in
    right_ask_write Came cycle s c p g o l (omega (arith, e, n)) (subst (λ (x : ℕ). Came c (s.session c).current (AskWrite x p g)) q came))
right_answers Came cycle s c (GiveBack p g) o l came n = go (is_exactly ((s.session c).row p) g) refl
  where
    go : (r : Bool) → is_exactly ((s.session c).row p) g ≡ r → StepsRight Came s (if r then UnmarkInUse c p ∷ ChangeSession c (RemoveRow p g) ∷ [] else [])
    go true e = ((tt, (((came, is_some_is ((s.session c).row p) g e), tt), tt)), orderly_row_gone Came (after_server_step s (UnmarkInUse c p)) c p g (orderly_mark Came s (after_server_step s (UnmarkInUse c p)).in_use o))
    go false e = (tt, o)
right_answers Came cycle s c (InUse t p g) o l came n = go (nat_lt (s.session c).ended t && is_exactly ((s.session c).row p) g)
  where
    go : (r : Bool) → StepsRight Came s (if r then MarkInUse c p ∷ [] else [])
    go true = ((tt, tt), orderly_mark Came s (after_server_step s (MarkInUse c p)).in_use o)
    go false = (tt, o)
right_answers Came cycle s c (Commit t ws) o l came n = go (nat_lt (s.session c).ended t) refl (s.doomed c) (commit_allowed s c ws) refl (t == (s.session c).ended) refl
  where
    below : nat_lt (s.session c).ended t ≡ true → (s.session c).ended < t
    below e = grind arith

    same : (t == (s.session c).ended) ≡ true → (s.session c).ended ≡ t
    same e = grind arith

    again : (s.session c).ended ≡ t → (r : Option ℕ) → s.outcome c ≡ r → StepsRight Came s (repeat_done s c t r)
    again q None e = (tt, o)
    again q (Some m) e = flush (nat_le m s.flushed)
      where
        flush : (r : Bool) → StepsRight Came s (if r then send_to s c (Done t m) ∷ [] else [])
        flush true = (((l, subst (λ (x : ℕ). s.store.commit_number c (s.session c).current x ≡ Some m) q (o.outcome c m e)), tt), o)
        flush false = (tt, o)

    go : (r : Bool) → nat_lt (s.session c).ended t ≡ r → (u : Bool) → (v : Bool) → commit_allowed s c ws ≡ v → (y : Bool) → (t == (s.session c).ended) ≡ y → StepsRight Came s (if r
        then (if u then send_to s c (AbortNow t) ∷ [] else if v then ForgetTransaction c ∷ ChangeSession c (ApplyCommit t ws) ∷ [] else [])
        else if y then repeat_done s c t (s.outcome c) else [])
    go true e true v f y z = (((l, refl), tt), o)
    go true e false true f y z = let d = below e in let w = o.step c in let q : (s.session c).txn ≡ t = omega (arith, d, n, w) in
        right_quit Came s c (ApplyCommit t ws) o (came, q, d, allowed_is s c ws f) tt (λ p h. orderly_apply Came (after_server_step s (ForgetTransaction c)) c t ws p h l q d)
    go true e false false f y z = (tt, o)
    go false e u v f true z = again (same z) (s.outcome c) refl
    go false e u v f false z = (tt, o)
right_answers Came cycle s c (Drop t) o l came n = go (nat_lt (s.session c).ended t) refl
  where
    below : nat_lt (s.session c).ended t ≡ true → (s.session c).ended < t
    below e = grind arith

    go : (r : Bool) → nat_lt (s.session c).ended t ≡ r → StepsRight Came s (if r then ForgetTransaction c ∷ ChangeSession c (DropTransaction t) ∷ [] else [])
    go true e = let d = below e in let w = o.step c in let q : (s.session c).txn ≡ t = omega (arith, d, n, w) in
        right_quit Came s c (DropTransaction t) o (came, q, d) tt (λ p h. orderly_end Came (after_server_step s (ForgetTransaction c)) c t p h q d)
    go false e = (tt, o)
right_answers Came cycle s c (Downgraded p g t) o l came n = go (s.store.keep_write && is_exactly ((s.session c).row p) g && is_exactly (s.store.holder p) c && (s.store.tag p == t)) refl
  where
    go : (r : Bool) → (s.store.keep_write && is_exactly ((s.session c).row p) g && is_exactly (s.store.holder p) c && (s.store.tag p == t)) ≡ r → StepsRight Came s (if r then ChangeSession c (EndPermission p g t) ∷ [] else [])
    go true e = ((((came, is_some_is ((s.session c).row p) g (grind arith), grind arith), tt), tt), orderly_take_down Came s c p g t o)
    go false e = (tt, o)
right_answers Came cycle s c _ o l came n = (tt, o)

named_by : (b : Body) → 0 < named_txn b → NamesTransaction b (named_txn b)
named_by b l = grind arith

record Met (s k : Server) (c t : ℕ) : Type 0 where
  current : (k.session c).current ≡ (s.session c).current
  clients : k.clients ≡ s.clients
  reached : t ≤ (k.session c).txn

right_meets : (Came : ℕ → ℕ → Body → Type 0) (s : Server) (c : ℕ) (b : Body) → Orderly Came s → Came c (s.session c).current b → StepsRight Came s (begin_transaction s c (named_txn b)) × Met s (server_after s (begin_transaction s c (named_txn b))) c (named_txn b)
right_meets Came s c b o came = go (nat_lt (s.session c).txn (named_txn b)) refl
  where
    t : ℕ
    t = named_txn b

    below : nat_lt (s.session c).txn (named_txn b) ≡ true → (s.session c).txn < named_txn b
    below e = grind arith

    met : Met s (server_after s (ForgetTransaction c ∷ ChangeSession c (BeginTransaction (named_txn b)) ∷ [])) c (named_txn b)
    met = record { current = grind arith; clients = refl; reached = grind arith }

    go : (r : Bool) → nat_lt (s.session c).txn (named_txn b) ≡ r → StepsRight Came s (if r then ForgetTransaction c ∷ ChangeSession c (BeginTransaction (named_txn b)) ∷ [] else []) × Met s (server_after s (if r then ForgetTransaction c ∷ ChangeSession c (BeginTransaction (named_txn b)) ∷ [] else [])) c (named_txn b)
    go true e = let d = below e in (right_quit Came s c (BeginTransaction (named_txn b)) o ((b, came, named_by b (omega (arith, d))), d) tt (λ p h. orderly_meet Came (after_server_step s (ForgetTransaction c)) c (named_txn b) p h d), met)
    go false e = ((tt, o), record { current = refl; clients = refl; reached = grind arith })

right_then : (Came : ℕ → ℕ → Body → Type 0) (s : Server) (ds : List ServerStep) (f : Server → List ServerStep) → StepsRight Came s ds → (Orderly Came (server_after s ds) → StepsRight Came (server_after s ds) (f (server_after s ds))) → StepsRight Came s (and_then s ds f)
right_then Came s ds f a b = right_append Came s ds (f (server_after s ds)) a (b a.1)

right_handles : (Came : ℕ → ℕ → Body → Type 0) (cycle : DeadlockTest) (s : Server) (c : ℕ) (b : Body) → Orderly Came s → c < s.clients → Came c (s.session c).current b → StepsRight Came s (take_current cycle s c b)
right_handles Came cycle s c b o l came =
    let m = right_meets Came s c b o came in let k = server_after s (begin_transaction s c (named_txn b)) in
    right_then Came s (begin_transaction s c (named_txn b)) (λ m. and_then m (direct_answer cycle m c b) (λ a. settle_pages cycle a a.pages)) m.0 (λ p. right_then Came k (direct_answer cycle k c b) (λ a. settle_pages cycle a a.pages)
    (right_answers Came cycle k c b p (rw m.1.clients l) (subst (λ (j : ℕ). Came c j b) (sym m.1.current) came) m.1.reached)
    (λ q. right_settles Came cycle (server_after k (direct_answer cycle k c b)) (server_after k (direct_answer cycle k c b)).pages q))

right_message : (Came : ℕ → ℕ → Body → Type 0) (cycle : DeadlockTest) (s : Server) (c i : ℕ) (b : Body) → Orderly Came s → c < s.clients → Came c i b → StepsRight Came s (if i == (s.session c).current then take_current cycle s c b else [])
right_message Came cycle s c i b o l came = go (i == (s.session c).current) refl
  where
    here : (i == (s.session c).current) ≡ true → i ≡ (s.session c).current
    here e = grind arith

    go : (r : Bool) → (i == (s.session c).current) ≡ r → StepsRight Came s (if r then take_current cycle s c b else [])
    go true e = right_handles Came cycle s c b o l (subst (λ (j : ℕ). Came c j b) (here e) came)
    go false e = (tt, o)

right_hello : (Came : ℕ → ℕ → Body → Type 0) (cycle : DeadlockTest) (s : Server) (c i : ℕ) → Orderly Came s → c < s.clients → Came c i Hello → StepsRight Came s (server_take cycle s c i Hello)
unfolding server_take
right_hello Came cycle s c i o l came = go (nat_lt (s.session c).current i) refl (i == (s.session c).current) refl
  where
    ahead : nat_lt (s.session c).current i ≡ true → (s.session c).current < i
    ahead e = grind arith

    here : (i == (s.session c).current) ≡ true → i ≡ (s.session c).current
    here e = grind arith

    seated : i ≡ (update s.session c (session_after (s.session c) (Admit i)) c).current
    seated = grind arith

    admitted : nat_lt (s.session c).current i ≡ true → StepsRight Came s (ForgetTransaction c ∷ ChangeSession c (Admit i) ∷ Send c i Welcome ∷ [])
    admitted e = let a = right_quit Came s c (Admit i) o (came, ahead e) tt (λ p h. orderly_admit Came (after_server_step s (ForgetTransaction c)) c i p h (ahead e)) in ((tt, (a.0.1.0, ((l, seated), tt))), a.1)

    go : (r : Bool) → nat_lt (s.session c).current i ≡ r → (u : Bool) → (i == (s.session c).current) ≡ u → StepsRight Came s (if r then admit_incarnation cycle s c i else if u then Send c i Welcome ∷ [] else [])
    go true e u f = right_then Came s (ForgetTransaction c ∷ ChangeSession c (Admit i) ∷ Send c i Welcome ∷ []) (λ a. settle_pages cycle a a.pages) (admitted e) (λ q. right_settles Came cycle (server_after s (ForgetTransaction c ∷ ChangeSession c (Admit i) ∷ Send c i Welcome ∷ [])) s.pages q)
    go false e true f = (((l, here f), tt), o)
    go false e false f = (tt, o)

-- whatever message comes
pub right_server_take : (Came : ℕ → ℕ → Body → Type 0) (cycle : DeadlockTest) (s : Server) (c i : ℕ) (b : Body) → Orderly Came s → c < s.clients → Came c i b → StepsRight Came s (server_take cycle s c i b)
unfolding server_take
right_server_take Came cycle s c i Hello o l came = right_hello Came cycle s c i o l came
right_server_take Came cycle s c i (AskRead t p) o l came = right_message Came cycle s c i (AskRead t p) o l came
right_server_take Came cycle s c i (AskWrite t p g) o l came = right_message Came cycle s c i (AskWrite t p g) o l came
right_server_take Came cycle s c i (GiveBack p g) o l came = right_message Came cycle s c i (GiveBack p g) o l came
right_server_take Came cycle s c i (InUse t p g) o l came = right_message Came cycle s c i (InUse t p g) o l came
right_server_take Came cycle s c i (Commit t ws) o l came = right_message Came cycle s c i (Commit t ws) o l came
right_server_take Came cycle s c i (Drop t) o l came = right_message Came cycle s c i (Drop t) o l came
right_server_take Came cycle s c i (Downgraded p g t) o l came = right_message Came cycle s c i (Downgraded p g t) o l came
right_server_take Came cycle s c i Welcome o l came = right_message Came cycle s c i Welcome o l came
right_server_take Came cycle s c i (Granted p g v y) o l came = right_message Came cycle s c i (Granted p g v y) o l came
right_server_take Came cycle s c i (MayWrite t p g) o l came = right_message Came cycle s c i (MayWrite t p g) o l came
right_server_take Came cycle s c i (Callback p g) o l came = right_message Came cycle s c i (Callback p g) o l came
right_server_take Came cycle s c i (Done t n) o l came = right_message Came cycle s c i (Done t n) o l came
right_server_take Came cycle s c i (AbortNow t) o l came = right_message Came cycle s c i (AbortNow t) o l came
right_server_take Came cycle s c i (Downgrade p g t) o l came = right_message Came cycle s c i (Downgrade p g t) o l came

-- `again`
speaks_page : (Came : ℕ → ℕ → Body → Type 0) (s : Server) (p : ℕ) (q : List WaitingAsk) → Orderly Came s → Speaks Came s (again_page s p q)
speaks_page Came s p [] o = ((tt, o), refl)
speaks_page Came s p (a ∷ q) o = go (is_none a.write_grant) s.store.keep_write
  where
    go : (r u : Bool) → Speaks Came s (if r then (if u then send_downgrades s (λ d. s.in_use d p) p a.client (s.store.holder p) else []) else send_callbacks s (λ d. s.in_use d p) p a.client s.clients)
    go true true = speaks_downgrades Came s (λ d. s.in_use d p) p a.client (s.store.holder p) refl o
    go true false = ((tt, o), refl)
    go false u = speaks_callbacks Came s (λ d. s.in_use d p) p a.client s.clients (omega arith) o

speaks_pages : (Came : ℕ → ℕ → Body → Type 0) (s : Server) (n : ℕ) → Orderly Came s → Speaks Came s (again_pages s n)
speaks_pages Came s zero o = ((tt, o), refl)
speaks_pages Came s (suc n) o = speaks_append Came s (again_pages s n) (again_page s n (s.queue n)) (speaks_pages Came s n o) (speaks_page Came s n (s.queue n) o)

speaks_doomed : (Came : ℕ → ℕ → Body → Type 0) (s : Server) (n : ℕ) → n ≤ s.clients → Orderly Came s → Speaks Came s (again_doomed s n)
speaks_doomed Came s zero l o = ((tt, o), refl)
speaks_doomed Came s (suc n) l o = speaks_append Came s (again_doomed s n) (if s.doomed n then send_to s n (AbortNow (s.session n).txn) ∷ [] else []) (speaks_doomed Came s n (omega arith) o) (go (s.doomed n))
  where
    near : n < s.clients
    near = omega arith

    go : (r : Bool) → Speaks Came s (if r then send_to s n (AbortNow (s.session n).txn) ∷ [] else [])
    go true = ((((near, refl), tt), o), refl)
    go false = ((tt, o), refl)

pub right_again : (Came : ℕ → ℕ → Body → Type 0) (s : Server) → Orderly Came s → StepsRight Came s (server_again s)
right_again Came s o = (speaks_append Came s (again_pages s s.pages) (again_doomed s s.clients) (speaks_pages Came s s.pages o) (speaks_doomed Came s s.clients (omega arith) o)).0

-- `flushed`
speaks_dones : (Came : ℕ → ℕ → Body → Type 0) (s : Server) (xs : List AppliedCommit) (m n : ℕ) → Orderly Came s → ((x : AppliedCommit) → IsIn x xs → IsIn x s.commits) → Speaks Came s (dones_between xs m n)
speaks_dones Came s [] m n o f = ((tt, o), refl)
speaks_dones Came s (x ∷ xs) m n o f = speaks_append Came s (dones_between xs m n) (if nat_lt m x.number && nat_le x.number n then Send x.client x.incarnation (Done x.txn x.number) ∷ [] else [])
    (speaks_dones Came s xs m n o (λ y i. f y (inr i))) (go (nat_lt m x.number && nat_le x.number n))
  where
    go : (r : Bool) → Speaks Came s (if r then Send x.client x.incarnation (Done x.txn x.number) ∷ [] else [])
    go true = ((((o.listed x (f x (inl refl))), tt), o), refl)
    go false = ((tt, o), refl)

pub right_flushes : (Came : ℕ → ℕ → Body → Type 0) (s : Server) (n : ℕ) → Orderly Came s → StepsRight Came s (server_flush s n)
right_flushes Came s n o = right_append Came s (dones_between s.commits s.flushed n) (SetFlushed n ∷ []) (speaks_dones Came s s.commits s.flushed n o (λ x i. i)).0
    (subst (λ (x : Server). StepsRight Came x (SetFlushed n ∷ [])) (sym (speaks_dones Came s s.commits s.flushed n o (λ x i. i)).1) ((tt, tt), orderly_flush Came s n o))
