-- With kept write permission: holders have rows, who holds up a first ask; and what ends a permission.
use Rattle.std.proofs.Common.{◌≡◌, ◌∙◌, ℕ, ◌<◌, ◌≤◌, Bool, true, false, not, ◌==◌, ◌&&◌, nat_lt, nat_le, if◌then◌else◌, ◌≢◌, ◌⊎◌, List, [], ◌∷◌, ◌++◌, Option, Some, None, ap, arith, refl, sym, subst, inl, inr}
use Rattle.cb_protocol.specs.World.{Opening}
use Rattle.cb_protocol.specs.AnyMessages.{MessageComes, input_steps, AfterInput, Opened, ReachedBy}
use Rattle.cb_protocol.specs.Basics.{is_exactly, is_none, Limits}
use Rattle.cb_protocol.specs.Deadlock.{ReachedServer, InputInRange}
use Rattle.cb_protocol.specs.Marks.{Comes, DroppedHoldNothing, HasLiveTxn, HasAnyRow, KeptHoldersHaveRows, KeptHoldsUp}
use Rattle.cb_protocol.specs.Messages.{AbortNow, AskRead, AskWrite, Body, Commit, Done, Downgraded, Drop, GiveBack, Hello, InUse, MayWrite, Welcome}
use Rattle.cb_protocol.specs.Server.{DeadlockTest, ChangeSession, Doom, EnterQueue, ForgetTransaction, LeaveQueue, MarkCalledBack, MarkInUse, MarkDowngradeSent, RemoveAsk, Send, Server, ServerStep, SetFlushed, UnmarkInUse, after_server_step, is_live_permission, server_after}
use Rattle.cb_protocol.specs.ServerMessages.{admit_incarnation, begin_transaction, commit_allowed, direct_answer, enter_queue, has_waiting_ask, is_empty, named_txn, new_ask, repeat_done, take_ask_read, take_ask_write, take_current}
use Rattle.cb_protocol.specs.Session.{Admit, ApplyCommit, BeginTransaction, DropTransaction, EndPermission, GrantRow, PermitWrite, RemoveRow, SessionChange}
use Rattle.cb_protocol.specs.Settling.{doom_client, send_to, settle_pages}
use Rattle.cb_protocol.specs.StepsKeep.{KeepsClient}
use Rattle.cb_protocol.specs.WaitsFor.{HoldsUp, on_cycle}
use Rattle.cb_protocol.proofs.Cases.{serves_current, serves_new_hello}
use Rattle.cb_protocol.proofs.LivePermissions.{AnyMessage, right_input}
use Rattle.cb_protocol.proofs.Machine.{ServerMayChange}
use Rattle.cb_protocol.proofs.MarksKept.{marks_live, orderly}
use Rattle.cb_protocol.proofs.OthersKeep.{AllGentle, Gentle, gentle_settles, leaves_all}
use Rattle.cb_protocol.proofs.ServerOrder.{Orderly, ServerStepMay, ServerStepsMay, after_append}

-- with kept write permission each holder has a row
record Rowed (s : Server) : Type 0 where
  rowed : s.store.keep_write ≡ true → (p d : ℕ) → s.store.holder p ≡ Some d → is_none ((s.session d).row p) ≡ false

rowed_change : (s : Server) (c : ℕ) (m : SessionChange) → ServerMayChange (AnyMessage c) s.store s.session c m → Rowed s → Rowed (after_server_step s (ChangeSession c m))
rowed_change s c (Admit i) a r = record { rowed = λ k p d e. grind (arith, r.rowed k p d) }
rowed_change s c (BeginTransaction x) a r = record { rowed = λ k p d e. grind (arith, r.rowed k p d) }
rowed_change s c (DropTransaction x) a r = record { rowed = λ k p d e. grind (arith, r.rowed k p d) }
rowed_change s c (GrantRow p g) a r = record { rowed = λ k q d e. grind (arith, r.rowed k q d) }
rowed_change s c (PermitWrite p g) a r = record { rowed = λ k q d e. grind (arith, r.rowed k q d, a.2) }
rowed_change s c (RemoveRow p g) a r = record { rowed = λ k q d e. grind (arith, r.rowed k q d) }
rowed_change s c (EndPermission p g x) a r = record { rowed = λ k q d e. grind (arith, r.rowed k q d) }
rowed_change s c (ApplyCommit x ws) a r = record { rowed = λ k p d e. grind (arith, r.rowed k p d) }

rowed_step : (s : Server) (x : ServerStep) → ServerStepMay AnyMessage s x → Rowed s → Rowed (after_server_step s x)
rowed_step s (ChangeSession c m) a r = rowed_change s c m a.0 r
rowed_step s (Send c i b) a r = r
rowed_step s (EnterQueue p w) a r = record { rowed = r.rowed }
rowed_step s (LeaveQueue p) a r = record { rowed = r.rowed }
rowed_step s (MarkCalledBack p) a r = record { rowed = r.rowed }
rowed_step s (MarkDowngradeSent p t) a r = record { rowed = r.rowed }
rowed_step s (MarkInUse c p) a r = record { rowed = r.rowed }
rowed_step s (UnmarkInUse c p) a r = record { rowed = r.rowed }
rowed_step s (RemoveAsk c) a r = record { rowed = r.rowed }
rowed_step s (Doom c) a r = record { rowed = r.rowed }
rowed_step s (ForgetTransaction c) a r = record { rowed = r.rowed }
rowed_step s (SetFlushed n) a r = record { rowed = r.rowed }

rowed_steps : (s : Server) (ds : List ServerStep) → ServerStepsMay AnyMessage s ds → Rowed s → Rowed (server_after s ds)
rowed_steps s [] a r = r
rowed_steps s (x ∷ ds) a r = rowed_steps (after_server_step s x) ds a.1 (rowed_step s x a.0 r)

-- of each server that is reached
rowed_by : (L : Limits) (o : Opening) (s : Server) → ReachedBy L on_cycle o InputInRange s → Rowed s
rowed_by L o s Opened = record { rowed = λ k p d e. absurd cc }
rowed_by L o s (AfterInput {server = k} r i f) = rowed_steps k (input_steps on_cycle k i) (right_input on_cycle k i (orderly k (L, o, r)) f).0 (rowed_by L o k r)

rowed : (s : Server) → ReachedServer s → Rowed s
rowed s r = rowed_by r.0 r.1 s r.2

pub kept_holders_have_rows : KeptHoldersHaveRows
kept_holders_have_rows s r k d p e = go ((s.session d).row p) refl
  where
    go : (g : Option ℕ) → (s.session d).row p ≡ g → HasAnyRow s d p
    go None f = absurd (let x = (rowed s r).rowed k p d e in cc)
    go (Some g) f = (g, f)

is_live : (s : Server) (d p : ℕ) → is_live_permission s d p ≡ true → (s.store.tag p ≡ (s.session d).txn) × HasLiveTxn s d
is_live s d p e = grind arith

live_is : (s : Server) (d p : ℕ) → s.store.tag p ≡ (s.session d).txn → HasLiveTxn s d → is_live_permission s d p ≡ true
live_is s d p e l = grind arith

-- who holds up a first ask
pub kept_holds_up : KeptHoldsUp
kept_holds_up s r k p a d = (to, from)
  where
    Has : Type 0
    Has = HasAnyRow s d p × HasLiveTxn s d × (((s.store.holder p ≡ Some d) × (s.store.tag p ≡ (s.session d).txn)) ⊎ ((s.in_use d p ≡ true) × ((a.write_grant ≢ None) ⊎ (s.store.holder p ≡ Some d))))

    to : HoldsUp s p a d → Has
    to (inl e) = elim e.1 [
      | inl x ↦ (let l = is_live s d p x in (kept_holders_have_rows s r k d p e.0, l.1, inl (e.0, l.0)))
      | inr x ↦ (let m = marks_live s r d p x in (m.0, m.1, inr (x, inr e.0)))
    ]
    to (inr e) = let m = marks_live s r d p e.1 in (m.0, m.1, inr (e.1, inl e.0))

    from : Has → HoldsUp s p a d
    from x = elim x.2 [
      | inl y ↦ inl (y.0, inl (live_is s d p y.1 x.1))
      | inr y ↦ elim y.1 [ inl w ↦ inr (w, y.0) | inr h ↦ inl (h, inr y.0) ]
    ]

-- each permission of client c is of its live transaction
record LiveOf (c : ℕ) (s : Server) : Type 0 where
  live : (p : ℕ) → s.store.holder p ≡ Some c → (s.store.tag p ≡ (s.session c).txn) × HasLiveTxn s c

live_change : (c : ℕ) (s : Server) (d : ℕ) (m : SessionChange) → ServerMayChange (AnyMessage d) s.store s.session d m → Gentle c s (ChangeSession d m) → LiveOf c s → LiveOf c (after_server_step s (ChangeSession d m))
live_change c s d (Admit i) a n l = record { live = λ p e. grind (arith, l.live p, n) }
live_change c s d (BeginTransaction x) a n l = record { live = λ p e. grind (arith, l.live p, n) }
live_change c s d (DropTransaction x) a n l = record { live = λ p e. grind (arith, l.live p, n) }
live_change c s d (GrantRow p g) a n l = record { live = λ q e. grind (arith, l.live q) }
live_change c s d (PermitWrite p g) a n l = record { live = λ q e. grind (arith, l.live q, a.1) }
live_change c s d (RemoveRow p g) a n l = record { live = λ q e. grind (arith, l.live q, n) }
live_change c s d (EndPermission p g x) a n l = record { live = λ q e. grind (arith, l.live q, n) }
live_change c s d (ApplyCommit x ws) a n l = record { live = λ p e. grind (arith, l.live p, n) }

live_step : (c : ℕ) (s : Server) (x : ServerStep) → ServerStepMay AnyMessage s x → Gentle c s x → LiveOf c s → LiveOf c (after_server_step s x)
live_step c s (ChangeSession d m) a n l = live_change c s d m a.0 n l
live_step c s (Send d i b) a n l = l
live_step c s (EnterQueue p w) a n l = record { live = l.live }
live_step c s (LeaveQueue p) a n l = record { live = l.live }
live_step c s (MarkCalledBack p) a n l = record { live = l.live }
live_step c s (MarkDowngradeSent p t) a n l = record { live = l.live }
live_step c s (MarkInUse d p) a n l = record { live = l.live }
live_step c s (UnmarkInUse d p) a n l = record { live = l.live }
live_step c s (RemoveAsk d) a n l = record { live = l.live }
live_step c s (Doom d) a n l = record { live = l.live }
live_step c s (ForgetTransaction d) a n l = record { live = l.live }
live_step c s (SetFlushed m) a n l = record { live = l.live }

live_steps : (c : ℕ) (s : Server) (ds : List ServerStep) → ServerStepsMay AnyMessage s ds → AllGentle c s ds → LiveOf c s → LiveOf c (server_after s ds)
live_steps c s [] a n l = l
live_steps c s (x ∷ ds) a n l = live_steps c (after_server_step s x) ds a.1 n.1 (live_step c s x a.0 n.0 l)

-- what comes after the first of some steps is allowed too
may_after : (s : Server) (xs ys : List ServerStep) → ServerStepsMay AnyMessage s (xs ++ ys) → ServerStepsMay AnyMessage (server_after s xs) ys
may_after s [] ys a = a
may_after s (x ∷ xs) ys a = may_after (after_server_step s x) xs ys a.1

-- client c gets no permission
abbrev NoMore : ℕ → Server → Server → Type 0
NoMore c s t = (p : ℕ) → t.store.holder p ≡ Some c → s.store.holder p ≡ Some c

no_more : (cycle : DeadlockTest) (k : Server) (c : ℕ) (b : Body) → NoMore c k (server_after k (direct_answer cycle k c b))
no_more cycle k c (AskRead t p) = live (nat_lt (k.session c).ended t) (k.doomed c)
  where
    enters : (r : Bool) → NoMore c k (server_after k (if r then EnterQueue p (new_ask c None) ∷ doom_client (after_server_step k (EnterQueue p (new_ask c None))) c else EnterQueue p (new_ask c None) ∷ []))
    enters true q e = e
    enters false q e = e

    waits : (r : Bool) → NoMore c k (server_after k (if r then [] else enter_queue cycle k p (new_ask c None)))
    waits true q e = e
    waits false q e = enters (not (is_empty (k.queue p)) && cycle (after_server_step k (EnterQueue p (new_ask c None))) c) q e

    asks : (r : Option ℕ) → NoMore c k (server_after k (take_ask_read cycle k c p r))
    asks (Some g) q e = e
    asks None q e = waits (has_waiting_ask k c k.pages) q e

    live : (r u : Bool) → NoMore c k (server_after k (if r then (if u then send_to k c (AbortNow t) ∷ [] else take_ask_read cycle k c p ((k.session c).row p)) else []))
    live true true q e = e
    live true false q e = asks ((k.session c).row p) q e
    live false u q e = e
no_more cycle k c (AskWrite t p g) = live (nat_lt (k.session c).ended t) (k.doomed c)
  where
    enters : (r : Bool) → NoMore c k (server_after k (if r then EnterQueue p (new_ask c (Some g)) ∷ doom_client (after_server_step k (EnterQueue p (new_ask c (Some g)))) c else EnterQueue p (new_ask c (Some g)) ∷ []))
    enters true q e = e
    enters false q e = e

    permits : is_exactly (k.store.holder p) c ≡ true → NoMore c k (server_after k (ChangeSession c (PermitWrite p g) ∷ send_to k c (MayWrite (k.session c).txn p g) ∷ []))
    permits f q e = grind arith

    asks : (r u : Bool) → is_exactly (k.store.holder p) c ≡ u → (v : Bool) → NoMore c k (server_after k (if not r then [] else if u then ChangeSession c (PermitWrite p g) ∷ send_to k c (MayWrite (k.session c).txn p g) ∷ [] else if v then [] else enter_queue cycle k p (new_ask c (Some g))))
    asks false u f v q e = e
    asks true true f v q e = permits f q e
    asks true false f true q e = e
    asks true false f false q e = enters (not (is_empty (k.queue p)) && cycle (after_server_step k (EnterQueue p (new_ask c (Some g)))) c) q e

    live : (r u : Bool) → NoMore c k (server_after k (if r then (if u then send_to k c (AbortNow t) ∷ [] else take_ask_write cycle k c p g) else []))
    live true true q e = e
    live true false q e = asks (is_exactly ((k.session c).row p) g) (is_exactly (k.store.holder p) c) refl (has_waiting_ask k c k.pages) q e
    live false u q e = e
no_more cycle k c (GiveBack p g) = go (is_exactly ((k.session c).row p) g)
  where
    go : (r : Bool) → NoMore c k (server_after k (if r then UnmarkInUse c p ∷ ChangeSession c (RemoveRow p g) ∷ [] else []))
    go true q e = grind arith
    go false q e = e
no_more cycle k c (InUse t p g) = go (nat_lt (k.session c).ended t && is_exactly ((k.session c).row p) g)
  where
    go : (r : Bool) → NoMore c k (server_after k (if r then MarkInUse c p ∷ [] else []))
    go true q e = e
    go false q e = e
no_more cycle k c (Commit t ws) = go (nat_lt (k.session c).ended t) (k.doomed c) (commit_allowed k c ws) (t == (k.session c).ended)
  where
    again : (r : Option ℕ) → NoMore c k (server_after k (repeat_done k c t r))
    again None q e = e
    again (Some m) q e = flush (nat_le m k.flushed) q e
      where
        flush : (r : Bool) → NoMore c k (server_after k (if r then send_to k c (Done t m) ∷ [] else []))
        flush true q e = e
        flush false q e = e

    go : (r u v y : Bool) → NoMore c k (server_after k (if r
        then (if u then send_to k c (AbortNow t) ∷ [] else if v then ForgetTransaction c ∷ ChangeSession c (ApplyCommit t ws) ∷ [] else [])
        else if y then repeat_done k c t (k.outcome c) else []))
    go true true v y q e = e
    go true false true y q e = grind arith
    go true false false y q e = e
    go false u v true q e = again (k.outcome c) q e
    go false u v false q e = e
no_more cycle k c (Drop t) = go (nat_lt (k.session c).ended t)
  where
    go : (r : Bool) → NoMore c k (server_after k (if r then ForgetTransaction c ∷ ChangeSession c (DropTransaction t) ∷ [] else []))
    go true q e = grind arith
    go false q e = e
no_more cycle k c (Downgraded p g t) = go (k.store.keep_write && is_exactly ((k.session c).row p) g && is_exactly (k.store.holder p) c && (k.store.tag p == t))
  where
    go : (r : Bool) → NoMore c k (server_after k (if r then ChangeSession c (EndPermission p g t) ∷ [] else []))
    go true q e = grind arith
    go false q e = e
no_more cycle k c _ = λ q e. e

-- settling gives client c no permission but for its live transaction
settled_live : (c : ℕ) (a : Server) → ServerStepsMay AnyMessage a (settle_pages on_cycle a a.pages) → LiveOf c a → LiveOf c (server_after a (settle_pages on_cycle a a.pages))
settled_live c a m l = live_steps c a (settle_pages on_cycle a a.pages) m (gentle_settles c on_cycle a a.pages) l

holds_nothing : (c : ℕ) (s : Server) → ((p : ℕ) → s.store.holder p ≢ Some c) → LiveOf c s
holds_nothing c s n = record { live = λ p e. absurd (n p e) }

-- client c holds nothing, and its transaction is over
record Dropped (c : ℕ) (d : Server) : Type 0 where
  nothing : (p : ℕ) → d.store.holder p ≢ Some c
  over : (d.session c).txn ≤ (d.session c).ended

-- after a message of the current incarnation
record Current (s t : Server) (c : ℕ) (b : Body) : Type 0 where
  by_later : HasLiveTxn s c → (s.session c).txn < named_txn b → (p : ℕ) → t.store.holder p ≡ Some c → is_live_permission t c p ≡ true
  by_drop : (x : ℕ) → b ≡ Drop x → (s.session c).ended < x → (p : ℕ) → t.store.holder p ≢ Some c

current_drops : (s : Server) (c : ℕ) (b : Body) → Orderly AnyMessage s → ServerStepsMay AnyMessage s (take_current on_cycle s c b) → Current s (server_after s (take_current on_cycle s c b)) c b
current_drops s c b o may = subst (λ (z : Server). Current s z c b) (sym whole) (record { by_later = by_later; by_drop = by_drop })
  where
    x : ℕ
    x = named_txn b

    k : Server
    k = server_after s (begin_transaction s c x)

    a : Server
    a = server_after k (direct_answer on_cycle k c b)

    t : Server
    t = server_after a (settle_pages on_cycle a a.pages)

    whole : server_after s (take_current on_cycle s c b) ≡ t
    whole = after_append s (begin_transaction s c x) _ ∙ after_append k (direct_answer on_cycle k c b) _

    m : ServerStepsMay AnyMessage a (settle_pages on_cycle a a.pages)
    m = may_after k (direct_answer on_cycle k c b) _ (may_after s (begin_transaction s c x) _ may)

    u : KeepsClient a t c
    u = leaves_all a c (settle_pages on_cycle a a.pages) (gentle_settles c on_cycle a a.pages)

    begun : HasLiveTxn s c → (s.session c).txn < x → (r : Bool) → nat_lt (s.session c).txn x ≡ r → (p : ℕ) → (server_after s (if r then ForgetTransaction c ∷ ChangeSession c (BeginTransaction x) ∷ [] else [])).store.holder p ≢ Some c
    begun l n true e p f = grind arith
    begun l n false e p f = absurd (let z : x ≤ (s.session c).txn = grind arith in omega arith)

    by_later : HasLiveTxn s c → (s.session c).txn < x → (p : ℕ) → t.store.holder p ≡ Some c → is_live_permission t c p ≡ true
    by_later l n p e = let z = (settled_live c a m (holds_nothing c a (λ q f. begun l n (nat_lt (s.session c).txn x) refl q (no_more on_cycle k c b q f)))).live p e in live_is t c p z.0 z.1

    drops : (y : ℕ) → (k.session c).ended < y → (k.session c).txn ≤ y → (r : Bool) → nat_lt (k.session c).ended y ≡ r → Dropped c (server_after k (if r then ForgetTransaction c ∷ ChangeSession c (DropTransaction y) ∷ [] else []))
    drops y l n true e = record { nothing = λ p f. grind arith; over = grind arith }
    drops y l n false e = absurd (let z : y ≤ (k.session c).ended = grind arith in omega arith)

    reached : (y : ℕ) → x ≡ y → (s.session c).ended < y → (r : Bool) → nat_lt (s.session c).txn x ≡ r → let d = server_after s (if r then ForgetTransaction c ∷ ChangeSession c (BeginTransaction x) ∷ [] else []) in ((d.session c).ended < y) × ((d.session c).txn ≤ y)
    reached y e l true f = (grind arith, grind arith)
    reached y e l false f = let z : x ≤ (s.session c).txn = grind arith in let w = o.step c in (l, omega arith)

    by_drop : (y : ℕ) → b ≡ Drop y → (s.session c).ended < y → (p : ℕ) → t.store.holder p ≢ Some c
    by_drop y e l p f = let w = reached y (rw e refl) l (nat_lt (s.session c).txn x) refl in
        let d = drops y w.0 w.1 (nat_lt (k.session c).ended y) refl in
        let n : a ≡ server_after k (if nat_lt (k.session c).ended y then ForgetTransaction c ∷ ChangeSession c (DropTransaction y) ∷ [] else []) = rw e refl in
        let z = (settled_live c a m (holds_nothing c a (rw n d.nothing))).live p f in
        let v : (a.session c).txn ≤ (a.session c).ended = rw n d.over in
        let i = u.begun in let j = u.ended in absurd (let q = z.1 in omega arith)

-- after a greater Hello
admit_drops : (s : Server) (c i : ℕ) → ServerStepsMay AnyMessage s (admit_incarnation on_cycle s c i) → (p : ℕ) → (server_after s (admit_incarnation on_cycle s c i)).store.holder p ≢ Some c
admit_drops s c i may p e = let z = (settled_live c a m (holds_nothing c a gone)).live p e in absurd (let q = z.1 in let v = over in let i = u.begun in let j = u.ended in omega arith)
  where
    xs : List ServerStep
    xs = ForgetTransaction c ∷ ChangeSession c (Admit i) ∷ Send c i Welcome ∷ []

    a : Server
    a = server_after s xs

    m : ServerStepsMay AnyMessage a (settle_pages on_cycle a a.pages)
    m = may_after s xs _ may

    u : KeepsClient a (server_after a (settle_pages on_cycle a a.pages)) c
    u = leaves_all a c (settle_pages on_cycle a a.pages) (gentle_settles c on_cycle a a.pages)

    gone : (q : ℕ) → a.store.holder q ≢ Some c
    gone q f = grind arith

    over : (a.session c).txn ≤ (a.session c).ended
    over = grind arith

pub dropped_hold_nothing : DroppedHoldNothing
dropped_hold_nothing s r i f c p = record {
  by_drop = λ x e l. at_message (Drop x) e (λ z. absurd cc) (λ t w. w.by_drop x refl l p);
  by_hello = λ j e l. greeted j e l;
  by_later = λ b e l n. at_message b e (λ z. none b z n) (λ t w. w.by_later l n p);
}
  where
    may : ServerStepsMay AnyMessage s (input_steps on_cycle s i)
    may = (right_input on_cycle s i (orderly s r) f).0

    none : (b : Body) → b ≡ Hello → (s.session c).txn < named_txn b → ⊥
    none b z n = absurd (let w : named_txn b ≡ 0 = rw z refl in omega arith)

    at_message : {P : Server → Type 0} (b : Body) → Comes s i c b → b ≢ Hello → ((t : Server) → Current s t c b → P t) → P (server_after s (input_steps on_cycle s i))
    at_message {P} b e n g = let w : input_steps on_cycle s i ≡ take_current on_cycle s c b = ap (input_steps on_cycle s) e ∙ serves_current on_cycle s c (s.session c).current b n refl in
        subst (λ (ds : List ServerStep). P (server_after s ds)) (sym w) (g (server_after s (take_current on_cycle s c b)) (current_drops s c b (orderly s r) (subst (λ (ds : List ServerStep). ServerStepsMay AnyMessage s ds) w may)))

    greeted : (j : ℕ) → i ≡ MessageComes c j Hello → (s.session c).current < j → (server_after s (input_steps on_cycle s i)).store.holder p ≢ Some c
    greeted j e l = let w : input_steps on_cycle s i ≡ admit_incarnation on_cycle s c j = ap (input_steps on_cycle s) e ∙ serves_new_hello on_cycle s c j l in
        subst (λ (ds : List ServerStep). (server_after s ds).store.holder p ≢ Some c) (sym w) (admit_drops s c j (subst (λ (ds : List ServerStep). ServerStepsMay AnyMessage s ds) w may) p)
