-- What a server's step leaves of the clients whose message it was not.
use Rattle.std.proofs.Common.{Bool, List, None, Option, Some, [], arith, false, if◌then◌else◌, inl, inr, length, nat_le, nat_lt, not, refl, suc, sym, true, zero, ℕ, ◌&&◌, ◌++◌, ◌+◌, ◌==◌, ◌∙◌, ◌∷◌, ◌≡◌, ◌≢◌, ◌⊎◌, ◌||◌}
use Rattle.std.specs.Prelude.{⊤}
use Rattle.cb_protocol.specs.Basics.{is_none, update, is_exactly}
use Rattle.cb_protocol.specs.Messages.{AbortNow, AskRead, AskWrite, Body, Commit, Done, Downgraded, Drop, GiveBack, Hello, InUse, MayWrite, Welcome}
use Rattle.cb_protocol.specs.StepsKeep.{KeepsClient, OthersKeepRowsAndPermissions}
use Rattle.cb_protocol.specs.Server.{DeadlockTest, AppliedCommit, MarkCalledBack, ServerStep, Doom, EnterQueue, SetFlushed, LeaveQueue, MarkInUse, ForgetTransaction, Server, Send, MarkDowngradeSent, ChangeSession, RemoveAsk, UnmarkInUse, WaitingAsk, server_after, after_server_step}
use Rattle.cb_protocol.specs.Session.{Admit, ApplyCommit, DropTransaction, GrantRow, BeginTransaction, PermitWrite, RemoveRow, SessionChange, EndPermission}
use Rattle.cb_protocol.specs.Flush.{dones_between, server_flush}
use Rattle.cb_protocol.specs.Resend.{again_doomed, again_page, again_pages, server_again}
use Rattle.cb_protocol.specs.ServerMessages.{admit_incarnation, commit_allowed, direct_answer, take_ask_read, take_ask_write, has_waiting_ask, repeat_done, enter_queue, take_current, is_empty, if_live, begin_transaction, named_txn, new_ask, server_take}
use Rattle.cb_protocol.specs.Settling.{Decided, Settled, Decision, downgrade_once, send_callback, send_callbacks, call_back_once, decide, decide_read, decide_write, decision_steps, doom_client, send_downgrade, send_downgrades, grant_row, keeps_permission, no_other_holder, nobody, permit_write, wait_or_doom, settle_page, settle_pages, sole_row, send_to}

-- what a step of the server needs to leave what client d has
abbrev pub Gentle : ℕ → Server → ServerStep → Type 0
Gentle d s (ChangeSession c (GrantRow p g)) = ((s.session c).row p ≡ None) × (g ≡ s.next_grant)
Gentle d s (ChangeSession c (PermitWrite p g)) = (no_other_holder (s.store.holder p) c ≡ true) × ((s.session c).row p ≡ Some g)
Gentle d s (ChangeSession c m) = d ≢ c
Gentle d s (MarkInUse c p) = d ≢ c
Gentle d s (UnmarkInUse c p) = d ≢ c
Gentle d s (ForgetTransaction c) = d ≢ c
Gentle d s _ = ⊤

abbrev pub AllGentle : ℕ → Server → List ServerStep → Type 0
AllGentle d s [] = ⊤
AllGentle d s (x ∷ xs) = Gentle d s x × AllGentle d (after_server_step s x) xs

leaves_same : (s : Server) (d : ℕ) → KeepsClient s s d
leaves_same s d = record { incarnation = refl; begun = refl; ended = refl; outcome = refl; doomed = λ e. e; mark = λ p. refl; row = λ p g e. e; new_row = λ p g e. inl e; permission = λ p e. e; new_permission = λ p e. inl e; next_grant = omega arith }

pub leaves_more : (s t u : Server) (d : ℕ) → KeepsClient s t d → KeepsClient t u d → KeepsClient s u d
leaves_more s t u d a b = record {
  incarnation = b.incarnation ∙ a.incarnation;
  begun = b.begun ∙ a.begun;
  ended = b.ended ∙ a.ended;
  outcome = b.outcome ∙ a.outcome;
  doomed = λ e. b.doomed (a.doomed e);
  mark = λ p. b.mark p ∙ a.mark p;
  row = λ p g e. b.row p g (a.row p g e);
  new_row = λ p g e. elim (b.new_row p g e) [ inl f ↦ a.new_row p g f | inr f ↦ inr (none p f.0, let l = f.1 in let m = a.next_grant in omega arith) ];
  permission = λ p e. b.permission p (a.permission p e);
  new_permission = λ p e. elim (b.new_permission p e) [ inl f ↦ elim (a.new_permission p f) [ inl h ↦ inl h | inr h ↦ inr (h.0, b.row p h.0 h.1) ] | inr f ↦ inr f ];
  next_grant = let l = a.next_grant in let m = b.next_grant in omega arith;
}
  where
    none : (p : ℕ) → (t.session d).row p ≡ None → (s.session d).row p ≡ None
    none p e = go ((s.session d).row p) refl
      where
        go : (r : Option ℕ) → (s.session d).row p ≡ r → r ≡ None
        go None f = refl
        go (Some g) f = absurd (let z : None ≡ Some g = sym e ∙ a.row p g f in cc)

permit_new : (s : Server) (d c p g q : ℕ) → (s.session c).row p ≡ Some g → update s.store.holder p (Some c) q ≡ Some d → (s.store.holder q ≡ Some d) ⊎ ((x : ℕ) × ((update s.session c (s.session c) d).row q ≡ Some x))
permit_new s d c p g q r e = go (q == p) refl e
  where
    there : (q == p) ≡ true → Some c ≡ Some d → (update s.session c (s.session c) d).row q ≡ Some g
    there f z = grind arith

    go : (u : Bool) → (q == p) ≡ u → (if u then Some c else s.store.holder q) ≡ Some d → (s.store.holder q ≡ Some d) ⊎ ((x : ℕ) × ((update s.session c (s.session c) d).row q ≡ Some x))
    go true f z = inr (g, there f z)
    go false f z = inl z

leaves_move : (s : Server) (d c : ℕ) (m : SessionChange) → Gentle d s (ChangeSession c m) → KeepsClient s (after_server_step s (ChangeSession c m)) d
leaves_move s d c (Admit i) f = grind arith
leaves_move s d c (BeginTransaction x) f = grind arith
leaves_move s d c (DropTransaction x) f = grind arith
leaves_move s d c (GrantRow p g) f = grind arith
leaves_move s d c (PermitWrite p g) f = record {
  incarnation = grind arith;
  begun = grind arith;
  ended = grind arith;
  outcome = grind arith;
  doomed = λ e. e;
  mark = λ q. refl;
  row = grind arith;
  new_row = grind arith;
  permission = grind arith;
  new_permission = λ q e. permit_new s d c p g q f.1 e;
  next_grant = omega arith;
}
leaves_move s d c (RemoveRow p g) f = grind arith
leaves_move s d c (EndPermission p g x) f = grind arith
leaves_move s d c (ApplyCommit x ws) f = grind arith

leaves_after : (s : Server) (d : ℕ) (x : ServerStep) → Gentle d s x → KeepsClient s (after_server_step s x) d
leaves_after s d (ChangeSession c m) f = leaves_move s d c m f
leaves_after s d (Send c i b) f = leaves_same s d
leaves_after s d (EnterQueue p a) f = grind arith
leaves_after s d (LeaveQueue p) f = grind arith
leaves_after s d (MarkCalledBack p) f = grind arith
leaves_after s d (MarkDowngradeSent p t) f = grind arith
leaves_after s d (MarkInUse c p) f = grind arith
leaves_after s d (UnmarkInUse c p) f = grind arith
leaves_after s d (RemoveAsk c) f = grind arith
leaves_after s d (Doom c) f = grind arith
leaves_after s d (ForgetTransaction c) f = grind arith
leaves_after s d (SetFlushed n) f = grind arith

pub leaves_all : (s : Server) (d : ℕ) (xs : List ServerStep) → AllGentle d s xs → KeepsClient s (server_after s xs) d
leaves_all s d [] f = leaves_same s d
leaves_all s d (x ∷ xs) f = leaves_more s (after_server_step s x) (server_after (after_server_step s x) xs) d (leaves_after s d x f.0) (leaves_all (after_server_step s x) d xs f.1)

pub gentle_append : (d : ℕ) (s : Server) (xs ys : List ServerStep) → AllGentle d s xs → AllGentle d (server_after s xs) ys → AllGentle d s (xs ++ ys)
gentle_append d s [] ys a b = b
gentle_append d s (x ∷ xs) ys a b = (a.0, gentle_append d (after_server_step s x) xs ys a.1 b)

-- steps that are gentle at every server
abbrev Mild : List ServerStep → Type 0
Mild [] = ⊤
Mild (Send c i b ∷ ds) = Mild ds
Mild (EnterQueue p a ∷ ds) = Mild ds
Mild (LeaveQueue p ∷ ds) = Mild ds
Mild (MarkCalledBack p ∷ ds) = Mild ds
Mild (MarkDowngradeSent p t ∷ ds) = Mild ds
Mild (RemoveAsk c ∷ ds) = Mild ds
Mild (Doom c ∷ ds) = Mild ds
Mild (SetFlushed n ∷ ds) = Mild ds
Mild (_ ∷ ds) = ⊥

mild_gentle : (d : ℕ) (xs : List ServerStep) (s : Server) → Mild xs → AllGentle d s xs
mild_gentle d [] s f = tt
mild_gentle d (ChangeSession c m ∷ xs) s f = absurd f
mild_gentle d (MarkInUse c p ∷ xs) s f = absurd f
mild_gentle d (UnmarkInUse c p ∷ xs) s f = absurd f
mild_gentle d (ForgetTransaction c ∷ xs) s f = absurd f
mild_gentle d (Send c i b ∷ xs) s f = (tt, mild_gentle d xs _ f)
mild_gentle d (EnterQueue p a ∷ xs) s f = (tt, mild_gentle d xs _ f)
mild_gentle d (LeaveQueue p ∷ xs) s f = (tt, mild_gentle d xs _ f)
mild_gentle d (MarkCalledBack p ∷ xs) s f = (tt, mild_gentle d xs _ f)
mild_gentle d (MarkDowngradeSent p t ∷ xs) s f = (tt, mild_gentle d xs _ f)
mild_gentle d (RemoveAsk c ∷ xs) s f = (tt, mild_gentle d xs _ f)
mild_gentle d (Doom c ∷ xs) s f = (tt, mild_gentle d xs _ f)
mild_gentle d (SetFlushed n ∷ xs) s f = (tt, mild_gentle d xs _ f)

mild_append : (xs ys : List ServerStep) → Mild xs → Mild ys → Mild (xs ++ ys)
mild_append [] ys a b = b
mild_append (ChangeSession c m ∷ xs) ys a b = absurd a
mild_append (MarkInUse c p ∷ xs) ys a b = absurd a
mild_append (UnmarkInUse c p ∷ xs) ys a b = absurd a
mild_append (ForgetTransaction c ∷ xs) ys a b = absurd a
mild_append (Send c i y ∷ xs) ys a b = mild_append xs ys a b
mild_append (EnterQueue p x ∷ xs) ys a b = mild_append xs ys a b
mild_append (LeaveQueue p ∷ xs) ys a b = mild_append xs ys a b
mild_append (MarkCalledBack p ∷ xs) ys a b = mild_append xs ys a b
mild_append (MarkDowngradeSent p t ∷ xs) ys a b = mild_append xs ys a b
mild_append (RemoveAsk c ∷ xs) ys a b = mild_append xs ys a b
mild_append (Doom c ∷ xs) ys a b = mild_append xs ys a b
mild_append (SetFlushed n ∷ xs) ys a b = mild_append xs ys a b

mild_call_back : (s : Server) (d p : ℕ) (r : Option ℕ) → Mild (send_callback s d p r)
mild_call_back s d p None = tt
mild_call_back s d p (Some g) = tt

mild_callbacks : (s : Server) (skip : ℕ → Bool) (p c n : ℕ) → Mild (send_callbacks s skip p c n)
mild_callbacks s skip p c zero = tt
mild_callbacks s skip p c (suc n) = mild_append (send_callbacks s skip p c n) _ (mild_callbacks s skip p c n) (go ((n == c) || skip n))
  where
    go : (r : Bool) → Mild (if r then [] else send_callback s n p ((s.session n).row p))
    go true = tt
    go false = mild_call_back s n p ((s.session n).row p)

mild_downgrades : (s : Server) (skip : ℕ → Bool) (p c : ℕ) (w : Option ℕ) → Mild (send_downgrades s skip p c w)
mild_downgrades s skip p c None = tt
mild_downgrades s skip p c (Some d) = go (keeps_permission s p c (Some d) && not (skip d))
  where
    one : (r : Option ℕ) → Mild (send_downgrade s d p r)
    one None = tt
    one (Some g) = tt

    go : (r : Bool) → Mild (if r then send_downgrade s d p ((s.session d).row p) else [])
    go true = one ((s.session d).row p)
    go false = tt

mild_calls_back : (s : Server) (p : ℕ) (a : WaitingAsk) → Mild (call_back_once s p a)
mild_calls_back s p a = go a.called_back
  where
    go : (r : Bool) → Mild (if r then [] else send_callbacks s nobody p a.client s.clients ++ MarkCalledBack p ∷ [])
    go true = tt
    go false = mild_append (send_callbacks s nobody p a.client s.clients) (MarkCalledBack p ∷ []) (mild_callbacks s nobody p a.client s.clients) tt

mild_brings_down : (s : Server) (p : ℕ) (a : WaitingAsk) → Mild (downgrade_once s p a)
mild_brings_down s p a = go (s.store.keep_write && keeps_permission s p a.client (s.store.holder p) && not (is_exactly a.downgrade_sent (s.store.tag p)))
  where
    go : (r : Bool) → Mild (if r then send_downgrades s nobody p a.client (s.store.holder p) ++ MarkDowngradeSent p (s.store.tag p) ∷ [] else [])
    go true = mild_append (send_downgrades s nobody p a.client (s.store.holder p)) (MarkDowngradeSent p (s.store.tag p) ∷ []) (mild_downgrades s nobody p a.client (s.store.holder p)) tt
    go false = tt

mild_refuses : (cycle : DeadlockTest) (s : Server) (c : ℕ) (ds : List ServerStep) → Mild ds → Mild (decision_steps (wait_or_doom cycle s c ds))
mild_refuses cycle s c ds f = go (cycle (server_after s ds) c)
  where
    go : (r : Bool) → Mild (decision_steps (if r then Decided (ds ++ doom_client (server_after s ds) c) else Settled ds))
    go true = mild_append ds (doom_client (server_after s ds) c) f tt
    go false = f

-- settling
pub none_is : (r : Option ℕ) → is_none r ≡ true → r ≡ None
none_is r e = grind arith

pub some_is : (r : Option ℕ) (g : ℕ) → is_exactly r g ≡ true → r ≡ Some g
some_is r g e = grind arith

gentle_decide : (d : ℕ) (cycle : DeadlockTest) (s : Server) (p : ℕ) (q : List WaitingAsk) → AllGentle d s (decision_steps (decide cycle s p q))
gentle_decide d cycle s p [] = tt
gentle_decide d cycle s p (a ∷ q) = kind_of a.write_grant
  where
    reads : (u : Bool) → (no_other_holder (s.store.holder p) a.client && is_none ((s.session a.client).row p)) ≡ u → AllGentle d s (decision_steps (if u then Decided (grant_row s p a.client) else wait_or_doom cycle s a.client (downgrade_once s p a)))
    reads true f = ((none_is ((s.session a.client).row p) (grind arith), refl), (tt, (tt, tt)))
    reads false f = mild_gentle d _ s (mild_refuses cycle s a.client (downgrade_once s p a) (mild_brings_down s p a))

    writes : (g : ℕ) (u : Bool) → (no_other_holder (s.store.holder p) a.client && is_exactly ((s.session a.client).row p) g && sole_row s p a.client s.clients) ≡ u
        → AllGentle d s (decision_steps (if u then Decided (permit_write s p a.client g) else wait_or_doom cycle s a.client (call_back_once s p a)))
    writes g true h = ((grind arith, some_is ((s.session a.client).row p) g (grind arith)), (tt, (tt, tt)))
    writes g false h = mild_gentle d _ s (mild_refuses cycle s a.client (call_back_once s p a) (mild_calls_back s p a))

    kind_of : (r : Option ℕ) → AllGentle d s (decision_steps (elim r [ None ↦ decide_read cycle s p a | Some g ↦ decide_write cycle s p a g ]))
    kind_of None = reads (no_other_holder (s.store.holder p) a.client && is_none ((s.session a.client).row p)) refl
    kind_of (Some g) = writes g (no_other_holder (s.store.holder p) a.client && is_exactly ((s.session a.client).row p) g && sole_row s p a.client s.clients) refl

gentle_settle : (d : ℕ) (cycle : DeadlockTest) (n : ℕ) (s : Server) (p : ℕ) → AllGentle d s (settle_page cycle n s p)
gentle_settle d cycle zero s p = tt
gentle_settle d cycle (suc n) s p = go (λ k. gentle_settle d cycle n k p) (decide cycle s p (s.queue p)) (gentle_decide d cycle s p (s.queue p))
  where
    go : ((k : Server) → AllGentle d k (settle_page cycle n k p)) → (v : Decision) → AllGentle d s (decision_steps v) → AllGentle d s (elim v [ Settled ds ↦ ds | Decided ds ↦ ds ++ settle_page cycle n (server_after s ds) p ])
    go f (Settled ds) a = a
    go f (Decided ds) a = gentle_append d s ds _ a (f (server_after s ds))

pub gentle_settles : (d : ℕ) (cycle : DeadlockTest) (s : Server) (n : ℕ) → AllGentle d s (settle_pages cycle s n)
gentle_settles d cycle s zero = tt
gentle_settles d cycle s (suc n) = gentle_append d s (settle_pages cycle s n) _ (gentle_settles d cycle s n) (gentle_settle d cycle (length (s.queue n) + 1) (server_after s (settle_pages cycle s n)) n)

-- the direct answers
gentle_enters : (d : ℕ) (cycle : DeadlockTest) (s : Server) (p : ℕ) (a : WaitingAsk) → AllGentle d s (enter_queue cycle s p a)
gentle_enters d cycle s p a = mild_gentle d _ s (go (not (is_empty (s.queue p)) && cycle (after_server_step s (EnterQueue p a)) a.client))
  where
    go : (r : Bool) → Mild (if r then EnterQueue p a ∷ doom_client (after_server_step s (EnterQueue p a)) a.client else EnterQueue p a ∷ [])
    go true = tt
    go false = tt

pub gentle_ask_read : (d : ℕ) (cycle : DeadlockTest) (s : Server) (c p : ℕ) (r : Option ℕ) → AllGentle d s (take_ask_read cycle s c p r)
gentle_ask_read d cycle s c p (Some g) = (tt, tt)
gentle_ask_read d cycle s c p None = go (has_waiting_ask s c s.pages)
  where
    go : (r : Bool) → AllGentle d s (if r then [] else enter_queue cycle s p (new_ask c None))
    go true = tt
    go false = gentle_enters d cycle s p (new_ask c None)

pub gentle_ask_write : (d : ℕ) (cycle : DeadlockTest) (s : Server) (c p g : ℕ) → AllGentle d s (take_ask_write cycle s c p g)
gentle_ask_write d cycle s c p g = go (is_exactly ((s.session c).row p) g) refl (is_exactly (s.store.holder p) c) refl (has_waiting_ask s c s.pages)
  where
    go : (r : Bool) → is_exactly ((s.session c).row p) g ≡ r → (u : Bool) → is_exactly (s.store.holder p) c ≡ u → (v : Bool)
        → AllGentle d s (if not r then [] else if u then ChangeSession c (PermitWrite p g) ∷ send_to s c (MayWrite (s.session c).txn p g) ∷ [] else if v then [] else enter_queue cycle s p (new_ask c (Some g)))
    go false e u f v = tt
    go true e true f v = ((grind arith, some_is ((s.session c).row p) g e), (tt, tt))
    go true e false f true = tt
    go true e false f false = gentle_enters d cycle s p (new_ask c (Some g))

pub gentle_live : (d : ℕ) (s : Server) (c t : ℕ) (ds : List ServerStep) → AllGentle d s ds → AllGentle d s (if_live s c t ds)
gentle_live d s c t ds a = go (nat_lt (s.session c).ended t) (s.doomed c)
  where
    go : (r u : Bool) → AllGentle d s (if r then (if u then send_to s c (AbortNow t) ∷ [] else ds) else [])
    go true true = (tt, tt)
    go true false = a
    go false u = tt

gentle_again : (d : ℕ) (s : Server) (c t : ℕ) (o : Option ℕ) → AllGentle d s (repeat_done s c t o)
gentle_again d s c t None = tt
gentle_again d s c t (Some n) = go (nat_le n s.flushed)
  where
    go : (r : Bool) → AllGentle d s (if r then send_to s c (Done t n) ∷ [] else [])
    go true = (tt, tt)
    go false = tt

pub gentle_answers : (d : ℕ) (cycle : DeadlockTest) (s : Server) (c : ℕ) (b : Body) → d ≢ c → AllGentle d s (direct_answer cycle s c b)
gentle_answers d cycle s c (AskRead t p) n = gentle_live d s c t _ (gentle_ask_read d cycle s c p ((s.session c).row p))
gentle_answers d cycle s c (AskWrite t p g) n = gentle_live d s c t _ (gentle_ask_write d cycle s c p g)
gentle_answers d cycle s c (GiveBack p g) n = go (is_exactly ((s.session c).row p) g)
  where
    go : (r : Bool) → AllGentle d s (if r then UnmarkInUse c p ∷ ChangeSession c (RemoveRow p g) ∷ [] else [])
    go true = (n, (n, tt))
    go false = tt
gentle_answers d cycle s c (InUse t p g) n = go (nat_lt (s.session c).ended t && is_exactly ((s.session c).row p) g)
  where
    go : (r : Bool) → AllGentle d s (if r then MarkInUse c p ∷ [] else [])
    go true = (n, tt)
    go false = tt
gentle_answers d cycle s c (Commit t ws) n = go (nat_lt (s.session c).ended t) (s.doomed c) (commit_allowed s c ws) (t == (s.session c).ended)
  where
    go : (r u v w : Bool) → AllGentle d s (if r then (if u then send_to s c (AbortNow t) ∷ [] else if v then ForgetTransaction c ∷ ChangeSession c (ApplyCommit t ws) ∷ [] else []) else if w then repeat_done s c t (s.outcome c) else [])
    go true true v w = (tt, tt)
    go true false true w = (n, (n, tt))
    go true false false w = tt
    go false u v true = gentle_again d s c t (s.outcome c)
    go false u v false = tt
gentle_answers d cycle s c (Drop t) n = go (nat_lt (s.session c).ended t)
  where
    go : (r : Bool) → AllGentle d s (if r then ForgetTransaction c ∷ ChangeSession c (DropTransaction t) ∷ [] else [])
    go true = (n, (n, tt))
    go false = tt
gentle_answers d cycle s c (Downgraded p g t) n = go (s.store.keep_write && is_exactly ((s.session c).row p) g && is_exactly (s.store.holder p) c && (s.store.tag p == t))
  where
    go : (r : Bool) → AllGentle d s (if r then ChangeSession c (EndPermission p g t) ∷ [] else [])
    go true = (n, tt)
    go false = tt
gentle_answers d cycle s c _ n = tt

gentle_meets : (d : ℕ) (s : Server) (c t : ℕ) → d ≢ c → AllGentle d s (begin_transaction s c t)
gentle_meets d s c t n = go (nat_lt (s.session c).txn t)
  where
    go : (r : Bool) → AllGentle d s (if r then ForgetTransaction c ∷ ChangeSession c (BeginTransaction t) ∷ [] else [])
    go true = (n, (n, tt))
    go false = tt

gentle_frame : (d : ℕ) (cycle : DeadlockTest) (s : Server) (c i : ℕ) (b : Body) → d ≢ c → AllGentle d s (if i == (s.session c).current then take_current cycle s c b else [])
gentle_frame d cycle s c i b n = go (i == (s.session c).current)
  where
    m : Server
    m = server_after s (begin_transaction s c (named_txn b))

    a : Server
    a = server_after m (direct_answer cycle m c b)

    go : (r : Bool) → AllGentle d s (if r then take_current cycle s c b else [])
    go true = gentle_append d s (begin_transaction s c (named_txn b)) _ (gentle_meets d s c (named_txn b) n) (gentle_append d m (direct_answer cycle m c b) _ (gentle_answers d cycle m c b n) (gentle_settles d cycle a a.pages))
    go false = tt

gentle_hello : (d : ℕ) (cycle : DeadlockTest) (s : Server) (c i : ℕ) → d ≢ c → AllGentle d s (server_take cycle s c i Hello)
unfolding server_take
gentle_hello d cycle s c i n = go (nat_lt (s.session c).current i) (i == (s.session c).current)
  where
    go : (r u : Bool) → AllGentle d s (if r then admit_incarnation cycle s c i else if u then Send c i Welcome ∷ [] else [])
    go true u = (n, (n, (tt, gentle_settles d cycle _ s.pages)))
    go false true = (tt, tt)
    go false false = tt

gentle_serves : (d : ℕ) (cycle : DeadlockTest) (s : Server) (c i : ℕ) (b : Body) → d ≢ c → AllGentle d s (server_take cycle s c i b)
unfolding server_take
gentle_serves d cycle s c i Hello n = gentle_hello d cycle s c i n
gentle_serves d cycle s c i b n = gentle_frame d cycle s c i b n

-- resending and a flush
mild_again_pages : (s : Server) (n : ℕ) → Mild (again_pages s n)
mild_again_pages s zero = tt
mild_again_pages s (suc n) = mild_append (again_pages s n) _ (mild_again_pages s n) (page (s.queue n))
  where
    page : (q : List WaitingAsk) → Mild (again_page s n q)
    page [] = tt
    page (a ∷ q) = go (is_none a.write_grant) s.store.keep_write
      where
        go : (r u : Bool) → Mild (if r then (if u then send_downgrades s (λ d. s.in_use d n) n a.client (s.store.holder n) else []) else send_callbacks s (λ d. s.in_use d n) n a.client s.clients)
        go true true = mild_downgrades s (λ d. s.in_use d n) n a.client (s.store.holder n)
        go true false = tt
        go false u = mild_callbacks s (λ d. s.in_use d n) n a.client s.clients

mild_again_doomed : (s : Server) (n : ℕ) → Mild (again_doomed s n)
mild_again_doomed s zero = tt
mild_again_doomed s (suc n) = mild_append (again_doomed s n) _ (mild_again_doomed s n) (go (s.doomed n))
  where
    go : (r : Bool) → Mild (if r then send_to s n (AbortNow (s.session n).txn) ∷ [] else [])
    go true = tt
    go false = tt

mild_dones : (xs : List AppliedCommit) (m n : ℕ) → Mild (dones_between xs m n)
mild_dones [] m n = tt
mild_dones (x ∷ xs) m n = mild_append (dones_between xs m n) _ (mild_dones xs m n) (go (nat_lt m x.number && nat_le x.number n))
  where
    go : (r : Bool) → Mild (if r then Send x.client x.incarnation (Done x.txn x.number) ∷ [] else [])
    go true = tt
    go false = tt

pub others_keep_rows_and_permissions : (cycle : DeadlockTest) → OthersKeepRowsAndPermissions cycle
others_keep_rows_and_permissions cycle s = (
  (λ c i b d n. leaves_all s d (server_take cycle s c i b) (gentle_serves d cycle s c i b n)),
  (λ d. leaves_all s d (server_again s) (mild_gentle d _ s (mild_append (again_pages s s.pages) (again_doomed s s.clients) (mild_again_pages s s.pages) (mild_again_doomed s s.clients)))),
  λ n d. leaves_all s d (server_flush s n) (mild_gentle d _ s (mild_append (dones_between s.commits s.flushed n) (SetFlushed n ∷ []) (mild_dones s.commits s.flushed n) tt)),
)
