-- A message of one client makes the server say nothing to a client that has nothing there, and leaves it so.
use Rattle.std.proofs.Common.{Bool, List, None, Option, Some, [], ap, arith, false, if◌then◌else◌, inl, inr, nat_le, nat_lt, not, refl, subst, suc, sym, true, zero, ℕ, ◌&&◌, ◌++◌, ◌==◌, ◌||◌, ◌∙◌, ◌∷◌, ◌≡◌, ◌≢◌}
use Rattle.std.specs.Prelude.{⊤}
use Rattle.cb_protocol.proofs.HelloStarts.{greeted_kept, greeted_queue}
use Rattle.cb_protocol.proofs.ServedSteps.{tells_again_doomed, tells_again_pages, tells_dones, tells_only}
use Rattle.cb_protocol.proofs.ServerWalks.{EachStep, KeptUnder, Lasting, StepRule, each_after_sends, each_append, each_settles, kept_by_each}
use Rattle.cb_protocol.proofs.SettlingClears.{after_sends, sends_callbacks, sends_downgrades}
use Rattle.cb_protocol.specs.Basics.{IsIn, is_exactly, is_none, update}
use Rattle.cb_protocol.specs.Flush.{dones_between, server_flush}
use Rattle.cb_protocol.specs.HelloLaws.{OnlyGreeted}
use Rattle.cb_protocol.specs.Messages.{AbortNow, AskRead, AskWrite, Body, Commit, Done, Downgraded, Drop, GiveBack, Hello, InUse, MayWrite, Message, Welcome}
use Rattle.cb_protocol.specs.Resend.{again_doomed, again_page, again_pages, server_again}
use Rattle.cb_protocol.specs.Server.{AppliedCommit, ChangeSession, DeadlockTest, Doom, EnterQueue, ForgetTransaction, LeaveQueue, MarkCalledBack, MarkDowngradeSent, MarkInUse, RemoveAsk, Send, Server, ServerStep, SetFlushed, UnmarkInUse, WaitingAsk, after_server_step, is_live_permission, server_after}
use Rattle.cb_protocol.specs.ServerMessages.{admit_incarnation, begin_transaction, commit_allowed, direct_answer, enter_queue, has_waiting_ask, if_live, is_empty, named_txn, new_ask, repeat_done, server_take, take_ask_read, take_ask_write, take_current}
use Rattle.cb_protocol.specs.Session.{Admit, ApplyCommit, BeginTransaction, DropTransaction, EndPermission, GrantRow, PermitWrite, RemoveRow, Session, SessionChange, Store, session_after, store_after, without_holder, without_holder_at}
use Rattle.cb_protocol.specs.Settling.{Decided, Settled, call_back_once, decide, decide_read, decide_write, decision_steps, doom_client, downgrade_once, grant_row, keeps_permission, no_other_holder, nobody, permit_write, send_callback, send_callbacks, send_downgrade, send_downgrades, send_to, settle_pages, sole_row, wait_or_doom}
use Rattle.cb_protocol.specs.WaitsFor.{HasAsk}
use Rattle.cb_protocol.specs.World.{messages_sent}

-- the step is about others than client c
abbrev pub Passes : ℕ → StepRule
Passes c s (ChangeSession d m) ds = d ≢ c
Passes c s (Send d i b) ds = d ≢ c
Passes c s (EnterQueue p a) ds = a.client ≢ c
Passes c s (MarkInUse d p) ds = d ≢ c
Passes c s (Doom d) ds = d ≢ c
Passes c s _ ds = ⊤

passes_lasting : (c : ℕ) → Lasting (Passes c)
passes_lasting c s (ChangeSession d m) xs ys a = a
passes_lasting c s (Send d i b) xs ys a = a
passes_lasting c s (EnterQueue p x) xs ys a = a
passes_lasting c s (MarkInUse d p) xs ys a = a
passes_lasting c s (Doom d) xs ys a = a
passes_lasting c s _ xs ys a = a

-- what is said goes to others
said_to : (c : ℕ) (f g : Message) → g ≡ f → g.client ≢ c → f.client ≢ c
said_to c f g e ne = subst (λ (x : Message). x.client ≢ c) e ne

pub passes_sent : (c : ℕ) (s : Server) (ds : List ServerStep) (f : Message) → EachStep (Passes c) s ds → IsIn f (messages_sent ds) → f.client ≢ c
passes_sent c s [] f a i = absurd i
passes_sent c s (Send d j b ∷ ds) f a i = elim i [ inl e ↦ said_to c f (record { client = d; incarnation = j; body = b }) e a.0 | inr k ↦ passes_sent c s ds f a.1 k ]
passes_sent c s (d ∷ ds) f a i = passes_sent c (after_server_step s d) ds f a.1 i

elsewhere : {A : Type 0} (f : ℕ → A) (d c : ℕ) (x : A) → d ≢ c → update f d x c ≡ f c
elsewhere f d c x ne = grind arith

-- a permission of c is none that came by the change of another
without_is : (r : Option ℕ) (d c : ℕ) → (elim r as (λ _. Option ℕ) [ None ↦ None | Some o ↦ if o == d then None else Some o ]) ≡ Some c → r ≡ Some c
without_is None d c e = absurd cc
without_is (Some o) d c e = grind arith

without_at_is : (h : ℕ → Option ℕ) (d p c q : ℕ) → without_holder_at h d p q ≡ Some c → h q ≡ Some c
without_at_is h d p c q = go (q == p)
  where
    go : (r : Bool) → (if r then without_holder h d q else h q) ≡ Some c → h q ≡ Some c
    go true e = without_is (h q) d c e
    go false e = e

without_if_is : (r : Bool) (h : ℕ → Option ℕ) (d c q : ℕ) → (if r then without_holder h d q else h q) ≡ Some c → h q ≡ Some c
without_if_is true h d c q e = without_is (h q) d c e
without_if_is false h d c q e = e

permitted_is : (h : ℕ → Option ℕ) (d p c q : ℕ) → d ≢ c → update h p (Some d) q ≡ Some c → h q ≡ Some c
permitted_is h d p c q ne e = grind (arith, ne, e)

holder_was : (st : Store) (d : ℕ) (t : Session) (m : SessionChange) (c q : ℕ) → d ≢ c → (store_after st d t m).holder q ≡ Some c → st.holder q ≡ Some c
holder_was st d t (Admit i) c q ne e = without_is (st.holder q) d c e
holder_was st d t (BeginTransaction x) c q ne e = without_if_is (nat_lt t.ended t.txn) st.holder d c q e
holder_was st d t (DropTransaction x) c q ne e = without_is (st.holder q) d c e
holder_was st d t (GrantRow p g) c q ne e = e
holder_was st d t (PermitWrite p g) c q ne e = permitted_is st.holder d p c q ne e
holder_was st d t (RemoveRow p g) c q ne e = go st.keep_write e
  where
    go : (r : Bool) → (if r then without_holder_at st.holder d p q else st.holder q) ≡ Some c → st.holder q ≡ Some c
    go true e = without_at_is st.holder d p c q e
    go false e = e
holder_was st d t (EndPermission p g x) c q ne e = without_at_is st.holder d p c q e
holder_was st d t (ApplyCommit x ws) c q ne e = go st.keep_write e
  where
    go : (r : Bool) → (if r then st.holder q else without_holder st.holder d q) ≡ Some c → st.holder q ≡ Some c
    go true e = e
    go false e = without_is (st.holder q) d c e

-- another client's session changes
passes_change : (s : Server) (c i d : ℕ) (m : SessionChange) → d ≢ c → OnlyGreeted s c i → OnlyGreeted (after_server_step s (ChangeSession d m)) c i
passes_change s c i d m ne o = record {
  current = ap (λ (t : Session). t.current) same ∙ o.current;
  no_row = λ p. ap (λ (t : Session). t.row p) same ∙ o.no_row p;
  no_permission = λ q e. o.no_permission q (holder_was s.store d (s.session d) m c q ne e);
  no_mark = o.no_mark;
  no_ask = o.no_ask;
  not_doomed = o.not_doomed;
  none_begun = ap (λ (t : Session). t.txn) same ∙ o.none_begun;
  none_ended = ap (λ (t : Session). t.ended) same ∙ o.none_ended;
  no_outcome = elsewhere s.outcome d c _ ne ∙ o.no_outcome;
}
  where
    same : update s.session d (session_after (s.session d) m) c ≡ s.session c
    same = elsewhere s.session d c (session_after (s.session d) m) ne

pushed_has : (c : ℕ) (a : WaitingAsk) (q : List WaitingAsk) → a.client ≢ c → HasAsk c (q ++ a ∷ []) → HasAsk c q
pushed_has c a [] ne h = elim h [ inl e ↦ absurd (ne e) | inr j ↦ j ]
pushed_has c a (b ∷ q) ne h = elim h [ inl e ↦ inl e | inr j ↦ inr (pushed_has c a q ne j) ]

passes_mark : (s : Server) (c i d p : ℕ) → d ≢ c → OnlyGreeted s c i → OnlyGreeted (after_server_step s (MarkInUse d p)) c i
passes_mark s c i d p ne o = record {
  current = o.current;
  no_row = o.no_row;
  no_permission = o.no_permission;
  no_mark = λ q. grind (arith, ne, o.no_mark q);
  no_ask = o.no_ask;
  not_doomed = o.not_doomed;
  none_begun = o.none_begun;
  none_ended = o.none_ended;
  no_outcome = o.no_outcome;
}

pub passes_kept : (c i : ℕ) → KeptUnder (Passes c) (λ k. OnlyGreeted k c i)
passes_kept c i s (ChangeSession d m) ds a o = passes_change s c i d m a o
passes_kept c i s (Send d j b) ds a o = o
passes_kept c i s (EnterQueue p x) ds a o = greeted_queue s c i p (s.queue p ++ x ∷ []) (pushed_has c x (s.queue p) a) o
passes_kept c i s (LeaveQueue p) ds a o = greeted_kept c i s (LeaveQueue p) ds tt o
passes_kept c i s (MarkCalledBack p) ds a o = greeted_kept c i s (MarkCalledBack p) ds tt o
passes_kept c i s (MarkDowngradeSent p t) ds a o = greeted_kept c i s (MarkDowngradeSent p t) ds tt o
passes_kept c i s (MarkInUse d p) ds a o = passes_mark s c i d p a o
passes_kept c i s (UnmarkInUse d p) ds a o = greeted_kept c i s (UnmarkInUse d p) ds tt o
passes_kept c i s (RemoveAsk d) ds a o = greeted_kept c i s (RemoveAsk d) ds tt o
passes_kept c i s (Doom d) ds a o = greeted_kept c i s (Doom d) ds a o
passes_kept c i s (ForgetTransaction d) ds a o = greeted_kept c i s (ForgetTransaction d) ds tt o
passes_kept c i s (SetFlushed n) ds a o = greeted_kept c i s (SetFlushed n) ds tt o

-- who has a row, or is write holder, is another
row_other : (s : Server) (c i n p g : ℕ) → OnlyGreeted s c i → (s.session n).row p ≡ Some g → n ≢ c
row_other s c i n p g o h e = let a : (s.session c).row p ≡ Some g = subst (λ (k : ℕ). (s.session k).row p ≡ Some g) e h in let b : None ≡ Some g = sym (o.no_row p) ∙ a in cc

passes_callbacks : (c i : ℕ) (s : Server) (skip : ℕ → Bool) (p a n : ℕ) → OnlyGreeted s c i → EachStep (Passes c) s (send_callbacks s skip p a n)
passes_callbacks c i s skip p a zero o = tt
passes_callbacks c i s skip p a (suc n) o =
    each_after_sends (Passes c) (passes_lasting c) s (send_callbacks s skip p a n) _
    (after_sends s (send_callbacks s skip p a n) (sends_callbacks s skip p a n))
    (passes_callbacks c i s skip p a n o) (go ((n == a) || skip n) ((s.session n).row p) refl)
  where
    go : (r : Bool) (u : Option ℕ) → (s.session n).row p ≡ u → EachStep (Passes c) s (if r then [] else send_callback s n p u)
    go true u e = tt
    go false None e = tt
    go false (Some g) e = (row_other s c i n p g o e, tt)

passes_downgrades : (c i : ℕ) (s : Server) (skip : ℕ → Bool) (p a : ℕ) (w : Option ℕ) → s.store.holder p ≡ w → OnlyGreeted s c i → EachStep (Passes c) s (send_downgrades s skip p a w)
passes_downgrades c i s skip p a None e o = tt
passes_downgrades c i s skip p a (Some d) e o = go (not (d == a) && not (is_live_permission s d p) && not (skip d)) ((s.session d).row p)
  where
    other : d ≢ c
    other q = o.no_permission p (subst (λ (k : ℕ). s.store.holder p ≡ Some k) q e)

    go : (u : Bool) (r : Option ℕ) → EachStep (Passes c) s (if u then send_downgrade s d p r else [])
    go true None = tt
    go true (Some g) = (other, tt)
    go false r = tt

-- settling
passes_refuse : (c : ℕ) (cycle : DeadlockTest) (s : Server) (d : ℕ) (ds : List ServerStep) → d ≢ c → EachStep (Passes c) s ds
    → EachStep (Passes c) s (decision_steps (wait_or_doom cycle s d ds))
passes_refuse c cycle s d ds n a = go (cycle (server_after s ds) d)
  where
    go : (r : Bool) → EachStep (Passes c) s (decision_steps (if r then Decided (ds ++ doom_client (server_after s ds) d) else Settled ds))
    go true = each_append (Passes c) (passes_lasting c) s ds (doom_client (server_after s ds) d) a (tt, (n, (n, tt)))
    go false = a

passes_calls_back : (c i : ℕ) (s : Server) (p : ℕ) (a : WaitingAsk) → OnlyGreeted s c i → EachStep (Passes c) s (call_back_once s p a)
passes_calls_back c i s p a o = go a.called_back
  where
    go : (r : Bool) → EachStep (Passes c) s (if r then [] else send_callbacks s nobody p a.client s.clients ++ MarkCalledBack p ∷ [])
    go true = tt
    go false = each_after_sends (Passes c) (passes_lasting c) s (send_callbacks s nobody p a.client s.clients) (MarkCalledBack p ∷ [])
        (after_sends s (send_callbacks s nobody p a.client s.clients) (sends_callbacks s nobody p a.client s.clients))
        (passes_callbacks c i s nobody p a.client s.clients o) (tt, tt)

passes_brings_down : (c i : ℕ) (s : Server) (p : ℕ) (a : WaitingAsk) → OnlyGreeted s c i → EachStep (Passes c) s (downgrade_once s p a)
passes_brings_down c i s p a o = go (s.store.keep_write && keeps_permission s p a.client (s.store.holder p) && not (is_exactly a.downgrade_sent (s.store.tag p)))
  where
    go : (r : Bool) → EachStep (Passes c) s (if r then send_downgrades s nobody p a.client (s.store.holder p) ++ MarkDowngradeSent p (s.store.tag p) ∷ [] else [])
    go true = each_after_sends (Passes c) (passes_lasting c) s (send_downgrades s nobody p a.client (s.store.holder p)) (MarkDowngradeSent p (s.store.tag p) ∷ [])
        (after_sends s (send_downgrades s nobody p a.client (s.store.holder p)) (sends_downgrades s nobody p a.client (s.store.holder p)))
        (passes_downgrades c i s nobody p a.client (s.store.holder p) refl o) (tt, tt)
    go false = tt

passes_decide : (c i : ℕ) (cycle : DeadlockTest) (s : Server) (p : ℕ) (q : List WaitingAsk) → (HasAsk c q → ⊥) → OnlyGreeted s c i
    → EachStep (Passes c) s (decision_steps (decide cycle s p q))
passes_decide c i cycle s p [] f o = tt
passes_decide c i cycle s p (a ∷ q) f o = kind_of a.write_grant
  where
    other : a.client ≢ c
    other e = f (inl e)

    reads : (u : Bool) → EachStep (Passes c) s (decision_steps (if u then Decided (grant_row s p a.client) else wait_or_doom cycle s a.client (downgrade_once s p a)))
    reads true = (other, (other, (tt, tt)))
    reads false = passes_refuse c cycle s a.client (downgrade_once s p a) other (passes_brings_down c i s p a o)

    writes : (g : ℕ) (u : Bool) → EachStep (Passes c) s (decision_steps (if u then Decided (permit_write s p a.client g) else wait_or_doom cycle s a.client (call_back_once s p a)))
    writes g true = (other, (other, (tt, tt)))
    writes g false = passes_refuse c cycle s a.client (call_back_once s p a) other (passes_calls_back c i s p a o)

    kind_of : (r : Option ℕ) → EachStep (Passes c) s (decision_steps (elim r [ None ↦ decide_read cycle s p a | Some g ↦ decide_write cycle s p a g ]))
    kind_of None = reads (no_other_holder (s.store.holder p) a.client && is_none ((s.session a.client).row p))
    kind_of (Some g) = writes g (no_other_holder (s.store.holder p) a.client && is_exactly ((s.session a.client).row p) g && sole_row s p a.client s.clients)

passes_settling : (c i : ℕ) (cycle : DeadlockTest) (s : Server) (n : ℕ) → OnlyGreeted s c i → EachStep (Passes c) s (settle_pages cycle s n)
passes_settling c i cycle s n o = each_settles cycle (Passes c) (passes_lasting c) (λ k. OnlyGreeted k c i) (passes_kept c i) (λ k p j. passes_decide c i cycle k p (k.queue p) (j.no_ask p) j) s n o

-- the direct answers to another client d
passes_enters : (c : ℕ) (cycle : DeadlockTest) (s : Server) (p : ℕ) (a : WaitingAsk) → a.client ≢ c → EachStep (Passes c) s (enter_queue cycle s p a)
passes_enters c cycle s p a ne = go (not (is_empty (s.queue p)) && cycle (after_server_step s (EnterQueue p a)) a.client)
  where
    go : (r : Bool) → EachStep (Passes c) s (if r then EnterQueue p a ∷ doom_client (after_server_step s (EnterQueue p a)) a.client else EnterQueue p a ∷ [])
    go true = (ne, (tt, (ne, (ne, tt))))
    go false = (ne, tt)

passes_ask_read : (c : ℕ) (cycle : DeadlockTest) (s : Server) (d p : ℕ) (r : Option ℕ) → d ≢ c → EachStep (Passes c) s (take_ask_read cycle s d p r)
passes_ask_read c cycle s d p (Some g) ne = (ne, tt)
passes_ask_read c cycle s d p None ne = go (has_waiting_ask s d s.pages)
  where
    go : (r : Bool) → EachStep (Passes c) s (if r then [] else enter_queue cycle s p (new_ask d None))
    go true = tt
    go false = passes_enters c cycle s p (new_ask d None) ne

passes_ask_write : (c : ℕ) (cycle : DeadlockTest) (s : Server) (d p g : ℕ) → d ≢ c → EachStep (Passes c) s (take_ask_write cycle s d p g)
passes_ask_write c cycle s d p g ne = go (is_exactly ((s.session d).row p) g) (is_exactly (s.store.holder p) d) (has_waiting_ask s d s.pages)
  where
    go : (r u v : Bool) → EachStep (Passes c) s (if not r then [] else if u then ChangeSession d (PermitWrite p g) ∷ send_to s d (MayWrite (s.session d).txn p g) ∷ [] else if v then [] else enter_queue cycle s p (new_ask d (Some g)))
    go false u v = tt
    go true true v = (ne, (ne, tt))
    go true false true = tt
    go true false false = passes_enters c cycle s p (new_ask d (Some g)) ne

passes_live : (c : ℕ) (s : Server) (d t : ℕ) (ds : List ServerStep) → d ≢ c → EachStep (Passes c) s ds → EachStep (Passes c) s (if_live s d t ds)
passes_live c s d t ds ne a = go (nat_lt (s.session d).ended t) (s.doomed d)
  where
    go : (r u : Bool) → EachStep (Passes c) s (if r then (if u then send_to s d (AbortNow t) ∷ [] else ds) else [])
    go true true = (ne, tt)
    go true false = a
    go false u = tt

passes_repeats : (c : ℕ) (s : Server) (d t : ℕ) (o : Option ℕ) → d ≢ c → EachStep (Passes c) s (repeat_done s d t o)
passes_repeats c s d t None ne = tt
passes_repeats c s d t (Some n) ne = go (nat_le n s.flushed)
  where
    go : (r : Bool) → EachStep (Passes c) s (if r then send_to s d (Done t n) ∷ [] else [])
    go true = (ne, tt)
    go false = tt

passes_answers : (c : ℕ) (cycle : DeadlockTest) (s : Server) (d : ℕ) (b : Body) → d ≢ c → EachStep (Passes c) s (direct_answer cycle s d b)
passes_answers c cycle s d (AskRead t p) ne = passes_live c s d t _ ne (passes_ask_read c cycle s d p ((s.session d).row p) ne)
passes_answers c cycle s d (AskWrite t p g) ne = passes_live c s d t _ ne (passes_ask_write c cycle s d p g ne)
passes_answers c cycle s d (GiveBack p g) ne = go (is_exactly ((s.session d).row p) g)
  where
    go : (r : Bool) → EachStep (Passes c) s (if r then UnmarkInUse d p ∷ ChangeSession d (RemoveRow p g) ∷ [] else [])
    go true = (tt, (ne, tt))
    go false = tt
passes_answers c cycle s d (InUse t p g) ne = go (nat_lt (s.session d).ended t && is_exactly ((s.session d).row p) g)
  where
    go : (r : Bool) → EachStep (Passes c) s (if r then MarkInUse d p ∷ [] else [])
    go true = (ne, tt)
    go false = tt
passes_answers c cycle s d (Commit t ws) ne = go (nat_lt (s.session d).ended t) (s.doomed d) (commit_allowed s d ws) (t == (s.session d).ended)
  where
    go : (r u v w : Bool) → EachStep (Passes c) s (if r then (if u then send_to s d (AbortNow t) ∷ [] else if v then ForgetTransaction d ∷ ChangeSession d (ApplyCommit t ws) ∷ [] else []) else if w then repeat_done s d t (s.outcome d) else [])
    go true true v w = (ne, tt)
    go true false true w = (tt, (ne, tt))
    go true false false w = tt
    go false u v true = passes_repeats c s d t (s.outcome d) ne
    go false u v false = tt
passes_answers c cycle s d (Drop t) ne = go (nat_lt (s.session d).ended t)
  where
    go : (r : Bool) → EachStep (Passes c) s (if r then ForgetTransaction d ∷ ChangeSession d (DropTransaction t) ∷ [] else [])
    go true = (tt, (ne, tt))
    go false = tt
passes_answers c cycle s d (Downgraded p g t) ne = go (s.store.keep_write && is_exactly ((s.session d).row p) g && is_exactly (s.store.holder p) d && (s.store.tag p == t))
  where
    go : (r : Bool) → EachStep (Passes c) s (if r then ChangeSession d (EndPermission p g t) ∷ [] else [])
    go true = (ne, tt)
    go false = tt
passes_answers c cycle s d _ ne = tt

passes_begins : (c : ℕ) (s : Server) (d t : ℕ) → d ≢ c → EachStep (Passes c) s (begin_transaction s d t)
passes_begins c s d t ne = go (nat_lt (s.session d).txn t)
  where
    go : (r : Bool) → EachStep (Passes c) s (if r then ForgetTransaction d ∷ ChangeSession d (BeginTransaction t) ∷ [] else [])
    go true = (tt, (ne, tt))
    go false = tt

passes_current : (c i : ℕ) (cycle : DeadlockTest) (s : Server) (d j : ℕ) (b : Body) → d ≢ c → OnlyGreeted s c i → EachStep (Passes c) s (if j == (s.session d).current then take_current cycle s d b else [])
passes_current c i cycle s d j b ne o = go (j == (s.session d).current)
  where
    m : Server
    m = server_after s (begin_transaction s d (named_txn b))

    a : Server
    a = server_after m (direct_answer cycle m d b)

    begun : OnlyGreeted (server_after s (begin_transaction s d (named_txn b))) c i
    begun = kept_by_each (Passes c) (λ k. OnlyGreeted k c i) (passes_kept c i) s (begin_transaction s d (named_txn b)) (passes_begins c s d (named_txn b) ne) o

    answered : OnlyGreeted a c i
    answered = kept_by_each (Passes c) (λ k. OnlyGreeted k c i) (passes_kept c i) m (direct_answer cycle m d b) (passes_answers c cycle m d b ne) begun

    go : (r : Bool) → EachStep (Passes c) s (if r then take_current cycle s d b else [])
    go true = each_append (Passes c) (passes_lasting c) s (begin_transaction s d (named_txn b)) _ (passes_begins c s d (named_txn b) ne)
        (each_append (Passes c) (passes_lasting c) m (direct_answer cycle m d b) _ (passes_answers c cycle m d b ne) (passes_settling c i cycle a a.pages answered))
    go false = tt

passes_hello : (c i : ℕ) (cycle : DeadlockTest) (s : Server) (d j : ℕ) → d ≢ c → OnlyGreeted s c i → EachStep (Passes c) s (server_take cycle s d j Hello)
unfolding server_take
passes_hello c i cycle s d j ne o = go (nat_lt (s.session d).current j) (j == (s.session d).current)
  where
    admits : List ServerStep
    admits = ForgetTransaction d ∷ ChangeSession d (Admit j) ∷ Send d j Welcome ∷ []

    admitted : Server
    admitted = server_after s (ForgetTransaction d ∷ ChangeSession d (Admit j) ∷ Send d j Welcome ∷ [])

    still : OnlyGreeted admitted c i
    still = kept_by_each (Passes c) (λ k. OnlyGreeted k c i) (passes_kept c i) s (ForgetTransaction d ∷ ChangeSession d (Admit j) ∷ Send d j Welcome ∷ []) (tt, (ne, (ne, tt))) o

    go : (r u : Bool) → EachStep (Passes c) s (if r then admit_incarnation cycle s d j else if u then Send d j Welcome ∷ [] else [])
    go true u = (tt, (ne, (ne, passes_settling c i cycle admitted s.pages still)))
    go false true = (ne, tt)
    go false false = tt

-- a message of another client
pub passes_take : (c i : ℕ) (cycle : DeadlockTest) (s : Server) (d j : ℕ) (b : Body) → d ≢ c → OnlyGreeted s c i → EachStep (Passes c) s (server_take cycle s d j b)
unfolding server_take
passes_take c i cycle s d j Hello ne o = passes_hello c i cycle s d j ne o
passes_take c i cycle s d j b ne o = passes_current c i cycle s d j b ne o

-- resending
passes_again_pages : (c i : ℕ) (s : Server) (n : ℕ) → OnlyGreeted s c i → EachStep (Passes c) s (again_pages s n)
passes_again_pages c i s zero o = tt
passes_again_pages c i s (suc n) o = each_after_sends (Passes c) (passes_lasting c) s (again_pages s n) _
    (after_sends s (again_pages s n) (tells_only s.flushed (again_pages s n) (tells_again_pages s.flushed s n)))
    (passes_again_pages c i s n o) (page (s.queue n))
  where
    page : (q : List WaitingAsk) → EachStep (Passes c) s (again_page s n q)
    page [] = tt
    page (a ∷ q) = go (is_none a.write_grant) s.store.keep_write
      where
        go : (r u : Bool) → EachStep (Passes c) s (if r then (if u then send_downgrades s (λ d. s.in_use d n) n a.client (s.store.holder n) else []) else send_callbacks s (λ d. s.in_use d n) n a.client s.clients)
        go true true = passes_downgrades c i s (λ d. s.in_use d n) n a.client (s.store.holder n) refl o
        go true false = tt
        go false u = passes_callbacks c i s (λ d. s.in_use d n) n a.client s.clients o

doomed_other : (s : Server) (c i n : ℕ) → OnlyGreeted s c i → s.doomed n ≡ true → n ≢ c
doomed_other s c i n o h e = let a : s.doomed c ≡ true = subst (λ (k : ℕ). s.doomed k ≡ true) e h in let b : false ≡ true = sym o.not_doomed ∙ a in cc

passes_again_doomed : (c i : ℕ) (s : Server) (n : ℕ) → OnlyGreeted s c i → EachStep (Passes c) s (again_doomed s n)
passes_again_doomed c i s zero o = tt
passes_again_doomed c i s (suc n) o = each_after_sends (Passes c) (passes_lasting c) s (again_doomed s n) _
    (after_sends s (again_doomed s n) (tells_only s.flushed (again_doomed s n) (tells_again_doomed s.flushed s n)))
    (passes_again_doomed c i s n o) (go (s.doomed n) refl)
  where
    go : (r : Bool) → s.doomed n ≡ r → EachStep (Passes c) s (if r then send_to s n (AbortNow (s.session n).txn) ∷ [] else [])
    go true e = (doomed_other s c i n o e, tt)
    go false e = tt

pub passes_again : (c i : ℕ) (s : Server) → OnlyGreeted s c i → EachStep (Passes c) s (server_again s)
passes_again c i s o = each_after_sends (Passes c) (passes_lasting c) s (again_pages s s.pages) (again_doomed s s.clients)
    (after_sends s (again_pages s s.pages) (tells_only s.flushed (again_pages s s.pages) (tells_again_pages s.flushed s s.pages)))
    (passes_again_pages c i s s.pages o) (passes_again_doomed c i s s.clients o)

-- a flush, where the client committed nothing
passes_dones : (c : ℕ) (s : Server) (xs : List AppliedCommit) (m n : ℕ) → ((x : AppliedCommit) → IsIn x xs → x.client ≢ c) → EachStep (Passes c) s (dones_between xs m n)
passes_dones c s [] m n f = tt
passes_dones c s (x ∷ xs) m n f = each_after_sends (Passes c) (passes_lasting c) s (dones_between xs m n) _
    (after_sends s (dones_between xs m n) (tells_only n (dones_between xs m n) (tells_dones xs m n)))
    (passes_dones c s xs m n (λ y i. f y (inr i))) (go (nat_lt m x.number && nat_le x.number n))
  where
    go : (r : Bool) → EachStep (Passes c) s (if r then Send x.client x.incarnation (Done x.txn x.number) ∷ [] else [])
    go true = (f x (inl refl), tt)
    go false = tt

pub passes_flush : (c : ℕ) (s : Server) (n : ℕ) → ((x : AppliedCommit) → IsIn x s.commits → x.client ≢ c) → EachStep (Passes c) s (server_flush s n)
passes_flush c s n f = each_append (Passes c) (passes_lasting c) s (dones_between s.commits s.flushed n) (SetFlushed n ∷ []) (passes_dones c s s.commits s.flushed n f) (tt, tt)

-- and it has nothing afterwards
pub greeted_after : (c i : ℕ) (s : Server) (ds : List ServerStep) → EachStep (Passes c) s ds → OnlyGreeted s c i → OnlyGreeted (server_after s ds) c i
greeted_after c i s ds a o = kept_by_each (Passes c) (λ k. OnlyGreeted k c i) (passes_kept c i) s ds a o
