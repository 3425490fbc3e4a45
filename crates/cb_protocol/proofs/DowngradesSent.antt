-- Downgrades for one ask are of rising tags.
use Rattle.std.proofs.Common.{◌≡◌, ◌∙◌, ℕ, ◌<◌, ◌≤◌, Bool, true, false, not, ◌==◌, ◌&&◌, nat_lt, nat_le, if◌then◌else◌, ◌≢◌, ◌⊎◌, List, [], ◌∷◌, ◌++◌, Option, Some, None, ap, arith, refl, sym, subst, inl, inr}
use Rattle.std.specs.Prelude.{⊤}
use Rattle.cb_protocol.specs.World.{Opening}
use Rattle.cb_protocol.specs.AnyMessages.{Input, MessageComes, ReachesDisk, SendsAgain, input_steps, AfterInput, Opened, ReachedBy}
use Rattle.cb_protocol.specs.AskLaws.{IsFirst}
use Rattle.cb_protocol.specs.Basics.{is_exactly, is_none, update, Limits}
use Rattle.cb_protocol.specs.Deadlock.{InputInRange, ReachedServer}
use Rattle.cb_protocol.specs.Downgrades.{DowngradeIsDue, DowngradesRise, HolderStaysWhileReadWaits}
use Rattle.cb_protocol.specs.Flush.{dones_between}
use Rattle.cb_protocol.specs.Messages.{AbortNow, AskRead, AskWrite, Body, Commit, Done, Downgrade, Downgraded, Drop, GiveBack, Hello, InUse, MayWrite, Welcome}
use Rattle.cb_protocol.specs.Resend.{again_doomed, again_pages, server_again}
use Rattle.cb_protocol.specs.Server.{ChangeSession, DeadlockTest, Doom, EnterQueue, ForgetTransaction, LeaveQueue, MarkCalledBack, MarkDowngradeSent, MarkInUse, RemoveAsk, Send, Server, ServerStep, SetFlushed, UnmarkInUse, WaitingAsk, after_first, after_server_step, server_after, set_called_back, set_downgrade_sent, without_client}
use Rattle.cb_protocol.specs.ServerMessages.{admit_incarnation, begin_transaction, commit_allowed, direct_answer, enter_queue, has_waiting_ask, if_live, is_empty, named_txn, new_ask, repeat_done, server_take, take_ask_read, take_ask_write, take_current}
use Rattle.cb_protocol.specs.Session.{Admit, ApplyCommit, BeginTransaction, DropTransaction, EndPermission, GrantRow, PermitWrite, RemoveRow, SessionChange}
use Rattle.cb_protocol.specs.Settling.{Decided, Settled, call_back_once, decide, decide_read, decide_write, decision_steps, doom_client, downgrade_once, grant_row, keeps_permission, no_other_holder, nobody, permit_write, send_callbacks, send_downgrade, send_downgrades, send_to, settle_pages, sole_row, wait_or_doom}
use Rattle.cb_protocol.specs.WaitsFor.{on_cycle}
use Rattle.cb_protocol.proofs.LivePermissions.{AnyMessage, right_input}
use Rattle.cb_protocol.proofs.Machine.{ServerMayChange}
use Rattle.cb_protocol.proofs.MarksKept.{orderly}
use Rattle.cb_protocol.proofs.NoCycles.{sends_dones, sends_doomed, sends_pages}
use Rattle.cb_protocol.proofs.ServerOrder.{ServerStepMay, ServerStepsMay}
use Rattle.cb_protocol.proofs.ServerWalks.{EachStep, Lasting, StepRule, each_after_sends, each_append, each_callbacks, each_settles, each_there}
use Rattle.cb_protocol.proofs.SettlingAgain.{append_nil}
use Rattle.cb_protocol.proofs.SettlingClears.{OnlySends, after_sends, put_there, sends_append, sends_callbacks}
use Rattle.cb_protocol.proofs.SettlingRight.{is_some_is}

-- a Downgrade is for the first ask, of the page's tag, not the one sent last, and noted at once
record IsForFirst (s : Server) (d p t : ℕ) (ds : List ServerStep) : Type 0 where
  first : WaitingAsk
  others : List WaitingAsk
  queue : s.queue p ≡ first ∷ others
  reads : first.write_grant ≡ None
  holder : s.store.holder p ≡ Some d
  tag : s.store.tag p ≡ t
  fresh : is_exactly first.downgrade_sent t ≡ false
  more : List ServerStep
  noted : ds ≡ MarkDowngradeSent p t ∷ more

-- only the first write ask and the holder are permitted
abbrev Permits : Server → ℕ → SessionChange → Type 0
Permits s c (PermitWrite p g) = ((x : ℕ) × IsFirst s p c (Some x)) ⊎ (s.store.holder p ≡ Some c)
Permits s c _ = ⊤

abbrev Says : Server → ℕ → Body → List ServerStep → Type 0
Says s d (Downgrade p g t) ds = IsForFirst s d p t ds
Says s d _ ds = ⊤

-- what each step of a message meets
abbrev Downs : StepRule
Downs s (ChangeSession c m) ds = Permits s c m
Downs s (EnterQueue p a) ds = a.downgrade_sent ≡ None
Downs s (MarkDowngradeSent p t) ds = ((c : ℕ) × IsFirst s p c None) × (s.store.tag p ≡ t)
Downs s (Send d i b) ds = Says s d b ds
Downs s _ ds = ⊤

says_lasting : (s : Server) (d : ℕ) (b : Body) (xs ys : List ServerStep) → Says s d b xs → Says s d b (xs ++ ys)
says_lasting s d (Downgrade p g t) xs ys a = record { first = a.first; others = a.others; queue = a.queue; reads = a.reads; holder = a.holder; tag = a.tag; fresh = a.fresh; more = a.more ++ ys; noted = ap (λ (zs : List ServerStep). zs ++ ys) a.noted }
says_lasting s d _ xs ys a = a

downs_lasting : Lasting Downs
downs_lasting s (Send d i b) xs ys a = says_lasting s d b xs ys a
downs_lasting s _ xs ys a = a

downs_refuse : (cycle : DeadlockTest) (s : Server) (c : ℕ) (ds : List ServerStep) → EachStep Downs s ds → EachStep Downs s (decision_steps (wait_or_doom cycle s c ds))
downs_refuse cycle s c ds a = go (cycle (server_after s ds) c)
  where
    go : (r : Bool) → EachStep Downs s (decision_steps (if r then Decided (ds ++ doom_client (server_after s ds) c) else Settled ds))
    go true = each_append Downs downs_lasting s ds (doom_client (server_after s ds) c) a (tt, (tt, (tt, tt)))
    go false = a

downs_call_back : (s : Server) (p : ℕ) (a : WaitingAsk) → EachStep Downs s (call_back_once s p a)
downs_call_back s p a = go a.called_back
  where
    go : (r : Bool) → EachStep Downs s (if r then [] else send_callbacks s nobody p a.client s.clients ++ MarkCalledBack p ∷ [])
    go true = tt
    go false = each_after_sends Downs downs_lasting s (send_callbacks s nobody p a.client s.clients) (MarkCalledBack p ∷ [])
        (after_sends s (send_callbacks s nobody p a.client s.clients) (sends_callbacks s nobody p a.client s.clients))
        (each_callbacks Downs downs_lasting s nobody p a.client s.clients (λ d i g. tt)) (tt, tt)

downs_bring_down : (s : Server) (p : ℕ) (a : WaitingAsk) (q : List WaitingAsk) → s.queue p ≡ a ∷ q → a.write_grant ≡ None → EachStep Downs s (downgrade_once s p a)
downs_bring_down s p a q e w = go s.store.keep_write (keeps_permission s p a.client (s.store.holder p)) (is_exactly a.downgrade_sent (s.store.tag p)) refl
  where
    mark : List ServerStep
    mark = MarkDowngradeSent p (s.store.tag p) ∷ []

    note : EachStep Downs s mark
    note = (((a.client, (a, q, e, refl, w)), refl), tt)

    one : is_exactly a.downgrade_sent (s.store.tag p) ≡ false → (d : ℕ) → s.store.holder p ≡ Some d → (r : Option ℕ) → EachStep Downs s (send_downgrade s d p r ++ mark)
    one f d h None = note
    one f d h (Some g) = (record { first = a; others = q; queue = e; reads = w; holder = h; tag = refl; fresh = f; more = []; noted = refl }, note)

    some : is_exactly a.downgrade_sent (s.store.tag p) ≡ false → (d : ℕ) → s.store.holder p ≡ Some d → (u : Bool) → EachStep Downs s ((if u then send_downgrade s d p ((s.session d).row p) else []) ++ mark)
    some f d h true = one f d h ((s.session d).row p)
    some f d h false = note

    down : is_exactly a.downgrade_sent (s.store.tag p) ≡ false → (w : Option ℕ) → s.store.holder p ≡ w → EachStep Downs s (send_downgrades s nobody p a.client w ++ mark)
    down f None h = note
    down f (Some d) h = some f d h (keeps_permission s p a.client (Some d) && not (nobody d))

    go : (k u v : Bool) → is_exactly a.downgrade_sent (s.store.tag p) ≡ v → EachStep Downs s (if k && u && not v then send_downgrades s nobody p a.client (s.store.holder p) ++ mark else [])
    go true true false f = down f (s.store.holder p) refl
    go true true true f = tt
    go true false v f = tt
    go false u v f = tt

downs_decide : (cycle : DeadlockTest) (s : Server) (p : ℕ) (q : List WaitingAsk) → s.queue p ≡ q → EachStep Downs s (decision_steps (decide cycle s p q))
downs_decide cycle s p [] e = tt
downs_decide cycle s p (a ∷ q) e = kind_of a.write_grant refl
  where
    reads : a.write_grant ≡ None → (u : Bool) → EachStep Downs s (decision_steps (if u then Decided (grant_row s p a.client) else wait_or_doom cycle s a.client (downgrade_once s p a)))
    reads k true = (tt, (tt, (tt, tt)))
    reads k false = downs_refuse cycle s a.client (downgrade_once s p a) (downs_bring_down s p a q e k)

    writes : (g : ℕ) → a.write_grant ≡ Some g → (u : Bool) → EachStep Downs s (decision_steps (if u then Decided (permit_write s p a.client g) else wait_or_doom cycle s a.client (call_back_once s p a)))
    writes g k true = (inl (g, (a, q, e, refl, k)), (tt, (tt, tt)))
    writes g k false = downs_refuse cycle s a.client (call_back_once s p a) (downs_call_back s p a)

    kind_of : (r : Option ℕ) → a.write_grant ≡ r → EachStep Downs s (decision_steps (elim r [ None ↦ decide_read cycle s p a | Some g ↦ decide_write cycle s p a g ]))
    kind_of None k = reads k (no_other_holder (s.store.holder p) a.client && is_none ((s.session a.client).row p))
    kind_of (Some g) k = writes g k (no_other_holder (s.store.holder p) a.client && is_exactly ((s.session a.client).row p) g && sole_row s p a.client s.clients)

downs_settle : (cycle : DeadlockTest) (s : Server) (n : ℕ) → EachStep Downs s (settle_pages cycle s n)
downs_settle cycle s n = each_settles cycle Downs downs_lasting (λ k. ⊤) (λ k d ds a i. tt) (λ k p i. downs_decide cycle k p (k.queue p) refl) s n tt

-- the direct answers
downs_enters : (cycle : DeadlockTest) (s : Server) (p c : ℕ) (w : Option ℕ) → EachStep Downs s (enter_queue cycle s p (new_ask c w))
downs_enters cycle s p c w = go (not (is_empty (s.queue p)) && cycle (after_server_step s (EnterQueue p (new_ask c w))) c)
  where
    go : (r : Bool) → EachStep Downs s (if r then EnterQueue p (new_ask c w) ∷ doom_client (after_server_step s (EnterQueue p (new_ask c w))) c else EnterQueue p (new_ask c w) ∷ [])
    go true = (refl, (tt, (tt, (tt, tt))))
    go false = (refl, tt)

downs_ask_read : (cycle : DeadlockTest) (s : Server) (c p : ℕ) (r : Option ℕ) → EachStep Downs s (take_ask_read cycle s c p r)
downs_ask_read cycle s c p (Some g) = (tt, tt)
downs_ask_read cycle s c p None = go (has_waiting_ask s c s.pages)
  where
    go : (r : Bool) → EachStep Downs s (if r then [] else enter_queue cycle s p (new_ask c None))
    go true = tt
    go false = downs_enters cycle s p c None

downs_ask_write : (cycle : DeadlockTest) (s : Server) (c p g : ℕ) → EachStep Downs s (take_ask_write cycle s c p g)
downs_ask_write cycle s c p g = go (is_exactly ((s.session c).row p) g) (is_exactly (s.store.holder p) c) refl (has_waiting_ask s c s.pages)
  where
    go : (r u : Bool) → is_exactly (s.store.holder p) c ≡ u → (v : Bool) → EachStep Downs s (if not r then [] else if u then ChangeSession c (PermitWrite p g) ∷ send_to s c (MayWrite (s.session c).txn p g) ∷ [] else if v then [] else enter_queue cycle s p (new_ask c (Some g)))
    go false u f v = tt
    go true true f v = (inr (is_some_is (s.store.holder p) c f), (tt, tt))
    go true false f true = tt
    go true false f false = downs_enters cycle s p c (Some g)

downs_live : (s : Server) (c t : ℕ) (ds : List ServerStep) → EachStep Downs s ds → EachStep Downs s (if_live s c t ds)
downs_live s c t ds a = go (nat_lt (s.session c).ended t) (s.doomed c)
  where
    go : (r u : Bool) → EachStep Downs s (if r then (if u then send_to s c (AbortNow t) ∷ [] else ds) else [])
    go true true = (tt, tt)
    go true false = a
    go false u = tt

downs_answer : (cycle : DeadlockTest) (s : Server) (c : ℕ) (b : Body) → EachStep Downs s (direct_answer cycle s c b)
downs_answer cycle s c (AskRead t p) = downs_live s c t _ (downs_ask_read cycle s c p ((s.session c).row p))
downs_answer cycle s c (AskWrite t p g) = downs_live s c t _ (downs_ask_write cycle s c p g)
downs_answer cycle s c (GiveBack p g) = go (is_exactly ((s.session c).row p) g)
  where
    go : (r : Bool) → EachStep Downs s (if r then UnmarkInUse c p ∷ ChangeSession c (RemoveRow p g) ∷ [] else [])
    go true = (tt, (tt, tt))
    go false = tt
downs_answer cycle s c (InUse t p g) = go (nat_lt (s.session c).ended t && is_exactly ((s.session c).row p) g)
  where
    go : (r : Bool) → EachStep Downs s (if r then MarkInUse c p ∷ [] else [])
    go true = (tt, tt)
    go false = tt
downs_answer cycle s c (Commit t ws) = go (nat_lt (s.session c).ended t) (s.doomed c) (commit_allowed s c ws) (t == (s.session c).ended)
  where
    again : (r : Option ℕ) → EachStep Downs s (repeat_done s c t r)
    again None = tt
    again (Some m) = flush (nat_le m s.flushed)
      where
        flush : (r : Bool) → EachStep Downs s (if r then send_to s c (Done t m) ∷ [] else [])
        flush true = (tt, tt)
        flush false = tt

    go : (r u v w : Bool) → EachStep Downs s (if r then (if u then send_to s c (AbortNow t) ∷ [] else if v then ForgetTransaction c ∷ ChangeSession c (ApplyCommit t ws) ∷ [] else []) else if w then repeat_done s c t (s.outcome c) else [])
    go true true v w = (tt, tt)
    go true false true w = (tt, (tt, tt))
    go true false false w = tt
    go false u v true = again (s.outcome c)
    go false u v false = tt
downs_answer cycle s c (Drop t) = go (nat_lt (s.session c).ended t)
  where
    go : (r : Bool) → EachStep Downs s (if r then ForgetTransaction c ∷ ChangeSession c (DropTransaction t) ∷ [] else [])
    go true = (tt, (tt, tt))
    go false = tt
downs_answer cycle s c (Downgraded p g t) = go (s.store.keep_write && is_exactly ((s.session c).row p) g && is_exactly (s.store.holder p) c && (s.store.tag p == t))
  where
    go : (r : Bool) → EachStep Downs s (if r then ChangeSession c (EndPermission p g t) ∷ [] else [])
    go true = (tt, tt)
    go false = tt
downs_answer cycle s c _ = tt

downs_begin : (s : Server) (c t : ℕ) → EachStep Downs s (begin_transaction s c t)
downs_begin s c t = go (nat_lt (s.session c).txn t)
  where
    go : (r : Bool) → EachStep Downs s (if r then ForgetTransaction c ∷ ChangeSession c (BeginTransaction t) ∷ [] else [])
    go true = (tt, (tt, tt))
    go false = tt

downs_current : (cycle : DeadlockTest) (s : Server) (c i : ℕ) (b : Body) → EachStep Downs s (if i == (s.session c).current then take_current cycle s c b else [])
downs_current cycle s c i b = go (i == (s.session c).current)
  where
    m : Server
    m = server_after s (begin_transaction s c (named_txn b))

    a : Server
    a = server_after m (direct_answer cycle m c b)

    go : (r : Bool) → EachStep Downs s (if r then take_current cycle s c b else [])
    go true = each_append Downs downs_lasting s (begin_transaction s c (named_txn b)) _ (downs_begin s c (named_txn b))
        (each_append Downs downs_lasting m (direct_answer cycle m c b) _ (downs_answer cycle m c b) (downs_settle cycle a a.pages))
    go false = tt

downs_hello : (cycle : DeadlockTest) (s : Server) (c i : ℕ) → EachStep Downs s (server_take cycle s c i Hello)
unfolding server_take
downs_hello cycle s c i = go (nat_lt (s.session c).current i) (i == (s.session c).current)
  where
    go : (r u : Bool) → EachStep Downs s (if r then admit_incarnation cycle s c i else if u then Send c i Welcome ∷ [] else [])
    go true u = (tt, (tt, (tt, downs_settle cycle _ s.pages)))
    go false true = (tt, tt)
    go false false = tt

downs : (cycle : DeadlockTest) (s : Server) (c i : ℕ) (b : Body) → EachStep Downs s (server_take cycle s c i b)
unfolding server_take
downs cycle s c i Hello = downs_hello cycle s c i
downs cycle s c i b = downs_current cycle s c i b

-- what is sent for the asks of a queue: for the first alone, one to read, up to the page's tag
abbrev NoneSent : List WaitingAsk → Type 0
NoneSent [] = ⊤
NoneSent (a ∷ q) = (a.downgrade_sent ≡ None) × NoneSent q

abbrev FirstSent : Server → ℕ → List WaitingAsk → Type 0
FirstSent s p [] = ⊤
FirstSent s p (a ∷ q) = ((u : ℕ) → a.downgrade_sent ≡ Some u → (a.write_grant ≡ None) × ((d : ℕ) → s.store.holder p ≡ Some d → u ≤ s.store.tag p)) × NoneSent q

record Sent (s : Server) : Type 0 where
  tagged : (p d : ℕ) → s.store.holder p ≡ Some d → s.store.tag p ≤ (s.session d).txn
  first : (p : ℕ) → FirstSent s p (s.queue p)

none_first : (s : Server) (p : ℕ) (q : List WaitingAsk) → NoneSent q → FirstSent s p q
none_first s p [] n = tt
none_first s p (a ∷ q) n = (λ u e. absurd (let z = n.0 in cc), n.1)

none_without : (c : ℕ) (q : List WaitingAsk) → NoneSent q → NoneSent (without_client c q)
none_without c [] n = tt
none_without c (a ∷ q) n = go (a.client == c) (none_without c q n.1)
  where
    go : (r : Bool) → NoneSent (without_client c q) → NoneSent (if r then without_client c q else a ∷ without_client c q)
    go true m = m
    go false m = (n.0, m)

first_without : (s : Server) (p c : ℕ) (q : List WaitingAsk) → FirstSent s p q → FirstSent s p (without_client c q)
first_without s p c [] f = tt
first_without s p c (a ∷ q) f = go (a.client == c) (none_without c q f.1)
  where
    go : (r : Bool) → NoneSent (without_client c q) → FirstSent s p (if r then without_client c q else a ∷ without_client c q)
    go true m = none_first s p (without_client c q) m
    go false m = (f.0, m)

none_push : (q : List WaitingAsk) (w : WaitingAsk) → w.downgrade_sent ≡ None → NoneSent q → NoneSent (q ++ w ∷ [])
none_push [] w e n = (e, tt)
none_push (a ∷ q) w e n = (n.0, none_push q w e n.1)

first_push : (s : Server) (p : ℕ) (q : List WaitingAsk) (w : WaitingAsk) → w.downgrade_sent ≡ None → FirstSent s p q → FirstSent s p (q ++ w ∷ [])
first_push s p [] w e f = none_first s p (w ∷ []) (e, tt)
first_push s p (a ∷ q) w e f = (f.0, none_push q w e f.1)

first_rest : (s : Server) (p : ℕ) (q : List WaitingAsk) → FirstSent s p q → FirstSent s p (after_first q)
first_rest s p [] f = tt
first_rest s p (a ∷ q) f = none_first s p q f.1

first_called : (s : Server) (p : ℕ) (q : List WaitingAsk) → FirstSent s p q → FirstSent s p (set_called_back q)
first_called s p [] f = tt
first_called s p (a ∷ q) f = f

first_marked : (s : Server) (p t c : ℕ) (q : List WaitingAsk) → s.queue p ≡ q → IsFirst s p c None → s.store.tag p ≡ t → FirstSent s p q → FirstSent s p (set_downgrade_sent t q)
first_marked s p t c [] e i g f = tt
first_marked s p t c (a ∷ q) e i g f = (λ u z. (reads, λ d h. let y : t ≡ u = cc in omega arith), f.1)
  where
    reads : a.write_grant ≡ None
    reads = let z : a ∷ q ≡ i.0 ∷ i.1 = sym e ∙ i.2 in let y : a ≡ i.0 = cc in rw y i.4

-- the store changes
first_store : (s t : Server) (p : ℕ) (q : List WaitingAsk) → ((d : ℕ) → t.store.holder p ≡ Some d → (s.store.holder p ≡ Some d) × (s.store.tag p ≤ t.store.tag p)) → FirstSent s p q → FirstSent t p q
first_store s t p [] g f = tt
first_store s t p (a ∷ q) g f = (λ u e. ((f.0 u e).0, λ d h. let x = g d h in let y = (f.0 u e).1 d x.0 in let z = x.1 in omega arith), f.1)

-- one queue changes
sent_put : (s : Server) (p : ℕ) (q : List WaitingAsk) → Sent s → FirstSent s p q → Sent (record s { queue = update s.queue p q })
sent_put s p q m f = record { tagged = m.tagged; first = λ r. go r (r == p) refl }
  where
    same : (r : ℕ) → (r == p) ≡ true → p ≡ r
    same r e = grind arith

    go : (r : ℕ) (u : Bool) → (r == p) ≡ u → FirstSent s r (if u then q else s.queue r)
    go r true e = subst (λ (x : ℕ). FirstSent s x q) (same r e) f
    go r false e = m.first r

-- while a read ask is first, the holder stays and its tag rises
holder_stays : (s : Server) (x : ServerStep) (ds : List ServerStep) → ServerStepMay AnyMessage s x → Downs s x ds → Sent s → (p r d : ℕ) → IsFirst s p r None → (after_server_step s x).store.holder p ≡ Some d
    → (s.store.holder p ≡ Some d) × (s.store.tag p ≤ (after_server_step s x).store.tag p)
holder_stays s (ChangeSession c (PermitWrite q g)) ds a u m p r d i e = go u
  where
    other : q ≢ p → (s.store.holder p ≡ Some d) × (s.store.tag p ≤ update s.store.tag q (s.session c).txn p)
    other n = (grind arith, grind arith)

    here : q ≡ p → s.store.holder p ≡ Some c → (s.store.holder p ≡ Some d) × (s.store.tag p ≤ update s.store.tag q (s.session c).txn p)
    here n h = (grind arith, grind (arith, m.tagged p c h))

    go : ((x : ℕ) × IsFirst s q c (Some x)) ⊎ (s.store.holder q ≡ Some c) → (s.store.holder p ≡ Some d) × (s.store.tag p ≤ update s.store.tag q (s.session c).txn p)
    go (inl y) = side (p == q) refl
      where
        apart : (p == q) ≡ false → q ≢ p
        apart f = grind arith

        same : (p == q) ≡ true → q ≡ p
        same f = grind arith

        wrong : q ≡ p → ⊥
        wrong f = let z : y.1.0 ∷ y.1.1 ≡ i.0 ∷ i.1 = sym y.1.2 ∙ ap s.queue f ∙ i.2 in let v : y.1.0 ≡ i.0 = cc in
            let w : Some y.0 ≡ None = sym y.1.4 ∙ ap (λ (k : WaitingAsk). k.write_grant) v ∙ i.4 in cc

        side : (u : Bool) → (p == q) ≡ u → (s.store.holder p ≡ Some d) × (s.store.tag p ≤ update s.store.tag q (s.session c).txn p)
        side true f = absurd (wrong (same f))
        side false f = other (apart f)
    go (inr h) = side (p == q) refl
      where
        apart : (p == q) ≡ false → q ≢ p
        apart f = grind arith

        same : (p == q) ≡ true → q ≡ p
        same f = grind arith

        side : (u : Bool) → (p == q) ≡ u → (s.store.holder p ≡ Some d) × (s.store.tag p ≤ update s.store.tag q (s.session c).txn p)
        side true f = here (same f) (subst (λ (y : ℕ). s.store.holder y ≡ Some c) (same f) h)
        side false f = other (apart f)
holder_stays s (ChangeSession c (Admit j)) ds a u m p r d i e = (grind arith, omega arith)
holder_stays s (ChangeSession c (BeginTransaction y)) ds a u m p r d i e = (grind arith, omega arith)
holder_stays s (ChangeSession c (DropTransaction y)) ds a u m p r d i e = (grind arith, omega arith)
holder_stays s (ChangeSession c (GrantRow q g)) ds a u m p r d i e = (e, omega arith)
holder_stays s (ChangeSession c (RemoveRow q g)) ds a u m p r d i e = (grind arith, omega arith)
holder_stays s (ChangeSession c (EndPermission q g y)) ds a u m p r d i e = (grind arith, omega arith)
holder_stays s (ChangeSession c (ApplyCommit y ws)) ds a u m p r d i e = (grind arith, omega arith)
holder_stays s (Send c j b) ds a u m p r d i e = (e, omega arith)
holder_stays s (EnterQueue q w) ds a u m p r d i e = (e, omega arith)
holder_stays s (LeaveQueue q) ds a u m p r d i e = (e, omega arith)
holder_stays s (MarkCalledBack q) ds a u m p r d i e = (e, omega arith)
holder_stays s (MarkDowngradeSent q t) ds a u m p r d i e = (e, omega arith)
holder_stays s (MarkInUse c q) ds a u m p r d i e = (e, omega arith)
holder_stays s (UnmarkInUse c q) ds a u m p r d i e = (e, omega arith)
holder_stays s (RemoveAsk c) ds a u m p r d i e = (e, omega arith)
holder_stays s (Doom c) ds a u m p r d i e = (e, omega arith)
holder_stays s (ForgetTransaction c) ds a u m p r d i e = (e, omega arith)
holder_stays s (SetFlushed n) ds a u m p r d i e = (e, omega arith)

tagged_change : (s : Server) (c : ℕ) (x : SessionChange) → ServerMayChange (AnyMessage c) s.store s.session c x → Sent s → (p d : ℕ) → (after_server_step s (ChangeSession c x)).store.holder p ≡ Some d
    → (after_server_step s (ChangeSession c x)).store.tag p ≤ ((after_server_step s (ChangeSession c x)).session d).txn
tagged_change s c (Admit i) a m p d e = grind (arith, m.tagged p d)
tagged_change s c (BeginTransaction x) a m p d e = grind (arith, m.tagged p d, a.1)
tagged_change s c (DropTransaction x) a m p d e = grind (arith, m.tagged p d)
tagged_change s c (GrantRow q g) a m p d e = grind (arith, m.tagged p d)
tagged_change s c (PermitWrite q g) a m p d e = grind (arith, m.tagged p d)
tagged_change s c (RemoveRow q g) a m p d e = grind (arith, m.tagged p d)
tagged_change s c (EndPermission q g x) a m p d e = grind (arith, m.tagged p d)
tagged_change s c (ApplyCommit x ws) a m p d e = grind (arith, m.tagged p d)

-- a change of a session keeps what was sent
first_change : (s : Server) (c : ℕ) (x : SessionChange) (ds : List ServerStep) → ServerStepMay AnyMessage s (ChangeSession c x) → Downs s (ChangeSession c x) ds → Sent s → (p : ℕ) (q : List WaitingAsk) → s.queue p ≡ q → FirstSent s p q
    → FirstSent (after_server_step s (ChangeSession c x)) p q
first_change s c x ds a u m p [] e f = tt
first_change s c x ds a u m p (w ∷ q) e f = (λ n z. ((f.0 n z).0, λ d h. let y = holder_stays s (ChangeSession c x) ds a u m p w.client d (w, q, e, refl, (f.0 n z).0) h in let v = (f.0 n z).1 d y.0 in let l = y.1 in omega arith), f.1)

sent_step : (s : Server) (x : ServerStep) (ds : List ServerStep) → ServerStepMay AnyMessage s x → Downs s x ds → Sent s → Sent (after_server_step s x)
sent_step s (ChangeSession c x) ds a u m = record { tagged = tagged_change s c x a.0 m; first = λ p. first_change s c x ds a u m p (s.queue p) refl (m.first p) }
sent_step s (Send c i b) ds a u m = m
sent_step s (EnterQueue p w) ds a u m = sent_put s p (s.queue p ++ w ∷ []) m (first_push s p (s.queue p) w u (m.first p))
sent_step s (LeaveQueue p) ds a u m = sent_put s p (after_first (s.queue p)) m (first_rest s p (s.queue p) (m.first p))
sent_step s (MarkCalledBack p) ds a u m = sent_put s p (set_called_back (s.queue p)) m (first_called s p (s.queue p) (m.first p))
sent_step s (MarkDowngradeSent p t) ds a u m = sent_put s p (set_downgrade_sent t (s.queue p)) m (first_marked s p t u.0.0 (s.queue p) refl u.0.1 u.1 (m.first p))
sent_step s (MarkInUse c p) ds a u m = record { tagged = m.tagged; first = m.first }
sent_step s (UnmarkInUse c p) ds a u m = record { tagged = m.tagged; first = m.first }
sent_step s (RemoveAsk c) ds a u m = record { tagged = m.tagged; first = λ p. first_without s p c (s.queue p) (m.first p) }
sent_step s (Doom c) ds a u m = record { tagged = m.tagged; first = m.first }
sent_step s (ForgetTransaction c) ds a u m = record { tagged = m.tagged; first = λ p. first_without s p c (s.queue p) (m.first p) }
sent_step s (SetFlushed n) ds a u m = record { tagged = m.tagged; first = m.first }

sent_before : (s : Server) (before after : List ServerStep) → ServerStepsMay AnyMessage s (before ++ after) → EachStep Downs s (before ++ after) → Sent s → Sent (server_after s before)
sent_before s [] after a u m = m
sent_before s (x ∷ before) after a u m = sent_before (after_server_step s x) before after a.1 u.1 (sent_step s x (before ++ after) a.0 u.0 m)

sent_steps : (s : Server) (ds : List ServerStep) → ServerStepsMay AnyMessage s ds → EachStep Downs s ds → Sent s → Sent (server_after s ds)
sent_steps s [] a u m = m
sent_steps s (x ∷ ds) a u m = sent_steps (after_server_step s x) ds a.1 u.1 (sent_step s x ds a.0 u.0 m)

sent_flush : (s : Server) (xs : List ServerStep) (n : ℕ) → OnlySends xs → Sent s → Sent (server_after s (xs ++ SetFlushed n ∷ []))
sent_flush s [] n o m = record { tagged = m.tagged; first = m.first }
sent_flush s (Send c i b ∷ xs) n o m = sent_flush s xs n o m
sent_flush s (_ ∷ xs) n o m = absurd o

only_again : (s : Server) → OnlySends (server_again s)
only_again s = sends_append (again_pages s s.pages) (again_doomed s s.clients) (sends_pages s s.pages) (sends_doomed s s.clients)

sent_input : (s : Server) (i : Input) → ReachedServer s → InputInRange s i → Sent s → Sent (server_after s (input_steps on_cycle s i))
sent_input s (MessageComes c i b) r f m = sent_steps s (server_take on_cycle s c i b) (right_input on_cycle s (MessageComes c i b) (orderly s r) f).0 (downs on_cycle s c i b) m
sent_input s SendsAgain r f m = subst Sent (sym (after_sends s (server_again s) (only_again s))) m
sent_input s (ReachesDisk n) r f m = sent_flush s (dones_between s.commits s.flushed n) n (sends_dones s.commits s.flushed n) m

sent_by : (L : Limits) (o : Opening) (s : Server) → ReachedBy L on_cycle o InputInRange s → Sent s
sent_by L o s Opened = record { tagged = λ p d e. absurd cc; first = λ p. tt }
sent_by L o s (AfterInput {server = k} r i f) = sent_input k i (L, o, r) f (sent_by L o k r)

sent : (s : Server) → ReachedServer s → Sent s
sent s r = sent_by r.0 r.1 s r.2

pub downgrades_rise : DowngradesRise
downgrades_rise s r (MessageComes c i b) f y before after d j p g t e = (due, (u.more, u.noted))
  where
    steps : EachStep Downs s (before ++ Send d j (Downgrade p g t) ∷ after)
    steps = subst (λ (ds : List ServerStep). EachStep Downs s ds) e (downs on_cycle s c i b)

    may : ServerStepsMay AnyMessage s (before ++ Send d j (Downgrade p g t) ∷ after)
    may = subst (λ (ds : List ServerStep). ServerStepsMay AnyMessage s ds) e (right_input on_cycle s (MessageComes c i b) (orderly s r) f).0

    k : Server
    k = server_after s before

    m : Sent k
    m = sent_before s before (Send d j (Downgrade p g t) ∷ after) may steps (sent s r)

    u : IsForFirst k d p t after
    u = each_there Downs s before after (Send d j (Downgrade p g t)) steps

    greater : (n : ℕ) → u.first.downgrade_sent ≡ Some n → n < t
    greater n z = let x = subst (λ (q : List WaitingAsk). FirstSent k p q) u.queue (m.first p) in let v = (x.0 n z).1 d u.holder in let w = u.tag in let l = apart in omega arith
      where
        apart : n ≢ t
        apart = let l = u.fresh in grind arith

    due : DowngradeIsDue k d p t
    due = record { first = u.first; others = u.others; queue = u.queue; reads = u.reads; holder = u.holder; tag = u.tag; greater = greater; kept = rw (put_there k.queue p (set_downgrade_sent t (k.queue p)), u.queue) refl }
downgrades_rise s r SendsAgain f y before after d j p g t e = absurd y
downgrades_rise s r (ReachesDisk n) f y before after d j p g t e = absurd y

may_there : (s : Server) (before after : List ServerStep) (x : ServerStep) → ServerStepsMay AnyMessage s (before ++ x ∷ after) → ServerStepMay AnyMessage (server_after s before) x
may_there s [] after x a = a.0
may_there s (y ∷ before) after x a = may_there (after_server_step s y) before after x a.1

-- steps that leave the store
abbrev Still : List ServerStep → Type 0
Still [] = ⊤
Still (Send c i b ∷ ds) = Still ds
Still (SetFlushed n ∷ ds) = Still ds
Still (_ ∷ ds) = ⊥

still_sends : (xs ys : List ServerStep) → OnlySends xs → Still ys → Still (xs ++ ys)
still_sends [] ys o m = m
still_sends (Send c i b ∷ xs) ys o m = still_sends xs ys o m
still_sends (_ ∷ xs) ys o m = absurd o

still_there : (before after : List ServerStep) (x : ServerStep) (k : Server) → Still (before ++ x ∷ after) → (after_server_step k x).store ≡ k.store
still_there [] after (Send c i b) k o = refl
still_there [] after (SetFlushed n) k o = refl
still_there [] after _ k o = absurd o
still_there (Send c i b ∷ before) after x k o = still_there before after x k o
still_there (SetFlushed n ∷ before) after x k o = still_there before after x k o
still_there (_ ∷ before) after x k o = absurd o

store_stays : (s t : Server) (p d : ℕ) → t.store ≡ s.store → t.store.holder p ≡ Some d → (s.store.holder p ≡ Some d) × (s.store.tag p ≤ t.store.tag p)
store_stays s t p d e h = (rw e at h, rw e (omega arith))

pub holder_stays_while_read_waits : HolderStaysWhileReadWaits
holder_stays_while_read_waits s r (MessageComes c i b) f before after x e p q d first h =
    holder_stays k x after (may_there s before after x may) (each_there Downs s before after x steps) (sent_before s before (x ∷ after) may steps (sent s r)) p q d first h
  where
    k : Server
    k = server_after s before

    steps : EachStep Downs s (before ++ x ∷ after)
    steps = subst (λ (ds : List ServerStep). EachStep Downs s ds) e (downs on_cycle s c i b)

    may : ServerStepsMay AnyMessage s (before ++ x ∷ after)
    may = subst (λ (ds : List ServerStep). ServerStepsMay AnyMessage s ds) e (right_input on_cycle s (MessageComes c i b) (orderly s r) f).0
holder_stays_while_read_waits s r SendsAgain f before after x e p q d first h = let k = server_after s before in
    let o : Still (server_again s) = subst Still (append_nil (server_again s)) (still_sends (server_again s) [] (only_again s) tt) in
    store_stays k (after_server_step k x) p d (still_there before after x k (subst Still e o)) h
holder_stays_while_read_waits s r (ReachesDisk n) f before after x e p q d first h = let k = server_after s before in
    let o : Still (dones_between s.commits s.flushed n ++ SetFlushed n ∷ []) = still_sends (dones_between s.commits s.flushed n) (SetFlushed n ∷ []) (sends_dones s.commits s.flushed n) tt in
    store_stays k (after_server_step k x) p d (still_there before after x k (subst Still e o)) h
