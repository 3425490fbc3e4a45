-- An ask enters only of a client that has none and is not doomed. So at every moment a client has at most one ask, and a doomed client has none.
use Rattle.std.proofs.Common.{◌≡◌, ◌<◌, ℕ, Bool, true, false, not, ◌==◌, ◌&&◌, nat_lt, nat_le, if◌then◌else◌, List, [], ◌∷◌, ◌++◌, Option, Some, None, arith, refl, subst}
use Rattle.std.specs.Prelude.{⊤}
use Rattle.cb_protocol.specs.World.{Opening}
use Rattle.cb_protocol.specs.AnyMessages.{Input, MessageComes, SendsAgain, ReachesDisk, input_steps, AfterInput, Opened, ReachedBy}
use Rattle.cb_protocol.specs.Basics.{is_exactly, Limits}
use Rattle.cb_protocol.specs.Deadlock.{ask_count, AskInRange, InputInRange, ReachedServer, DoomedHaveNoAsk, OneAskAlways}
use Rattle.cb_protocol.specs.Flush.{dones_between}
use Rattle.cb_protocol.specs.Messages.{Body, Hello, AskRead, AskWrite, GiveBack, InUse, Commit, Drop, Downgraded, AbortNow, Done, MayWrite, Welcome}
use Rattle.cb_protocol.specs.Resend.{again_pages, again_doomed, server_again}
use Rattle.cb_protocol.specs.Server.{DeadlockTest, WaitingAsk, Server, ServerStep, ChangeSession, Send, EnterQueue, LeaveQueue, MarkCalledBack, MarkDowngradeSent, MarkInUse, UnmarkInUse, RemoveAsk, Doom, ForgetTransaction, SetFlushed, after_first, without_client, set_called_back, set_downgrade_sent, after_server_step, server_after}
use Rattle.cb_protocol.specs.ServerMessages.{begin_transaction, is_empty, enter_queue, has_waiting_ask, new_ask, take_ask_read, take_ask_write, if_live, commit_allowed, repeat_done, direct_answer, named_txn, take_current, admit_incarnation, server_take}
use Rattle.cb_protocol.specs.Session.{Admit, BeginTransaction, DropTransaction, PermitWrite, RemoveRow, EndPermission, ApplyCommit}
use Rattle.cb_protocol.specs.Settling.{send_to, doom_client, settle_pages}
use Rattle.cb_protocol.specs.WaitsFor.{on_cycle}
use Rattle.cb_protocol.proofs.CyclePaths.{has_count}
use Rattle.cb_protocol.proofs.CycleTest.{test_is_exact}
use Rattle.cb_protocol.proofs.NoCycles.{asks_begin, between_steps, count_push, none_waits, right_input, same_size, sends_dones, sends_doomed, sends_pages, sound_enter}
use Rattle.cb_protocol.proofs.SettlingAgain.{NoAskEnters, none_sends, none_settles}
use Rattle.cb_protocol.proofs.SettlingClears.{DoomRight, DoomsRight, Fewer, Next, NoOne, OnlySends, SoundAsks, count_called, count_rest, count_told, count_without, fewer_put, sends_append, sound_fewer}

abbrev NoneOf : Server → ℕ → Type 0
NoneOf s c = (p : ℕ) → ask_count c (s.queue p) ≡ 0

record DoomedQuiet (s : Server) : Type 0 where
  quiet : (c : ℕ) → s.doomed c ≡ true → NoneOf s c

-- an ask that enters is of a client that has none and is not doomed, and in range
abbrev EnterRight : Server → ServerStep → Type 0
EnterRight s (EnterQueue p a) = (s.doomed a.client ≡ false) × NoneOf s a.client × (a.client < s.clients) × (p < s.pages)
EnterRight s _ = ⊤

abbrev EntersRight : Server → List ServerStep → Type 0
EntersRight s [] = ⊤
EntersRight s (x ∷ ds) = EnterRight s x × EntersRight (after_server_step s x) ds

enters_append : (s : Server) (xs ys : List ServerStep) → EntersRight s xs → EntersRight (server_after s xs) ys → EntersRight s (xs ++ ys)
enters_append s [] ys a b = b
enters_append s (x ∷ xs) ys a b = (a.0, enters_append (after_server_step s x) xs ys a.1 b)

enters_none : (s : Server) (ds : List ServerStep) → NoAskEnters ds → EntersRight s ds
enters_none s [] n = tt
enters_none s (EnterQueue p a ∷ ds) n = absurd n
enters_none s (x ∷ ds) n = (tt, enters_none (after_server_step s x) ds n)

enters_sends : (s : Server) (ds : List ServerStep) → OnlySends ds → EntersRight s ds
enters_sends s ds a = enters_none s ds (none_sends ds a)

none_without : (c : ℕ) (q : List WaitingAsk) → ask_count c (without_client c q) ≡ 0
none_without c [] = refl
none_without c (a ∷ q) = grind (arith, none_without c q)

-- a step that lets no ask in and dooms nobody
quiet_fewer : (s k : Server) → DoomedQuiet s → Fewer k.queue s.queue → ((c : ℕ) → k.doomed c ≡ true → s.doomed c ≡ true) → DoomedQuiet k
quiet_fewer s k d f g = record { quiet = λ c e p. let l = f.less p c in let z = d.quiet c (g c e) p in omega arith }

quiet_step : (N : ℕ → Type 0) (s : Server) (x : ServerStep) → ((c : ℕ) → N c → NoneOf s c) → DoomRight N x → EnterRight s x → DoomedQuiet s → DoomedQuiet (after_server_step s x)
quiet_step N s (ChangeSession c m) n a b d = record { quiet = d.quiet }
quiet_step N s (Send c i y) n a b d = d
quiet_step N s (EnterQueue p w) n a b d = let l = b.0 in record { quiet = λ c e q. grind (arith, count_push c w (s.queue p), d.quiet c e) }
quiet_step N s (LeaveQueue p) n a b d = quiet_fewer s (after_server_step s (LeaveQueue p)) d (fewer_put s.queue p (after_first (s.queue p)) (λ c. count_rest c (s.queue p))) (λ c e. e)
quiet_step N s (MarkCalledBack p) n a b d = quiet_fewer s (after_server_step s (MarkCalledBack p)) d (fewer_put s.queue p (set_called_back (s.queue p)) (λ c. count_called c (s.queue p))) (λ c e. e)
quiet_step N s (MarkDowngradeSent p t) n a b d = quiet_fewer s (after_server_step s (MarkDowngradeSent p t)) d (fewer_put s.queue p (set_downgrade_sent t (s.queue p)) (λ c. count_told t c (s.queue p))) (λ c e. e)
quiet_step N s (MarkInUse c p) n a b d = record { quiet = d.quiet }
quiet_step N s (UnmarkInUse c p) n a b d = record { quiet = d.quiet }
quiet_step N s (RemoveAsk c) n a b d = quiet_fewer s (after_server_step s (RemoveAsk c)) d (record { less = λ p e. count_without c e (s.queue p) }) (λ e f. f)
quiet_step N s (Doom c) n a b d = record { quiet = λ e f p. grind (arith, d.quiet e, n c a p) }
quiet_step N s (ForgetTransaction c) n a b d = quiet_fewer s (after_server_step s (ForgetTransaction c)) d (record { less = λ p e. count_without c e (s.queue p) }) (λ e f. grind arith)
quiet_step N s (SetFlushed m) n a b d = record { quiet = d.quiet }

-- who may be doomed next has no ask
next_none : (s : Server) (x : ServerStep) (c : ℕ) → Next s x c → NoneOf (after_server_step s x) c
next_none s (RemoveAsk d) c n p = subst (λ (y : ℕ). ask_count c (without_client y (s.queue p)) ≡ 0) n.0 (none_without c (s.queue p))
next_none s _ c n p = absurd n

-- so a list of steps keeps it, whose dooms and entering asks are right
quiet_steps : (N : ℕ → Type 0) (s : Server) (ds : List ServerStep) → ((c : ℕ) → N c → NoneOf s c) → DoomsRight N s ds → EntersRight s ds → DoomedQuiet s → DoomedQuiet (server_after s ds)
quiet_steps N s [] n a b d = d
quiet_steps N s (x ∷ ds) n a b d = quiet_steps (Next s x) (after_server_step s x) ds (next_none s x) a.1 b.1 (quiet_step N s x n a.0 b.0 d)

enters_queue : (cycle : DeadlockTest) (s : Server) (p : ℕ) (a : WaitingAsk) → EnterRight s (EnterQueue p a) → EntersRight s (enter_queue cycle s p a)
enters_queue cycle s p a e = go (not (is_empty (s.queue p)) && cycle (after_server_step s (EnterQueue p a)) a.client)
  where
    go : (r : Bool) → EntersRight s (if r then EnterQueue p a ∷ doom_client (after_server_step s (EnterQueue p a)) a.client else EnterQueue p a ∷ [])
    go true = (e, (tt, (tt, (tt, tt))))
    go false = (e, tt)

enters_ask_read : (cycle : DeadlockTest) (s : Server) (c p : ℕ) (r : Option ℕ) → SoundAsks s → c < s.clients → p < s.pages → s.doomed c ≡ false → EntersRight s (take_ask_read cycle s c p r)
enters_ask_read cycle s c p (Some g) o l m e = (tt, tt)
enters_ask_read cycle s c p None o l m e = go (has_waiting_ask s c s.pages) refl
  where
    go : (r : Bool) → has_waiting_ask s c s.pages ≡ r → EntersRight s (if r then [] else enter_queue cycle s p (new_ask c None))
    go true f = tt
    go false f = enters_queue cycle s p (new_ask c None) (e, none_waits s c o f, l, m)

enters_ask_write : (cycle : DeadlockTest) (s : Server) (c p g : ℕ) → SoundAsks s → c < s.clients → p < s.pages → s.doomed c ≡ false → EntersRight s (take_ask_write cycle s c p g)
enters_ask_write cycle s c p g o l m e = go (is_exactly ((s.session c).row p) g) (is_exactly (s.store.holder p) c) (has_waiting_ask s c s.pages) refl
  where
    go : (r u v : Bool) → has_waiting_ask s c s.pages ≡ v → EntersRight s (if not r then [] else if u then ChangeSession c (PermitWrite p g) ∷ send_to s c (MayWrite (s.session c).txn p g) ∷ [] else if v then [] else enter_queue cycle s p (new_ask c (Some g)))
    go false u v f = tt
    go true true v f = (tt, (tt, tt))
    go true false true f = tt
    go true false false f = enters_queue cycle s p (new_ask c (Some g)) (e, none_waits s c o f, l, m)

enters_live : (s : Server) (c t : ℕ) (ds : List ServerStep) → (s.doomed c ≡ false → EntersRight s ds) → EntersRight s (if_live s c t ds)
enters_live s c t ds f = go (nat_lt (s.session c).ended t) (s.doomed c) refl
  where
    go : (r u : Bool) → s.doomed c ≡ u → EntersRight s (if r then (if u then send_to s c (AbortNow t) ∷ [] else ds) else [])
    go true true e = (tt, tt)
    go true false e = f e
    go false u e = tt

-- the direct answer lets in asks of clients that are not doomed alone
enters_answer : (cycle : DeadlockTest) (s : Server) (c : ℕ) (b : Body) → SoundAsks s → c < s.clients → AskInRange s.pages b → EntersRight s (direct_answer cycle s c b)
enters_answer cycle s c (AskRead t p) o l m = enters_live s c t _ (enters_ask_read cycle s c p ((s.session c).row p) o l m)
enters_answer cycle s c (AskWrite t p g) o l m = enters_live s c t _ (enters_ask_write cycle s c p g o l m)
enters_answer cycle s c (GiveBack p g) o l m = go (is_exactly ((s.session c).row p) g)
  where
    go : (r : Bool) → EntersRight s (if r then UnmarkInUse c p ∷ ChangeSession c (RemoveRow p g) ∷ [] else [])
    go true = (tt, (tt, tt))
    go false = tt
enters_answer cycle s c (InUse t p g) o l m = go (nat_lt (s.session c).ended t && is_exactly ((s.session c).row p) g)
  where
    go : (r : Bool) → EntersRight s (if r then MarkInUse c p ∷ [] else [])
    go true = (tt, tt)
    go false = tt
enters_answer cycle s c (Commit t ws) o l m = go (nat_lt (s.session c).ended t) (s.doomed c) (commit_allowed s c ws) (t == (s.session c).ended)
  where
    again : (r : Option ℕ) → EntersRight s (repeat_done s c t r)
    again None = tt
    again (Some m) = flush (nat_le m s.flushed)
      where
        flush : (r : Bool) → EntersRight s (if r then send_to s c (Done t m) ∷ [] else [])
        flush true = (tt, tt)
        flush false = tt

    go : (r u v y : Bool) → EntersRight s (if r
        then (if u then send_to s c (AbortNow t) ∷ [] else if v then ForgetTransaction c ∷ ChangeSession c (ApplyCommit t ws) ∷ [] else [])
        else if y then repeat_done s c t (s.outcome c) else [])
    go true true v y = (tt, tt)
    go true false true y = (tt, (tt, tt))
    go true false false y = tt
    go false u v true = again (s.outcome c)
    go false u v false = tt
enters_answer cycle s c (Drop t) o l m = go (nat_lt (s.session c).ended t)
  where
    go : (r : Bool) → EntersRight s (if r then ForgetTransaction c ∷ ChangeSession c (DropTransaction t) ∷ [] else [])
    go true = (tt, (tt, tt))
    go false = tt
enters_answer cycle s c (Downgraded p g t) o l m = go (s.store.keep_write && is_exactly ((s.session c).row p) g && is_exactly (s.store.holder p) c && (s.store.tag p == t))
  where
    go : (r : Bool) → EntersRight s (if r then ChangeSession c (EndPermission p g t) ∷ [] else [])
    go true = (tt, tt)
    go false = tt
enters_answer cycle s c _ o l m = tt

enters_begin : (s : Server) (c t : ℕ) → EntersRight s (begin_transaction s c t)
enters_begin s c t = go (nat_lt (s.session c).txn t)
  where
    go : (r : Bool) → EntersRight s (if r then ForgetTransaction c ∷ ChangeSession c (BeginTransaction t) ∷ [] else [])
    go true = (tt, (tt, tt))
    go false = tt

enters_settled : (cycle : DeadlockTest) (s k : Server) → EntersRight k (settle_pages cycle s s.pages)
enters_settled cycle s k = enters_none k (settle_pages cycle s s.pages) (none_settles cycle s s.pages)

enters_current : (cycle : DeadlockTest) (s : Server) (c : ℕ) (b : Body) → SoundAsks s → c < s.clients → AskInRange s.pages b → EntersRight s (take_current cycle s c b)
enters_current cycle s c b o l m = let k = server_after s (begin_transaction s c (named_txn b)) in let a = server_after k (direct_answer cycle k c b) in let z = same_size s c (named_txn b) in
    enters_append s (begin_transaction s c (named_txn b)) (direct_answer cycle k c b ++ settle_pages cycle a a.pages) (enters_begin s c (named_txn b)) (enters_append k (direct_answer cycle k c b) (settle_pages cycle a a.pages)
    (enters_answer cycle k c b (asks_begin s c (named_txn b) o).0 (rw z.0 l) (rw z.1 m)) (enters_settled cycle a a))

enters_take : (cycle : DeadlockTest) (s : Server) (c i : ℕ) (b : Body) → SoundAsks s → c < s.clients → AskInRange s.pages b → EntersRight s (server_take cycle s c i b)
unfolding server_take
enters_take cycle s c i Hello o l m = go (nat_lt (s.session c).current i) (i == (s.session c).current)
  where
    go : (r u : Bool) → EntersRight s (if r then admit_incarnation cycle s c i else if u then Send c i Welcome ∷ [] else [])
    go true u = let a = server_after s (ForgetTransaction c ∷ ChangeSession c (Admit i) ∷ Send c i Welcome ∷ []) in (tt, (tt, (tt, enters_settled cycle a a)))
    go false true = (tt, tt)
    go false false = tt
enters_take cycle s c i b o l m = go (i == (s.session c).current)
  where
    go : (r : Bool) → EntersRight s (if r then take_current cycle s c b else [])
    go true = enters_current cycle s c b o l m
    go false = tt

enters_input : (cycle : DeadlockTest) (s : Server) (i : Input) → SoundAsks s → InputInRange s i → EntersRight s (input_steps cycle s i)
enters_input cycle s (MessageComes c i b) o f = enters_take cycle s c i b o f.0 f.1
enters_input cycle s SendsAgain o f = enters_sends s (server_again s) (sends_append (again_pages s s.pages) (again_doomed s s.clients) (sends_pages s s.pages) (sends_doomed s s.clients))
enters_input cycle s (ReachesDisk n) o f = enters_append s (dones_between s.commits s.flushed n) (SetFlushed n ∷ []) (enters_sends s (dones_between s.commits s.flushed n) (sends_dones s.commits s.flushed n)) (tt, tt)

-- each step keeps the asks sound
sound_step : (s : Server) (x : ServerStep) → EnterRight s x → SoundAsks s → SoundAsks (after_server_step s x)
sound_step s (ChangeSession c m) b o = record { one = o.one; known = o.known }
sound_step s (Send c i y) b o = o
sound_step s (EnterQueue p w) b o = sound_enter s p w o b.3 b.2 b.1
sound_step s (LeaveQueue p) b o = sound_fewer s (after_server_step s (LeaveQueue p)) o (fewer_put s.queue p (after_first (s.queue p)) (λ c. count_rest c (s.queue p))) refl refl
sound_step s (MarkCalledBack p) b o = sound_fewer s (after_server_step s (MarkCalledBack p)) o (fewer_put s.queue p (set_called_back (s.queue p)) (λ c. count_called c (s.queue p))) refl refl
sound_step s (MarkDowngradeSent p t) b o = sound_fewer s (after_server_step s (MarkDowngradeSent p t)) o (fewer_put s.queue p (set_downgrade_sent t (s.queue p)) (λ c. count_told t c (s.queue p))) refl refl
sound_step s (MarkInUse c p) b o = record { one = o.one; known = o.known }
sound_step s (UnmarkInUse c p) b o = record { one = o.one; known = o.known }
sound_step s (RemoveAsk c) b o = sound_fewer s (after_server_step s (RemoveAsk c)) o (record { less = λ p e. count_without c e (s.queue p) }) refl refl
sound_step s (Doom c) b o = record { one = o.one; known = o.known }
sound_step s (ForgetTransaction c) b o = sound_fewer s (after_server_step s (ForgetTransaction c)) o (record { less = λ p e. count_without c e (s.queue p) }) refl refl
sound_step s (SetFlushed m) b o = record { one = o.one; known = o.known }

sound_before : (s : Server) (before after : List ServerStep) → EntersRight s (before ++ after) → SoundAsks s → SoundAsks (server_after s before)
sound_before s [] after b o = o
sound_before s (x ∷ before) after b o = sound_before (after_server_step s x) before after b.1 (sound_step s x b.0 o)

pub one_ask : OneAskAlways
one_ask s r i f before after e = let o = (between_steps s r).sound in let t = sound_before s before after (subst (λ (ds : List ServerStep). EntersRight s ds) e (enters_input on_cycle s i o f)) o in (t.one, t.known)

-- of each server that is reached
quiet_by : (L : Limits) (o : Opening) (s : Server) → ReachedBy L on_cycle o InputInRange s → DoomedQuiet s
quiet_by L o s Opened = record { quiet = λ c e p. refl }
quiet_by L o s (AfterInput {server = k} r i f) = quiet_steps NoOne k (input_steps on_cycle k i) (λ c n. absurd n) (right_input on_cycle test_is_exact k i (between_steps k (L, o, r)) f).dooms (enters_input on_cycle k i (between_steps k (L, o, r)).sound f) (quiet_by L o k r)

quiet : (s : Server) → ReachedServer s → DoomedQuiet s
quiet s r = quiet_by r.0 r.1 s r.2

pub doomed_have_no_ask : DoomedHaveNoAsk
doomed_have_no_ask s r c e p h = let z = (quiet s r).quiet c e p in let l = has_count c (s.queue p) h in absurd (omega arith)
