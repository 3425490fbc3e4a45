-- Whatever inputs come in range: after each step nobody lies on a cycle and nothing is left to be settled, and whoever was doomed lay on one.
use Rattle.std.proofs.Common.{◌≡◌, ℕ, zero, suc, ◌+◌, ◌<◌, Bool, true, false, not, ◌==◌, ◌&&◌, nat_lt, nat_le, if◌then◌else◌, ◌≢◌, List, [], ◌∷◌, ◌++◌, Option, Some, None, arith, refl, sym, subst}
use Rattle.cb_protocol.specs.Basics.{update, is_none, Limits, is_exactly}
use Rattle.cb_protocol.specs.Messages.{Body, Hello, AskRead, AskWrite, GiveBack, InUse, Commit, Drop, Downgraded, Welcome, MayWrite, Done, AbortNow}
use Rattle.cb_protocol.specs.Server.{DeadlockTest, WaitingAsk, AppliedCommit, Server, ServerStep, ChangeSession, Send, EnterQueue, MarkInUse, UnmarkInUse, ForgetTransaction, SetFlushed, new_server, after_server_step, server_after, has_ask}
use Rattle.cb_protocol.specs.Session.{SessionChange, Admit, BeginTransaction, DropTransaction, PermitWrite, RemoveRow, EndPermission, ApplyCommit}
use Rattle.cb_protocol.specs.Flush.{dones_between, server_flush}
use Rattle.cb_protocol.specs.Resend.{again_page, again_pages, again_doomed, server_again}
use Rattle.cb_protocol.specs.ServerMessages.{begin_transaction, is_empty, enter_queue, has_waiting_ask, new_ask, take_ask_read, take_ask_write, if_live, commit_allowed, repeat_done, direct_answer, named_txn, and_then, take_current, admit_incarnation, server_take}
use Rattle.cb_protocol.specs.Settling.{send_to, doom_client, send_downgrades, send_callbacks, settle_pages}
use Rattle.cb_protocol.specs.World.{Opening, opening_store}
use Rattle.cb_protocol.specs.AnyMessages.{Input, MessageComes, SendsAgain, ReachesDisk, input_steps, AfterInput, Opened, ReachedBy}
use Rattle.cb_protocol.specs.WaitsFor.{HoldsUp, on_cycle}
use Rattle.cb_protocol.specs.Deadlock.{ask_count, AskInRange, InputInRange, ReachedServer, NoCycleStays, DoomedOnlyOnCycle}
use Rattle.cb_protocol.proofs.CyclePaths.{has_count, count_has, waits_has}
use Rattle.cb_protocol.proofs.CycleTest.{test_is_exact}
use Rattle.cb_protocol.proofs.SettlingClears.{Exact, SoundAsks, sound_fewer, count_without, SameElsewhere, stuck_same, NoOne, DoomsRight, dooms_append, dooms_on_cycle, OnlySends, sends_append, after_sends, dooms_sends, sends_callbacks, sends_downgrades, BetweenSteps, settled_stands}
use Rattle.cb_protocol.proofs.ServerOrder.{after_append}

-- at most one ask of a client waits, and whoever was doomed lay on a cycle
abbrev pub AsksRight : Server → List ServerStep → Type 0
AsksRight s ds = SoundAsks (server_after s ds) × DoomsRight NoOne s ds

-- a client's transaction ends or begins
pub asks_forget : (s : Server) (c : ℕ) (m : SessionChange) → SoundAsks s → AsksRight s (ForgetTransaction c ∷ ChangeSession c m ∷ [])
asks_forget s c m o = (sound_fewer s (server_after s (ForgetTransaction c ∷ ChangeSession c m ∷ [])) o (record { less = λ p d. count_without c d (s.queue p) }) refl refl, (tt, (tt, tt)))

pub count_push : (c : ℕ) (a : WaitingAsk) (q : List WaitingAsk) → ask_count c (q ++ a ∷ []) ≡ ask_count c q + (if a.client == c then 1 else 0)
count_push c a [] = omega arith
count_push c a (b ∷ q) = let u = count_push c a q in omega arith

has_not : (c : ℕ) (q : List WaitingAsk) → has_ask c q ≡ false → ask_count c q ≡ 0
has_not c [] e = refl
has_not c (a ∷ q) e = grind (arith, has_not c q)

asks_not : (s : Server) (c n : ℕ) → has_waiting_ask s c n ≡ false → (p : ℕ) → p < n → ask_count c (s.queue p) ≡ 0
asks_not s c zero e p l = absurd (omega arith)
asks_not s c (suc n) e p l = grind (arith, asks_not s c n, has_not c (s.queue n))

-- a client with no ask for a page that there is has none
pub none_waits : (s : Server) (c : ℕ) → SoundAsks s → has_waiting_ask s c s.pages ≡ false → (p : ℕ) → ask_count c (s.queue p) ≡ 0
none_waits s c o e p = grind (arith, asks_not s c s.pages e p, count_has c (s.queue p), o.known p c)

-- an ask enters, of a client that has none
pub sound_enter : (s : Server) (p : ℕ) (a : WaitingAsk) → SoundAsks s → p < s.pages → a.client < s.clients → ((q : ℕ) → ask_count a.client (s.queue q) ≡ 0) → SoundAsks (after_server_step s (EnterQueue p a))
sound_enter s p a o l m none = record {
  one = record {
    here = λ q c. grind (arith, count_push c a (s.queue p), o.one.here, none);
    apart = λ q r c n. grind (arith, count_push c a (s.queue p), o.one.apart q r c n, o.one.here, none);
  };
  known = λ q c i. grind (arith, count_push c a (s.queue p), has_count c (update s.queue p (s.queue p ++ a ∷ []) q) i, count_has c (s.queue q), o.known q c);
}

pub sound_dooms : (s : Server) (c : ℕ) → SoundAsks s → SoundAsks (server_after s (doom_client s c))
sound_dooms s c o = sound_fewer s (server_after s (doom_client s c)) o (record { less = λ p d. count_without c d (s.queue p) }) refl refl

pub asks_enter : (cycle : DeadlockTest) → Exact cycle → (s : Server) (p : ℕ) (a : WaitingAsk) → SoundAsks s → p < s.pages → a.client < s.clients → has_waiting_ask s a.client s.pages ≡ false → AsksRight s (enter_queue cycle s p a)
asks_enter cycle x s p a o l m e = go (is_empty (s.queue p)) (cycle (after_server_step s (EnterQueue p a)) a.client) refl
  where
    entered : SoundAsks (after_server_step s (EnterQueue p a))
    entered = sound_enter s p a o l m (none_waits s a.client o e)

    go : (r u : Bool) → cycle (after_server_step s (EnterQueue p a)) a.client ≡ u → AsksRight s (if not r && u then EnterQueue p a ∷ doom_client (after_server_step s (EnterQueue p a)) a.client else EnterQueue p a ∷ [])
    go true u f = (entered, (tt, tt))
    go false true f = (sound_dooms (after_server_step s (EnterQueue p a)) a.client entered, (tt, (tt, ((refl, (x (after_server_step s (EnterQueue p a)) entered.known a.client).0 f), (tt, tt)))))
    go false false f = (entered, (tt, tt))

asks_read : (cycle : DeadlockTest) → Exact cycle → (s : Server) (c p : ℕ) (r : Option ℕ) → SoundAsks s → c < s.clients → p < s.pages → AsksRight s (take_ask_read cycle s c p r)
asks_read cycle x s c p (Some g) o l m = (o, (tt, tt))
asks_read cycle x s c p None o l m = go (has_waiting_ask s c s.pages) refl
  where
    go : (r : Bool) → has_waiting_ask s c s.pages ≡ r → AsksRight s (if r then [] else enter_queue cycle s p (new_ask c None))
    go true e = (o, tt)
    go false e = asks_enter cycle x s p (new_ask c None) o m l e

asks_write : (cycle : DeadlockTest) → Exact cycle → (s : Server) (c p g : ℕ) → SoundAsks s → c < s.clients → p < s.pages → AsksRight s (take_ask_write cycle s c p g)
asks_write cycle x s c p g o l m = go (is_exactly ((s.session c).row p) g) (is_exactly (s.store.holder p) c) (has_waiting_ask s c s.pages) refl
  where
    go : (r u v : Bool) → has_waiting_ask s c s.pages ≡ v → AsksRight s (if not r then [] else if u then ChangeSession c (PermitWrite p g) ∷ send_to s c (MayWrite (s.session c).txn p g) ∷ [] else if v then [] else enter_queue cycle s p (new_ask c (Some g)))
    go true true v e = (record { one = o.one; known = o.known }, (tt, (tt, tt)))
    go true false true e = (o, tt)
    go true false false e = asks_enter cycle x s p (new_ask c (Some g)) o m l e
    go false u v e = (o, tt)

asks_live : (s : Server) (c t : ℕ) (ds : List ServerStep) → SoundAsks s → AsksRight s ds → AsksRight s (if_live s c t ds)
asks_live s c t ds o f = go (nat_lt (s.session c).ended t) (s.doomed c)
  where
    go : (r u : Bool) → AsksRight s (if r then (if u then send_to s c (AbortNow t) ∷ [] else ds) else [])
    go true true = (o, (tt, tt))
    go true false = f
    go false u = (o, tt)

-- the direct answer, before settling
pub asks_answer : (cycle : DeadlockTest) → Exact cycle → (s : Server) (c : ℕ) (b : Body) → SoundAsks s → c < s.clients → AskInRange s.pages b → AsksRight s (direct_answer cycle s c b)
asks_answer cycle x s c (AskRead t p) o l f = asks_live s c t _ o (asks_read cycle x s c p ((s.session c).row p) o l f)
asks_answer cycle x s c (AskWrite t p g) o l f = asks_live s c t _ o (asks_write cycle x s c p g o l f)
asks_answer cycle x s c (GiveBack p g) o l f = go (is_exactly ((s.session c).row p) g)
  where
    go : (r : Bool) → AsksRight s (if r then UnmarkInUse c p ∷ ChangeSession c (RemoveRow p g) ∷ [] else [])
    go true = (record { one = o.one; known = o.known }, (tt, (tt, tt)))
    go false = (o, tt)
asks_answer cycle x s c (InUse t p g) o l f = go (nat_lt (s.session c).ended t && is_exactly ((s.session c).row p) g)
  where
    go : (r : Bool) → AsksRight s (if r then MarkInUse c p ∷ [] else [])
    go true = (record { one = o.one; known = o.known }, (tt, tt))
    go false = (o, tt)
asks_answer cycle x s c (Commit t ws) o l f = go (nat_lt (s.session c).ended t) (s.doomed c) (commit_allowed s c ws) (t == (s.session c).ended)
  where
    again : (r : Option ℕ) → AsksRight s (repeat_done s c t r)
    again None = (o, tt)
    again (Some m) = flush (nat_le m s.flushed)
      where
        flush : (r : Bool) → AsksRight s (if r then send_to s c (Done t m) ∷ [] else [])
        flush true = (o, (tt, tt))
        flush false = (o, tt)

    go : (r u v y : Bool) → AsksRight s (if r
        then (if u then send_to s c (AbortNow t) ∷ [] else if v then ForgetTransaction c ∷ ChangeSession c (ApplyCommit t ws) ∷ [] else [])
        else if y then repeat_done s c t (s.outcome c) else [])
    go true true v y = (o, (tt, tt))
    go true false true y = asks_forget s c (ApplyCommit t ws) o
    go true false false y = (o, tt)
    go false u v true = again (s.outcome c)
    go false u v false = (o, tt)
asks_answer cycle x s c (Drop t) o l f = go (nat_lt (s.session c).ended t)
  where
    go : (r : Bool) → AsksRight s (if r then ForgetTransaction c ∷ ChangeSession c (DropTransaction t) ∷ [] else [])
    go true = asks_forget s c (DropTransaction t) o
    go false = (o, tt)
asks_answer cycle x s c (Downgraded p g t) o l f = go (s.store.keep_write && is_exactly ((s.session c).row p) g && is_exactly (s.store.holder p) c && (s.store.tag p == t))
  where
    go : (r : Bool) → AsksRight s (if r then ChangeSession c (EndPermission p g t) ∷ [] else [])
    go true = (record { one = o.one; known = o.known }, (tt, tt))
    go false = (o, tt)
asks_answer cycle x s c _ o l f = (o, tt)

-- a later transaction
pub asks_begin : (s : Server) (c t : ℕ) → SoundAsks s → AsksRight s (begin_transaction s c t)
asks_begin s c t o = go (nat_lt (s.session c).txn t)
  where
    go : (r : Bool) → AsksRight s (if r then ForgetTransaction c ∷ ChangeSession c (BeginTransaction t) ∷ [] else [])
    go true = asks_forget s c (BeginTransaction t) o
    go false = (o, tt)

pub same_size : (s : Server) (c t : ℕ) → ((server_after s (begin_transaction s c t)).clients ≡ s.clients) × ((server_after s (begin_transaction s c t)).pages ≡ s.pages)
same_size s c t = go (nat_lt (s.session c).txn t)
  where
    go : (r : Bool) → ((server_after s (if r then ForgetTransaction c ∷ ChangeSession c (BeginTransaction t) ∷ [] else [])).clients ≡ s.clients) × ((server_after s (if r then ForgetTransaction c ∷ ChangeSession c (BeginTransaction t) ∷ [] else [])).pages ≡ s.pages)
    go true = (refl, refl)
    go false = (refl, refl)

-- what a whole step leaves
pub record StepRight (s : Server) (ds : List ServerStep) : Type 0 where
  pub between : BetweenSteps (server_after s ds)
  pub dooms : DoomsRight NoOne s ds

pub right_then : (s : Server) (ds : List ServerStep) (f : Server → List ServerStep) → DoomsRight NoOne s ds → StepRight (server_after s ds) (f (server_after s ds)) → StepRight s (and_then s ds f)
right_then s ds f a w = record {
  between = subst (λ (k : Server). BetweenSteps k) (sym (after_append s ds (f (server_after s ds)))) w.between;
  dooms = dooms_append NoOne s ds (f (server_after s ds)) a w.dooms;
}

right_settles : (cycle : DeadlockTest) → Exact cycle → (s : Server) → SoundAsks s → StepRight s (settle_pages cycle s s.pages)
right_settles cycle x s o = let t = settled_stands cycle x s o in record { between = t.0; dooms = t.1 }

right_sends : (s : Server) (ds : List ServerStep) → BetweenSteps s → OnlySends ds → StepRight s ds
right_sends s ds n a = record { between = subst (λ (k : Server). BetweenSteps k) (sym (after_sends s ds a)) n; dooms = dooms_sends NoOne s ds a }

-- a message of the current incarnation
right_message : (cycle : DeadlockTest) → Exact cycle → (s : Server) (c i : ℕ) (b : Body) → BetweenSteps s → c < s.clients → AskInRange s.pages b → StepRight s (if i == (s.session c).current then take_current cycle s c b else [])
right_message cycle x s c i b n l f = go (i == (s.session c).current)
  where
    go : (r : Bool) → StepRight s (if r then take_current cycle s c b else [])
    go true = let m = asks_begin s c (named_txn b) n.sound in let z = same_size s c (named_txn b) in
        let k = server_after s (begin_transaction s c (named_txn b)) in
        let a = asks_answer cycle x k c b m.0 (rw z.0 l) (rw z.1 f) in
        right_then s (begin_transaction s c (named_txn b)) (λ m. and_then m (direct_answer cycle m c b) (λ a. settle_pages cycle a a.pages)) m.1
        (right_then k (direct_answer cycle k c b) (λ a. settle_pages cycle a a.pages) a.1 (right_settles cycle x (server_after k (direct_answer cycle k c b)) a.0))
    go false = right_sends s [] n tt

-- any message
pub right_take : (cycle : DeadlockTest) → Exact cycle → (s : Server) (c i : ℕ) (b : Body) → BetweenSteps s → c < s.clients → AskInRange s.pages b → StepRight s (server_take cycle s c i b)
unfolding server_take
right_take cycle x s c i Hello n l f = go (nat_lt (s.session c).current i) (i == (s.session c).current)
  where
    go : (r u : Bool) → StepRight s (if r then admit_incarnation cycle s c i else if u then Send c i Welcome ∷ [] else [])
    go true u = let t = asks_forget s c (Admit i) n.sound in
        right_then s (ForgetTransaction c ∷ ChangeSession c (Admit i) ∷ Send c i Welcome ∷ []) (λ a. settle_pages cycle a a.pages) (tt, (tt, (tt, tt))) (right_settles cycle x (server_after s (ForgetTransaction c ∷ ChangeSession c (Admit i) ∷ Send c i Welcome ∷ [])) t.0)
    go false true = right_sends s (Send c i Welcome ∷ []) n tt
    go false false = right_sends s [] n tt
right_take cycle x s c i b n l f = right_message cycle x s c i b n l f

sends_page : (s : Server) (p : ℕ) (q : List WaitingAsk) → OnlySends (again_page s p q)
sends_page s p [] = tt
sends_page s p (a ∷ q) = go (is_none a.write_grant) s.store.keep_write
  where
    go : (r u : Bool) → OnlySends (if r then (if u then send_downgrades s (λ d. s.in_use d p) p a.client (s.store.holder p) else []) else send_callbacks s (λ d. s.in_use d p) p a.client s.clients)
    go true true = sends_downgrades s (λ d. s.in_use d p) p a.client (s.store.holder p)
    go true false = tt
    go false u = sends_callbacks s (λ d. s.in_use d p) p a.client s.clients

pub sends_pages : (s : Server) (n : ℕ) → OnlySends (again_pages s n)
sends_pages s zero = tt
sends_pages s (suc n) = sends_append (again_pages s n) (again_page s n (s.queue n)) (sends_pages s n) (sends_page s n (s.queue n))

pub sends_doomed : (s : Server) (n : ℕ) → OnlySends (again_doomed s n)
sends_doomed s zero = tt
sends_doomed s (suc n) = sends_append (again_doomed s n) (if s.doomed n then send_to s n (AbortNow (s.session n).txn) ∷ [] else []) (sends_doomed s n) (go (s.doomed n))
  where
    go : (r : Bool) → OnlySends (if r then send_to s n (AbortNow (s.session n).txn) ∷ [] else [])
    go true = tt
    go false = tt

pub sends_dones : (xs : List AppliedCommit) (m n : ℕ) → OnlySends (dones_between xs m n)
sends_dones [] m n = tt
sends_dones (x ∷ xs) m n = sends_append (dones_between xs m n) (if nat_lt m x.number && nat_le x.number n then Send x.client x.incarnation (Done x.txn x.number) ∷ [] else []) (sends_dones xs m n) (go (nat_lt m x.number && nat_le x.number n))
  where
    go : (r : Bool) → OnlySends (if r then Send x.client x.incarnation (Done x.txn x.number) ∷ [] else [])
    go true = tt
    go false = tt

-- what is on disk changes nothing of asks, permissions and marks
between_flush : (s : Server) (n : ℕ) → BetweenSteps s → BetweenSteps (after_server_step s (SetFlushed n))
between_flush s n t = record {
  sound = record { one = t.sound.one; known = t.sound.known };
  no_cycle = λ c w. t.no_cycle c w;
  stuck = λ p. stuck_same (suc p) p s (after_server_step s (SetFlushed n)) (same p) (apart p) (t.stuck p);
}
  where
    apart : (p : ℕ) → p ≢ suc p
    apart p = λ e. absurd (omega arith)

    same : (p : ℕ) → SameElsewhere (suc p) s (after_server_step s (SetFlushed n))
    same p = record { queues = λ q m. refl; writers = λ q m. refl; tags = λ q m. refl; rows = λ d q m. refl; marks = λ d q. refl; txns = λ d. refl; ends = λ d. refl; keep_write = refl; clients = refl; pages = refl }

pub right_flush : (s : Server) (n : ℕ) → BetweenSteps s → StepRight s (server_flush s n)
right_flush s n t = let d = sends_dones s.commits s.flushed n in record {
  between = subst (λ (k : Server). BetweenSteps k) (sym (after_append s (dones_between s.commits s.flushed n) (SetFlushed n ∷ []))) (subst (λ (k : Server). BetweenSteps (after_server_step k (SetFlushed n))) (sym (after_sends s (dones_between s.commits s.flushed n) d)) (between_flush s n t));
  dooms = dooms_append NoOne s (dones_between s.commits s.flushed n) (SetFlushed n ∷ []) (dooms_sends NoOne s (dones_between s.commits s.flushed n) d) (tt, tt);
}

-- one input
pub right_input : (cycle : DeadlockTest) → Exact cycle → (s : Server) (i : Input) → BetweenSteps s → InputInRange s i → StepRight s (input_steps cycle s i)
right_input cycle x s (MessageComes c i b) n f = right_take cycle x s c i b n f.0 f.1
right_input cycle x s SendsAgain n f = right_sends s (server_again s) n (sends_append (again_pages s s.pages) (again_doomed s s.clients) (sends_pages s s.pages) (sends_doomed s s.clients))
right_input cycle x s (ReachesDisk m) n f = right_flush s m n

-- a new server
pub between_new : (L : Limits) (o : Opening) → BetweenSteps (new_server L.clients L.pages (opening_store L o))
between_new L o = record {
  sound = sound;
  no_cycle = λ c w. (waits_has (new_server L.clients L.pages (opening_store L o)).queue (HoldsUp (new_server L.clients L.pages (opening_store L o))) sound.one c c w).1;
  stuck = λ p. tt;
}
  where
    sound : SoundAsks (new_server L.clients L.pages (opening_store L o))
    sound = record { one = record { here = λ p c. omega arith; apart = λ p q c n. omega arith }; known = λ p c i. absurd i }

-- so each server that is reached is between steps
between_steps_by : (L : Limits) (o : Opening) (s : Server) → ReachedBy L on_cycle o InputInRange s → BetweenSteps s
between_steps_by L o s Opened = between_new L o
between_steps_by L o s (AfterInput {server = k} r i f) = (right_input on_cycle test_is_exact k i (between_steps_by L o k r) f).between

pub between_steps : (s : Server) → ReachedServer s → BetweenSteps s
between_steps s r = between_steps_by r.0 r.1 s r.2

pub no_cycle : NoCycleStays
no_cycle s r = (between_steps s r).no_cycle

pub doomed_on_cycle : DoomedOnlyOnCycle
doomed_on_cycle s r i f = dooms_on_cycle s (input_steps on_cycle s i) (right_input on_cycle test_is_exact s i (between_steps s r) f).dooms
