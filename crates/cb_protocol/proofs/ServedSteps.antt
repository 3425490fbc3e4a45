-- What each step of a server meets at every input: grants in order, commits of the message alone, Done from disk.
use Rattle.std.proofs.Common.{Bool, List, None, Option, Some, [], ap, arith, false, if◌then◌else◌, inl, inr, nat_le, nat_lt, not, refl, subst, suc, sym, true, zero, ℕ, ◌&&◌, ◌++◌, ◌==◌, ◌∙◌, ◌∷◌, ◌≡◌, ◌≢◌, ◌≤◌, ◌⊎◌, ◌||◌}
use Rattle.std.specs.Prelude.{⊤}
use Rattle.cb_protocol.proofs.FirstAsks.{NoNews, Settles, settles}
use Rattle.cb_protocol.proofs.ServerWalks.{EachStep, KeptUnder, Lasting, StepRule, each_append, each_there, each_weaker, kept_by_each}
use Rattle.cb_protocol.proofs.SettlingClears.{OnlySends, after_sends}
use Rattle.cb_protocol.proofs.SettlingRight.{is_some_is}
use Rattle.cb_protocol.specs.AnyMessages.{Input, MessageComes, ReachesDisk, SendsAgain, input_steps}
use Rattle.cb_protocol.specs.AskLaws.{FirstAsksAreMet, GrantIsSent, IsFirst, MayBeGranted, MayBePermitted, PermissionIsSent}
use Rattle.cb_protocol.specs.Basics.{IsIn, is_exactly, is_none}
use Rattle.cb_protocol.specs.CommitLaws.{DoneFromDiskAlone, DonesUpTo, NoOtherApplies}
use Rattle.cb_protocol.specs.Flush.{dones_between}
use Rattle.cb_protocol.specs.Messages.{AbortNow, AskRead, AskWrite, Body, Commit, Done, Downgraded, Drop, GiveBack, Hello, InUse, MayWrite, Message, PageWrite, Welcome}
use Rattle.cb_protocol.specs.Resend.{again_doomed, again_page, again_pages, server_again}
use Rattle.cb_protocol.specs.Server.{AppliedCommit, ChangeSession, DeadlockTest, EnterQueue, ForgetTransaction, MarkInUse, Send, Server, ServerStep, SetFlushed, UnmarkInUse, WaitingAsk, after_server_step, is_live_permission, server_after}
use Rattle.cb_protocol.specs.ServerMessages.{admit_incarnation, begin_transaction, commit_allowed, direct_answer, enter_queue, has_waiting_ask, if_live, is_empty, named_txn, new_ask, repeat_done, server_take, take_ask_read, take_ask_write, take_current}
use Rattle.cb_protocol.specs.Session.{Admit, ApplyCommit, BeginTransaction, DropTransaction, EndPermission, GrantRow, PermitWrite, RemoveRow, SessionChange}
use Rattle.cb_protocol.specs.Settling.{doom_client, send_callback, send_callbacks, send_downgrade, send_downgrades, send_to, settle_pages}
use Rattle.cb_protocol.specs.World.{messages_sent}

-- a Done is of a commit up to that number, and nobody is welcomed
abbrev pub DoneUpTo : ℕ → Body → Type 0
DoneUpTo last (Done t n) = n ≤ last
DoneUpTo last Welcome = ⊥
DoneUpTo last _ = ⊤

-- a Done is of a commit up to that number, and a Welcome answers a Hello
abbrev pub SaidAt : Body → ℕ → Body → Type 0
SaidAt b last (Done t n) = n ≤ last
SaidAt b last Welcome = b ≡ Hello
SaidAt b last _ = ⊤

told_said : (b : Body) (last : ℕ) (x : Body) → DoneUpTo last x → SaidAt b last x
told_said b last (Done t n) a = a
told_said b last Welcome a = absurd a
told_said b last _ a = tt

-- what a server does at a message
abbrev pub Serves : Body → StepRule
Serves b s (ChangeSession c (GrantRow p g)) ds =
    IsFirst s p c None × MayBeGranted s p c × (g ≡ s.next_grant) × GrantIsSent s ds c p g
Serves b s (ChangeSession c (PermitWrite p g)) ds =
    ((IsFirst s p c (Some g) × MayBePermitted s p c g) ⊎ ((s.store.holder p ≡ Some c) × ((s.session c).row p ≡ Some g)))
    × PermissionIsSent s ds c p g
Serves b s (ChangeSession c (ApplyCommit t ws)) ds = b ≡ Commit t ws
Serves b s (Send c i x) ds = SaidAt b s.flushed x
Serves b s (SetFlushed n) ds = ⊥
Serves b s _ ds = ⊤

serves_lasting : (b : Body) → Lasting (Serves b)
serves_lasting b s (ChangeSession c (GrantRow p g)) xs ys a = (a.0, a.1, a.2, ((a.3).0 ++ ys, ap (λ (zs : List ServerStep). zs ++ ys) (a.3).1))
serves_lasting b s (ChangeSession c (PermitWrite p g)) xs ys a = (a.0, ((a.1).0 ++ ys, ap (λ (zs : List ServerStep). zs ++ ys) (a.1).1))
serves_lasting b s _ xs ys a = a

serves_weaker : (b : Body) (s : Server) (d : ServerStep) (ds : List ServerStep) → Settles s d ds → Serves b s d ds
serves_weaker b s (ChangeSession c (GrantRow p g)) ds a = a
serves_weaker b s (ChangeSession c (PermitWrite p g)) ds a = (inl (a.0, a.1), a.2)
serves_weaker b s (ChangeSession c _) ds a = absurd a
serves_weaker b s (Send c i (Done t n)) ds a = absurd a
serves_weaker b s (Send c i Welcome) ds a = absurd a
serves_weaker b s (Send c i _) ds a = tt
serves_weaker b s (SetFlushed n) ds a = absurd a
serves_weaker b s _ ds a = tt

serves_settling : (b : Body) (cycle : DeadlockTest) (s : Server) (n : ℕ) → EachStep (Serves b) s (settle_pages cycle s n)
serves_settling b cycle s n = each_weaker Settles (Serves b) (serves_weaker b) s (settle_pages cycle s n) (settles cycle s n)

-- the direct answers
serves_enters : (b : Body) (cycle : DeadlockTest) (s : Server) (p : ℕ) (a : WaitingAsk) → EachStep (Serves b) s (enter_queue cycle s p a)
serves_enters b cycle s p a = go (not (is_empty (s.queue p)) && cycle (after_server_step s (EnterQueue p a)) a.client)
  where
    go : (r : Bool) → EachStep (Serves b) s (if r then EnterQueue p a ∷ doom_client (after_server_step s (EnterQueue p a)) a.client else EnterQueue p a ∷ [])
    go true = (tt, (tt, (tt, (tt, tt))))
    go false = (tt, tt)

serves_ask_read : (b : Body) (cycle : DeadlockTest) (s : Server) (c p : ℕ) (r : Option ℕ) → EachStep (Serves b) s (take_ask_read cycle s c p r)
serves_ask_read b cycle s c p (Some g) = (tt, tt)
serves_ask_read b cycle s c p None = go (has_waiting_ask s c s.pages)
  where
    go : (r : Bool) → EachStep (Serves b) s (if r then [] else enter_queue cycle s p (new_ask c None))
    go true = tt
    go false = serves_enters b cycle s p (new_ask c None)

serves_ask_write : (b : Body) (cycle : DeadlockTest) (s : Server) (c p g : ℕ) → EachStep (Serves b) s (take_ask_write cycle s c p g)
serves_ask_write b cycle s c p g = go (is_exactly ((s.session c).row p) g) refl (is_exactly (s.store.holder p) c) refl (has_waiting_ask s c s.pages)
  where
    go : (r : Bool) → is_exactly ((s.session c).row p) g ≡ r → (u : Bool) → is_exactly (s.store.holder p) c ≡ u → (v : Bool)
        → EachStep (Serves b) s (if not r then [] else if u then ChangeSession c (PermitWrite p g) ∷ send_to s c (MayWrite (s.session c).txn p g) ∷ [] else if v then [] else enter_queue cycle s p (new_ask c (Some g)))
    go false e u f v = tt
    go true e true f v = ((inr (is_some_is (s.store.holder p) c f, is_some_is ((s.session c).row p) g e), (_, refl)), (tt, tt))
    go true e false f true = tt
    go true e false f false = serves_enters b cycle s p (new_ask c (Some g))

serves_live : (b : Body) (s : Server) (c t : ℕ) (ds : List ServerStep) → EachStep (Serves b) s ds → EachStep (Serves b) s (if_live s c t ds)
serves_live b s c t ds a = go (nat_lt (s.session c).ended t) (s.doomed c)
  where
    go : (r u : Bool) → EachStep (Serves b) s (if r then (if u then send_to s c (AbortNow t) ∷ [] else ds) else [])
    go true true = (tt, tt)
    go true false = a
    go false u = tt

up_to : (n m : ℕ) → nat_le n m ≡ true → n ≤ m
up_to n m e = grind arith

serves_again : (b : Body) (s : Server) (c t : ℕ) (o : Option ℕ) → EachStep (Serves b) s (repeat_done s c t o)
serves_again b s c t None = tt
serves_again b s c t (Some n) = go (nat_le n s.flushed) refl
  where
    go : (r : Bool) → nat_le n s.flushed ≡ r → EachStep (Serves b) s (if r then send_to s c (Done t n) ∷ [] else [])
    go true e = (up_to n s.flushed e, tt)
    go false e = tt

serves_answers : (cycle : DeadlockTest) (s : Server) (c : ℕ) (b : Body) → EachStep (Serves b) s (direct_answer cycle s c b)
serves_answers cycle s c (AskRead t p) = serves_live (AskRead t p) s c t _ (serves_ask_read (AskRead t p) cycle s c p ((s.session c).row p))
serves_answers cycle s c (AskWrite t p g) = serves_live (AskWrite t p g) s c t _ (serves_ask_write (AskWrite t p g) cycle s c p g)
serves_answers cycle s c (GiveBack p g) = go (is_exactly ((s.session c).row p) g)
  where
    go : (r : Bool) → EachStep (Serves (GiveBack p g)) s (if r then UnmarkInUse c p ∷ ChangeSession c (RemoveRow p g) ∷ [] else [])
    go true = (tt, (tt, tt))
    go false = tt
serves_answers cycle s c (InUse t p g) = go (nat_lt (s.session c).ended t && is_exactly ((s.session c).row p) g)
  where
    go : (r : Bool) → EachStep (Serves (InUse t p g)) s (if r then MarkInUse c p ∷ [] else [])
    go true = (tt, tt)
    go false = tt
serves_answers cycle s c (Commit t ws) = go (nat_lt (s.session c).ended t) (s.doomed c) (commit_allowed s c ws) (t == (s.session c).ended)
  where
    go : (r u v w : Bool) → EachStep (Serves (Commit t ws)) s (if r then (if u then send_to s c (AbortNow t) ∷ [] else if v then ForgetTransaction c ∷ ChangeSession c (ApplyCommit t ws) ∷ [] else []) else if w then repeat_done s c t (s.outcome c) else [])
    go true true v w = (tt, tt)
    go true false true w = (tt, (refl, tt))
    go true false false w = tt
    go false u v true = serves_again (Commit t ws) s c t (s.outcome c)
    go false u v false = tt
serves_answers cycle s c (Drop t) = go (nat_lt (s.session c).ended t)
  where
    go : (r : Bool) → EachStep (Serves (Drop t)) s (if r then ForgetTransaction c ∷ ChangeSession c (DropTransaction t) ∷ [] else [])
    go true = (tt, (tt, tt))
    go false = tt
serves_answers cycle s c (Downgraded p g t) = go (s.store.keep_write && is_exactly ((s.session c).row p) g && is_exactly (s.store.holder p) c && (s.store.tag p == t))
  where
    go : (r : Bool) → EachStep (Serves (Downgraded p g t)) s (if r then ChangeSession c (EndPermission p g t) ∷ [] else [])
    go true = (tt, tt)
    go false = tt
serves_answers cycle s c _ = tt

serves_begins : (b : Body) (s : Server) (c t : ℕ) → EachStep (Serves b) s (begin_transaction s c t)
serves_begins b s c t = go (nat_lt (s.session c).txn t)
  where
    go : (r : Bool) → EachStep (Serves b) s (if r then ForgetTransaction c ∷ ChangeSession c (BeginTransaction t) ∷ [] else [])
    go true = (tt, (tt, tt))
    go false = tt

serves_current : (cycle : DeadlockTest) (s : Server) (c i : ℕ) (b : Body) → EachStep (Serves b) s (if i == (s.session c).current then take_current cycle s c b else [])
serves_current cycle s c i b = go (i == (s.session c).current)
  where
    m : Server
    m = server_after s (begin_transaction s c (named_txn b))

    a : Server
    a = server_after m (direct_answer cycle m c b)

    go : (r : Bool) → EachStep (Serves b) s (if r then take_current cycle s c b else [])
    go true = each_append (Serves b) (serves_lasting b) s (begin_transaction s c (named_txn b)) _ (serves_begins b s c (named_txn b))
        (each_append (Serves b) (serves_lasting b) m (direct_answer cycle m c b) _ (serves_answers cycle m c b) (serves_settling b cycle a a.pages))
    go false = tt

serves_hello : (cycle : DeadlockTest) (s : Server) (c i : ℕ) → EachStep (Serves Hello) s (server_take cycle s c i Hello)
unfolding server_take
serves_hello cycle s c i = go (nat_lt (s.session c).current i) (i == (s.session c).current)
  where
    go : (r u : Bool) → EachStep (Serves Hello) s (if r then admit_incarnation cycle s c i else if u then Send c i Welcome ∷ [] else [])
    go true u = (tt, (tt, (refl, serves_settling Hello cycle _ s.pages)))
    go false true = (refl, tt)
    go false false = tt

-- a message
pub serves : (cycle : DeadlockTest) (s : Server) (c i : ℕ) (b : Body) → EachStep (Serves b) s (server_take cycle s c i b)
unfolding server_take
serves cycle s c i Hello = serves_hello cycle s c i
serves cycle s c i b = serves_current cycle s c i b

-- messages alone, and no Done above a number
abbrev pub TellsUpTo : ℕ → List ServerStep → Type 0
TellsUpTo last [] = ⊤
TellsUpTo last (Send c i b ∷ ds) = DoneUpTo last b × TellsUpTo last ds
TellsUpTo last (_ ∷ ds) = ⊥

tells_append : (last : ℕ) (xs ys : List ServerStep) → TellsUpTo last xs → TellsUpTo last ys → TellsUpTo last (xs ++ ys)
tells_append last [] ys a b = b
tells_append last (Send c i x ∷ xs) ys a b = (a.0, tells_append last xs ys a.1 b)
tells_append last (_ ∷ xs) ys a b = absurd a

pub tells_serve : (b : Body) (s : Server) (ds : List ServerStep) → TellsUpTo s.flushed ds → EachStep (Serves b) s ds
tells_serve b s [] a = tt
tells_serve b s (Send c i x ∷ ds) a = (told_said b s.flushed x a.0, tells_serve b s ds a.1)
tells_serve b s (_ ∷ ds) a = absurd a

tells_callbacks : (last : ℕ) (s : Server) (skip : ℕ → Bool) (p c n : ℕ) → TellsUpTo last (send_callbacks s skip p c n)
tells_callbacks last s skip p c zero = tt
tells_callbacks last s skip p c (suc n) = tells_append last (send_callbacks s skip p c n) _ (tells_callbacks last s skip p c n) (go ((n == c) || skip n) ((s.session n).row p))
  where
    go : (r : Bool) (o : Option ℕ) → TellsUpTo last (if r then [] else send_callback s n p o)
    go true o = tt
    go false None = tt
    go false (Some g) = (tt, tt)

tells_downgrades : (last : ℕ) (s : Server) (skip : ℕ → Bool) (p c : ℕ) (w : Option ℕ) → TellsUpTo last (send_downgrades s skip p c w)
tells_downgrades last s skip p c None = tt
tells_downgrades last s skip p c (Some d) = go (not (d == c) && not (is_live_permission s d p) && not (skip d)) ((s.session d).row p)
  where
    go : (u : Bool) (r : Option ℕ) → TellsUpTo last (if u then send_downgrade s d p r else [])
    go true None = tt
    go true (Some g) = (tt, tt)
    go false r = tt

pub tells_again_pages : (last : ℕ) (s : Server) (n : ℕ) → TellsUpTo last (again_pages s n)
tells_again_pages last s zero = tt
tells_again_pages last s (suc n) = tells_append last (again_pages s n) _ (tells_again_pages last s n) (page (s.queue n))
  where
    page : (q : List WaitingAsk) → TellsUpTo last (again_page s n q)
    page [] = tt
    page (a ∷ q) = go (is_none a.write_grant) s.store.keep_write
      where
        go : (r u : Bool) → TellsUpTo last (if r then (if u then send_downgrades s (λ d. s.in_use d n) n a.client (s.store.holder n) else []) else send_callbacks s (λ d. s.in_use d n) n a.client s.clients)
        go true true = tells_downgrades last s (λ d. s.in_use d n) n a.client (s.store.holder n)
        go true false = tt
        go false u = tells_callbacks last s (λ d. s.in_use d n) n a.client s.clients

pub tells_again_doomed : (last : ℕ) (s : Server) (n : ℕ) → TellsUpTo last (again_doomed s n)
tells_again_doomed last s zero = tt
tells_again_doomed last s (suc n) = tells_append last (again_doomed s n) _ (tells_again_doomed last s n) (go (s.doomed n))
  where
    go : (r : Bool) → TellsUpTo last (if r then send_to s n (AbortNow (s.session n).txn) ∷ [] else [])
    go true = (tt, tt)
    go false = tt

pub tells_again : (last : ℕ) (s : Server) → TellsUpTo last (server_again s)
tells_again last s = tells_append last (again_pages s s.pages) (again_doomed s s.clients) (tells_again_pages last s s.pages) (tells_again_doomed last s s.clients)

pub tells_dones : (xs : List AppliedCommit) (m n : ℕ) → TellsUpTo n (dones_between xs m n)
tells_dones [] m n = tt
tells_dones (x ∷ xs) m n = tells_append n (dones_between xs m n) _ (tells_dones xs m n) (go (nat_lt m x.number && nat_le x.number n) refl)
  where
    below : (nat_lt m x.number && nat_le x.number n) ≡ true → x.number ≤ n
    below e = grind arith

    go : (r : Bool) → (nat_lt m x.number && nat_le x.number n) ≡ r → TellsUpTo n (if r then Send x.client x.incarnation (Done x.txn x.number) ∷ [] else [])
    go true e = (below e, tt)
    go false e = tt

pub tells_only : (last : ℕ) (ds : List ServerStep) → TellsUpTo last ds → OnlySends ds
tells_only last [] a = tt
tells_only last (Send c i b ∷ ds) a = tells_only last ds a.1
tells_only last (_ ∷ ds) a = absurd a

-- what is told, among what is sent
told_up_to : (last c i t n : ℕ) (f : Message) → f ≡ record { client = c; incarnation = i; body = Done t n } → DoneUpTo last f.body → n ≤ last
told_up_to last c i t n f e a = subst (λ (x : Message). DoneUpTo last x.body) e a

tells_told : (last : ℕ) (ds : List ServerStep) → TellsUpTo last ds → DonesUpTo last (messages_sent ds)
tells_told last [] a c i t n j = absurd j
tells_told last (Send d k b ∷ ds) a c i t n j = elim j [
  | inl e ↦ told_up_to last c i t n (record { client = d; incarnation = k; body = b }) e a.0
  | inr l ↦ tells_told last ds a.1 c i t n l
]
tells_told last (_ ∷ ds) a c i t n j = absurd a

said_up_to : (b : Body) (last c i t n : ℕ) (f : Message) → f ≡ record { client = c; incarnation = i; body = Done t n } → SaidAt b last f.body → n ≤ last
said_up_to b last c i t n f e a = subst (λ (x : Message). SaidAt b last x.body) e a

serves_told : (b : Body) (last : ℕ) (s : Server) (ds : List ServerStep) → s.flushed ≡ last → EachStep (Serves b) s ds → DonesUpTo last (messages_sent ds)
serves_told b last s [] e a c i t n j = absurd j
serves_told b last s (Send d k x ∷ ds) e a c i t n j = elim j [
  | inl q ↦ said_up_to b last c i t n (record { client = d; incarnation = k; body = x }) q (subst (λ (y : ℕ). SaidAt b y x) e a.0)
  | inr l ↦ serves_told b last s ds e a.1 c i t n l
]
serves_told b last s (SetFlushed m ∷ ds) e a c i t n j = absurd a.0
serves_told b last s (d ∷ ds) e a c i t n j = serves_told b last (after_server_step s d) ds e a.1 c i t n j

-- nobody is welcomed but by a Hello
welcome_said : (b : Body) (last d k : ℕ) (f : Message) → f ≡ record { client = d; incarnation = k; body = Welcome } → SaidAt b last f.body → b ≡ Hello
welcome_said b last d k f e a = subst (λ (x : Message). SaidAt b last x.body) e a

pub serves_welcome : (b : Body) (s : Server) (ds : List ServerStep) (d k : ℕ) → EachStep (Serves b) s ds → IsIn (record { client = d; incarnation = k; body = Welcome }) (messages_sent ds) → b ≡ Hello
serves_welcome b s [] d k a j = absurd j
serves_welcome b s (Send c i x ∷ ds) d k a j = elim j [
  | inl q ↦ welcome_said b s.flushed d k (record { client = c; incarnation = i; body = x }) q a.0
  | inr l ↦ serves_welcome b s ds d k a.1 l
]
serves_welcome b s (e ∷ ds) d k a j = serves_welcome b (after_server_step s e) ds d k a.1 j

welcome_told : (last d k : ℕ) (f : Message) → f ≡ record { client = d; incarnation = k; body = Welcome } → DoneUpTo last f.body → ⊥
welcome_told last d k f e a = subst (λ (x : Message). DoneUpTo last x.body) e a

pub tells_no_welcome : (last : ℕ) (ds : List ServerStep) (d k : ℕ) → TellsUpTo last ds → IsIn (record { client = d; incarnation = k; body = Welcome }) (messages_sent ds) → ⊥
tells_no_welcome last [] d k a j = j
tells_no_welcome last (Send c i x ∷ ds) d k a j = elim j [
  | inl q ↦ welcome_told last d k (record { client = c; incarnation = i; body = x }) q a.0
  | inr l ↦ tells_no_welcome last ds d k a.1 l
]
tells_no_welcome last (_ ∷ ds) d k a j = absurd a

no_news : (d k : ℕ) (f : Message) → f ≡ record { client = d; incarnation = k; body = Welcome } → NoNews f.body → ⊥
no_news d k f e a = subst (λ (x : Message). NoNews x.body) e a

settles_no_welcome : (s : Server) (ds : List ServerStep) (d k : ℕ) → EachStep Settles s ds → IsIn (record { client = d; incarnation = k; body = Welcome }) (messages_sent ds) → ⊥
settles_no_welcome s [] d k a j = j
settles_no_welcome s (Send c i x ∷ ds) d k a j = elim j [
  | inl q ↦ no_news d k (record { client = c; incarnation = i; body = x }) q a.0
  | inr l ↦ settles_no_welcome s ds d k a.1 l
]
settles_no_welcome s (e ∷ ds) d k a j = settles_no_welcome (after_server_step s e) ds d k a.1 j

-- and that Hello is the one of its client and incarnation
abbrev hello_of : ℕ → ℕ → Message
hello_of c i = record { client = c; incarnation = i; body = Hello }

hello_welcome : (cycle : DeadlockTest) (s : Server) (c i d k : ℕ) → IsIn (record { client = d; incarnation = k; body = Welcome }) (messages_sent (server_take cycle s c i Hello)) → hello_of c i ≡ hello_of d k
unfolding server_take
hello_welcome cycle s c i d k = go (nat_lt (s.session c).current i) (i == (s.session c).current)
  where
    same : (f : Message) → f ≡ record { client = d; incarnation = k; body = Welcome } → hello_of f.client f.incarnation ≡ hello_of d k
    same f e = ap (λ (x : Message). hello_of x.client x.incarnation) e

    admitted : Server
    admitted = server_after s (ForgetTransaction c ∷ ChangeSession c (Admit i) ∷ Send c i Welcome ∷ [])

    go : (r u : Bool) → IsIn (record { client = d; incarnation = k; body = Welcome }) (messages_sent (if r then admit_incarnation cycle s c i else if u then Send c i Welcome ∷ [] else [])) → hello_of c i ≡ hello_of d k
    go true u j = elim j [ inl e ↦ same (record { client = c; incarnation = i; body = Welcome }) e | inr l ↦ absurd (settles_no_welcome admitted (settle_pages cycle admitted s.pages) d k (settles cycle admitted s.pages) l) ]
    go false true j = elim j [ inl e ↦ same (record { client = c; incarnation = i; body = Welcome }) e | inr l ↦ absurd l ]
    go false false j = absurd j

pub welcome_answers : (cycle : DeadlockTest) (s : Server) (f : Message) (d k : ℕ) → IsIn (record { client = d; incarnation = k; body = Welcome }) (messages_sent (server_take cycle s f.client f.incarnation f.body)) → f ≡ record { client = d; incarnation = k; body = Hello }
welcome_answers cycle s f d k j = whole ∙ hello_welcome cycle s f.client f.incarnation d k (subst (λ (b : Body). IsIn (record { client = d; incarnation = k; body = Welcome }) (messages_sent (server_take cycle s f.client f.incarnation b))) hello j)
  where
    hello : f.body ≡ Hello
    hello = serves_welcome f.body s (server_take cycle s f.client f.incarnation f.body) d k (serves cycle s f.client f.incarnation f.body) j

    whole : f ≡ hello_of f.client f.incarnation
    whole = λ i. record { client = f.client; incarnation = f.incarnation; body = hello i }

flushed_kept : (b : Body) (last : ℕ) → KeptUnder (Serves b) (λ k. k.flushed ≡ last)
flushed_kept b last s (SetFlushed m) ds a e = absurd a
flushed_kept b last s _ ds a e = e

-- nothing is said after the Dones
pub sent_before : (xs : List ServerStep) (n : ℕ) → messages_sent (xs ++ SetFlushed n ∷ []) ≡ messages_sent xs
sent_before [] n = refl
sent_before (Send c i b ∷ xs) n = ap (λ (fs : List Message). record { client = c; incarnation = i; body = b } ∷ fs) (sent_before xs n)
sent_before (_ ∷ xs) n = sent_before xs n

flushed_last : (s : Server) (xs : List ServerStep) (n : ℕ) → (server_after s (xs ++ SetFlushed n ∷ [])).flushed ≡ n
flushed_last s [] n = refl
flushed_last s (x ∷ xs) n = flushed_last (after_server_step s x) xs n

pub done_from_disk : DoneFromDiskAlone
done_from_disk cycle s (MessageComes c i b) = (
  kept_by_each (Serves b) (λ k. k.flushed ≡ s.flushed) (flushed_kept b s.flushed) s (server_take cycle s c i b) (serves cycle s c i b) refl,
  serves_told b s.flushed s (server_take cycle s c i b) refl (serves cycle s c i b),
)
done_from_disk cycle s SendsAgain = (
  ap (λ (k : Server). k.flushed) (after_sends s (server_again s) (tells_only s.flushed (server_again s) (tells_again s.flushed s))),
  tells_told s.flushed (server_again s) (tells_again s.flushed s),
)
done_from_disk cycle s (ReachesDisk n) = (
  flushed_last s (dones_between s.commits s.flushed n) n,
  subst (λ (fs : List Message). DonesUpTo n fs) (sym (sent_before (dones_between s.commits s.flushed n) n))
      (tells_told n (dones_between s.commits s.flushed n) (tells_dones s.commits s.flushed n)),
)

-- grants and permissions among the steps of any input
serves_input : (cycle : DeadlockTest) (s : Server) (i : Input) → ((b : Body) × EachStep (Serves b) s (input_steps cycle s i)) ⊎ ((n : ℕ) × (i ≡ ReachesDisk n))
serves_input cycle s (MessageComes c i b) = inl (b, serves cycle s c i b)
serves_input cycle s SendsAgain = inl (Hello, tells_serve Hello s (server_again s) (tells_again s.flushed s))
serves_input cycle s (ReachesDisk n) = inr (n, refl)

-- a flush changes no session
no_change : (xs : List ServerStep) (n c : ℕ) (m : SessionChange) (before after : List ServerStep) → OnlySends xs → xs ++ SetFlushed n ∷ [] ≡ before ++ ChangeSession c m ∷ after → ⊥
no_change [] n c m [] after a e = absurd cc
no_change [] n c m (x ∷ []) after a e = absurd cc
no_change [] n c m (x ∷ y ∷ before) after a e = absurd cc
no_change (Send d i b ∷ xs) n c m [] after a e = absurd cc
no_change (Send d i b ∷ xs) n c m (x ∷ before) after a e = no_change xs n c m before after a (ap rest e)
  where
    rest : List ServerStep → List ServerStep
    rest [] = []
    rest (z ∷ zs) = zs
no_change (_ ∷ xs) n c m before after a e = absurd a

pub first_asks_met : FirstAsksAreMet
first_asks_met cycle s i = (
  λ before after c p g e. elim (serves_input cycle s i) [
    | inl a ↦ each_there (Serves a.0) s before after (ChangeSession c (GrantRow p g)) (subst (λ (ds : List ServerStep). EachStep (Serves a.0) s ds) e a.1)
    | inr n ↦ absurd (no_change (dones_between s.commits s.flushed n.0) n.0 c (GrantRow p g) before after (tells_only n.0 _ (tells_dones s.commits s.flushed n.0)) (sym (ap (λ (j : Input). input_steps cycle s j) n.1) ∙ e))
  ],
  λ before after c p g e. elim (serves_input cycle s i) [
    | inl a ↦ each_there (Serves a.0) s before after (ChangeSession c (PermitWrite p g)) (subst (λ (ds : List ServerStep). EachStep (Serves a.0) s ds) e a.1)
    | inr n ↦ absurd (no_change (dones_between s.commits s.flushed n.0) n.0 c (PermitWrite p g) before after (tells_only n.0 _ (tells_dones s.commits s.flushed n.0)) (sym (ap (λ (j : Input). input_steps cycle s j) n.1) ∙ e))
  ],
)

-- commits
commits_kept : (b : Body) (xs : List AppliedCommit) → ((t : ℕ) (ws : List PageWrite) → b ≢ Commit t ws) → KeptUnder (Serves b) (λ k. k.commits ≡ xs)
commits_kept b xs f s (ChangeSession c (Admit i)) ds a e = e
commits_kept b xs f s (ChangeSession c (BeginTransaction t)) ds a e = e
commits_kept b xs f s (ChangeSession c (DropTransaction t)) ds a e = e
commits_kept b xs f s (ChangeSession c (GrantRow p g)) ds a e = e
commits_kept b xs f s (ChangeSession c (PermitWrite p g)) ds a e = e
commits_kept b xs f s (ChangeSession c (RemoveRow p g)) ds a e = e
commits_kept b xs f s (ChangeSession c (EndPermission p g t)) ds a e = e
commits_kept b xs f s (ChangeSession c (ApplyCommit t ws)) ds a e = absurd (f t ws a)
commits_kept b xs f s _ ds a e = e

commits_last : (s : Server) (xs : List ServerStep) (n : ℕ) → OnlySends xs → (server_after s (xs ++ SetFlushed n ∷ [])).commits ≡ s.commits
commits_last s [] n a = refl
commits_last s (Send c i b ∷ xs) n a = commits_last s xs n a
commits_last s (_ ∷ xs) n a = absurd a

pub no_other_applies : NoOtherApplies
no_other_applies cycle s (MessageComes c i b) f =
    kept_by_each (Serves b) (λ k. k.commits ≡ s.commits) (commits_kept b s.commits (λ t ws e. f c i t ws (ap (λ (x : Body). MessageComes c i x) e)))
    s (server_take cycle s c i b) (serves cycle s c i b) refl
no_other_applies cycle s SendsAgain f = ap (λ (k : Server). k.commits) (after_sends s (server_again s) (tells_only s.flushed (server_again s) (tells_again s.flushed s)))
no_other_applies cycle s (ReachesDisk n) f = commits_last s (dones_between s.commits s.flushed n) n (tells_only n _ (tells_dones s.commits s.flushed n))
