-- The machine of one life, opened at any incarnation, and what its steps keep beside the invariant.
use Rattle.std.proofs.Common.{Bool, List, Option, Some, [], ap, arith, false, if◌then◌else◌, inl, inr, nat_le, nat_lt, refl, subst, sym, true, ℕ, ◌+◌, ◌<◌, ◌∙◌, ◌∷◌, ◌≡◌, ◌≤◌}
use Rattle.std.specs.Prelude.{⊤}
use Rattle.cb_protocol.proofs.HistoryKept.{Kept, Recorded, history_operations}
use Rattle.cb_protocol.proofs.Invariant.{Invariant, MessageFact, MessageHolds, SessionFacts, cache_at_session}
use Rattle.cb_protocol.proofs.InvariantKept.{put_each}
use Rattle.cb_protocol.proofs.LedgerKept.{Books, books_all}
use Rattle.cb_protocol.proofs.Machine.{CommittedTransaction, ClientChanges, ClientMayChange, ClientRestarts, ClientSays, Machine, MachineMay, MachineMayRun, MachineStep, ServerChanges, ServerMaySend, ServerSends, WasSent, happens, performed_after, present_cache, run}
use Rattle.cb_protocol.proofs.MachineSteps.{came_now, kept_happens, safe_happens}
use Rattle.cb_protocol.proofs.ServerOrder.{Orderly, ServerStepsMay}
use Rattle.cb_protocol.proofs.ServerSteps.{server_machine_steps}
use Rattle.cb_protocol.proofs.TranscriptKept.{put_both}
use Rattle.cb_protocol.specs.AnyMessages.{bytes_after}
use Rattle.cb_protocol.specs.Basics.{Bytes, IsIn, Limits, update}
use Rattle.cb_protocol.specs.Cache.{Cache, CacheChange, Committing, Idle, Read, WriteBytes, cache_after, new_cache}
use Rattle.cb_protocol.specs.Headline.{SoundOpening}
use Rattle.cb_protocol.specs.LivesWorld.{server_of_life, session_at}
use Rattle.cb_protocol.specs.Messages.{AbortNow, Body, Callback, Commit, Done, Downgrade, Granted, Hello, MayWrite, Message, PageWrite, Welcome}
use Rattle.cb_protocol.specs.Serial.{PerformedOperation, store_left}
use Rattle.cb_protocol.specs.Server.{AppliedCommit, ChangeSession, Doom, EnterQueue, ForgetTransaction, LeaveQueue, MarkCalledBack, MarkDowngradeSent, MarkInUse, RemoveAsk, Send, Server, ServerStep, SetFlushed, UnmarkInUse, after_server_step, server_after}
use Rattle.cb_protocol.specs.Session.{Admit, ApplyCommit, BeginTransaction, DropTransaction, EndPermission, GrantRow, PermitWrite, RemoveRow, Session, SessionChange, Store, session_after, set_commit_number, store_after}
use Rattle.cb_protocol.specs.World.{Opening, opening_store}

-- the messages of the floor and above
abbrev pub from_floor : ℕ → List Message → List Message
from_floor floor [] = []
from_floor floor (f ∷ fs) = if nat_le floor f.incarnation then f ∷ from_floor floor fs else from_floor floor fs

pub in_from_floor : (floor : ℕ) (fs : List Message) (f : Message) → floor ≤ f.incarnation → IsIn f fs → IsIn f (from_floor floor fs)
in_from_floor floor [] f l i = i
in_from_floor floor (g ∷ fs) f l i = go (nat_le floor g.incarnation) refl (in_from_floor floor fs f l)
  where
    stale : nat_le floor g.incarnation ≡ false → g ≡ f → ⊥
    stale e q = let k : g.incarnation < floor = grind arith in let z = ap (λ (h : Message). h.incarnation) q in omega (arith, k, z, l)

    go : (r : Bool) → nat_le floor g.incarnation ≡ r → (IsIn f fs → IsIn f (from_floor floor fs)) → IsIn f (if r then g ∷ from_floor floor fs else from_floor floor fs)
    go true e h = elim i [ inl q ↦ inl q | inr j ↦ inr (h j) ]
    go false e h = elim i [ inl q ↦ absurd (stale e q) | inr j ↦ h j ]

pub of_from_floor : (floor : ℕ) (fs : List Message) (f : Message) → IsIn f (from_floor floor fs) → IsIn f fs × (floor ≤ f.incarnation)
of_from_floor floor [] f i = absurd i
of_from_floor floor (g ∷ fs) f i = go (nat_le floor g.incarnation) refl (of_from_floor floor fs f) i
  where
    above : nat_le floor g.incarnation ≡ true → floor ≤ g.incarnation
    above e = grind arith

    go : (r : Bool) → nat_le floor g.incarnation ≡ r → (IsIn f (from_floor floor fs) → IsIn f fs × (floor ≤ f.incarnation)) → IsIn f (if r then g ∷ from_floor floor fs else from_floor floor fs) → IsIn f (g ∷ fs) × (floor ≤ f.incarnation)
    go true e h j = elim j [ inl q ↦ (inl q, subst (λ (m : Message). floor ≤ m.incarnation) q (above e)) | inr k ↦ (inr (h k).0, (h k).1) ]
    go false e h j = (inr (h j).0, (h j).1)

-- The opening store of a life. Every client is new there: at its floor, which is the server's current incarnation, or above it where it stands there already. Of what was sent the machine has the messages of the floor and above.
abbrev pub start_at : Limits → Opening → ℕ → (ℕ → ℕ) → List Message → Machine
start_at L o floor incarnation packets = record {
  store = opening_store L o;
  session = λ c. session_at (if nat_lt c L.clients then floor else 0);
  incarnation = λ c. if nat_le floor (incarnation c) then incarnation c else floor;
  client = λ c i. new_cache;
  packets = from_floor floor packets;
  history = [];
  performed = [];
}

-- These are Hellos, of incarnations that their clients have had.
abbrev pub OnlyHellos : ℕ → (ℕ → ℕ) → List Message → Type 0
OnlyHellos floor incarnation packets = (f : Message) → IsIn f packets → floor ≤ f.incarnation → (f.body ≡ Hello) × (f.incarnation ≤ incarnation f.client)

-- a Hello holds where its client has had the incarnation
hello_holds : (c : ℕ) (s : Store) (t : Session) (k : Cache) (last i : ℕ) (y : Body) → y ≡ Hello → i ≤ last → MessageHolds c s t k last i y
hello_holds c s t k last i y e l = subst (λ (b : Body). MessageHolds c s t k last i b) (sym e) l

-- what is ahead of the server is a Hello
pub hello_ahead : (c : ℕ) (s : Store) (t : Session) (k : Cache) (last i : ℕ) (y : Body) → MessageHolds c s t k last i y → t.current < i → y ≡ Hello
hello_ahead c s t k last i Hello h l = refl
hello_ahead c s t k last i _ h l = absurd (let a = h.0 in omega (arith, a, l))

-- who stands at the floor or above stays there, and the others are at it
pub stands_at : (floor i : ℕ) → floor ≤ i → (if nat_le floor i then i else floor) ≡ i
stands_at floor i l = grind (arith, l)

pub waits_at : (floor i : ℕ) → i < floor → (if nat_le floor i then i else floor) ≡ floor
waits_at floor i l = grind (arith, l)

at_least : (floor i : ℕ) → floor ≤ (if nat_le floor i then i else floor)
at_least floor i = grind arith

at_most : (floor i j : ℕ) → floor ≤ j → j ≤ i → j ≤ (if nat_le floor i then i else floor)
at_most floor i j l h = grind (arith, l, h)

behind_at : (floor i : ℕ) (r : Bool) → (if r then floor else 0) ≤ (if nat_le floor i then i else floor)
behind_at floor i r = grind arith

facts_at : (L : Limits) (o : Opening) (c i : ℕ) → SessionFacts c (opening_store L o) (session_at i) new_cache
facts_at L o c i = grind arith

pub safe_at : (L : Limits) (o : Opening) (floor : ℕ) (incarnation : ℕ → ℕ) (packets : List Message) → SoundOpening o → OnlyHellos floor incarnation packets → Invariant (start_at L o floor incarnation packets)
safe_at L o floor incarnation packets v h = record {
  behind = λ c. behind_at floor (incarnation c) (nat_lt c L.clients);
  ahead = λ c i l. refl;
  commit_number = λ c i x n e. absurd cc;
  versions = v;
  good = λ c. facts_at L o c (if nat_lt c L.clients then floor else 0);
  fine = λ f i. (let j = of_from_floor floor packets f i in let k = h f j.0 j.1 in hello_holds f.client (opening_store L o) (session_at (if nat_lt f.client L.clients then floor else 0)) new_cache (if nat_le floor (incarnation f.client) then incarnation f.client else floor) f.incarnation f.body k.0 (at_most floor (incarnation f.client) f.incarnation j.1 k.1));
}

pub kept_at : (L : Limits) (o : Opening) (floor : ℕ) (incarnation : ℕ → ℕ) (packets : List Message) → Kept o.bytes (start_at L o floor incarnation packets)
kept_at L o floor incarnation packets = record { legal = tt; leaves = λ p. refl }

pub recorded_at : (L : Limits) (o : Opening) (floor : ℕ) (incarnation : ℕ → ℕ) (packets : List Message) → Recorded (start_at L o floor incarnation packets)
recorded_at L o floor incarnation packets = record { now = λ c i n. absurd (n refl); later = λ c i x l. refl; entries = λ e i. absurd i; once = tt }

pub books_at : (L : Limits) (o : Opening) (floor : ℕ) → Books o (server_of_life L o floor)
books_at L o floor = record {
  numbered = refl;
  bytes = λ p. refl;
  version = λ p. refl;
  once = tt;
  ended_by = λ c. omega arith;
  over = λ c y n e. absurd cc;
  past = λ c j y n e. absurd cc;
  listed = λ x i. absurd i;
  known = λ c j x n e. absurd cc;
  below = λ c p g e. absurd cc;
  distinct = λ c d p q g e f. absurd cc;
}

pub orderly_at : (Came : ℕ → ℕ → Body → Type 0) (L : Limits) (o : Opening) (floor : ℕ) → Orderly Came (server_of_life L o floor)
orderly_at Came L o floor = record {
  within = λ d p l. refl;
  ended_by = λ c. omega arith;
  step = λ c. omega arith;
  tagged = λ p d e. absurd cc;
  sole = λ p d g c e. absurd cc;
  asking = λ p a i. absurd i;
  outcome = λ c n e. absurd cc;
  over = λ c x n e. absurd cc;
  past = λ c j x n e. absurd cc;
  listed = λ x i. absurd i;
}

-- Of the clients below n nobody below the floor is current, and no packet is of below it; nobody below it commits; and whoever committed was welcomed, or performed an operation.
pub record Above (n floor : ℕ) (w : Machine) : Type 0 where
  pub current : (c : ℕ) → c < n → floor ≤ (w.session c).current
  pub come : (c : ℕ) → floor ≤ w.incarnation c
  pub said : (c i x : ℕ) (ws : List PageWrite) → WasSent w c i (Commit x ws) → floor ≤ i
  pub sent : (c i : ℕ) (y : Body) → c < n → WasSent w c i y → floor ≤ i
  pub made : (c i x k : ℕ) → w.store.commit_number c i x ≡ Some k → (floor ≤ i) × (1 ≤ x)
  pub welcomed : (c i : ℕ) → (w.client c i).welcomed ≡ true → WasSent w c i Welcome
  pub committed : (c i x k : ℕ) → w.store.commit_number c i x ≡ Some k → WasSent w c i Welcome
  pub performed : (o : PerformedOperation) → IsIn o w.performed → WasSent w o.client o.incarnation Welcome

-- so it is as a life begins
pub above_at : (L : Limits) (o : Opening) (floor : ℕ) (incarnation : ℕ → ℕ) (packets : List Message) → Above L.clients floor (start_at L o floor incarnation packets)
above_at L o floor incarnation packets = record {
  current = λ c l. grind (arith, l);
  come = λ c. at_least floor (incarnation c);
  said = λ c i x ws s. (of_from_floor floor packets _ s).1;
  sent = λ c i y l s. (of_from_floor floor packets _ s).1;
  made = λ c i x n e. absurd cc;
  welcomed = λ c i e. absurd cc;
  committed = λ c i x n e. absurd cc;
  performed = λ o i. absurd i;
}

-- who performs an operation is welcomed
performs : (P : ℕ → ℕ → Type 0) (Came : Body → Type 0) (ls : List PerformedOperation) (c i x : ℕ) (k : Cache) (m : CacheChange) → ClientMayChange Came k m → (k.welcomed ≡ true → P c i) → ((o : PerformedOperation) → IsIn o ls → P o.client o.incarnation)
    → (o : PerformedOperation) → IsIn o (performed_after ls c i x m) → P o.client o.incarnation
performs P Came ls c i x k (Read p b) a f h o j = elim j [ inl e ↦ subst (λ (o : PerformedOperation). P o.client o.incarnation) e (f a.0) | inr j ↦ h o j ]
performs P Came ls c i x k (WriteBytes p b) a f h o j = elim j [ inl e ↦ subst (λ (o : PerformedOperation). P o.client o.incarnation) e (f a.0) | inr j ↦ h o j ]
performs P Came ls c i x k _ a f h o j = h o j

-- a change of a cache that makes it welcomed
welcomes : (b : Bool) (Came : Body → Type 0) (k : Cache) (m : CacheChange) → ClientMayChange Came k m → (k.welcomed ≡ true → Came Welcome) → (cache_after b k m).welcomed ≡ true → Came Welcome
welcomes b Came k m a h e = grind arith

-- a client that sent a Commit is welcomed
committing_welcomed : (c : ℕ) (s : Store) (t : Session) (k : Cache) (x : ℕ) (ws : List PageWrite) → SessionFacts c s t k → MessageFact c s t k (Commit x ws) → t.ended < x → k.welcomed ≡ true
committing_welcomed c s t k x ws h n l = go k.welcomed refl
  where
    idle : k.welcomed ≡ false → k.status ≡ Idle
    idle e = ap (λ (y : Cache). y.status) (h.shut e)

    busy : k.status ≡ Committing
    busy = grind arith

    go : (r : Bool) → k.welcomed ≡ r → k.welcomed ≡ true
    go true e = e
    go false e = absurd (let z : Idle ≡ Committing = sym (idle e) ∙ busy in cc)

above_client : (n floor : ℕ) (w : Machine) (c : ℕ) (m : CacheChange) → MachineMay w (ClientChanges c m) → Above n floor w → Above n floor (happens w (ClientChanges c m))
above_client n floor w c m a h = record {
  current = h.current;
  come = h.come;
  said = h.said;
  sent = h.sent;
  made = h.made;
  welcomed = put_both (λ d i k. k.welcomed ≡ true → WasSent w d i Welcome) w.client c (w.incarnation c) (cache_after w.store.keep_write (present_cache w c) m)
      (welcomes w.store.keep_write (WasSent w c (w.incarnation c)) (present_cache w c) m a (h.welcomed c (w.incarnation c))) (λ d i _. h.welcomed d i);
  committed = h.committed;
  performed = performs (λ d i. WasSent w d i Welcome) (WasSent w c (w.incarnation c)) w.performed c (w.incarnation c) (present_cache w c).number (present_cache w c) m a (h.welcomed c (w.incarnation c)) h.performed;
}

-- one more message: it is from the floor on
above_says : (n floor : ℕ) (w : Machine) (c i : ℕ) (y : Body) → Above n floor w → ((x : ℕ) (ws : List PageWrite) → y ≡ Commit x ws → floor ≤ i) → (c < n → floor ≤ i) → Above n floor (record w { packets = record { client = c; incarnation = i; body = y } ∷ w.packets })
above_says n floor w c i y h f g = record {
  current = h.current;
  come = h.come;
  said = λ d j x ws. elim [
    | inl e ↦ subst (λ (j : ℕ). floor ≤ j) (ap (λ (g : Message). g.incarnation) e) (f x ws (ap (λ (g : Message). g.body) e))
    | inr k ↦ h.said d j x ws k
  ];
  sent = λ d j x l. elim [
    | inl e ↦ subst (λ (m : Message). m.client < n → floor ≤ m.incarnation) e g l
    | inr k ↦ h.sent d j x l k
  ];
  made = h.made;
  welcomed = λ d j e. inr (h.welcomed d j e);
  committed = λ d j x k e. inr (h.committed d j x k e);
  performed = λ o j. inr (h.performed o j);
}

-- a change of a session
above_session : (n floor : ℕ) (w : Machine) (c : ℕ) (m : SessionChange) → Above n floor w → (w.session c).current ≤ (session_after (w.session c) m).current
    → ((d i x k : ℕ) → (store_after w.store c (w.session c) m).commit_number d i x ≡ Some k → (floor ≤ i) × (1 ≤ x) × WasSent w d i Welcome) → Above n floor (happens w (ServerChanges c m))
above_session n floor w c m h l f = record {
  current = put_each (λ d t. d < n → floor ≤ t.current) w.session c (session_after (w.session c) m) (λ near. let k = h.current c near in omega (arith, k, l)) (λ d ne. h.current d);
  come = h.come;
  said = h.said;
  sent = h.sent;
  made = λ d i x k e. (let z = f d i x k e in (z.0, z.1));
  welcomed = h.welcomed;
  committed = λ d i x k e. (f d i x k e).2;
  performed = h.performed;
}

above_commits : (n floor : ℕ) (w : Machine) → Above n floor w → (d i x k : ℕ) → w.store.commit_number d i x ≡ Some k → (floor ≤ i) × (1 ≤ x) × WasSent w d i Welcome
above_commits n floor w h d i x k e = let z = h.made d i x k e in (z.0, z.1, h.committed d i x k e)

-- one more commit number
one_more_number : (f : ℕ → ℕ → ℕ → Option ℕ) (c i x n d j y m : ℕ) (P : ℕ → ℕ → ℕ → Type 0) → P c i x → (f d j y ≡ Some m → P d j y) → set_commit_number f c i x n d j y ≡ Some m → P d j y
one_more_number f c i x n d j y m P p h e = grind (arith, p, h)

above_apply : (n floor : ℕ) (w : Machine) (c x : ℕ) (ws : List PageWrite) → Invariant w → MachineMay w (ServerChanges c (ApplyCommit x ws)) → Above n floor w → Above n floor (happens w (ServerChanges c (ApplyCommit x ws)))
above_apply n floor w c x ws v a h = above_session n floor w c (ApplyCommit x ws) h (omega arith) (λ d j y m e. one_more_number w.store.commit_number c (w.session c).current x (w.store.last_commit + 1) d j y m (λ d j y. (floor ≤ j) × (1 ≤ y) × WasSent w d j Welcome)
    (h.said c (w.session c).current x ws a.0, (let l = a.2 in omega (arith, l)), h.welcomed c (w.session c).current (committing_welcomed c w.store (w.session c) (cache_at_session w c) x ws (v.good c) (came_now w c _ v a.0) a.2)) (above_commits n floor w h d j y m) e)

-- the server says no Commit
no_commit : (s : Store) (c : ℕ) (t : Session) (i : ℕ) (y : Body) (x : ℕ) (ws : List PageWrite) → ServerMaySend s c t i y → y ≡ Commit x ws → ⊥
no_commit s c t i y x ws a e = subst (λ (b : Body). ServerMaySend s c t i b) e a

-- what the server says is of the current incarnation, or of one that committed
sends_above : (s : Store) (c : ℕ) (t : Session) (floor i : ℕ) (y : Body) {L : Type 0} → ServerMaySend s c t i y → ((x k : ℕ) → s.commit_number c i x ≡ Some k → floor ≤ i) → (L → floor ≤ t.current) → L → floor ≤ i
sends_above s c t floor i (Done x k) a f g l = f x k a
sends_above s c t floor i Welcome a f g l = let k = g l in omega (arith, a, k)
sends_above s c t floor i (Granted p q v b) a f g l = let k = g l in let e = a.0 in omega (arith, e, k)
sends_above s c t floor i (MayWrite x p q) a f g l = let k = g l in let e = a.0 in omega (arith, e, k)
sends_above s c t floor i (Callback p q) a f g l = let k = g l in omega (arith, a, k)
sends_above s c t floor i (AbortNow x) a f g l = let k = g l in omega (arith, a, k)
sends_above s c t floor i (Downgrade p q x) a f g l = let k = g l in let e = a.0 in omega (arith, e, k)
sends_above s c t floor i _ a f g l = absurd a

above_happens : (n floor : ℕ) (w : Machine) (e : MachineStep) → Invariant w → MachineMay w e → Above n floor w → Above n floor (happens w e)
above_happens n floor w (ClientChanges c m) v a h = above_client n floor w c m a h
above_happens n floor w (ClientSays c b) v a h = above_says n floor w c (w.incarnation c) b h (λ x ws e. h.come c) (λ l. h.come c)
above_happens n floor w (ServerChanges c (Admit i)) v a h = above_session n floor w c (Admit i) h (let k = a.1 in omega (arith, k)) (above_commits n floor w h)
above_happens n floor w (ServerChanges c (BeginTransaction x)) v a h = above_session n floor w c (BeginTransaction x) h (omega arith) (above_commits n floor w h)
above_happens n floor w (ServerChanges c (DropTransaction x)) v a h = above_session n floor w c (DropTransaction x) h (omega arith) (above_commits n floor w h)
above_happens n floor w (ServerChanges c (GrantRow p g)) v a h = above_session n floor w c (GrantRow p g) h (omega arith) (above_commits n floor w h)
above_happens n floor w (ServerChanges c (PermitWrite p g)) v a h = above_session n floor w c (PermitWrite p g) h (omega arith) (above_commits n floor w h)
above_happens n floor w (ServerChanges c (RemoveRow p g)) v a h = above_session n floor w c (RemoveRow p g) h (omega arith) (above_commits n floor w h)
above_happens n floor w (ServerChanges c (EndPermission p g x)) v a h = above_session n floor w c (EndPermission p g x) h (omega arith) (above_commits n floor w h)
above_happens n floor w (ServerChanges c (ApplyCommit x ws)) v a h = above_apply n floor w c x ws v a h
above_happens n floor w (ServerSends c i b) v a h = above_says n floor w c i b h (λ x ws e. absurd (no_commit w.store c (w.session c) i b x ws a e)) (sends_above w.store c (w.session c) floor i b a (λ x k e. (h.made c i x k e).0) (h.current c))
above_happens n floor w (ClientRestarts c) v a h = record {
  current = h.current;
  come = put_each (λ d i. floor ≤ i) w.incarnation c (w.incarnation c + 1) (let l = h.come c in omega (arith, l)) (λ d ne. h.come d);
  said = h.said;
  sent = h.sent;
  made = h.made;
  welcomed = h.welcomed;
  committed = h.committed;
  performed = h.performed;
}

pub above_run : (n floor : ℕ) (es : List MachineStep) (w : Machine) → Invariant w → MachineMayRun es w → Above n floor w → Above n floor (run es w)
above_run n floor [] w v a h = h
above_run n floor (e ∷ es) w v a h = above_run n floor es (happens w e) (safe_happens w e v a.0) a.1 (above_happens n floor w e v a.0 h)

-- After each commit, the store that its transactions leave is the one that their writes make.
abbrev pub EachLeaves : (ℕ → Bytes) → List CommittedTransaction → List AppliedCommit → Type 0
EachLeaves o [] [] = ⊤
EachLeaves o (e ∷ es) (x ∷ xs) = ((p : ℕ) → store_left o (history_operations (e ∷ es)) p ≡ bytes_after o (x ∷ xs) p) × EachLeaves o es xs
EachLeaves o _ _ = ⊥

-- a change of the server keeps it
leaves_turn : (o : ℕ → Bytes) (w : Machine) (s : Server) (c : ℕ) (m : SessionChange) → EachLeaves o w.history s.commits
    → ((p : ℕ) → store_left o (history_operations (happens w (ServerChanges c m)).history) p ≡ bytes_after o (after_server_step s (ChangeSession c m)).commits p)
    → EachLeaves o (happens w (ServerChanges c m)).history (after_server_step s (ChangeSession c m)).commits
leaves_turn o w s c (Admit i) l n = l
leaves_turn o w s c (BeginTransaction x) l n = l
leaves_turn o w s c (DropTransaction x) l n = l
leaves_turn o w s c (GrantRow p g) l n = l
leaves_turn o w s c (PermitWrite p g) l n = l
leaves_turn o w s c (RemoveRow p g) l n = l
leaves_turn o w s c (EndPermission p g x) l n = l
leaves_turn o w s c (ApplyCommit x ws) l n = (n, l)

-- so do the server's steps
pub leaves_all : (o : Opening) (Came : ℕ → ℕ → Body → Type 0) (w : Machine) (s : Server) (ds : List ServerStep) → w.store ≡ s.store → w.session ≡ s.session → Invariant w → Kept o.bytes w → Books o s
    → ServerStepsMay Came s ds → MachineMayRun (server_machine_steps ds) w → EachLeaves o.bytes w.history s.commits → EachLeaves o.bytes (run (server_machine_steps ds) w).history (server_after s ds).commits
leaves_all o Came w s [] e f h k b a r l = l
leaves_all o Came w s (ChangeSession c m ∷ ds) e f h k b a r l =
    let v : Machine = happens w (ServerChanges c m) in
    let s' : Server = after_server_step s (ChangeSession c m) in
    let k' : Kept o.bytes v = kept_happens o.bytes w (ServerChanges c m) h r.0 k in
    let b' : Books o s' = books_all o Came s (ChangeSession c m ∷ []) b (a.0, tt) in
    let e' : v.store ≡ s'.store = (λ i. store_after (e i) c (f i c) m) in
    leaves_all o Came v s' ds e' (λ i. update (f i) c (session_after (f i c) m)) (safe_happens w (ServerChanges c m) h r.0) k' b' a.1 r.1
    (leaves_turn o.bytes w s c m l (λ p. k'.leaves p ∙ (ap (λ (x : Store). x.bytes p) e' ∙ b'.bytes p)))
leaves_all o Came w s (Send c i y ∷ ds) e f h k b a r l = leaves_all o Came (happens w (ServerSends c i y)) s ds e f (safe_happens w (ServerSends c i y) h r.0) (kept_happens o.bytes w (ServerSends c i y) h r.0 k) b a.1 r.1 l
leaves_all o Came w s (EnterQueue p q ∷ ds) e f h k b a r l = leaves_all o Came w (after_server_step s (EnterQueue p q)) ds e f h k (books_all o Came s (EnterQueue p q ∷ []) b (tt, tt)) a.1 r l
leaves_all o Came w s (LeaveQueue p ∷ ds) e f h k b a r l = leaves_all o Came w (after_server_step s (LeaveQueue p)) ds e f h k (books_all o Came s (LeaveQueue p ∷ []) b (tt, tt)) a.1 r l
leaves_all o Came w s (MarkCalledBack p ∷ ds) e f h k b a r l = leaves_all o Came w (after_server_step s (MarkCalledBack p)) ds e f h k (books_all o Came s (MarkCalledBack p ∷ []) b (tt, tt)) a.1 r l
leaves_all o Came w s (MarkDowngradeSent p t ∷ ds) e f h k b a r l = leaves_all o Came w (after_server_step s (MarkDowngradeSent p t)) ds e f h k (books_all o Came s (MarkDowngradeSent p t ∷ []) b (tt, tt)) a.1 r l
leaves_all o Came w s (MarkInUse c p ∷ ds) e f h k b a r l = leaves_all o Came w (after_server_step s (MarkInUse c p)) ds e f h k (books_all o Came s (MarkInUse c p ∷ []) b (tt, tt)) a.1 r l
leaves_all o Came w s (UnmarkInUse c p ∷ ds) e f h k b a r l = leaves_all o Came w (after_server_step s (UnmarkInUse c p)) ds e f h k (books_all o Came s (UnmarkInUse c p ∷ []) b (tt, tt)) a.1 r l
leaves_all o Came w s (RemoveAsk c ∷ ds) e f h k b a r l = leaves_all o Came w (after_server_step s (RemoveAsk c)) ds e f h k (books_all o Came s (RemoveAsk c ∷ []) b (tt, tt)) a.1 r l
leaves_all o Came w s (Doom c ∷ ds) e f h k b a r l = leaves_all o Came w (after_server_step s (Doom c)) ds e f h k (books_all o Came s (Doom c ∷ []) b (tt, tt)) a.1 r l
leaves_all o Came w s (ForgetTransaction c ∷ ds) e f h k b a r l = leaves_all o Came w (after_server_step s (ForgetTransaction c)) ds e f h k (books_all o Came s (ForgetTransaction c ∷ []) b (tt, tt)) a.1 r l
leaves_all o Came w s (SetFlushed n ∷ ds) e f h k b a r l = leaves_all o Came w (after_server_step s (SetFlushed n)) ds e f h k (books_all o Came s (SetFlushed n ∷ []) b (tt, tt)) a.1 r l
