-- The machine whose steps the tables are made of: when each step is allowed, and what it changes.
use Rattle.std.proofs.Common.{List, None, Some, [], false, if◌then◌else◌, true, ℕ, ◌+◌, ◌<◌, ◌==◌, ◌∷◌, ◌≡◌, ◌≢◌, ◌≤◌}
use Rattle.std.specs.Prelude.{⊤}
use Rattle.cb_protocol.specs.Cache.{Begin, Cache, CacheChange, Committing, Fill, Finish, Abandon, Idle, Install, LetGo, Lock, MakeBare, Open, WriteBytes, Read, RefuseGrant, TakeDone, TakePermission, TakeWelcome, YieldPermission, cache_after, new_cache}
use Rattle.cb_protocol.specs.Basics.{Bytes, IsIn, Limits, update}
use Rattle.cb_protocol.specs.Messages.{AbortNow, AskRead, AskWrite, Body, Callback, Commit, Done, Downgrade, Downgraded, Drop, Message, GiveBack, Granted, Hello, InUse, MayWrite, Welcome, PageWrite, write_of_page}
use Rattle.cb_protocol.specs.Serial.{Operation, Put, Saw, PerformedOperation}
use Rattle.cb_protocol.specs.Session.{Admit, ApplyCommit, DropTransaction, GrantRow, BeginTransaction, PermitWrite, RemoveRow, Session, SessionChange, Store, EndPermission, session_after, store_after}
use Rattle.cb_protocol.specs.World.{Opening, opening_store}

-- a committed transaction
pub record CommittedTransaction : Type 0 where
  pub client : ℕ
  pub incarnation : ℕ
  pub txn : ℕ
  pub operations : List Operation

pub record Machine : Type 0 where
  pub store : Store
  pub session : ℕ → Session
  pub incarnation : ℕ → ℕ  -- the present one of each client
  pub client : ℕ → ℕ → Cache  -- by number and incarnation: those that ended stay as they were
  pub packets : List Message  -- every packet that was ever sent
  pub history : List CommittedTransaction  -- the transactions committed, the newest first
  pub performed : List PerformedOperation  -- the transcript, the newest first

-- `Came b`: a packet of this client's incarnation with that body was sent
abbrev pub ClientMayChange : (Body → Type 0) → Cache → CacheChange → Type 0
ClientMayChange Came k TakeWelcome = Came Welcome
ClientMayChange Came k Begin = (k.welcomed ≡ true) × (k.status ≡ Idle)
ClientMayChange Came k (Lock p) = (k.welcomed ≡ true) × (k.status ≡ Open) × ((b : Bytes) × (k.content p ≡ Some b))
ClientMayChange Came k (Read p b) = (k.welcomed ≡ true) × (k.status ≡ Open) × (k.content p ≡ Some b)
ClientMayChange Came k (TakePermission p) = (k.welcomed ≡ true) × (k.status ≡ Open) × ((g : ℕ) × Came (MayWrite k.number p g) × (k.held p ≡ Some g))
ClientMayChange Came k (WriteBytes p b) = (k.welcomed ≡ true) × (k.status ≡ Open) × (k.may_write p ≡ true) × (k.locked p ≡ true) × ((o : Bytes) × (k.content p ≡ Some o))
ClientMayChange Came k Finish = (k.welcomed ≡ true) × (k.status ≡ Open)
ClientMayChange Came k Abandon = (k.welcomed ≡ true) × (k.status ≡ Open)
ClientMayChange Came k (TakeDone n) = (k.welcomed ≡ true) × (k.status ≡ Committing) × Came (Done k.number n)
ClientMayChange Came k (Install p g v b) = (k.welcomed ≡ true) × Came (Granted p g v b) × (k.held p ≡ None) × (k.seen p < g)
ClientMayChange Came k (Fill p g b) = (k.welcomed ≡ true) × Came (Granted p g (k.version p) b) × (k.held p ≡ Some g) × (k.content p ≡ None)
ClientMayChange Came k (RefuseGrant p g) = (k.welcomed ≡ true) × (k.held p ≢ Some g)
ClientMayChange Came k (LetGo p) = (k.welcomed ≡ true) × (k.locked p ≡ false)
ClientMayChange Came k (MakeBare p) = (k.welcomed ≡ true) × (k.wrote p ≡ false)
ClientMayChange Came k (YieldPermission p) = (k.welcomed ≡ true) × (k.wrote p ≡ false)

-- the writes of a commit are what the transaction wrote
pub record ListsWrites (ws : List PageWrite) (k : Cache) : Type 0 where
  pub no_other : (p : ℕ) → write_of_page ws p ≡ None → k.wrote p ≡ false
  pub each : (p : ℕ) (x : PageWrite) → write_of_page ws p ≡ Some x → (k.wrote p ≡ true) × (k.held p ≡ Some x.grant) × (k.content p ≡ Some x.bytes)

-- what a welcomed client may say
abbrev pub ClientMaySay : (Body → Type 0) → Cache → Body → Type 0
ClientMaySay Came k Hello = ⊤
ClientMaySay Came k (AskRead t p) = t ≤ k.number
ClientMaySay Came k (AskWrite t p g) = (t ≡ k.number) × (k.status ≡ Open) × (k.may_write p ≡ true → k.tag p ≡ t)
ClientMaySay Came k (GiveBack p g) = (k.held p ≢ Some g) × (g ≤ k.seen p)
ClientMaySay Came k (InUse t p g) = t ≤ k.number
ClientMaySay Came k (Commit t ws) = (t ≡ k.number) × (k.status ≡ Committing) × ListsWrites ws k
ClientMaySay Came k (Drop t) = (t ≤ k.number) × (t ≡ k.number → k.status ≡ Idle)
ClientMaySay Came k (Downgraded p g x) = Came (Downgrade p g x) × (k.may_write p ≡ true → k.tag p ≢ x)
ClientMaySay Came k _ = ⊥

-- the body names the transaction
abbrev pub NamesTransaction : Body → ℕ → Type 0
NamesTransaction (AskRead t p) x = t ≡ x
NamesTransaction (AskWrite t p g) x = t ≡ x
NamesTransaction (InUse t p g) x = t ≡ x
NamesTransaction (Commit t ws) x = t ≡ x
NamesTransaction (Drop t) x = t ≡ x
NamesTransaction _ x = ⊥

-- nobody but c has write permission
abbrev pub NoOther : Store → ℕ → ℕ → Type 0
NoOther s c p = (d : ℕ) → s.holder p ≡ Some d → d ≡ c

-- `Came i b`: a packet of client c with that incarnation and body was sent
abbrev pub ServerMayChange : (ℕ → Body → Type 0) → Store → (ℕ → Session) → ℕ → SessionChange → Type 0
ServerMayChange Came s sessions c (Admit i) = Came i Hello × ((sessions c).current < i)
ServerMayChange Came s sessions c (BeginTransaction x) = ((b : Body) × Came (sessions c).current b × NamesTransaction b x) × ((sessions c).txn < x)
ServerMayChange Came s sessions c (DropTransaction x) = Came (sessions c).current (Drop x) × ((sessions c).txn ≡ x) × ((sessions c).ended < x)
ServerMayChange Came s sessions c (GrantRow p g) = ((sessions c).row p ≡ None) × NoOther s c p
ServerMayChange Came s sessions c (EndPermission p g x) = Came (sessions c).current (Downgraded p g x) × ((sessions c).row p ≡ Some g) × (s.tag p ≡ x)
ServerMayChange Came s sessions c (PermitWrite p g) = Came (sessions c).current (AskWrite (sessions c).txn p g) × ((sessions c).ended < (sessions c).txn) × ((sessions c).row p ≡ Some g) × NoOther s c p × ((d : ℕ) → d ≢ c → (sessions d).row p ≡ None)
ServerMayChange Came s sessions c (RemoveRow p g) = Came (sessions c).current (GiveBack p g) × ((sessions c).row p ≡ Some g)
ServerMayChange Came s sessions c (ApplyCommit x ws) =
    Came (sessions c).current (Commit x ws) × ((sessions c).txn ≡ x) × ((sessions c).ended < x)
    × ((p : ℕ) (w : PageWrite) → write_of_page ws p ≡ Some w → (s.holder p ≡ Some c) × ((sessions c).row p ≡ Some w.grant))

abbrev pub ServerMaySend : Store → ℕ → Session → ℕ → Body → Type 0
ServerMaySend s c t i Welcome = i ≡ t.current
ServerMaySend s c t i (Granted p g v b) = (i ≡ t.current) × (t.row p ≡ Some g) × (v ≡ s.version p) × (b ≡ s.bytes p)
ServerMaySend s c t i (MayWrite x p g) = (i ≡ t.current) × (x ≡ t.txn) × (t.row p ≡ Some g) × (s.tag p ≡ x) × (s.holder p ≡ Some c)
ServerMaySend s c t i (Callback p g) = i ≡ t.current
ServerMaySend s c t i (Done x n) = s.commit_number c i x ≡ Some n
ServerMaySend s c t i (AbortNow x) = i ≡ t.current
ServerMaySend s c t i (Downgrade p g x) = (i ≡ t.current) × (x ≤ t.ended)
ServerMaySend s c t i _ = ⊥

pub data MachineStep : Type 0 where
  ClientChanges : (client : ℕ) → CacheChange → MachineStep
  ClientSays : (client : ℕ) → Body → MachineStep
  ServerChanges : (client : ℕ) → SessionChange → MachineStep
  ServerSends : (client incarnation : ℕ) → Body → MachineStep
  ClientRestarts : (client : ℕ) → MachineStep

abbrev pub WasSent : Machine → ℕ → ℕ → Body → Type 0
WasSent w c i b = IsIn (record { client = c; incarnation = i; body = b }) w.packets

abbrev pub present_cache : Machine → ℕ → Cache
present_cache w c = w.client c (w.incarnation c)

abbrev pub put_client : (ℕ → ℕ → Cache) → ℕ → ℕ → Cache → ℕ → ℕ → Cache
put_client f c i k d j = if d == c then (if j == i then k else f d j) else f d j

abbrev pub history_after : List CommittedTransaction → List Operation → ℕ → ℕ → SessionChange → List CommittedTransaction
history_after es os c i (ApplyCommit x ws) = record { client = c; incarnation = i; txn = x; operations = os } ∷ es
history_after es os c i _ = es

abbrev pub performed_after : List PerformedOperation → ℕ → ℕ → ℕ → CacheChange → List PerformedOperation
performed_after ls c i x (Read p b) = record { client = c; incarnation = i; txn = x; operation = Saw p b } ∷ ls
performed_after ls c i x (WriteBytes p b) = record { client = c; incarnation = i; txn = x; operation = Put p b } ∷ ls
performed_after ls c i x _ = ls

abbrev pub happens : Machine → MachineStep → Machine
happens w (ClientChanges c m) = record w {
  client = put_client w.client c (w.incarnation c) (cache_after w.store.keep_write (present_cache w c) m);
  performed = performed_after w.performed c (w.incarnation c) (present_cache w c).number m;
}
happens w (ClientSays c b) = record w { packets = record { client = c; incarnation = w.incarnation c; body = b } ∷ w.packets }
happens w (ServerChanges c m) = record w {
  store = store_after w.store c (w.session c) m;
  session = update w.session c (session_after (w.session c) m);
  history = history_after w.history (w.client c (w.session c).current).operations c (w.session c).current m;
}
happens w (ServerSends c i b) = record w { packets = record { client = c; incarnation = i; body = b } ∷ w.packets }
happens w (ClientRestarts c) = record w { incarnation = update w.incarnation c (w.incarnation c + 1) }

-- only Hello is said before the Welcome
abbrev pub MaySpeak : Cache → Body → Type 0
MaySpeak k Hello = ⊤
MaySpeak k _ = k.welcomed ≡ true

abbrev pub MachineMay : Machine → MachineStep → Type 0
MachineMay w (ClientChanges c m) = ClientMayChange (WasSent w c (w.incarnation c)) (present_cache w c) m
MachineMay w (ClientSays c b) = MaySpeak (present_cache w c) b × ClientMaySay (WasSent w c (w.incarnation c)) (present_cache w c) b
MachineMay w (ServerChanges c m) = ServerMayChange (WasSent w c) w.store w.session c m
MachineMay w (ServerSends c i b) = ServerMaySend w.store c (w.session c) i b
MachineMay w (ClientRestarts c) = ⊤

abbrev pub run : List MachineStep → Machine → Machine
run [] w = w
run (e ∷ es) w = run es (happens w e)

abbrev pub MachineMayRun : List MachineStep → Machine → Type 0
MachineMayRun [] w = ⊤
MachineMayRun (e ∷ es) w = MachineMay w e × MachineMayRun es (happens w e)

-- the opening store, and nobody has anything
abbrev pub start : Limits → Opening → Machine
start L o = record {
  store = opening_store L o;
  session = λ c. record { current = 0; row = λ p. None; txn = 0; ended = 0 };
  incarnation = λ c. 1;
  client = λ c i. new_cache;
  packets = [];
  history = [];
  performed = [];
}
