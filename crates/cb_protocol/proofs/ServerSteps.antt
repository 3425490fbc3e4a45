-- A list of steps of the server is a list of steps of the machine.
use Rattle.std.proofs.Common.{List, [], ap, inl, inr, refl, subst, sym, ℕ, ◌<◌, ◌∷◌, ◌≡◌}
use Rattle.cb_protocol.proofs.ClientSteps.{onto}
use Rattle.cb_protocol.proofs.HistoryKept.{history_names}
use Rattle.cb_protocol.proofs.Machine.{CommittedTransaction, Machine, MachineMayRun, ServerMayChange, ServerMaySend, ServerChanges, ServerSends, MachineStep, WasSent, happens, history_after, run}
use Rattle.cb_protocol.proofs.ServerOrder.{ServerStepsMay}
use Rattle.cb_protocol.specs.AnyMessages.{committed_names}
use Rattle.cb_protocol.specs.Basics.{IsIn, update}
use Rattle.cb_protocol.specs.Messages.{Body, Message}
use Rattle.cb_protocol.specs.Serial.{Operation, TransactionName}
use Rattle.cb_protocol.specs.Server.{AppliedCommit, MarkCalledBack, ServerStep, Doom, EnterQueue, SetFlushed, LeaveQueue, MarkInUse, ForgetTransaction, Server, Send, MarkDowngradeSent, ChangeSession, RemoveAsk, UnmarkInUse, commits_after, server_after, after_server_step}
use Rattle.cb_protocol.specs.Session.{Admit, ApplyCommit, DropTransaction, GrantRow, BeginTransaction, PermitWrite, RemoveRow, Session, SessionChange, Store, EndPermission, session_after, store_after}
use Rattle.cb_protocol.specs.World.{messages_sent}

abbrev pub server_machine_steps : List ServerStep → List MachineStep
server_machine_steps [] = []
server_machine_steps (ChangeSession c m ∷ ds) = ServerChanges c m ∷ server_machine_steps ds
server_machine_steps (Send c i b ∷ ds) = ServerSends c i b ∷ server_machine_steps ds
server_machine_steps (_ ∷ ds) = server_machine_steps ds

server_may_more : (Came Came' : ℕ → Body → Type 0) → ((i : ℕ) (b : Body) → Came i b → Came' i b) → (s : Store) (sessions : ℕ → Session) (c : ℕ) (m : SessionChange) → ServerMayChange Came s sessions c m → ServerMayChange Came' s sessions c m
server_may_more Came Came' f s sessions c (Admit i) a = (f _ _ a.0, a.1)
server_may_more Came Came' f s sessions c (BeginTransaction x) a = ((a.0.0, f _ _ a.0.1, a.0.2), a.1)
server_may_more Came Came' f s sessions c (DropTransaction x) a = (f _ _ a.0, a.1, a.2)
server_may_more Came Came' f s sessions c (GrantRow p g) a = a
server_may_more Came Came' f s sessions c (PermitWrite p g) a = (f _ _ a.0, a.1, a.2, a.3, a.4)
server_may_more Came Came' f s sessions c (RemoveRow p g) a = (f _ _ a.0, a.1)
server_may_more Came Came' f s sessions c (EndPermission p g x) a = (f _ _ a.0, a.1, a.2)
server_may_more Came Came' f s sessions c (ApplyCommit x ws) a = (f _ _ a.0, a.1, a.2, a.3)

pub server_steps_more : (Came Came' : ℕ → ℕ → Body → Type 0) → ((c i : ℕ) (b : Body) → Came c i b → Came' c i b) → (s : Server) (ds : List ServerStep) → ServerStepsMay Came s ds → ServerStepsMay Came' s ds
server_steps_more Came Came' f s [] a = tt
server_steps_more Came Came' f s (ChangeSession c m ∷ ds) a = ((server_may_more (Came c) (Came' c) (f c) s.store s.session c m a.0.0, a.0.1), server_steps_more Came Came' f (after_server_step s (ChangeSession c m)) ds a.1)
server_steps_more Came Came' f s (Send c i b ∷ ds) a = (a.0, server_steps_more Came Came' f s ds a.1)
server_steps_more Came Came' f s (EnterQueue p w ∷ ds) a = (tt, server_steps_more Came Came' f (after_server_step s (EnterQueue p w)) ds a.1)
server_steps_more Came Came' f s (LeaveQueue p ∷ ds) a = (tt, server_steps_more Came Came' f (after_server_step s (LeaveQueue p)) ds a.1)
server_steps_more Came Came' f s (MarkCalledBack p ∷ ds) a = (tt, server_steps_more Came Came' f (after_server_step s (MarkCalledBack p)) ds a.1)
server_steps_more Came Came' f s (MarkDowngradeSent p t ∷ ds) a = (tt, server_steps_more Came Came' f (after_server_step s (MarkDowngradeSent p t)) ds a.1)
server_steps_more Came Came' f s (MarkInUse c p ∷ ds) a = (tt, server_steps_more Came Came' f (after_server_step s (MarkInUse c p)) ds a.1)
server_steps_more Came Came' f s (UnmarkInUse c p ∷ ds) a = (tt, server_steps_more Came Came' f (after_server_step s (UnmarkInUse c p)) ds a.1)
server_steps_more Came Came' f s (RemoveAsk c ∷ ds) a = (tt, server_steps_more Came Came' f (after_server_step s (RemoveAsk c)) ds a.1)
server_steps_more Came Came' f s (Doom c ∷ ds) a = (tt, server_steps_more Came Came' f (after_server_step s (Doom c)) ds a.1)
server_steps_more Came Came' f s (ForgetTransaction c ∷ ds) a = (tt, server_steps_more Came Came' f (after_server_step s (ForgetTransaction c)) ds a.1)
server_steps_more Came Came' f s (SetFlushed n ∷ ds) a = (tt, server_steps_more Came Came' f (after_server_step s (SetFlushed n)) ds a.1)

names_after : (es : List CommittedTransaction) (os : List Operation) (cs : List AppliedCommit) (c i n : ℕ) (m : SessionChange) → history_names es ≡ committed_names cs → history_names (history_after es os c i m) ≡ committed_names (commits_after cs c i n m)
names_after es os cs c i n (Admit j) e = e
names_after es os cs c i n (BeginTransaction x) e = e
names_after es os cs c i n (DropTransaction x) e = e
names_after es os cs c i n (GrantRow p g) e = e
names_after es os cs c i n (PermitWrite p g) e = e
names_after es os cs c i n (RemoveRow p g) e = e
names_after es os cs c i n (EndPermission p g x) e = e
names_after es os cs c i n (ApplyCommit x ws) e = ap (λ (ns : List TransactionName). record { client = c; incarnation = i; txn = x } ∷ ns) e

-- what the steps leave
pub record ServerStepped (w : Machine) (s : Server) (ds : List ServerStep) (v : Machine) : Type 0 where
  pub allowed : MachineMayRun (server_machine_steps ds) w
  pub store : v.store ≡ (server_after s ds).store
  pub session : v.session ≡ (server_after s ds).session
  pub names : history_names v.history ≡ committed_names (server_after s ds).commits
  pub client : v.client ≡ w.client
  pub incarnation : v.incarnation ≡ w.incarnation
  pub packets : v.packets ≡ onto (messages_sent ds) w.packets
  pub performed : v.performed ≡ w.performed

pub server_steps_leave : (w : Machine) (s : Server) (ds : List ServerStep) → w.store ≡ s.store → w.session ≡ s.session → history_names w.history ≡ committed_names s.commits → ServerStepsMay (WasSent w) s ds → ServerStepped w s ds (run (server_machine_steps ds) w)
server_steps_leave w s [] e f n a = record { allowed = tt; store = e; session = f; names = n; client = refl; incarnation = refl; packets = refl; performed = refl }
server_steps_leave w s (ChangeSession c m ∷ ds) e f n a =
    let v : Machine = happens w (ServerChanges c m) in
    let i : (w.session c).current ≡ (s.session c).current = ap (λ (x : ℕ → Session). (x c).current) f in
    let q : history_names v.history ≡ committed_names (after_server_step s (ChangeSession c m)).commits = subst (λ (j : ℕ). history_names v.history ≡ committed_names (commits_after s.commits c j s.store.last_commit m)) i (names_after w.history (w.client c (w.session c).current).operations s.commits c (w.session c).current s.store.last_commit m n) in
    let r = server_steps_leave v (after_server_step s (ChangeSession c m)) ds (λ i. store_after (e i) c (f i c) m) (λ i. update (f i) c (session_after (f i c) m)) q a.1 in
    record {
      allowed = (subst (λ (x : Store). ServerMayChange (WasSent w c) x w.session c m) (sym e) (subst (λ (t : ℕ → Session). ServerMayChange (WasSent w c) s.store t c m) (sym f) a.0.0), r.allowed);
      store = r.store;
      session = r.session;
      names = r.names;
      client = r.client;
      incarnation = r.incarnation;
      packets = r.packets;
      performed = r.performed;
    }
server_steps_leave w s (Send c i b ∷ ds) e f n a =
    let v : Machine = happens w (ServerSends c i b) in
    let r = server_steps_leave v s ds e f n (server_steps_more (WasSent w) (WasSent v) (λ d j y k. inr k) s ds a.1) in
    record {
      allowed = (subst (λ (x : Store). ServerMaySend x c (w.session c) i b) (sym e) (subst (λ (t : ℕ → Session). ServerMaySend s.store c (t c) i b) (sym f) a.0.1), r.allowed);
      store = r.store;
      session = r.session;
      names = r.names;
      client = r.client;
      incarnation = r.incarnation;
      packets = r.packets;
      performed = r.performed;
    }
server_steps_leave w s (EnterQueue p q ∷ ds) e f n a = let r = server_steps_leave w (after_server_step s (EnterQueue p q)) ds e f n a.1 in record { allowed = r.allowed; store = r.store; session = r.session; names = r.names; client = r.client; incarnation = r.incarnation; packets = r.packets; performed = r.performed }
server_steps_leave w s (LeaveQueue p ∷ ds) e f n a = let r = server_steps_leave w (after_server_step s (LeaveQueue p)) ds e f n a.1 in record { allowed = r.allowed; store = r.store; session = r.session; names = r.names; client = r.client; incarnation = r.incarnation; packets = r.packets; performed = r.performed }
server_steps_leave w s (MarkCalledBack p ∷ ds) e f n a = let r = server_steps_leave w (after_server_step s (MarkCalledBack p)) ds e f n a.1 in record { allowed = r.allowed; store = r.store; session = r.session; names = r.names; client = r.client; incarnation = r.incarnation; packets = r.packets; performed = r.performed }
server_steps_leave w s (MarkDowngradeSent p t ∷ ds) e f n a = let r = server_steps_leave w (after_server_step s (MarkDowngradeSent p t)) ds e f n a.1 in record { allowed = r.allowed; store = r.store; session = r.session; names = r.names; client = r.client; incarnation = r.incarnation; packets = r.packets; performed = r.performed }
server_steps_leave w s (MarkInUse c p ∷ ds) e f n a = let r = server_steps_leave w (after_server_step s (MarkInUse c p)) ds e f n a.1 in record { allowed = r.allowed; store = r.store; session = r.session; names = r.names; client = r.client; incarnation = r.incarnation; packets = r.packets; performed = r.performed }
server_steps_leave w s (UnmarkInUse c p ∷ ds) e f n a = let r = server_steps_leave w (after_server_step s (UnmarkInUse c p)) ds e f n a.1 in record { allowed = r.allowed; store = r.store; session = r.session; names = r.names; client = r.client; incarnation = r.incarnation; packets = r.packets; performed = r.performed }
server_steps_leave w s (RemoveAsk c ∷ ds) e f n a = let r = server_steps_leave w (after_server_step s (RemoveAsk c)) ds e f n a.1 in record { allowed = r.allowed; store = r.store; session = r.session; names = r.names; client = r.client; incarnation = r.incarnation; packets = r.packets; performed = r.performed }
server_steps_leave w s (Doom c ∷ ds) e f n a = let r = server_steps_leave w (after_server_step s (Doom c)) ds e f n a.1 in record { allowed = r.allowed; store = r.store; session = r.session; names = r.names; client = r.client; incarnation = r.incarnation; packets = r.packets; performed = r.performed }
server_steps_leave w s (ForgetTransaction c ∷ ds) e f n a = let r = server_steps_leave w (after_server_step s (ForgetTransaction c)) ds e f n a.1 in record { allowed = r.allowed; store = r.store; session = r.session; names = r.names; client = r.client; incarnation = r.incarnation; packets = r.packets; performed = r.performed }
server_steps_leave w s (SetFlushed x ∷ ds) e f n a = let r = server_steps_leave w (after_server_step s (SetFlushed x)) ds e f n a.1 in record { allowed = r.allowed; store = r.store; session = r.session; names = r.names; client = r.client; incarnation = r.incarnation; packets = r.packets; performed = r.performed }

-- every message is to a client that there is
pub sent_near : (Came : ℕ → ℕ → Body → Type 0) (s : Server) (ds : List ServerStep) (n : ℕ) (f : Message) → s.clients ≡ n → ServerStepsMay Came s ds → IsIn f (messages_sent ds) → f.client < n
sent_near Came s [] n f e a i = absurd i
sent_near Came s (ChangeSession c m ∷ ds) n f e a i = sent_near Came (after_server_step s (ChangeSession c m)) ds n f e a.1 i
sent_near Came s (Send c j b ∷ ds) n f e a i = elim i [ inl q ↦ subst (λ (x : Message). x.client < n) q (rw (sym e) a.0.0) | inr k ↦ sent_near Came s ds n f e a.1 k ]
sent_near Came s (EnterQueue p w ∷ ds) n f e a i = sent_near Came (after_server_step s (EnterQueue p w)) ds n f e a.1 i
sent_near Came s (LeaveQueue p ∷ ds) n f e a i = sent_near Came (after_server_step s (LeaveQueue p)) ds n f e a.1 i
sent_near Came s (MarkCalledBack p ∷ ds) n f e a i = sent_near Came (after_server_step s (MarkCalledBack p)) ds n f e a.1 i
sent_near Came s (MarkDowngradeSent p t ∷ ds) n f e a i = sent_near Came (after_server_step s (MarkDowngradeSent p t)) ds n f e a.1 i
sent_near Came s (MarkInUse c p ∷ ds) n f e a i = sent_near Came (after_server_step s (MarkInUse c p)) ds n f e a.1 i
sent_near Came s (UnmarkInUse c p ∷ ds) n f e a i = sent_near Came (after_server_step s (UnmarkInUse c p)) ds n f e a.1 i
sent_near Came s (RemoveAsk c ∷ ds) n f e a i = sent_near Came (after_server_step s (RemoveAsk c)) ds n f e a.1 i
sent_near Came s (Doom c ∷ ds) n f e a i = sent_near Came (after_server_step s (Doom c)) ds n f e a.1 i
sent_near Came s (ForgetTransaction c ∷ ds) n f e a i = sent_near Came (after_server_step s (ForgetTransaction c)) ds n f e a.1 i
sent_near Came s (SetFlushed x ∷ ds) n f e a i = sent_near Came (after_server_step s (SetFlushed x)) ds n f e a.1 i
