-- What each event sends: a client as the incarnation that it has, the server to incarnations of its own life. And what it makes of the commits and the disk.
use Rattle.std.proofs.Common.{Bool, List, None, Option, Some, [], ap, arith, false, if◌then◌else◌, inl, inr, nat_le, nat_lt, refl, subst, sym, true, ℕ, ◌++◌, ◌+◌, ◌<◌, ◌==◌, ◌∙◌, ◌∷◌, ◌≡◌, ◌≢◌, ◌≤◌}
use Rattle.cb_protocol.proofs.ClientSpeaks.{ToServer, calls_speak, takes_speak}
use Rattle.cb_protocol.proofs.DoneOnDisk.{again_from_disk, flushed_to_disk, taken_from_disk}
use Rattle.cb_protocol.proofs.Invariant.{Invariant, MessageHolds, cache_at_session}
use Rattle.cb_protocol.proofs.LifeEvents.{near_or_far, packet_is_in, served, stale_message}
use Rattle.cb_protocol.proofs.LifeImage.{Image, Life, SentInLife, in_append, in_left, onto_new}
use Rattle.cb_protocol.proofs.LifeMachine.{Above, above_run}
use Rattle.cb_protocol.proofs.Machine.{Machine, ServerMaySend, WasSent, run}
use Rattle.cb_protocol.proofs.OthersSpokenTo.{Passes, greeted_after, passes_again, passes_flush, passes_sent, passes_take}
use Rattle.cb_protocol.proofs.ServedSteps.{sent_before, tells_again, tells_dones, tells_no_welcome, welcome_answers}
use Rattle.cb_protocol.proofs.ServerOrder.{ServerStepsMay, StepsRight}
use Rattle.cb_protocol.proofs.ServerSteps.{ServerStepped, sent_near, server_machine_steps, server_steps_leave, server_steps_more}
use Rattle.cb_protocol.proofs.ServerTakes.{right_again, right_flushes}
use Rattle.cb_protocol.proofs.ServerWalks.{EachStep}
use Rattle.cb_protocol.proofs.TranscriptKept.{all_kept}
use Rattle.cb_protocol.specs.Answers.{AnsweredOk, AnswerWord, Exhausted, Flushed, NoClient, NoPacket, Nothing, Refused, ServerExhausted, Taken}
use Rattle.cb_protocol.specs.Basics.{IsIn, Limits, max_number, update}
use Rattle.cb_protocol.specs.Cache.{Cache}
use Rattle.cb_protocol.specs.Client.{ChangeCache, ClientStep, EndTransaction, MarkDue, MarkDueDowngrade, MarkWanted, Say, SetAsk, bodies_said, new_client}
use Rattle.cb_protocol.specs.ClientCalls.{client_call}
use Rattle.cb_protocol.specs.ClientMessages.{client_take}
use Rattle.cb_protocol.specs.Flush.{can_flush, dones_between, server_flush}
use Rattle.cb_protocol.specs.HelloLaws.{OnlyGreeted}
use Rattle.cb_protocol.specs.Lives.{HelloSent, welcome_to}
use Rattle.cb_protocol.specs.Messages.{AbortNow, Body, Callback, Done, Downgrade, Granted, Hello, MayWrite, Message, Welcome, to_server}
use Rattle.cb_protocol.specs.Resend.{server_again}
use Rattle.cb_protocol.specs.Server.{AppliedCommit, ChangeSession, DeadlockTest, Send, Server, ServerStep, after_server_step, commits_after, server_after}
use Rattle.cb_protocol.specs.ServerMessages.{is_exhausted, server_take}
use Rattle.cb_protocol.specs.Session.{ApplyCommit, Session, SessionChange, Store}
use Rattle.cb_protocol.specs.World.{ClientCalls, Event, FlushAll, FlushTo, Restart, ServerAgain, TakePacket, World, answer_only, answer_with, client_does, deliver, flush_up_to, messages_said, messages_sent, packet_at, restart_client, server_does, step, take_packet}

-- what a message's incarnation is below
pub message_below : (c : ℕ) (s : Store) (t : Session) (k : Cache) (last i : ℕ) (y : Body) → t.current ≤ last → MessageHolds c s t k last i y → i ≤ last
message_below c s t k last i y l h = grind (arith, l, h)

-- What was sent is of no incarnation to come; who was welcomed had greeted; and of a client below the floor the server has nothing. n: the clients
pub record Spoken (n floor : ℕ) (v : World) : Type 0 where
  pub past : (f : Message) → IsIn f v.packets → f.incarnation ≤ v.incarnation f.client
  pub greeted : (c i : ℕ) → IsIn (welcome_to c i) v.packets → HelloSent v c i
  pub nothing : (c : ℕ) → c < n → v.incarnation c < floor → OnlyGreeted v.server c floor

-- what an event sends, and leaves
pub record Sends (n floor : ℕ) (v v' : World) : Type 0 where
  pub sent : List Message
  pub grows : v'.packets ≡ v.packets ++ sent
  pub by_client : (f : Message) → IsIn f sent → to_server f.body ≡ true → f.incarnation ≡ v.incarnation f.client
  pub by_server : (f : Message) → IsIn f sent → to_server f.body ≡ false → (floor ≤ f.incarnation) × (f.incarnation ≤ v.incarnation f.client)
  pub welcome : (c i : ℕ) → IsIn (welcome_to c i) sent → HelloSent v c i
  pub rises : (c : ℕ) → v.incarnation c ≤ v'.incarnation c
  pub flushed : v.server.flushed ≤ v'.server.flushed
  pub commits : (x : AppliedCommit) → IsIn x v.server.commits → IsIn x v'.server.commits
  pub nothing : (c : ℕ) → c < n → v.incarnation c < floor → OnlyGreeted v'.server c floor

-- nothing but the answer
only_answers : (n floor : ℕ) (v : World) (e : Event) (word : AnswerWord) → Spoken n floor v → Sends n floor v (answer_only v e word).world
only_answers n floor v e word h = record {
  sent = [];
  grows = refl;
  by_client = λ f i. absurd i;
  by_server = λ f i. absurd i;
  welcome = λ c i j. absurd j;
  rises = λ c. omega arith;
  flushed = omega arith;
  commits = λ x i. i;
  nothing = h.nothing;
}

-- what a client says is its own, and goes to the server
said_by : (c i : ℕ) (steps : List ClientStep) (f : Message) → ToServer steps → IsIn f (messages_said c i (bodies_said steps)) → (f.client ≡ c) × (f.incarnation ≡ i) × (to_server f.body ≡ true)
said_by c i [] f a j = absurd j
said_by c i (Say b ∷ steps) f a j = elim j [
  | inl e ↦ subst (λ (x : Message). (x.client ≡ c) × (x.incarnation ≡ i) × (to_server x.body ≡ true)) e (refl, refl, a.0)
  | inr k ↦ said_by c i steps f a.1 k
]
said_by c i (ChangeCache m ∷ steps) f a j = said_by c i steps f a j
said_by c i (SetAsk y ∷ steps) f a j = said_by c i steps f a j
said_by c i (MarkWanted p ∷ steps) f a j = said_by c i steps f a j
said_by c i (MarkDue p ∷ steps) f a j = said_by c i steps f a j
said_by c i (MarkDueDowngrade p y ∷ steps) f a j = said_by c i steps f a j
said_by c i (EndTransaction l ∷ steps) f a j = said_by c i steps f a j

client_sends : (L : Limits) (n floor : ℕ) (v : World) (e : Event) (c : ℕ) (word : AnswerWord) (steps : List ClientStep) → Spoken n floor v → ToServer steps → Sends n floor v (client_does L v e c word steps).world
client_sends L n floor v e c word steps h a = record {
  sent = messages_said c (v.incarnation c) (bodies_said steps);
  grows = refl;
  by_client = λ f i t. (let r = said_by c (v.incarnation c) steps f a i in r.1 ∙ ap v.incarnation (sym r.0));
  by_server = λ f i t. absurd (let r = said_by c (v.incarnation c) steps f a i in let q : true ≡ false = sym r.2 ∙ t in cc);
  welcome = λ d k i. absurd (let r = said_by c (v.incarnation c) steps (welcome_to d k) a i in let q : false ≡ true = r.2 in cc);
  rises = λ d. omega arith;
  flushed = omega arith;
  commits = λ x i. i;
  nothing = h.nothing;
}

-- what the server says goes to clients
may_to_client : (s : Store) (c : ℕ) (t : Session) (i : ℕ) (y : Body) → ServerMaySend s c t i y → to_server y ≡ false
may_to_client s c t i Welcome a = refl
may_to_client s c t i (Granted p g n b) a = refl
may_to_client s c t i (MayWrite x p g) a = refl
may_to_client s c t i (Callback p g) a = refl
may_to_client s c t i (Done x n) a = refl
may_to_client s c t i (AbortNow x) a = refl
may_to_client s c t i (Downgrade p g x) a = refl
may_to_client s c t i _ a = absurd a

to_clients : (Came : ℕ → ℕ → Body → Type 0) (s : Server) (ds : List ServerStep) (f : Message) → ServerStepsMay Came s ds → IsIn f (messages_sent ds) → to_server f.body ≡ false
to_clients Came s [] f a i = absurd i
to_clients Came s (Send c j b ∷ ds) f a i = elim i [
  | inl e ↦ subst (λ (x : Message). to_server x.body ≡ false) e (may_to_client s.store c (s.session c) j b a.0.1)
  | inr k ↦ to_clients Came s ds f a.1 k
]
to_clients Came s (d ∷ ds) f a i = to_clients Came (after_server_step s d) ds f a.1 i

-- no commit goes
change_keeps : (xs : List AppliedCommit) (c i n : ℕ) (m : SessionChange) (x : AppliedCommit) → IsIn x xs → IsIn x (commits_after xs c i n m)
change_keeps xs c i n (ApplyCommit t ws) x j = inr j
change_keeps xs c i n _ x j = j

step_keeps : (s : Server) (d : ServerStep) (x : AppliedCommit) → IsIn x s.commits → IsIn x (after_server_step s d).commits
step_keeps s (ChangeSession c m) x j = change_keeps s.commits c (s.session c).current s.store.last_commit m x j
step_keeps s _ x j = j

server_keeps : (s : Server) (ds : List ServerStep) (x : AppliedCommit) → IsIn x s.commits → IsIn x (server_after s ds).commits
server_keeps s [] x j = j
server_keeps s (d ∷ ds) x j = server_keeps (after_server_step s d) ds x (step_keeps s d x j)

server_sends : (L : Limits) (b : Life) (v : World) (w : Machine) (e : Event) (word : AnswerWord) (ds : List ServerStep) → Image L b v w → StepsRight (SentInLife b.floor v) v.server ds → v.server.flushed ≤ (server_after v.server ds).flushed
    → ((c i : ℕ) → IsIn (welcome_to c i) (messages_sent ds) → HelloSent v c i) → Spoken L.clients b.floor v → ((c : ℕ) → c < L.clients → v.incarnation c < b.floor → EachStep (Passes c) v.server ds) → Sends L.clients b.floor v (server_does v e word ds).world
server_sends L b v w e word ds m right disk greeted h passes = record {
  sent = messages_sent ds;
  grows = refl;
  by_client = λ f i t. absurd (let q : true ≡ false = sym t ∙ to_clients (SentInLife b.floor v) v.server ds f right.0 i in cc);
  by_server = λ f i t. (
    above.sent f.client f.incarnation f.body (near f i) (there f i),
    elim (near_or_far b.floor (v.incarnation f.client)) [
      | inl l ↦ (let a = message_below f.client u.store (u.session f.client) (cache_at_session u f.client) (u.incarnation f.client) f.incarnation f.body (safe.behind f.client) (safe.fine f (there f i)) in
          let e = ap (λ (g : ℕ → ℕ). g f.client) r.incarnation in let k = m.incarnation f.client l in omega (arith, a, e, k))
      | inr l ↦ absurd (passes_sent f.client v.server ds f (passes f.client (near f i) l) i refl)
    ],
  );
  welcome = greeted;
  rises = λ c. omega arith;
  flushed = disk;
  commits = λ x i. server_keeps v.server ds x i;
  nothing = λ c l far. greeted_after c b.floor v.server ds (passes c l far) (h.nothing c l far);
}
  where
    near : (f : Message) → IsIn f (messages_sent ds) → f.client < L.clients
    near f i = sent_near (SentInLife b.floor v) v.server ds L.clients f m.clients right.0 i

    u : Machine
    u = run (server_machine_steps ds) w

    r : ServerStepped w v.server ds (run (server_machine_steps ds) w)
    r = server_steps_leave w v.server ds m.store m.session m.names (server_steps_more (SentInLife b.floor v) (WasSent w) (λ c i y j. m.packets _ j.0 j.1) v.server ds right.0)

    there : (f : Message) → IsIn f (messages_sent ds) → IsIn f u.packets
    there f i = subst (λ (x : List Message). IsIn f x) (sym r.packets) (onto_new f (messages_sent ds) w.packets i)

    safe : Invariant u
    safe = (all_kept b.opening.bytes (server_machine_steps ds) w m.safe m.kept m.recorded r.allowed).0

    above : Above L.clients b.floor u
    above = above_run L.clients b.floor (server_machine_steps ds) w m.safe r.allowed m.above

deliver_sends : (L : Limits) (cycle : DeadlockTest) (b : Life) (v : World) (w : Machine) (n : ℕ) (f : Message) (let_go : Option ℕ) → Image L b v w → Spoken L.clients b.floor v → IsIn f v.packets → Sends L.clients b.floor v (deliver L cycle v (TakePacket n) f let_go).world
deliver_sends L cycle b v w n f let_go m h i = go (to_server f.body) (is_exhausted v.server f.client f.incarnation f.body) (f.incarnation == v.incarnation f.client)
  where
    came : (c j : ℕ) → IsIn (welcome_to c j) (messages_sent (server_take cycle v.server f.client f.incarnation f.body)) → HelloSent v c j
    came c j k = subst (λ (x : Message). IsIn x v.packets) (welcome_answers cycle v.server f c j k) i

    stale : (c : ℕ) → c < L.clients → v.incarnation c < b.floor → f.client ≡ c → f.incarnation < (v.server.session f.client).current
    stale c l far e = let a = h.past f i in let k = ap v.incarnation e in let o = (h.nothing c l far).current in let z = ap (λ (d : ℕ). (v.server.session d).current) e in omega (arith, a, k, o, z, far)

    same : (c : ℕ) → (f.client == c) ≡ true → f.client ≡ c
    same c e = grind arith

    apart : (c : ℕ) → (f.client == c) ≡ false → f.client ≢ c
    apart c e = grind arith

    passes : (c : ℕ) → c < L.clients → v.incarnation c < b.floor → EachStep (Passes c) v.server (server_take cycle v.server f.client f.incarnation f.body)
    passes c l far = own (f.client == c) refl
      where
        own : (r : Bool) → (f.client == c) ≡ r → EachStep (Passes c) v.server (server_take cycle v.server f.client f.incarnation f.body)
        own true e = subst (λ (ds : List ServerStep). EachStep (Passes c) v.server ds) (sym (stale_message cycle v.server f.client f.incarnation f.body (stale c l far (same c e)))) tt
        own false e = passes_take c b.floor cycle v.server f.client f.incarnation f.body (apart c e) (h.nothing c l far)

    go : (r u q : Bool) → Sends L.clients b.floor v (if r
        then (if u then answer_only v (TakePacket n) ServerExhausted else server_does v (TakePacket n) Taken (server_take cycle v.server f.client f.incarnation f.body))
        else if q then client_does L v (TakePacket n) f.client Taken (client_take L (v.client f.client) f.body let_go) else answer_only v (TakePacket n) Taken).world
    go true true q = only_answers L.clients b.floor v (TakePacket n) ServerExhausted h
    go true false q = server_sends L b v w (TakePacket n) Taken (server_take cycle v.server f.client f.incarnation f.body) m (served L cycle b v w f m i) (taken_from_disk cycle v.server f.client f.incarnation f.body).rises came h passes
    go false r true = client_sends L L.clients b.floor v (TakePacket n) f.client Taken (client_take L (v.client f.client) f.body let_go) h (takes_speak L (v.client f.client) f.body let_go)
    go false r false = only_answers L.clients b.floor v (TakePacket n) Taken h

take_sends : (L : Limits) (cycle : DeadlockTest) (b : Life) (v : World) (w : Machine) (n : ℕ) (let_go : Option ℕ) (r : Option Message) → packet_at v.packets n ≡ r → Image L b v w → Spoken L.clients b.floor v → Sends L.clients b.floor v (take_packet L cycle v (TakePacket n) r let_go).world
take_sends L cycle b v w n let_go None e m h = only_answers L.clients b.floor v (TakePacket n) NoPacket h
take_sends L cycle b v w n let_go (Some f) e m h = deliver_sends L cycle b v w n f let_go m h (packet_is_in v.packets n f e)

restart_sends : (n floor : ℕ) (v : World) (c : ℕ) → Spoken n floor v → Sends n floor v (restart_client v (Restart c) c).world
restart_sends n floor v c h = go (nat_le max_number (v.incarnation c))
  where
    higher : (d : ℕ) → v.incarnation d ≤ update v.incarnation c (v.incarnation c + 1) d
    higher d = grind arith

    go : (r : Bool) → Sends n floor v (if r then answer_only v (Restart c) (Refused Exhausted)
        else answer_with v (Restart c) AnsweredOk [] (record v { client = update v.client c new_client; incarnation = update v.incarnation c (v.incarnation c + 1) })).world
    go true = only_answers n floor v (Restart c) (Refused Exhausted) h
    go false = record {
      sent = [];
      grows = refl;
      by_client = λ f i. absurd i;
      by_server = λ f i. absurd i;
      welcome = λ c i j. absurd j;
      rises = higher;
      flushed = omega arith;
      commits = λ x i. i;
      nothing = h.nothing;
    }

-- a client of which the server has nothing committed nothing
none_committed : (L : Limits) (b : Life) (v : World) (w : Machine) (c : ℕ) (x : AppliedCommit) → Image L b v w → OnlyGreeted v.server c b.floor → IsIn x v.server.commits → x.client ≢ c
none_committed L b v w c x m o i q = let l = m.orderly.over x.client x.txn x.number (subst (λ (j : ℕ). v.server.store.commit_number x.client j x.txn ≡ Some x.number) at_floor made) in let z = own.none_ended in let k = above.1 in omega (arith, l, z, k)
  where
    own : OnlyGreeted v.server x.client b.floor
    own = subst (λ (d : ℕ). OnlyGreeted v.server d b.floor) (sym q) o

    made : v.server.store.commit_number x.client x.incarnation x.txn ≡ Some x.number
    made = (m.orderly.listed x i).1

    above : (b.floor ≤ x.incarnation) × (1 ≤ x.txn)
    above = m.above.made x.client x.incarnation x.txn x.number (ap (λ (s : Store). s.commit_number x.client x.incarnation x.txn) m.store ∙ made)

    at_floor : x.incarnation ≡ (v.server.session x.client).current
    at_floor = let a = m.orderly.past x.client x.incarnation x.txn x.number made in let k = above.0 in let z = own.current in omega (arith, a, k, z)

flush_sends : (L : Limits) (b : Life) (v : World) (w : Machine) (e : Event) (n : ℕ) → Image L b v w → Spoken L.clients b.floor v → Sends L.clients b.floor v (flush_up_to v e n).world
flush_sends L b v w e n m h = go (can_flush v.server n) refl
  where
    no_welcome : (c i : ℕ) → IsIn (welcome_to c i) (messages_sent (server_flush v.server n)) → HelloSent v c i
    no_welcome c i j = absurd (tells_no_welcome n (dones_between v.server.commits v.server.flushed n) c i (tells_dones v.server.commits v.server.flushed n)
        (subst (λ (fs : List Message). IsIn (welcome_to c i) fs) (sent_before (dones_between v.server.commits v.server.flushed n) n) j))

    go : (r : Bool) → can_flush v.server n ≡ r → Sends L.clients b.floor v (if r then server_does v e (Flushed n) (server_flush v.server n) else answer_only v e Nothing).world
    go true f = server_sends L b v w e (Flushed n) (server_flush v.server n) m (right_flushes (SentInLife b.floor v) v.server n m.orderly) (flushed_to_disk v.server n f).rises no_welcome h
        (λ c l far. passes_flush c v.server n (λ x i. none_committed L b v w c x m (h.nothing c l far) i))
    go false f = only_answers L.clients b.floor v e Nothing h

-- each event
pub event_sends : (L : Limits) (cycle : DeadlockTest) (b : Life) (v : World) (w : Machine) (e : Event) (let_go : Option ℕ) → Image L b v w → Spoken L.clients b.floor v → Sends L.clients b.floor v (step L cycle v e let_go).world
unfolding step
event_sends L cycle b v w (ClientCalls c x) let_go m h = go (nat_lt c L.clients)
  where
    go : (r : Bool) → Sends L.clients b.floor v (if r then client_does L v (ClientCalls c x) c (client_call L (v.client c) x).word (client_call L (v.client c) x).steps else answer_only v (ClientCalls c x) NoClient).world
    go true = client_sends L L.clients b.floor v (ClientCalls c x) c (client_call L (v.client c) x).word (client_call L (v.client c) x).steps h (calls_speak L (v.client c) x)
    go false = only_answers L.clients b.floor v (ClientCalls c x) NoClient h
event_sends L cycle b v w (TakePacket n) let_go m h = take_sends L cycle b v w n let_go (packet_at v.packets n) refl m h
event_sends L cycle b v w (Restart c) let_go m h = go (nat_lt c L.clients)
  where
    go : (r : Bool) → Sends L.clients b.floor v (if r then restart_client v (Restart c) c else answer_only v (Restart c) NoClient).world
    go true = restart_sends L.clients b.floor v c h
    go false = only_answers L.clients b.floor v (Restart c) NoClient h
event_sends L cycle b v w ServerAgain let_go m h = server_sends L b v w ServerAgain AnsweredOk (server_again v.server) m (right_again (SentInLife b.floor v) v.server m.orderly) (again_from_disk v.server).rises
    (λ c i j. absurd (tells_no_welcome v.server.flushed (server_again v.server) c i (tells_again v.server.flushed v.server) j)) h (λ c l far. passes_again c b.floor v.server (h.nothing c l far))
event_sends L cycle b v w FlushAll let_go m h = flush_sends L b v w FlushAll v.server.store.last_commit m h
event_sends L cycle b v w (FlushTo n) let_go m h = flush_sends L b v w (FlushTo n) n m h

-- what is sent is of no incarnation to come
sent_past : (n floor : ℕ) (v v' : World) (f : Message) → (r : Sends n floor v v') → IsIn f r.sent → f.incarnation ≤ v.incarnation f.client
sent_past n floor v v' f r i = go (to_server f.body) refl
  where
    go : (u : Bool) → to_server f.body ≡ u → f.incarnation ≤ v.incarnation f.client
    go true e = let a = r.by_client f i e in omega (arith, a)
    go false e = (r.by_server f i e).1

-- so it is of all that was sent
pub spoken_after : (n floor : ℕ) (v v' : World) → Sends n floor v v' → Spoken n floor v → Spoken n floor v'
spoken_after n floor v v' r h = record {
  past = λ f i. elim (in_append f v.packets r.sent (subst (λ (x : List Message). IsIn f x) r.grows i)) [
    | inl j ↦ (let a = h.past f j in let b = r.rises f.client in omega (arith, a, b))
    | inr j ↦ (let a = sent_past n floor v v' f r j in let b = r.rises f.client in omega (arith, a, b))
  ];
  nothing = λ c l far. r.nothing c l (let b = r.rises c in omega (arith, b, far));
  greeted = λ c i j. subst (λ (x : List Message). IsIn (record { client = c; incarnation = i; body = Hello }) x) (sym r.grows) (in_left _ v.packets r.sent (elim (in_append (welcome_to c i) v.packets r.sent (subst (λ (x : List Message). IsIn (welcome_to c i) x) r.grows j)) [
    | inl k ↦ h.greeted c i k
    | inr k ↦ r.welcome c i k
  ]));
}
