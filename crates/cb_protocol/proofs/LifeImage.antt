-- The world over all lives, seen from the present life, is the image of a machine of one life: clients below its floor have done nothing there, and what they said was never sent.
use Rattle.std.proofs.Common.{Bool, List, Some, [], ap, arith, false, if◌then◌else◌, inl, inr, refl, subst, sym, true, ℕ, ◌++◌, ◌<◌, ◌==◌, ◌∙◌, ◌∷◌, ◌≡◌, ◌≢◌, ◌≤◌, ◌⊎◌}
use Rattle.cb_protocol.proofs.ClientReady.{AllFit, Ready, ready_all, ready_more}
use Rattle.cb_protocol.proofs.ClientSpeaks.{ToServer, speaks_no_done}
use Rattle.cb_protocol.proofs.ClientSteps.{ClientStepped, ClientStepsMay, cache_after_steps, cache_of, client_machine_steps, client_steps_leave, client_steps_more, onto, performed_by_steps, says_no_done}
use Rattle.cb_protocol.proofs.DoneOnDisk.{FromDisk}
use Rattle.cb_protocol.proofs.HistoryKept.{Kept, Recorded, history_names}
use Rattle.cb_protocol.proofs.Invariant.{Invariant}
use Rattle.cb_protocol.proofs.InvariantKept.{put_each}
use Rattle.cb_protocol.proofs.LedgerKept.{Books, books_all, made_stays, told_done}
use Rattle.cb_protocol.proofs.LifeMachine.{Above, EachLeaves, above_run, leaves_all}
use Rattle.cb_protocol.proofs.LifeOperations.{IsPast, life_lines, of_life, other_incarnation, past_stays}
use Rattle.cb_protocol.proofs.Machine.{Machine, MachineMayRun, MachineStep, ServerMayChange, WasSent, present_cache, run}
use Rattle.cb_protocol.proofs.ServerOrder.{Orderly, ServerStepMay, ServerStepsMay, StepsRight}
use Rattle.cb_protocol.proofs.ServerSteps.{ServerStepped, sent_near, server_machine_steps, server_steps_leave, server_steps_more}
use Rattle.cb_protocol.proofs.SettlingRight.{clients_served}
use Rattle.cb_protocol.proofs.TranscriptKept.{all_kept}
use Rattle.cb_protocol.specs.AnyMessages.{IsCommit, committed_names}
use Rattle.cb_protocol.specs.Answers.{AnswerWord}
use Rattle.cb_protocol.specs.Basics.{IsIn, Limits, update}
use Rattle.cb_protocol.specs.Cache.{Cache, new_cache}
use Rattle.cb_protocol.specs.Client.{Client, ClientStep, bodies_said, client_after}
use Rattle.cb_protocol.specs.Messages.{Body, Done, Hello, Message}
use Rattle.cb_protocol.specs.Serial.{Operation, PerformedOperation, transaction_operations}
use Rattle.cb_protocol.specs.Server.{AppliedCommit, ChangeSession, Server, ServerStep, after_server_step, server_after}
use Rattle.cb_protocol.specs.Session.{Admit, SessionChange, Store, session_after}
use Rattle.cb_protocol.specs.Transcript.{incarnation_at, transaction_at, transcript_operations}
use Rattle.cb_protocol.specs.World.{Event, Opening, World, answer_only, client_does, messages_said, messages_sent, server_does}

-- a packet with that client, incarnation and body was sent
abbrev pub SentBy : World → ℕ → ℕ → Body → Type 0
SentBy v c i b = IsIn (record { client = c; incarnation = i; body = b }) v.packets

-- what a life began with; `told`: the operations of the transactions of former lives
pub record Life : Type 0 where
  pub floor : ℕ
  pub opening : Opening
  pub former : List AppliedCommit
  pub told : ℕ → ℕ → ℕ → List Operation

-- a packet of the life was sent
abbrev pub SentInLife : ℕ → World → ℕ → ℕ → Body → Type 0
SentInLife floor v c i b = (floor ≤ i) × SentBy v c i b

-- the image
pub record Image (L : Limits) (b : Life) (v : World) (w : Machine) : Type 0 where
  -- of the machine
  pub safe : Invariant w
  pub kept : Kept b.opening.bytes w
  pub recorded : Recorded w
  pub above : Above L.clients b.floor w
  pub leaves : EachLeaves b.opening.bytes w.history v.server.commits
  -- of the server
  pub store : w.store ≡ v.server.store
  pub session : w.session ≡ v.server.session
  pub names : history_names w.history ≡ committed_names v.server.commits
  pub keep_write : v.server.store.keep_write ≡ L.keep_write
  pub clients : v.server.clients ≡ L.clients
  pub nobody : (c : ℕ) → L.clients ≤ c → (v.server.session c).current ≡ 0
  pub orderly : Orderly (SentInLife b.floor v) v.server
  pub books : Books b.opening v.server
  pub committed : v.server.flushed ≤ v.server.store.last_commit
  pub opened : b.opening.number ≤ v.server.flushed
  -- of the clients of the life, and of those below its floor
  pub incarnation : (c : ℕ) → b.floor ≤ v.incarnation c → w.incarnation c ≡ v.incarnation c
  pub cache : (c : ℕ) → b.floor ≤ v.incarnation c → present_cache w c ≡ (v.client c).cache
  pub ready : (c : ℕ) → b.floor ≤ v.incarnation c → Ready L (SentBy v c (v.incarnation c)) (v.client c)
  pub waits : (c : ℕ) → v.incarnation c < b.floor → (w.incarnation c ≡ b.floor) × (present_cache w c ≡ new_cache)
  -- of the packets
  pub packets : (f : Message) → b.floor ≤ f.incarnation → IsIn f v.packets → IsIn f w.packets
  pub sent : (f : Message) → IsIn f w.packets → IsIn f v.packets
  pub addressed : (f : Message) → IsIn f v.packets → f.client < L.clients
  pub dones : (c i t n : ℕ) → b.floor ≤ i → SentBy v c i (Done t n) → v.server.store.commit_number c i t ≡ Some n
  pub on_disk : (c i t n : ℕ) → SentBy v c i (Done t n) → n ≤ v.server.flushed
  -- of the transcript
  pub performed : w.performed ≡ of_life b.floor (transcript_operations v.transcript)
  pub restarts : (c : ℕ) → incarnation_at v.transcript c ≡ v.incarnation c
  pub begins : (c : ℕ) → transaction_at v.transcript c ≡ (v.client c).cache.number
  -- of the former lives
  pub earlier : (x : AppliedCommit) → IsIn x b.former → x.incarnation < b.floor
  pub former_dones : (c i t n : ℕ) → i < b.floor → SentBy v c i (Done t n) → IsCommit b.former c i t n
  pub past : (x : AppliedCommit) → IsIn x b.former → (x.incarnation ≤ v.incarnation x.client) × (x.incarnation ≡ v.incarnation x.client → IsPast (v.client x.client).cache x.txn)
  pub told : (x : AppliedCommit) → IsIn x b.former → transaction_operations (transcript_operations v.transcript) x.client x.incarnation x.txn ≡ b.told x.client x.incarnation x.txn

-- the world is the image of a machine that w becomes by allowed steps
pub record Follows (L : Limits) (b : Life) (w : Machine) (v : World) : Type 0 where
  pub steps : List MachineStep
  pub allowed : MachineMayRun steps w
  pub image : Image L b v (run steps w)

pub in_left : {A : Type 0} (x : A) (xs ys : List A) → IsIn x xs → IsIn x (xs ++ ys)
in_left x [] ys i = absurd i
in_left x (y ∷ xs) ys i = elim i [ inl e ↦ inl e | inr j ↦ inr (in_left x xs ys j) ]

pub in_append : {A : Type 0} (x : A) (xs ys : List A) → IsIn x (xs ++ ys) → IsIn x xs ⊎ IsIn x ys
in_append x [] ys i = inr i
in_append x (y ∷ xs) ys i = elim i [ inl e ↦ inl (inl e) | inr j ↦ elim (in_append x xs ys j) [ inl k ↦ inl (inr k) | inr k ↦ inr k ] ]

pub in_right : {A : Type 0} (x : A) (xs ys : List A) → IsIn x ys → IsIn x (xs ++ ys)
in_right x [] ys i = i
in_right x (y ∷ xs) ys i = inr (in_right x xs ys i)

pub back : {A : Type 0} (x : A) (xs : List A) → IsIn x (xs ++ []) → IsIn x xs
back x xs i = elim (in_append x xs [] i) [ inl j ↦ j | inr j ↦ absurd j ]

onto_old : (f : Message) (gs fs : List Message) → IsIn f fs → IsIn f (onto gs fs)
onto_old f [] fs i = i
onto_old f (g ∷ gs) fs i = onto_old f gs (g ∷ fs) (inr i)

pub onto_new : (f : Message) (gs fs : List Message) → IsIn f gs → IsIn f (onto gs fs)
onto_new f [] fs i = absurd i
onto_new f (g ∷ gs) fs i = elim i [ inl e ↦ onto_old f gs (g ∷ fs) (inl e) | inr j ↦ onto_new f gs (g ∷ fs) j ]

-- what was sent is in the machine too
sent_onto : (f : Message) (ps gs fs all : List Message) → (IsIn f ps → IsIn f fs) → all ≡ onto gs fs → IsIn f (ps ++ gs) → IsIn f all
sent_onto f ps gs fs all h e i = subst (λ (x : List Message). IsIn f x) (sym e) (elim (in_append f ps gs i) [ inl j ↦ onto_old f gs fs (h j) | inr j ↦ onto_new f gs fs j ])

of_onto : (f : Message) (gs fs : List Message) → IsIn f (onto gs fs) → IsIn f fs ⊎ IsIn f gs
of_onto f [] fs i = inl i
of_onto f (g ∷ gs) fs i = elim (of_onto f gs (g ∷ fs) i) [ inl j ↦ elim j [ inl e ↦ inr (inl e) | inr k ↦ inl k ] | inr j ↦ inr (inr j) ]

-- and nothing else
from_onto : (f : Message) (ps gs fs all : List Message) → (IsIn f fs → IsIn f ps) → all ≡ onto gs fs → IsIn f all → IsIn f (ps ++ gs)
from_onto f ps gs fs all h e i = elim (of_onto f gs fs (subst (λ (x : List Message). IsIn f x) e i)) [ inl j ↦ in_left f ps gs (h j) | inr j ↦ in_right f ps gs j ]

said_near : (c i n : ℕ) (bs : List Body) (f : Message) → c < n → IsIn f (messages_said c i bs) → f.client < n
said_near c i n [] f l j = absurd j
said_near c i n (b ∷ bs) f l j = elim j [ inl e ↦ subst (λ (x : Message). x.client < n) e l | inr k ↦ said_near c i n bs f l k ]

said_at : (c i : ℕ) (bs : List Body) (f : Message) → IsIn f (messages_said c i bs) → f.incarnation ≡ i
said_at c i [] f j = absurd j
said_at c i (b ∷ bs) f j = elim j [ inl e ↦ sym (ap (λ (x : Message). x.incarnation) e) | inr k ↦ said_at c i bs f k ]

pub orderly_more : (Came Came' : ℕ → ℕ → Body → Type 0) (s : Server) → ((c i : ℕ) (b : Body) → Came c i b → Came' c i b) → Orderly Came s → Orderly Came' s
orderly_more Came Came' s f o = record {
  within = o.within;
  ended_by = o.ended_by;
  step = o.step;
  tagged = o.tagged;
  sole = o.sole;
  outcome = o.outcome;
  over = o.over;
  past = o.past;
  listed = o.listed;
  asking = λ p a i. let w = o.asking p a i in (w.0, w.1, λ g e. f _ _ _ (w.2 g e));
}

not_same : (c d : ℕ) → d ≢ c → (c == d) ≡ false
not_same c d n = grind arith

-- what holds of each client and its incarnation, after one is put
pub put_two : (P : ℕ → Client → ℕ → Type 0) (f : ℕ → Client) (g : ℕ → ℕ) (c : ℕ) (k : Client) (n : ℕ) → P c k n → ((d : ℕ) → d ≢ c → P d (f d) (g d)) → (d : ℕ) → P d (update f c k d) (update g c n d)
put_two P f g c k n a b d = go (d == c) refl
  where
    same : (d == c) ≡ true → d ≡ c
    same h = grind arith

    apart : (d == c) ≡ false → d ≢ c
    apart h = grind arith

    go : (r : Bool) → (d == c) ≡ r → P d (if r then k else f d) (if r then n else g d)
    go true e = subst (λ x. P x k n) (sym (same e)) a
    go false e = b d (apart e)

-- nothing but the answer
pub only_answered : (L : Limits) (b : Life) (v : World) (w : Machine) (e : Event) (word : AnswerWord) → Image L b v w → transcript_operations (record { event = e; word = word } ∷ v.transcript) ≡ transcript_operations v.transcript
    → ((d : ℕ) → transaction_at (record { event = e; word = word } ∷ v.transcript) d ≡ transaction_at v.transcript d) → ((d : ℕ) → incarnation_at (record { event = e; word = word } ∷ v.transcript) d ≡ incarnation_at v.transcript d)
    → Image L b (answer_only v e word).world w
only_answered L b v w e word m ln bg rs = record {
  safe = m.safe;
  kept = m.kept;
  recorded = m.recorded;
  above = m.above;
  leaves = m.leaves;
  store = m.store;
  session = m.session;
  names = m.names;
  keep_write = m.keep_write;
  clients = m.clients;
  nobody = m.nobody;
  orderly = orderly_more (SentInLife b.floor v) _ v.server (λ c i y j. (j.0, in_left _ v.packets [] j.1)) m.orderly;
  books = m.books;
  committed = m.committed;
  opened = m.opened;
  incarnation = m.incarnation;
  cache = m.cache;
  ready = λ c l. ready_more L (SentBy v c (v.incarnation c)) _ (v.client c) (λ y i. in_left _ v.packets [] i) (m.ready c l);
  waits = m.waits;
  packets = λ f l i. m.packets f l (back f v.packets i);
  sent = λ f i. in_left f v.packets [] (m.sent f i);
  addressed = λ f i. m.addressed f (back f v.packets i);
  dones = λ c i t n l x. m.dones c i t n l (back _ v.packets x);
  on_disk = λ c i t n x. m.on_disk c i t n (back _ v.packets x);
  performed = m.performed ∙ ap (of_life b.floor) (sym ln);
  restarts = λ c. rs c ∙ m.restarts c;
  begins = λ c. bg c ∙ m.begins c;
  earlier = m.earlier;
  former_dones = λ c i t n l x. m.former_dones c i t n l (back _ v.packets x);
  past = m.past;
  told = λ x i. ap (λ (ls : List PerformedOperation). transaction_operations ls x.client x.incarnation x.txn) ln ∙ m.told x i;
}

-- a transaction of a former life stays past
at_past : (L : Limits) (b : Life) (v : World) (w : Machine) → Image L b v w → (x : AppliedCommit) → IsIn x b.former → (d : ℕ) (k : Client) → (IsPast (v.client d).cache x.txn → IsPast k.cache x.txn) → x.client ≡ d → (x.incarnation ≤ v.incarnation d) × (x.incarnation ≡ v.incarnation d → IsPast k.cache x.txn)
at_past L b v w m x i d k f q = let p = subst (λ (d : ℕ). (x.incarnation ≤ v.incarnation d) × (x.incarnation ≡ v.incarnation d → IsPast (v.client d).cache x.txn)) q (m.past x i) in (p.0, λ e. f (p.1 e))

-- a client of the life makes steps
pub client_acts : (L : Limits) (b : Life) (v : World) (w : Machine) (c : ℕ) (e : Event) (word : AnswerWord) (steps : List ClientStep) → Image L b v w → b.floor ≤ v.incarnation c → c < L.clients
    → ClientStepsMay L.keep_write (SentBy v c (v.incarnation c)) (v.client c).cache steps → AllFit L (SentBy v c (v.incarnation c)) (v.client c) steps
    → transcript_operations (record { event = e; word = word } ∷ v.transcript) ≡ performed_by_steps L.keep_write (transcript_operations v.transcript) c (incarnation_at v.transcript c) (v.client c).cache steps
    → transaction_at (record { event = e; word = word } ∷ v.transcript) c ≡ (client_after L.keep_write (v.client c) steps).cache.number
    → ((d : ℕ) → (c == d) ≡ false → transaction_at (record { event = e; word = word } ∷ v.transcript) d ≡ transaction_at v.transcript d)
    → ((d : ℕ) → incarnation_at (record { event = e; word = word } ∷ v.transcript) d ≡ incarnation_at v.transcript d)
    → Follows L b w (client_does L v e c word steps).world
client_acts L b v w c e word steps m near within may fit ln mine others rs = record {
  steps = client_machine_steps c steps;
  allowed = r.allowed;
  image = record {
    safe = all.0;
    kept = all.1;
    recorded = all.2;
    above = above_run L.clients b.floor (client_machine_steps c steps) w m.safe r.allowed m.above;
    leaves = subst (λ (x : List _). EachLeaves b.opening.bytes x v.server.commits) (sym r.history) m.leaves;
    store = r.store ∙ m.store;
    session = r.session ∙ m.session;
    names = ap history_names r.history ∙ m.names;
    keep_write = m.keep_write;
    clients = m.clients;
    nobody = m.nobody;
    orderly = orderly_more (SentInLife b.floor v) (SentInLife b.floor v') v.server (λ d i y j. (j.0, in_left _ v.packets new j.1)) m.orderly;
    books = m.books;
    committed = m.committed;
    opened = m.opened;
    incarnation = λ d l. ap (λ (f : ℕ → ℕ). f d) r.incarnation ∙ m.incarnation d l;
    cache = put_each (λ d x. b.floor ≤ v.incarnation d → present_cache u d ≡ x.cache) v.client c k (λ l. r.here ∙ (same_acted ∙ sym (cache_of L.keep_write (v.client c) steps)))
        (λ d ne l. ap (λ (f : ℕ → ℕ). u.client d (f d)) r.incarnation ∙ (r.others d (w.incarnation d) (λ q _. ne q) ∙ m.cache d l));
    ready = put_each (λ d x. b.floor ≤ v.incarnation d → Ready L (SentBy v' d (v.incarnation d)) x) v.client c k
        (λ l. ready_more L (SentBy v c (v.incarnation c)) (SentBy v' c (v.incarnation c)) k (λ y i. in_left _ v.packets new i) (ready_all L (SentBy v c (v.incarnation c)) (v.client c) steps (m.ready c l) fit))
        (λ d ne l. ready_more L (SentBy v d (v.incarnation d)) (SentBy v' d (v.incarnation d)) (v.client d) (λ y i. in_left _ v.packets new i) (m.ready d l));
    waits = λ d l. (ap (λ (f : ℕ → ℕ). f d) r.incarnation ∙ (m.waits d l).0, ap (λ (f : ℕ → ℕ). u.client d (f d)) r.incarnation ∙ (r.others d (w.incarnation d) (λ q _. elsewhere d l q) ∙ (m.waits d l).1));
    packets = λ f l i. sent_onto f v.packets new w.packets u.packets (m.packets f l) (subst (λ (j : ℕ). u.packets ≡ onto (messages_said c j (bodies_said steps)) w.packets) ic r.packets) i;
    sent = λ f i. from_onto f v.packets new w.packets u.packets (m.sent f) (subst (λ (j : ℕ). u.packets ≡ onto (messages_said c j (bodies_said steps)) w.packets) ic r.packets) i;
    addressed = λ f i. elim (in_append f v.packets new i) [ inl j ↦ m.addressed f j | inr j ↦ said_near c (v.incarnation c) L.clients (bodies_said steps) f within j ];
    dones = λ d i t n l x. elim (in_append _ v.packets new x) [ inl y ↦ m.dones d i t n l y | inr y ↦ absurd (no_done d i t n y) ];
    on_disk = λ d i t n x. elim (in_append _ v.packets new x) [ inl y ↦ m.on_disk d i t n y | inr y ↦ absurd (no_done d i t n y) ];
    performed = same_lines ∙ (sym (life_lines b.floor L.keep_write (transcript_operations v.transcript) c (incarnation_at v.transcript c) (v.client c).cache steps at_life) ∙ ap (of_life b.floor) (sym ln));
    restarts = λ d. rs d ∙ m.restarts d;
    begins = put_each (λ d x. transaction_at (record { event = e; word = word } ∷ v.transcript) d ≡ x.cache.number) v.client c k mine (λ d ne. others d (not_same c d ne) ∙ m.begins d);
    earlier = m.earlier;
    former_dones = λ d i t n l x. elim (in_append _ v.packets new x) [ inl y ↦ m.former_dones d i t n l y | inr y ↦ absurd (no_done d i t n y) ];
    past = λ x i. put_each (λ d y. x.client ≡ d → (x.incarnation ≤ v.incarnation d) × (x.incarnation ≡ v.incarnation d → IsPast y.cache x.txn)) v.client c k (at_past L b v w m x i c k (past_stays L.keep_write (v.client c) steps x.txn)) (λ d ne. at_past L b v w m x i d (v.client d) (λ p. p)) x.client refl;
    told = λ x i. ap (λ (ls : List PerformedOperation). transaction_operations ls x.client x.incarnation x.txn) ln
        ∙ (other_incarnation L.keep_write (transcript_operations v.transcript) c (incarnation_at v.transcript c) (v.client c).cache steps x.client x.incarnation x.txn (λ q. before (m.earlier x i) q) ∙ m.told x i);
  };
}
  where
    new : List Message
    new = messages_said c (v.incarnation c) (bodies_said steps)

    v' : World
    v' = (client_does L v e c word steps).world

    u : Machine
    u = run (client_machine_steps c steps) w

    k : Client
    k = client_after L.keep_write (v.client c) steps

    at_life : b.floor ≤ incarnation_at v.transcript c
    at_life = rw (m.restarts c) near

    before : {i : ℕ} → i < b.floor → i ≡ incarnation_at v.transcript c → ⊥
    before {i} l q = omega (arith, l, q, at_life)

    elsewhere : (d : ℕ) → v.incarnation d < b.floor → d ≡ c → ⊥
    elsewhere d l q = let z : v.incarnation d ≡ v.incarnation c = ap v.incarnation q in omega (arith, z, l, near)

    no_done : (d i t n : ℕ) → IsIn (record { client = d; incarnation = i; body = Done t n }) new → ⊥
    no_done d i t n y = says_no_done L.keep_write (SentBy v c (v.incarnation c)) (v.client c).cache steps d i c (v.incarnation c) t n may y

    ke : w.store.keep_write ≡ L.keep_write
    ke = ap (λ (s : Store). s.keep_write) m.store ∙ m.keep_write

    ic : w.incarnation c ≡ v.incarnation c
    ic = m.incarnation c near

    there : ClientStepsMay w.store.keep_write (WasSent w c (w.incarnation c)) (present_cache w c) steps
    there = subst (λ (y : Bool). ClientStepsMay y (WasSent w c (w.incarnation c)) (present_cache w c) steps) (sym ke)
        (subst (λ (x : Cache). ClientStepsMay L.keep_write (WasSent w c (w.incarnation c)) x steps) (sym (m.cache c near))
        (subst (λ (j : ℕ). ClientStepsMay L.keep_write (WasSent w c j) (v.client c).cache steps) (sym ic)
        (client_steps_more L.keep_write (SentBy v c (v.incarnation c)) (WasSent w c (v.incarnation c)) (λ y i. m.packets _ near i) (v.client c).cache steps may)))

    r : ClientStepped w c steps (run (client_machine_steps c steps) w)
    r = client_steps_leave w c steps there

    all : Invariant u × Kept b.opening.bytes u × Recorded u
    all = all_kept b.opening.bytes (client_machine_steps c steps) w m.safe m.kept m.recorded r.allowed

    same_acted : cache_after_steps w.store.keep_write (present_cache w c) steps ≡ cache_after_steps L.keep_write (v.client c).cache steps
    same_acted = ap (λ (y : Bool). cache_after_steps y (present_cache w c) steps) ke ∙ ap (λ (x : Cache). cache_after_steps L.keep_write x steps) (m.cache c near)

    lines : List PerformedOperation
    lines = of_life b.floor (transcript_operations v.transcript)

    same_lines : u.performed ≡ performed_by_steps L.keep_write lines c (incarnation_at v.transcript c) (v.client c).cache steps
    same_lines = r.performed ∙ (ap (λ (y : Bool). performed_by_steps y w.performed c (w.incarnation c) (present_cache w c) steps) ke ∙ (ap (λ (x : List PerformedOperation). performed_by_steps L.keep_write x c (w.incarnation c) (present_cache w c) steps) m.performed
        ∙ (ap (λ (j : ℕ). performed_by_steps L.keep_write lines c j (present_cache w c) steps) (ic ∙ sym (m.restarts c)) ∙ ap (λ (x : Cache). performed_by_steps L.keep_write lines c (incarnation_at v.transcript c) x steps) (m.cache c near))))

-- a client below the floor makes steps: the machine does nothing
pub stale_acts : (L : Limits) (b : Life) (v : World) (w : Machine) (c : ℕ) (e : Event) (word : AnswerWord) (steps : List ClientStep) → Image L b v w → v.incarnation c < b.floor → c < L.clients → ToServer steps
    → of_life b.floor (transcript_operations (record { event = e; word = word } ∷ v.transcript)) ≡ of_life b.floor (transcript_operations v.transcript)
    → ((d j t : ℕ) → (d ≡ c → j ≡ incarnation_at v.transcript c → IsPast (v.client c).cache t) → transaction_operations (transcript_operations (record { event = e; word = word } ∷ v.transcript)) d j t ≡ transaction_operations (transcript_operations v.transcript) d j t)
    → transaction_at (record { event = e; word = word } ∷ v.transcript) c ≡ (client_after L.keep_write (v.client c) steps).cache.number
    → ((d : ℕ) → (c == d) ≡ false → transaction_at (record { event = e; word = word } ∷ v.transcript) d ≡ transaction_at v.transcript d)
    → ((d : ℕ) → incarnation_at (record { event = e; word = word } ∷ v.transcript) d ≡ incarnation_at v.transcript d)
    → Image L b (client_does L v e c word steps).world w
stale_acts L b v w c e word steps m far within speaks ln still mine others rs = record {
  safe = m.safe;
  kept = m.kept;
  recorded = m.recorded;
  above = m.above;
  leaves = m.leaves;
  store = m.store;
  session = m.session;
  names = m.names;
  keep_write = m.keep_write;
  clients = m.clients;
  nobody = m.nobody;
  orderly = orderly_more (SentInLife b.floor v) (SentInLife b.floor v') v.server (λ d i y j. (j.0, in_left _ v.packets new j.1)) m.orderly;
  books = m.books;
  committed = m.committed;
  opened = m.opened;
  incarnation = m.incarnation;
  cache = put_each (λ d x. b.floor ≤ v.incarnation d → present_cache w d ≡ x.cache) v.client c k (λ l. absurd (omega (arith, l, far))) (λ d ne l. m.cache d l);
  ready = put_each (λ d x. b.floor ≤ v.incarnation d → Ready L (SentBy v' d (v.incarnation d)) x) v.client c k (λ l. absurd (omega (arith, l, far)))
      (λ d ne l. ready_more L (SentBy v d (v.incarnation d)) (SentBy v' d (v.incarnation d)) (v.client d) (λ y i. in_left _ v.packets new i) (m.ready d l));
  waits = m.waits;
  packets = λ f l i. elim (in_append f v.packets new i) [ inl j ↦ m.packets f l j | inr j ↦ absurd (let q = said_at c (v.incarnation c) (bodies_said steps) f j in omega (arith, q, l, far)) ];
  sent = λ f i. in_left f v.packets new (m.sent f i);
  addressed = λ f i. elim (in_append f v.packets new i) [ inl j ↦ m.addressed f j | inr j ↦ said_near c (v.incarnation c) L.clients (bodies_said steps) f within j ];
  dones = λ d i t n l x. elim (in_append _ v.packets new x) [ inl y ↦ m.dones d i t n l y | inr y ↦ absurd (no_done d i t n y) ];
  on_disk = λ d i t n x. elim (in_append _ v.packets new x) [ inl y ↦ m.on_disk d i t n y | inr y ↦ absurd (no_done d i t n y) ];
  performed = m.performed ∙ sym ln;
  restarts = λ d. rs d ∙ m.restarts d;
  begins = put_each (λ d x. transaction_at (record { event = e; word = word } ∷ v.transcript) d ≡ x.cache.number) v.client c k mine (λ d ne. others d (not_same c d ne) ∙ m.begins d);
  earlier = m.earlier;
  former_dones = λ d i t n l x. elim (in_append _ v.packets new x) [ inl y ↦ m.former_dones d i t n l y | inr y ↦ absurd (no_done d i t n y) ];
  past = λ x i. put_each (λ d y. x.client ≡ d → (x.incarnation ≤ v.incarnation d) × (x.incarnation ≡ v.incarnation d → IsPast y.cache x.txn)) v.client c k (at_past L b v w m x i c k (past_stays L.keep_write (v.client c) steps x.txn)) (λ d ne. at_past L b v w m x i d (v.client d) (λ p. p)) x.client refl;
  told = λ x i. still x.client x.incarnation x.txn (λ q e. (subst (λ (d : ℕ). x.incarnation ≡ v.incarnation d → IsPast (v.client d).cache x.txn) q (m.past x i).1) (e ∙ m.restarts c)) ∙ m.told x i;
}
  where
    new : List Message
    new = messages_said c (v.incarnation c) (bodies_said steps)

    v' : World
    v' = (client_does L v e c word steps).world

    k : Client
    k = client_after L.keep_write (v.client c) steps

    no_done : (d i t n : ℕ) → IsIn (record { client = d; incarnation = i; body = Done t n }) new → ⊥
    no_done d i t n y = speaks_no_done steps d i c (v.incarnation c) t n speaks y

keep_after : (s : Server) (d : ServerStep) → (after_server_step s d).store.keep_write ≡ s.store.keep_write
keep_after s d = grind arith

keep_served : (s : Server) (ds : List ServerStep) → (server_after s ds).store.keep_write ≡ s.store.keep_write
keep_served s [] = refl
keep_served s (d ∷ ds) = keep_served (after_server_step s d) ds ∙ keep_after s d

-- of a client of which nothing came the current incarnation stays
current_stays : (Came : ℕ → ℕ → Body → Type 0) (s : Server) (c : ℕ) (m : SessionChange) (d : ℕ) → ((i : ℕ) (b : Body) → Came d i b → ⊥) → ServerStepMay Came s (ChangeSession c m) → ((after_server_step s (ChangeSession c m)).session d).current ≡ (s.session d).current
current_stays Came s c m d n a = go (d == c) refl
  where
    same : (d == c) ≡ true → c ≡ d
    same h = grind arith

    kept : (m : SessionChange) → ServerMayChange (Came c) s.store s.session c m → c ≡ d → (session_after (s.session c) m).current ≡ (s.session d).current
    kept (Admit i) b q = absurd (n i Hello (subst (λ (x : ℕ). Came x i Hello) q b.0))
    kept _ b q = ap (λ (x : ℕ). (s.session x).current) q

    go : (r : Bool) → (d == c) ≡ r → (if r then session_after (s.session c) m else s.session d).current ≡ (s.session d).current
    go true e = kept m a.0 (same e)
    go false e = refl

far_current : (Came : ℕ → ℕ → Body → Type 0) (s : Server) (ds : List ServerStep) (d : ℕ) → ((i : ℕ) (b : Body) → Came d i b → ⊥) → ServerStepsMay Came s ds → ((server_after s ds).session d).current ≡ (s.session d).current
far_current Came s [] d n a = refl
far_current Came s (ChangeSession c m ∷ ds) d n a = far_current Came (after_server_step s (ChangeSession c m)) ds d n a.1 ∙ current_stays Came s c m d n a.0
far_current Came s (x ∷ ds) d n a = far_current Came (after_server_step s x) ds d n a.1

-- the server makes steps
pub server_acts : (L : Limits) (b : Life) (v : World) (w : Machine) (e : Event) (word : AnswerWord) (ds : List ServerStep) → Image L b v w → StepsRight (SentInLife b.floor v) v.server ds → FromDisk v.server ds
    → transcript_operations (record { event = e; word = word } ∷ v.transcript) ≡ transcript_operations v.transcript
    → ((d : ℕ) → transaction_at (record { event = e; word = word } ∷ v.transcript) d ≡ transaction_at v.transcript d) → ((d : ℕ) → incarnation_at (record { event = e; word = word } ∷ v.transcript) d ≡ incarnation_at v.transcript d)
    → Follows L b w (server_does v e word ds).world
server_acts L b v w e word ds m right disk ln bg rs = record {
  steps = server_machine_steps ds;
  allowed = r.allowed;
  image = record {
    safe = all.0;
    kept = all.1;
    recorded = all.2;
    above = above;
    leaves = leaves_all b.opening (SentInLife b.floor v) w v.server ds m.store m.session m.safe m.kept m.books right.0 r.allowed m.leaves;
    store = r.store;
    session = r.session;
    names = r.names;
    keep_write = keep_served v.server ds ∙ m.keep_write;
    clients = clients_served v.server ds ∙ m.clients;
    nobody = λ c l. far_current (SentInLife b.floor v) v.server ds c (λ i y j. let z = m.addressed _ j.1 in omega (arith, l, z)) right.0 ∙ m.nobody c l;
    orderly = orderly_more (SentInLife b.floor v) (SentInLife b.floor v') (server_after v.server ds) (λ d i y j. (j.0, in_left _ v.packets new j.1)) right.1;
    books = books_all b.opening (SentInLife b.floor v) v.server ds m.books right.0;
    committed = disk.committed m.committed;
    opened = let k = disk.rises in let l = m.opened in omega arith;
    incarnation = λ d l. ap (λ (f : ℕ → ℕ). f d) r.incarnation ∙ m.incarnation d l;
    cache = λ d l. same_client d ∙ m.cache d l;
    ready = λ d l. ready_more L (SentBy v d (v.incarnation d)) (SentBy v' d (v.incarnation d)) (v.client d) (λ y i. in_left _ v.packets new i) (m.ready d l);
    waits = λ d l. (ap (λ (f : ℕ → ℕ). f d) r.incarnation ∙ (m.waits d l).0, same_client d ∙ (m.waits d l).1);
    packets = λ f l i. sent_onto f v.packets new w.packets u.packets (m.packets f l) r.packets i;
    sent = λ f i. from_onto f v.packets new w.packets u.packets (m.sent f) r.packets i;
    addressed = λ f i. elim (in_append f v.packets new i) [ inl j ↦ m.addressed f j | inr j ↦ sent_near (SentInLife b.floor v) v.server ds L.clients f m.clients right.0 j ];
    dones = λ d i t n l x. elim (in_append _ v.packets new x) [ inl y ↦ made_stays b.opening (SentInLife b.floor v) v.server ds d i t n m.books right.0 (m.dones d i t n l y) | inr y ↦ told_done b.opening (SentInLife b.floor v) v.server ds d i t n m.books right.0 y ];
    on_disk = λ d i t n x. elim (in_append _ v.packets new x) [ inl y ↦ (let l = m.on_disk d i t n y in let k = disk.rises in omega arith) | inr y ↦ disk.told d i t n y ];
    performed = r.performed ∙ (m.performed ∙ ap (of_life b.floor) (sym ln));
    restarts = λ d. rs d ∙ m.restarts d;
    begins = λ d. bg d ∙ m.begins d;
    earlier = m.earlier;
    former_dones = λ d i t n l x. elim (in_append _ v.packets new x) [
      | inl y ↦ m.former_dones d i t n l y
      | inr y ↦ (let z = (above.made d i t n (ap (λ (s : Store). s.commit_number d i t) r.store ∙ told_done b.opening (SentInLife b.floor v) v.server ds d i t n m.books right.0 y)).0 in absurd (omega (arith, z, l)))
    ];
    past = m.past;
    told = λ x i. ap (λ (ls : List PerformedOperation). transaction_operations ls x.client x.incarnation x.txn) ln ∙ m.told x i;
  };
}
  where
    new : List Message
    new = messages_sent ds

    v' : World
    v' = (server_does v e word ds).world

    u : Machine
    u = run (server_machine_steps ds) w

    r : ServerStepped w v.server ds (run (server_machine_steps ds) w)
    r = server_steps_leave w v.server ds m.store m.session m.names (server_steps_more (SentInLife b.floor v) (WasSent w) (λ c i y j. m.packets _ j.0 j.1) v.server ds right.0)

    all : Invariant u × Kept b.opening.bytes u × Recorded u
    all = all_kept b.opening.bytes (server_machine_steps ds) w m.safe m.kept m.recorded r.allowed

    above : Above L.clients b.floor u
    above = above_run L.clients b.floor (server_machine_steps ds) w m.safe r.allowed m.above

    same_client : (d : ℕ) → present_cache u d ≡ present_cache w d
    same_client d = ap (λ (f : ℕ → ℕ → Cache). f d (u.incarnation d)) r.client ∙ ap (λ (f : ℕ → ℕ). w.client d (f d)) r.incarnation
