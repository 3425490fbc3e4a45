-- Who is welcomed: each Hello of the current incarnation or a greater one, at once, and nobody else.
use Rattle.std.proofs.Common.{Bool, List, Option, Some, [], ap, arith, false, if◌then◌else◌, inl, inr, nat_lt, refl, subst, sym, true, ℕ, ◌&&◌, ◌++◌, ◌<◌, ◌==◌, ◌∙◌, ◌∷◌, ◌≡◌, ◌≤◌}
use Rattle.cb_protocol.proofs.Cases.{serves_hello_again, serves_no_old_hello, step_take}
use Rattle.cb_protocol.proofs.ClientSpeaks.{ToServer, calls_speak, takes_speak}
use Rattle.cb_protocol.proofs.HelloStarts.{greater_hello}
use Rattle.cb_protocol.proofs.ServedSteps.{sent_before, tells_again, tells_dones, tells_no_welcome, welcome_answers}
use Rattle.cb_protocol.specs.Basics.{IsIn, Limits}
use Rattle.cb_protocol.specs.Answers.{ServerExhausted, Taken}
use Rattle.cb_protocol.specs.Client.{ChangeCache, ClientStep, EndTransaction, MarkDue, MarkDueDowngrade, MarkWanted, Say, SetAsk, bodies_said}
use Rattle.cb_protocol.specs.ClientCalls.{client_call}
use Rattle.cb_protocol.specs.ClientMessages.{client_take}
use Rattle.cb_protocol.specs.Flush.{dones_between, server_flush}
use Rattle.cb_protocol.specs.Lives.{welcome_to}
use Rattle.cb_protocol.specs.Messages.{Hello, Message, Welcome, to_server}
use Rattle.cb_protocol.specs.Resend.{server_again}
use Rattle.cb_protocol.specs.Server.{DeadlockTest, Server, server_after}
use Rattle.cb_protocol.specs.ServerMessages.{is_exhausted, server_take}
use Rattle.cb_protocol.specs.World.{Event, TakePacket, World, answer_only, messages_said, messages_sent, packet_at, server_does, step, take_packet}
use Rattle.cb_laws.proofs.EventTurns.{by_turns}

abbrev pub hello_of : ℕ → ℕ → Message
hello_of c i = record { client = c; incarnation = i; body = Hello }

-- a Hello is never refused as exhausted
pub hello_taken : (s : Server) (c i : ℕ) → is_exhausted s c i Hello ≡ false
hello_taken s c i = go (i == (s.session c).current)
  where
    go : (r : Bool) → (r && false) ≡ false
    go true = refl
    go false = refl

-- the server takes it
pub hello_served : (L : Limits) (cycle : DeadlockTest) (v : World) (n c i : ℕ) (let_go : Option ℕ) → packet_at v.packets n ≡ Some (hello_of c i) → (step L cycle v (TakePacket n) let_go).world ≡ (server_does v (TakePacket n) Taken (server_take cycle v.server c i Hello)).world
hello_served L cycle v n c i let_go e = ap (λ r. r.world) (step_take L cycle v n let_go) ∙ (ap (λ (m : Option Message). (take_packet L cycle v (TakePacket n) m let_go).world) e ∙ ap (λ (r : Bool). (if r then answer_only v (TakePacket n) ServerExhausted else server_does v (TakePacket n) Taken (server_take cycle v.server c i Hello)).world) (hello_taken v.server c i))

-- what that sends, and which incarnation is current then
pub record Greeted (cycle : DeadlockTest) (s : Server) (c i : ℕ) : Type 0 where
  pub welcome : IsIn (welcome_to c i) (messages_sent (server_take cycle s c i Hello))
  pub current : ((server_after s (server_take cycle s c i Hello)).session c).current ≡ i

pub hello_greeted : (cycle : DeadlockTest) (s : Server) (c i : ℕ) → (s.session c).current ≤ i → Greeted cycle s c i
hello_greeted cycle s c i l = go (nat_lt (s.session c).current i) refl
  where
    greater : nat_lt (s.session c).current i ≡ true → (s.session c).current < i
    greater e = grind arith

    same : nat_lt (s.session c).current i ≡ false → i ≡ (s.session c).current
    same e = grind (arith, l)

    go : (r : Bool) → nat_lt (s.session c).current i ≡ r → Greeted cycle s c i
    go true e = let g = greater_hello cycle s c i (greater e) in record { welcome = g.1; current = g.0.current }
    go false e = let q = sym (serves_hello_again cycle s c i (same e)) in record {
      welcome = subst (λ ds. IsIn (welcome_to c i) (messages_sent ds)) q (inl refl);
      current = subst (λ ds. ((server_after s ds).session c).current ≡ i) q (sym (same e));
    }

-- who is welcomed by what an event sends
abbrev Welcomes : World → Event → List Message → Type 0
Welcomes v e sent = (c i : ℕ) → IsIn (welcome_to c i) sent → ((n : ℕ) × (e ≡ TakePacket n) × (packet_at v.packets n ≡ Some (hello_of c i))) × ((v.server.session c).current ≤ i)

-- a client welcomes nobody
said_no_welcome : (c i d j : ℕ) (steps : List ClientStep) → ToServer steps → IsIn (welcome_to d j) (messages_said c i (bodies_said steps)) → ⊥
said_no_welcome c i d j [] a k = absurd k
said_no_welcome c i d j (Say b ∷ steps) a k = elim k [
  | inl e ↦ (let q : to_server Welcome ≡ true = subst (λ (x : Message). to_server x.body ≡ true) e a.0 in absurd cc)
  | inr l ↦ said_no_welcome c i d j steps a.1 l
]
said_no_welcome c i d j (ChangeCache m ∷ steps) a k = said_no_welcome c i d j steps a k
said_no_welcome c i d j (SetAsk y ∷ steps) a k = said_no_welcome c i d j steps a k
said_no_welcome c i d j (MarkWanted p ∷ steps) a k = said_no_welcome c i d j steps a k
said_no_welcome c i d j (MarkDue p ∷ steps) a k = said_no_welcome c i d j steps a k
said_no_welcome c i d j (MarkDueDowngrade p y ∷ steps) a k = said_no_welcome c i d j steps a k
said_no_welcome c i d j (EndTransaction l ∷ steps) a k = said_no_welcome c i d j steps a k

-- what an event sends, behind what was sent
pub record Sent (v : World) (e : Event) (u : World) : Type 0 where
  pub sent : List Message
  pub grows : u.packets ≡ v.packets ++ sent
  pub welcomes : (c i : ℕ) → IsIn (welcome_to c i) sent → ((n : ℕ) × (e ≡ TakePacket n) × (packet_at v.packets n ≡ Some (hello_of c i))) × ((v.server.session c).current ≤ i)

served_welcomes : (cycle : DeadlockTest) (v : World) (n : ℕ) (f : Message) → packet_at v.packets n ≡ Some f → Welcomes v (TakePacket n) (messages_sent (server_take cycle v.server f.client f.incarnation f.body))
served_welcomes cycle v n f p c i k = ((n, refl, subst (λ (x : Message). packet_at v.packets n ≡ Some x) whole p), go (nat_lt i (v.server.session c).current) refl)
  where
    whole : f ≡ hello_of c i
    whole = welcome_answers cycle v.server f c i k

    here : IsIn (welcome_to c i) (messages_sent (server_take cycle v.server c i Hello))
    here = subst (λ (x : Message). IsIn (welcome_to c i) (messages_sent (server_take cycle v.server x.client x.incarnation x.body))) whole k

    older : nat_lt i (v.server.session c).current ≡ true → i < (v.server.session c).current
    older e = grind arith

    at_least : nat_lt i (v.server.session c).current ≡ false → (v.server.session c).current ≤ i
    at_least e = grind arith

    go : (r : Bool) → nat_lt i (v.server.session c).current ≡ r → (v.server.session c).current ≤ i
    go true e = absurd (subst (λ ds. IsIn (welcome_to c i) (messages_sent ds)) (serves_no_old_hello cycle v.server c i (older e)) here)
    go false e = at_least e

pub event_sent : (L : Limits) (cycle : DeadlockTest) (v : World) (e : Event) (let_go : Option ℕ) → Sent v e (step L cycle v e let_go).world
event_sent L cycle v e let_go = by_turns L cycle v e let_go (λ e u. Sent v e u) (record {
  answered = λ e word. record { sent = []; grows = refl; welcomes = λ c i k. absurd k };
  called = λ c x l. record { sent = messages_said c (v.incarnation c) (bodies_said (client_call L (v.client c) x).steps); grows = refl; welcomes = λ d j k. absurd (said_no_welcome c (v.incarnation c) d j (client_call L (v.client c) x).steps (calls_speak L (v.client c) x) k) };
  taken = λ n f i d s. record {
    sent = messages_said f.client (v.incarnation f.client) (bodies_said (client_take L (v.client f.client) f.body let_go));
    grows = refl;
    welcomes = λ c j k. absurd (said_no_welcome f.client (v.incarnation f.client) c j (client_take L (v.client f.client) f.body let_go) (takes_speak L (v.client f.client) f.body let_go) k);
  };
  served = λ n f i d. record { sent = messages_sent (server_take cycle v.server f.client f.incarnation f.body); grows = refl; welcomes = served_welcomes cycle v n f i };
  again = record { sent = messages_sent (server_again v.server); grows = refl; welcomes = λ c i k. absurd (tells_no_welcome v.server.flushed (server_again v.server) c i (tells_again v.server.flushed v.server) k) };
  flushed = λ e n f. record {
    sent = messages_sent (server_flush v.server n);
    grows = refl;
    welcomes = λ c i k. absurd (tells_no_welcome n (dones_between v.server.commits v.server.flushed n) c i (tells_dones v.server.commits v.server.flushed n)
        (subst (λ (fs : List Message). IsIn (welcome_to c i) fs) (sent_before (dones_between v.server.commits v.server.flushed n) n) k));
  };
  restarted = λ c l b. record { sent = []; grows = refl; welcomes = λ d i k. absurd k };
})

-- two lists behind one are the same where the whole is
pub same_behind : (xs ys zs : List Message) → xs ++ ys ≡ xs ++ zs → ys ≡ zs
same_behind [] ys zs e = e
same_behind (x ∷ xs) ys zs e = same_behind xs ys zs (ap rest e)
  where
    rest : List Message → List Message
    rest [] = []
    rest (z ∷ zs) = zs
