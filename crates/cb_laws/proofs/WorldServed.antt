-- A world's server is one that takes inputs, and what a world sent to clients its server sent.
use Rattle.std.proofs.Common.{Bool, List, None, Option, Some, [], arith, false, if◌then◌else◌, inl, inr, nat_le, nat_lt, refl, subst, true, ℕ, ◌++◌, ◌+◌, ◌<◌, ◌==◌, ◌∷◌, ◌≡◌, ◌⊎◌}
use Rattle.cb_protocol.proofs.ClientSpeaks.{ToServer, calls_speak, takes_speak}
use Rattle.cb_protocol.proofs.LifeEvents.{packet_is_in}
use Rattle.cb_protocol.proofs.LifeImage.{back, in_append, in_left}
use Rattle.cb_protocol.specs.AnyMessages.{ComesFromClient, Input, MessageComes, ReachesDisk, SendsAgain, input_steps}
use Rattle.cb_protocol.specs.Answers.{AnswerWord, AnsweredOk, Exhausted, Flushed, NoClient, NoPacket, Nothing, Refused, ServerExhausted, Taken}
use Rattle.cb_protocol.specs.Basics.{IsIn, Limits, max_number, update}
use Rattle.cb_protocol.specs.Client.{ChangeCache, ClientStep, EndTransaction, MarkDue, MarkDueDowngrade, MarkWanted, Say, SetAsk, bodies_said, new_client}
use Rattle.cb_protocol.specs.ClientCalls.{client_call}
use Rattle.cb_protocol.specs.ClientMessages.{client_take}
use Rattle.cb_protocol.specs.Flush.{can_flush, server_flush}
use Rattle.cb_protocol.specs.Messages.{Message, to_server}
use Rattle.cb_protocol.specs.Server.{DeadlockTest, server_after}
use Rattle.cb_protocol.specs.ServerMessages.{is_exhausted, server_take}
use Rattle.cb_protocol.specs.World.{ClientCalls, Event, FlushAll, FlushTo, Restart, ServerAgain, TakePacket, World, answer_only, answer_with, client_does, deliver, flush_up_to, messages_said, messages_sent, packet_at, restart_client, server_does, step, take_packet}

-- what is sent besides goes to the server
abbrev pub NoMoreToClients : Limits → World → World → Type 0
NoMoreToClients L v v' = (f : Message) → IsIn f v'.packets → IsIn f v.packets ⊎ ((to_server f.body ≡ true) × (f.client < L.clients))

-- the server takes an input, or nothing
pub data Served (L : Limits) (cycle : DeadlockTest) (v v' : World) : Type 0 where
  ServesNot : v'.server ≡ v.server → ((f : Message) → IsIn f v.packets → IsIn f v'.packets) → NoMoreToClients L v v' → Served L cycle v v'
  ServesInput : (i : Input) → ComesFromClient L v.server i → v'.server ≡ server_after v.server (input_steps cycle v.server i)
      → v'.packets ≡ v.packets ++ messages_sent (input_steps cycle v.server i) → Served L cycle v v'

abbrev pub Addressed : Limits → World → Type 0
Addressed L v = (f : Message) → IsIn f v.packets → f.client < L.clients

only_answers : (L : Limits) (cycle : DeadlockTest) (v : World) (e : Event) (word : AnswerWord) → Served L cycle v (answer_only v e word).world
only_answers L cycle v e word = ServesNot refl (λ f i. in_left f v.packets [] i) (λ f i. inl (back f v.packets i))

said_by : (c i : ℕ) (steps : List ClientStep) (f : Message) → ToServer steps → IsIn f (messages_said c i (bodies_said steps)) → (to_server f.body ≡ true) × (f.client ≡ c)
said_by c i [] f a j = absurd j
said_by c i (Say b ∷ steps) f a j = elim j [
  | inl e ↦ subst (λ (x : Message). (to_server x.body ≡ true) × (x.client ≡ c)) e (a.0, refl)
  | inr k ↦ said_by c i steps f a.1 k
]
said_by c i (ChangeCache m ∷ steps) f a j = said_by c i steps f a j
said_by c i (SetAsk y ∷ steps) f a j = said_by c i steps f a j
said_by c i (MarkWanted p ∷ steps) f a j = said_by c i steps f a j
said_by c i (MarkDue p ∷ steps) f a j = said_by c i steps f a j
said_by c i (MarkDueDowngrade p y ∷ steps) f a j = said_by c i steps f a j
said_by c i (EndTransaction l ∷ steps) f a j = said_by c i steps f a j

client_acts : (L : Limits) (cycle : DeadlockTest) (v : World) (e : Event) (c : ℕ) (word : AnswerWord) (steps : List ClientStep) → c < L.clients → ToServer steps → Served L cycle v (client_does L v e c word steps).world
client_acts L cycle v e c word steps l a = ServesNot refl (λ f i. in_left f v.packets _ i)
    (λ f i. elim (in_append f v.packets (messages_said c (v.incarnation c) (bodies_said steps)) i) [
      | inl j ↦ inl j
      | inr j ↦ (let r = said_by c (v.incarnation c) steps f a j in inr (r.0, rw r.1 l))
    ])

deliver_served : (L : Limits) (cycle : DeadlockTest) (v : World) (n : ℕ) (f : Message) (let_go : Option ℕ) → f.client < L.clients → Served L cycle v (deliver L cycle v (TakePacket n) f let_go).world
deliver_served L cycle v n f let_go l = go (to_server f.body) (is_exhausted v.server f.client f.incarnation f.body) (f.incarnation == v.incarnation f.client)
  where
    go : (r u q : Bool) → Served L cycle v (if r
        then (if u then answer_only v (TakePacket n) ServerExhausted else server_does v (TakePacket n) Taken (server_take cycle v.server f.client f.incarnation f.body))
        else if q then client_does L v (TakePacket n) f.client Taken (client_take L (v.client f.client) f.body let_go) else answer_only v (TakePacket n) Taken).world
    go true true q = only_answers L cycle v (TakePacket n) ServerExhausted
    go true false q = ServesInput (MessageComes f.client f.incarnation f.body) l refl refl
    go false r true = client_acts L cycle v (TakePacket n) f.client Taken (client_take L (v.client f.client) f.body let_go) l (takes_speak L (v.client f.client) f.body let_go)
    go false r false = only_answers L cycle v (TakePacket n) Taken

take_served : (L : Limits) (cycle : DeadlockTest) (v : World) (n : ℕ) (let_go : Option ℕ) (r : Option Message) → packet_at v.packets n ≡ r → Addressed L v → Served L cycle v (take_packet L cycle v (TakePacket n) r let_go).world
take_served L cycle v n let_go None e h = only_answers L cycle v (TakePacket n) NoPacket
take_served L cycle v n let_go (Some f) e h = deliver_served L cycle v n f let_go (h f (packet_is_in v.packets n f e))

restart_served : (L : Limits) (cycle : DeadlockTest) (v : World) (c : ℕ) → Served L cycle v (restart_client v (Restart c) c).world
restart_served L cycle v c = go (nat_le max_number (v.incarnation c))
  where
    go : (r : Bool) → Served L cycle v (if r then answer_only v (Restart c) (Refused Exhausted)
        else answer_with v (Restart c) AnsweredOk [] (record v { client = update v.client c new_client; incarnation = update v.incarnation c (v.incarnation c + 1) })).world
    go true = only_answers L cycle v (Restart c) (Refused Exhausted)
    go false = ServesNot refl (λ f i. in_left f v.packets [] i) (λ f i. inl (back f v.packets i))

flush_served : (L : Limits) (cycle : DeadlockTest) (v : World) (e : Event) (n : ℕ) → Served L cycle v (flush_up_to v e n).world
flush_served L cycle v e n = go (can_flush v.server n)
  where
    go : (r : Bool) → Served L cycle v (if r then server_does v e (Flushed n) (server_flush v.server n) else answer_only v e Nothing).world
    go true = ServesInput (ReachesDisk n) tt refl refl
    go false = only_answers L cycle v e Nothing

-- each event
pub event_served : (L : Limits) (cycle : DeadlockTest) (v : World) (e : Event) (let_go : Option ℕ) → Addressed L v → Served L cycle v (step L cycle v e let_go).world
unfolding step
event_served L cycle v (ClientCalls c x) let_go h = go (nat_lt c L.clients) refl
  where
    below : nat_lt c L.clients ≡ true → c < L.clients
    below e = grind arith

    go : (r : Bool) → nat_lt c L.clients ≡ r → Served L cycle v (if r then client_does L v (ClientCalls c x) c (client_call L (v.client c) x).word (client_call L (v.client c) x).steps else answer_only v (ClientCalls c x) NoClient).world
    go true e = client_acts L cycle v (ClientCalls c x) c (client_call L (v.client c) x).word (client_call L (v.client c) x).steps (below e) (calls_speak L (v.client c) x)
    go false e = only_answers L cycle v (ClientCalls c x) NoClient
event_served L cycle v (TakePacket n) let_go h = take_served L cycle v n let_go (packet_at v.packets n) refl h
event_served L cycle v (Restart c) let_go h = go (nat_lt c L.clients)
  where
    go : (r : Bool) → Served L cycle v (if r then restart_client v (Restart c) c else answer_only v (Restart c) NoClient).world
    go true = restart_served L cycle v c
    go false = only_answers L cycle v (Restart c) NoClient
event_served L cycle v ServerAgain let_go h = ServesInput SendsAgain tt refl refl
event_served L cycle v FlushAll let_go h = flush_served L cycle v FlushAll v.server.store.last_commit
event_served L cycle v (FlushTo n) let_go h = flush_served L cycle v (FlushTo n) n
