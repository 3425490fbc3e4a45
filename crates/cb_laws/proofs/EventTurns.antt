-- An event of the world of one life, by what it does: five forms, walked once for every law about single events.
use Rattle.std.proofs.Common.{Bool, None, Option, Some, [], arith, false, if◌then◌else◌, nat_le, nat_lt, refl, true, ℕ, ◌+◌, ◌<◌, ◌==◌, ◌≡◌}
use Rattle.cb_protocol.specs.Answers.{AnsweredOk, AnswerWord, Exhausted, Flushed, NoClient, NoPacket, Nothing, Refused, ServerExhausted, Taken}
use Rattle.cb_protocol.specs.Basics.{Limits, max_number, update}
use Rattle.cb_protocol.specs.Client.{new_client}
use Rattle.cb_protocol.specs.ClientCalls.{Call, client_call}
use Rattle.cb_protocol.specs.ClientMessages.{client_take}
use Rattle.cb_protocol.specs.Flush.{can_flush, server_flush}
use Rattle.cb_protocol.specs.Messages.{Message, to_server}
use Rattle.cb_protocol.specs.Resend.{server_again}
use Rattle.cb_protocol.specs.Server.{DeadlockTest}
use Rattle.cb_protocol.specs.ServerMessages.{is_exhausted, server_take}
use Rattle.cb_protocol.specs.World.{ClientCalls, Event, FlushAll, FlushTo, Restart, ServerAgain, TakePacket, World, answer_only, answer_with, client_does, deliver, flush_up_to, packet_at, restart_client, server_does, step, take_packet}

-- what holds of the world after each form of an event
pub record Turns (L : Limits) (cycle : DeadlockTest) (v : World) (let_go : Option ℕ) (P : Event → World → Type 0) : Type 0 where
  pub answered : (e : Event) (word : AnswerWord) → P e (answer_only v e word).world
  pub called : (c : ℕ) (x : Call) → c < L.clients → P (ClientCalls c x) (client_does L v (ClientCalls c x) c (client_call L (v.client c) x).word (client_call L (v.client c) x).steps).world
  pub taken : (n : ℕ) (f : Message) → packet_at v.packets n ≡ Some f → to_server f.body ≡ false → f.incarnation ≡ v.incarnation f.client
      → P (TakePacket n) (client_does L v (TakePacket n) f.client Taken (client_take L (v.client f.client) f.body let_go)).world
  pub served : (n : ℕ) (f : Message) → packet_at v.packets n ≡ Some f → to_server f.body ≡ true → P (TakePacket n) (server_does v (TakePacket n) Taken (server_take cycle v.server f.client f.incarnation f.body)).world
  pub again : P ServerAgain (server_does v ServerAgain AnsweredOk (server_again v.server)).world
  pub flushed : (e : Event) (n : ℕ) → can_flush v.server n ≡ true → P e (server_does v e (Flushed n) (server_flush v.server n)).world
  pub restarted : (c : ℕ) → c < L.clients → v.incarnation c < max_number
      → P (Restart c) (answer_with v (Restart c) AnsweredOk [] (record v { client = update v.client c new_client; incarnation = update v.incarnation c (v.incarnation c + 1) })).world

by_deliver : (L : Limits) (cycle : DeadlockTest) (v : World) (n : ℕ) (f : Message) (let_go : Option ℕ) (P : Event → World → Type 0) → Turns L cycle v let_go P → packet_at v.packets n ≡ Some f → P (TakePacket n) (deliver L cycle v (TakePacket n) f let_go).world
by_deliver L cycle v n f let_go P t i = go (to_server f.body) (is_exhausted v.server f.client f.incarnation f.body) (f.incarnation == v.incarnation f.client) refl refl
  where
    same : (f.incarnation == v.incarnation f.client) ≡ true → f.incarnation ≡ v.incarnation f.client
    same e = grind arith

    go : (r u q : Bool) → to_server f.body ≡ r → (f.incarnation == v.incarnation f.client) ≡ q → P (TakePacket n) (if r
        then (if u then answer_only v (TakePacket n) ServerExhausted else server_does v (TakePacket n) Taken (server_take cycle v.server f.client f.incarnation f.body))
        else if q then client_does L v (TakePacket n) f.client Taken (client_take L (v.client f.client) f.body let_go) else answer_only v (TakePacket n) Taken).world
    go true true q d e = t.answered (TakePacket n) ServerExhausted
    go true false q d e = t.served n f i d
    go false r true d e = t.taken n f i d (same e)
    go false r false d e = t.answered (TakePacket n) Taken

by_take : (L : Limits) (cycle : DeadlockTest) (v : World) (n : ℕ) (let_go : Option ℕ) (P : Event → World → Type 0) → Turns L cycle v let_go P → (r : Option Message) → packet_at v.packets n ≡ r → P (TakePacket n) (take_packet L cycle v (TakePacket n) r let_go).world
by_take L cycle v n let_go P t None i = t.answered (TakePacket n) NoPacket
by_take L cycle v n let_go P t (Some f) i = by_deliver L cycle v n f let_go P t i

by_restart : (L : Limits) (cycle : DeadlockTest) (v : World) (c : ℕ) (let_go : Option ℕ) (P : Event → World → Type 0) → Turns L cycle v let_go P → c < L.clients → P (Restart c) (restart_client v (Restart c) c).world
by_restart L cycle v c let_go P t l = go (nat_le max_number (v.incarnation c)) refl
  where
    below : nat_le max_number (v.incarnation c) ≡ false → v.incarnation c < max_number
    below e = grind arith

    go : (r : Bool) → nat_le max_number (v.incarnation c) ≡ r → P (Restart c) (if r then answer_only v (Restart c) (Refused Exhausted)
        else answer_with v (Restart c) AnsweredOk [] (record v { client = update v.client c new_client; incarnation = update v.incarnation c (v.incarnation c + 1) })).world
    go true e = t.answered (Restart c) (Refused Exhausted)
    go false e = t.restarted c l (below e)

by_flush : (L : Limits) (cycle : DeadlockTest) (v : World) (e : Event) (n : ℕ) (let_go : Option ℕ) (P : Event → World → Type 0) → Turns L cycle v let_go P → P e (flush_up_to v e n).world
by_flush L cycle v e n let_go P t = go (can_flush v.server n) refl
  where
    go : (r : Bool) → can_flush v.server n ≡ r → P e (if r then server_does v e (Flushed n) (server_flush v.server n) else answer_only v e Nothing).world
    go true f = t.flushed e n f
    go false f = t.answered e Nothing

-- each event is one of them
pub by_turns : (L : Limits) (cycle : DeadlockTest) (v : World) (e : Event) (let_go : Option ℕ) (P : Event → World → Type 0) → Turns L cycle v let_go P → P e (step L cycle v e let_go).world
unfolding step
by_turns L cycle v (ClientCalls c x) let_go P t = go (nat_lt c L.clients) refl
  where
    below : nat_lt c L.clients ≡ true → c < L.clients
    below e = grind arith

    go : (r : Bool) → nat_lt c L.clients ≡ r → P (ClientCalls c x) (if r then client_does L v (ClientCalls c x) c (client_call L (v.client c) x).word (client_call L (v.client c) x).steps else answer_only v (ClientCalls c x) NoClient).world
    go true e = t.called c x (below e)
    go false e = t.answered (ClientCalls c x) NoClient
by_turns L cycle v (TakePacket n) let_go P t = by_take L cycle v n let_go P t (packet_at v.packets n) refl
by_turns L cycle v (Restart c) let_go P t = go (nat_lt c L.clients) refl
  where
    below : nat_lt c L.clients ≡ true → c < L.clients
    below e = grind arith

    go : (r : Bool) → nat_lt c L.clients ≡ r → P (Restart c) (if r then restart_client v (Restart c) c else answer_only v (Restart c) NoClient).world
    go true e = by_restart L cycle v c let_go P t (below e)
    go false e = t.answered (Restart c) NoClient
by_turns L cycle v ServerAgain let_go P t = t.again
by_turns L cycle v FlushAll let_go P t = by_flush L cycle v FlushAll v.server.store.last_commit let_go P t
by_turns L cycle v (FlushTo n) let_go P t = by_flush L cycle v (FlushTo n) n let_go P t
