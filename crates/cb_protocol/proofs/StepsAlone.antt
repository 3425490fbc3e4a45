-- Packets only grow, and each step changes its own side alone.
use Rattle.std.proofs.Common.{Bool, List, None, Option, Some, [], arith, false, if◌then◌else◌, nat_le, nat_lt, refl, true, ℕ, ◌++◌, ◌+◌, ◌==◌, ◌≡◌, ◌≢◌}
use Rattle.cb_protocol.specs.Client.{ClientStep, client_after, new_client}
use Rattle.cb_protocol.specs.Answers.{Exhausted, Flushed, AnsweredOk, NoClient, NoPacket, Nothing, Refused, ServerExhausted, Taken, AnswerWord}
use Rattle.cb_protocol.specs.ClientCalls.{client_call}
use Rattle.cb_protocol.specs.ClientMessages.{client_take}
use Rattle.cb_protocol.specs.Basics.{Limits, max_number, update}
use Rattle.cb_protocol.specs.Messages.{Message, to_server}
use Rattle.cb_protocol.specs.StepsKeep.{OfClient, OfNobody, OfServer, OthersUnchanged, PacketsOnlyGrow, StepsAreAlone, Whose, taker, whose}
use Rattle.cb_protocol.specs.Server.{DeadlockTest}
use Rattle.cb_protocol.specs.Flush.{can_flush, server_flush}
use Rattle.cb_protocol.specs.ServerMessages.{is_exhausted, server_take}
use Rattle.cb_protocol.specs.World.{ServerAgain, ClientCalls, Event, FlushAll, FlushTo, Restart, TakePacket, World, answer_with, client_does, deliver, flush_up_to, packet_at, answer_only, server_does, step, take_packet}

-- what a step leaves
record LeavesWorld (w : World) (who : Whose) (v : World) : Type 0 where
  packets : (fs : List Message) × (v.packets ≡ w.packets ++ fs)
  others : OthersUnchanged w v who

untouched : (w : World) (e : Event) (word : AnswerWord) (who : Whose) → OthersUnchanged w w who → LeavesWorld w who (answer_only w e word).world
untouched w e word (OfClient c) f = record { packets = ([], refl); others = f }
untouched w e word OfServer f = record { packets = ([], refl); others = f }
untouched w e word OfNobody f = record { packets = ([], refl); others = f }

stand : (w : World) (who : Whose) → OthersUnchanged w w who
stand w (OfClient c) = (refl, λ d n. (refl, refl))
stand w OfServer = (refl, refl)
stand w OfNobody = (refl, refl, refl)

put_other : {A : Type 0} (f : ℕ → A) (c d : ℕ) (v : A) → d ≢ c → update f c v d ≡ f d
put_other f c d v n = grind arith

client_step : (L : Limits) (w : World) (e : Event) (c : ℕ) (word : AnswerWord) (steps : List ClientStep) → LeavesWorld w (OfClient c) (client_does L w e c word steps).world
client_step L w e c word steps = record { packets = (_, refl); others = (refl, λ d n. (put_other w.client c d (client_after L.keep_write (w.client c) steps) n, refl)) }

delivered : (L : Limits) (cycle : DeadlockTest) (w : World) (e : Event) (f : Message) (let_go : Option ℕ) → LeavesWorld w (taker (Some f)) (deliver L cycle w e f let_go).world
delivered L cycle w e f let_go = go (to_server f.body) (is_exhausted w.server f.client f.incarnation f.body) (f.incarnation == w.incarnation f.client)
  where
    go : (r u q : Bool) → LeavesWorld w (if r then OfServer else OfClient f.client) (if r
        then (if u then answer_only w e ServerExhausted else server_does w e Taken (server_take cycle w.server f.client f.incarnation f.body))
        else if q then client_does L w e f.client Taken (client_take L (w.client f.client) f.body let_go) else answer_only w e Taken).world
    go true true q = untouched w e ServerExhausted OfServer (refl, refl)
    go true false q = record { packets = (_, refl); others = (refl, refl) }
    go false u true = client_step L w e f.client Taken (client_take L (w.client f.client) f.body let_go)
    go false u false = untouched w e Taken (OfClient f.client) (stand w (OfClient f.client))

taken : (L : Limits) (cycle : DeadlockTest) (w : World) (e : Event) (r : Option Message) (let_go : Option ℕ) → LeavesWorld w (taker r) (take_packet L cycle w e r let_go).world
taken L cycle w e None let_go = untouched w e NoPacket OfNobody (refl, refl, refl)
taken L cycle w e (Some f) let_go = delivered L cycle w e f let_go

flush_step : (w : World) (e : Event) (n : ℕ) → LeavesWorld w OfServer (flush_up_to w e n).world
flush_step w e n = go (can_flush w.server n)
  where
    go : (r : Bool) → LeavesWorld w OfServer (if r then server_does w e (Flushed n) (server_flush w.server n) else answer_only w e Nothing).world
    go true = record { packets = (_, refl); others = (refl, refl) }
    go false = untouched w e Nothing OfServer (refl, refl)

any_step : (L : Limits) (cycle : DeadlockTest) (w : World) (e : Event) (let_go : Option ℕ) → LeavesWorld w (whose w e) (step L cycle w e let_go).world
unfolding step
any_step L cycle w (ClientCalls c x) let_go = go (nat_lt c L.clients)
  where
    go : (r : Bool) → LeavesWorld w (OfClient c) (if r then client_does L w (ClientCalls c x) c (client_call L (w.client c) x).word (client_call L (w.client c) x).steps else answer_only w (ClientCalls c x) NoClient).world
    go true = client_step L w (ClientCalls c x) c (client_call L (w.client c) x).word (client_call L (w.client c) x).steps
    go false = untouched w (ClientCalls c x) NoClient (OfClient c) (stand w (OfClient c))
any_step L cycle w (TakePacket n) let_go = taken L cycle w (TakePacket n) (packet_at w.packets n) let_go
any_step L cycle w (Restart c) let_go = go (nat_lt c L.clients) (nat_le max_number (w.incarnation c))
  where
    go : (r u : Bool) → LeavesWorld w (OfClient c) (if r then (if u then answer_only w (Restart c) (Refused Exhausted)
        else answer_with w (Restart c) AnsweredOk [] (record w { client = update w.client c new_client; incarnation = update w.incarnation c (w.incarnation c + 1) })) else answer_only w (Restart c) NoClient).world
    go true true = untouched w (Restart c) (Refused Exhausted) (OfClient c) (stand w (OfClient c))
    go true false = record { packets = ([], refl); others = (refl, λ d n. (put_other w.client c d new_client n, put_other w.incarnation c d (w.incarnation c + 1) n)) }
    go false u = untouched w (Restart c) NoClient (OfClient c) (stand w (OfClient c))
any_step L cycle w ServerAgain let_go = record { packets = (_, refl); others = (refl, refl) }
any_step L cycle w FlushAll let_go = flush_step w FlushAll w.server.store.last_commit
any_step L cycle w (FlushTo n) let_go = flush_step w (FlushTo n) n

pub packets_only_grow : (L : Limits) (cycle : DeadlockTest) → PacketsOnlyGrow L cycle
packets_only_grow L cycle w e let_go = (any_step L cycle w e let_go).packets

pub steps_are_alone : (L : Limits) (cycle : DeadlockTest) → StepsAreAlone L cycle
steps_are_alone L cycle w e let_go = (any_step L cycle w e let_go).others
