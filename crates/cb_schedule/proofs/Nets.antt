-- What each kind of event makes of the net.
use Rattle.std.proofs.Common.{◌≡◌, ◌≢◌, ◌<◌, ℕ, Bool, true, false, nat_le, nat_lt, ◌==◌, List, [], ◌∷◌, ◌++◌, Option, None, Some, length, map, refl, ap, sym, ◌∙◌, subst, arith, Result, IfOk}
use Rattle.std.specs.Prelude.{slice_get}
use Rattle.std.specs.List.{AllByRecursion}
use Rattle.std.proofs.lemmas.Bool.Decides.{nat_tests}
use Rattle.std.proofs.lemmas.List.{append-nil}
use Rattle.std.proofs.lemmas.Result.{IfOk-weaker}
use Rattle.cb_cache.specs.CacheState.{limits_of}
use Rattle.cb_frame.specs.Grammar.{Fits, IsFrame}
use Rattle.cb_frame.specs.Spelling.{spelling}
use Rattle.cb_frame.specs.Kinds.{goes_to_server, kind_of_body}
use Rattle.cb_frame.specs.declared.frame.Body.{Body}
use Rattle.cb_frame.specs.declared.frame.Body.TheVariants as body
use Rattle.cb_frame.specs.declared.frame.ShortBody.TheVariants as short
use Rattle.cb_frame.specs.declared.frame.Frame.{Frame}
use Rattle.cb_outbox.specs.Messages.{body_of, message_of, messages_of}
use Rattle.cb_schedule.specs.Packets.{IsFrameAt, PacketsState}
use Rattle.cb_schedule.specs.Wire.{AllSpell, Spells}
use Rattle.cb_page.specs.Bounds.{Bounds}
use Rattle.cb_protocol.proofs.Cases.{call_accepted, call_refused, step_again, step_call, step_call_no_client, step_flush_all, step_flush_to, step_restart, step_take}
use Rattle.cb_protocol.specs.AnyMessages.{Input, ReachesDisk, SendsAgain, input_steps}
use Rattle.cb_protocol.specs.Answers.{AnswerWord, AnsweredOk, ClientFault, Flushed, NoPacket, Nothing, ServerExhausted, Taken}
use Rattle.cb_protocol.specs.Basics.{Bytes, Limits, max_number}
use Rattle.cb_protocol.specs.ClientMessages.{ChoiceAllowed}
use Rattle.cb_protocol.specs.Flush.{can_flush}
use Rattle.cb_protocol.specs.Messages.{Granted, Message, to_server}
use Rattle.cb_protocol.specs.Server.{Server, server_after}
use Rattle.cb_protocol.specs.ServerMessages.{is_exhausted, server_take}
use Rattle.cb_protocol.specs.Client.{Client}
use Rattle.cb_protocol.specs.ClientCalls.{Call, CallAgain, CallBegin, CallDrop, CallFinish, CallHello, CallPeek, CallRead, CallWant, CallWrite, Reply, accept_call, call_fault, peek_word, read_page, want_page}
use Rattle.cb_protocol.specs.WaitsFor.{on_cycle}
use Rattle.cb_protocol.specs.Serial.{Operation}
use Rattle.cb_protocol.specs.World.{SentPacket as Packet}
use Rattle.cb_protocol.specs.World.{ClientCalls, Event, EventChoiceAllowed, FlushAll, FlushTo, MessageChoiceAllowed, Restart, ServerAgain, StepResult, TakePacket, World, answer_only, answer_with, client_does, deliver, flush_up_to, messages_sent, numbered_from, packet_at, server_does, step, take_packet}
use Rattle.cb_server_state.specs.declared.server_state.ServerState.{ServerState}
use Rattle.cb_server.specs.ServerValue.{IsUnchanged, ServerValue, commits_of, server_of}
use Rattle.cb_server.specs.Taking.{Does, Takes}
use Rattle.cb_schedule.specs.ByWorld.{Answers, Delivers}
use Rattle.cb_schedule.specs.WorldClientsState as world_clients
use Rattle.cb_schedule.specs.WorldClientsState.{WorldClientsState, client_at}
use Rattle.cb_transcript.specs.ProtocolEvents.{sent_of, word_of}
use Rattle.cb_transcript.specs.declared.answer.Answer.{Answer}
use Rattle.cb_transcript.specs.declared.answer.AnswerWord.{AnswerWord as Word}
use Rattle.cb_transcript.specs.declared.answer.SentPacket.{SentPacket}
use Rattle.cb_schedule.proofs.Packing.{SpelledAt, all_spell, frames_spell, frames_spelled, numbered, sent_length, spelled_at}
use Rattle.cb_schedule.specs.NetMoves.{Adds, FlushesTo, IsAccepted, NetBecomes, Sends, is_refusal_word, sending, sent_as}
use Rattle.cb_schedule.specs.NetState.{IsNet, NetState, RepresentsNet}

-- nothing was sent
adds_none : (n : NetState) (a : Answer) → a.sent ≡ [] → Adds n (length a.sent) n
adds_none n a sent = record {
  sent = [];
  all = sym (append-nil n.packets.sent);
  counted = sym (ap length sent);
  spelled = tt;
}

-- The event was answered by frames that were sent, and the clients and the server are others: the
-- net is what the protocol's step makes of it.
record Moved (n : NetState) (e : Event) (word : AnswerWord) (messages : List Message) (m : NetState) : Type 0 where
  limits : m.world_clients.limits ≡ n.world_clients.limits
  opening : (commits_of m.server).opening ≡ (commits_of n.server).opening
  by_event : (w : World) → RepresentsNet n w → (let_go : Option ℕ) × (u : World)
      × EventChoiceAllowed (limits_of n.world_clients.limits) w e let_go
      × (step (limits_of n.world_clients.limits) on_cycle w e let_go ≡ answer_with w e word messages u)
      × (u.server ≡ server_of m.server) × world_clients.Represents m.world_clients u

-- with the packets that carry its messages
becomes_sending : (n m : NetState) (e : Event) (word : AnswerWord) (frames : List Frame) (a : Answer) → m.packets ≡ n.packets → n.packets.limits ≡ n.world_clients.limits → Moved n e word (messages_of frames) m
    → AllByRecursion (Fits n.world_clients.limits) frames → word_of a.word ≡ word → a.sent ≡ sent_as (length n.packets.sent) frames → NetBecomes n e a (sending m frames)
becomes_sending n m e word frames a same l moved fits is sent = record {
  limits = moved.limits;
  opening = moved.opening;
  packets = record {
    sent = map spelling frames;
    all = ap (λ (p : PacketsState). p.sent ++ map spelling frames) same;
    counted = sent_length (length n.packets.sent) frames ∙ ap length (sym sent);
    spelled = frames_spelled n.world_clients.limits frames fits;
  };
  by_event = λ w sh.
      let by = moved.by_event w sh in (
        by.0,
        messages_of frames,
        by.1,
        by.2,
        by.3 ∙ ap (λ (x : AnswerWord). answer_with w e x (messages_of frames) by.1) (sym is),
        numbered (length n.packets.sent) frames ∙ ap (λ (xs : List SentPacket). map sent_of xs) (sym sent),
        record {
          server = by.4;
          world_clients = record { clients = by.5.clients; incarnations = by.5.incarnations };
          packets = subst (λ (b : _). AllSpell b ((sending m frames).packets.sent) (w.packets ++ messages_of frames)) (sym moved.limits)
              (subst (λ (p : PacketsState). AllSpell n.world_clients.limits (p.sent ++ map spelling frames) (w.packets ++ messages_of frames)) (sym same)
              (all_spell n.world_clients.limits n.packets.sent (map spelling frames) w.packets (messages_of frames) sh.packets (frames_spell n.world_clients.limits frames fits)));
        },
      );
}

-- the clients do something at an event that is none of a packet
pub world_clients_become : (n : NetState) (s : WorldClientsState) (e : Event) (word : AnswerWord) (frames : List Frame) (a : Answer) → IsNet n → Answers n.world_clients e word (messages_of frames) s
    → ((w : World) → EventChoiceAllowed (limits_of n.world_clients.limits) w e None)
    → AllByRecursion (Fits n.world_clients.limits) frames → word_of a.word ≡ word → a.sent ≡ sent_as (length n.packets.sent) frames → NetBecomes n e a (sending (record n { world_clients = s }) frames)
world_clients_become n s e word frames a is answers allowed fits word_is sent = becomes_sending n (record n { world_clients = s }) e word frames a refl is.packets (record {
  limits = answers.limits;
  opening = refl;
  by_event = λ w sh.
      let by = answers.by_event w sh.world_clients None in
      (None, by.0, allowed w, by.1, by.2 ∙ sh.server, by.3);
}) fits word_is sent

-- the server does something at an event that is none of a packet
server_moves : (n : NetState) (v : ServerValue) (e : Event) (word : AnswerWord) (input : Input) (messages : List Message) → Does n.server input messages v
    → ((w : World) → RepresentsNet n w → EventChoiceAllowed (limits_of n.world_clients.limits) w e None × (step (limits_of n.world_clients.limits) on_cycle w e None ≡ server_does w e word (input_steps on_cycle w.server input)))
    → Moved n e word messages (record n { server = v })
server_moves n v e word input messages does steps = record {
  limits = refl;
  opening = does.opening;
  by_event = λ w sh.
      let sends : messages_sent (input_steps on_cycle w.server input) ≡ messages = ap (λ (x : Server). messages_sent (input_steps on_cycle x input)) sh.server ∙ sym does.sends in
      let after : server_after w.server (input_steps on_cycle w.server input) ≡ server_of v = ap (λ (x : Server). server_after x (input_steps on_cycle x input)) sh.server ∙ sym does.becomes in (
        None,
        record w { server = server_of v },
        (steps w sh).0,
        (steps w sh).1 ∙ (λ i. answer_with w e word (sends i) (record w { server = after i })),
        refl,
        record { clients = sh.world_clients.clients; incarnations = sh.world_clients.incarnations },
      );
}

-- it sends again
pub again_becomes : (n : NetState) (v : ServerValue) (frames : List Frame) (a : Answer) → IsNet n → Does n.server SendsAgain (messages_of frames) v
    → AllByRecursion (Fits n.world_clients.limits) frames → word_of a.word ≡ AnsweredOk → a.sent ≡ sent_as (length n.packets.sent) frames → NetBecomes n ServerAgain a (sending (record n { server = v }) frames)
again_becomes n v frames a is does fits word_is sent = becomes_sending n (record n { server = v }) ServerAgain AnsweredOk frames a refl is.packets
    (server_moves n v ServerAgain AnsweredOk SendsAgain (messages_of frames) does (λ w sh. (tt, step_again (limits_of n.world_clients.limits) on_cycle w None))) fits word_is sent

-- nothing happens but the answer
nothing_becomes : (n : NetState) (e : Event) (word : AnswerWord) (a : Answer)
    → ((w : World) → RepresentsNet n w → EventChoiceAllowed (limits_of n.world_clients.limits) w e None × (step (limits_of n.world_clients.limits) on_cycle w e None ≡ answer_only w e word))
    → word_of a.word ≡ word → a.sent ≡ [] → NetBecomes n e a n
nothing_becomes n e word a steps is sent = record {
  limits = refl;
  opening = refl;
  packets = adds_none n a sent;
  by_event = λ w sh. (
    None,
    [],
    w,
    (steps w sh).0,
    (steps w sh).1 ∙ ap (λ (x : AnswerWord). answer_with w e x [] w) (sym is),
    ap (λ (xs : List SentPacket). map sent_of xs) (sym sent),
    record { server = sh.server; world_clients = record { clients = sh.world_clients.clients; incarnations = sh.world_clients.incarnations }; packets = rw (append-nil w.packets) sh.packets },
  );
}

-- Packet k carries the message of its frame.
carried : (n : NetState) (k : ℕ) (f : Frame) (w : World) → IsFrameAt n.packets k f → n.packets.limits ≡ n.world_clients.limits → RepresentsNet n w → packet_at w.packets k ≡ Some (message_of f)
carried n k f w x l sh = carried_at (slice_get n.packets.sent k) (packet_at w.packets k) x.is_sent (spelled_at n.world_clients.limits n.packets.sent w.packets k sh.packets)
  where
    one : (q : Message) (bytes : List ℕ) → bytes ≡ x.bytes → Spells n.world_clients.limits bytes q → q ≡ message_of f
    one q bytes e s = sym s.carries ∙ ap message_of (x.only s.frame (subst (λ (b : _). IsFrame b s.frame x.bytes) (sym l) (subst (λ (b : List ℕ). IsFrame n.world_clients.limits s.frame b) e s.spelled)))

    carried_at : (o : Option (List ℕ)) (q : Option Message) → o ≡ Some x.bytes → SpelledAt n.world_clients.limits o q → q ≡ Some (message_of f)
    carried_at (Some b) (Some q) e s = ap Some (one q b (let i : b ≡ x.bytes = cc in i) s)
    carried_at (Some b) None e s = absurd s
    carried_at None q e s = cc

-- a message to the server brings no page
none_let_go : (L : Limits) (k : Client) (b : _) → to_server b ≡ true → ChoiceAllowed L k b None
none_let_go L k (Granted p g v b) t = absurd cc
none_let_go L k _ t = tt

-- the pool's law for packet k, by the message that it is
chosen_at : (L : Limits) (w : World) (k : ℕ) (m : Message) (let_go : Option ℕ) → packet_at w.packets k ≡ Some m
    → (m.incarnation ≡ w.incarnation m.client → ChoiceAllowed L (w.client m.client) m.body let_go)
    → MessageChoiceAllowed L w (packet_at w.packets k) let_go
chosen_at L w k m let_go e f = subst (λ (x : Option Message). MessageChoiceAllowed L w x let_go) (sym e) f

delivered : (L : Limits) (w : World) (k : ℕ) (m : Message) (let_go : Option ℕ) → packet_at w.packets k ≡ Some m → step L on_cycle w (TakePacket k) let_go ≡ deliver L on_cycle w (TakePacket k) m let_go
delivered L w k m v e = step_take L on_cycle w k v ∙ ap (λ (o : Option Message). take_packet L on_cycle w (TakePacket k) o v) e

-- a client takes a packet
pub client_becomes : (n : NetState) (k : ℕ) (f : Frame) (s : WorldClientsState) (frames : List Frame) (a : Answer) → IsNet n → IsFrameAt n.packets k f → to_server (body_of f.body) ≡ false
    → Delivers n.world_clients (message_of f) (messages_of frames) s → AllByRecursion (Fits n.world_clients.limits) frames → word_of a.word ≡ Taken → a.sent ≡ sent_as (length n.packets.sent) frames
    → NetBecomes n (TakePacket k) a (sending (record n { world_clients = s }) frames)
client_becomes n k f s frames a is at t delivers fits word_is sent = becomes_sending n (record n { world_clients = s }) (TakePacket k) Taken frames a refl is.packets (record {
  limits = delivers.limits;
  opening = refl;
  by_event = λ w sh.
      let by = delivers.by_event w sh.world_clients (TakePacket k) in
      let here : packet_at w.packets k ≡ Some (message_of f) = carried n k f w at is.packets sh in (
        by.0,
        by.1,
        chosen_at (limits_of n.world_clients.limits) w k (message_of f) by.0 here by.2,
        delivered (limits_of n.world_clients.limits) w k (message_of f) by.0 here ∙ (rw t refl ∙ by.3),
        by.4 ∙ sh.server,
        by.5,
      );
}) fits word_is sent

-- the server takes a packet
pub server_becomes : (n : NetState) (k : ℕ) (f : Frame) (v : ServerValue) (frames : List Frame) (a : Answer) → IsNet n → IsFrameAt n.packets k f → to_server (body_of f.body) ≡ true
    → Takes n.server f (messages_of frames) v → AllByRecursion (Fits n.world_clients.limits) frames → word_of a.word ≡ Taken → a.sent ≡ sent_as (length n.packets.sent) frames
    → NetBecomes n (TakePacket k) a (sending (record n { server = v }) frames)
server_becomes n k f v frames a is at t takes fits word_is sent = becomes_sending n (record n { server = v }) (TakePacket k) Taken frames a refl is.packets (record {
  limits = refl;
  opening = takes.does.opening;
  by_event = λ w sh.
      let m : Message = message_of f in
      let here : packet_at w.packets k ≡ Some m = carried n k f w at is.packets sh in
      let fine : is_exhausted w.server m.client m.incarnation m.body ≡ false = ap (λ (x : Server). is_exhausted x m.client m.incarnation m.body) sh.server ∙ takes.taken in
      let sends : messages_sent (server_take on_cycle w.server m.client m.incarnation m.body) ≡ messages_of frames
      = ap (λ (x : Server). messages_sent (server_take on_cycle x m.client m.incarnation m.body)) sh.server ∙ sym takes.does.sends in
      let after : server_after w.server (server_take on_cycle w.server m.client m.incarnation m.body) ≡ server_of v
      = ap (λ (x : Server). server_after x (server_take on_cycle x m.client m.incarnation m.body)) sh.server ∙ sym takes.does.becomes in (
        None,
        record w { server = server_of v },
        chosen_at (limits_of n.world_clients.limits) w k m None here (λ i. none_let_go (limits_of n.world_clients.limits) (w.client m.client) m.body t),
        delivered (limits_of n.world_clients.limits) w k m None here ∙ (to_the_server w m t fine ∙ (λ i. answer_with w (TakePacket k) Taken (sends i) (record w { server = after i }))),
        refl,
        record { clients = sh.world_clients.clients; incarnations = sh.world_clients.incarnations },
      );
}) fits word_is sent
  where
    to_the_server : (w : World) (m : Message) → to_server m.body ≡ true → is_exhausted w.server m.client m.incarnation m.body ≡ false
        → deliver (limits_of n.world_clients.limits) on_cycle w (TakePacket k) m None ≡ server_does w (TakePacket k) Taken (server_take on_cycle w.server m.client m.incarnation m.body)
    to_the_server w m t z = rw (t, z) refl

-- it has no number left for it
pub exhausted_becomes : (n : NetState) (k : ℕ) (f : Frame) (a : Answer) → IsNet n → IsFrameAt n.packets k f → to_server (body_of f.body) ≡ true
    → is_exhausted (server_of n.server) f.client f.incarnation (body_of f.body) ≡ true → word_of a.word ≡ ServerExhausted → a.sent ≡ [] → NetBecomes n (TakePacket k) a n
exhausted_becomes n k f a is at t z word_is sent = record {
  limits = refl;
  opening = refl;
  packets = adds_none n a sent;
  by_event = λ w sh.
      let m : Message = message_of f in
      let here : packet_at w.packets k ≡ Some m = carried n k f w at is.packets sh in
      let gone : is_exhausted w.server m.client m.incarnation m.body ≡ true = ap (λ (x : Server). is_exhausted x m.client m.incarnation m.body) sh.server ∙ z in (
        None,
        [],
        w,
        chosen_at (limits_of n.world_clients.limits) w k m None here (λ i. none_let_go (limits_of n.world_clients.limits) (w.client m.client) m.body t),
        delivered (limits_of n.world_clients.limits) w k m None here ∙ (to_the_server w m t gone ∙ ap (λ (o : AnswerWord). answer_with w (TakePacket k) o [] w) (sym word_is)),
        ap (λ (l : List SentPacket). map sent_of l) (sym sent),
        record { server = sh.server; world_clients = record { clients = sh.world_clients.clients; incarnations = sh.world_clients.incarnations }; packets = rw (append-nil w.packets) sh.packets },
      );
}
  where
    to_the_server : (w : World) (m : Message) → to_server m.body ≡ true → is_exhausted w.server m.client m.incarnation m.body ≡ true
        → deliver (limits_of n.world_clients.limits) on_cycle w (TakePacket k) m None ≡ answer_only w (TakePacket k) ServerExhausted
    to_the_server w m t z = rw (t, z) refl

-- a packet that was not sent yet
pub no_packet_becomes : (n : NetState) (k : ℕ) (a : Answer) → slice_get n.packets.sent k ≡ None → word_of a.word ≡ NoPacket → a.sent ≡ [] → NetBecomes n (TakePacket k) a n
no_packet_becomes n k a h word_is sent = record {
  limits = refl;
  opening = refl;
  packets = adds_none n a sent;
  by_event = λ w sh.
      let none : packet_at w.packets k ≡ None = none_at (slice_get n.packets.sent k) (packet_at w.packets k) h (spelled_at n.world_clients.limits n.packets.sent w.packets k sh.packets) in (
        None,
        [],
        w,
        subst (λ (x : Option Message). MessageChoiceAllowed (limits_of n.world_clients.limits) w x None) (sym none) tt,
        step_take (limits_of n.world_clients.limits) on_cycle w k None ∙ (ap (λ (o : Option Message). take_packet (limits_of n.world_clients.limits) on_cycle w (TakePacket k) o None) none ∙ ap (λ (o : AnswerWord). answer_with w (TakePacket k) o [] w) (sym word_is)),
        ap (λ (l : List SentPacket). map sent_of l) (sym sent),
        record { server = sh.server; world_clients = record { clients = sh.world_clients.clients; incarnations = sh.world_clients.incarnations }; packets = rw (append-nil w.packets) sh.packets },
      );
}
  where
    none_at : (o : Option (List ℕ)) (m : Option Message) → o ≡ None → SpelledAt n.world_clients.limits o m → m ≡ None
    none_at None None e s = refl
    none_at (Some b) m e s = cc
    none_at None (Some m) e s = absurd s

-- the commits up to a number are on disk
pub flushed_becomes : (n : NetState) (v : ServerValue) (e : Event) (number : ℕ) (frames : List Frame) (a : Answer) → IsNet n → FlushesTo n e number → can_flush (server_of n.server) number ≡ true
    → Does n.server (ReachesDisk number) (messages_of frames) v → AllByRecursion (Fits n.world_clients.limits) frames → word_of a.word ≡ Flushed number → a.sent ≡ sent_as (length n.packets.sent) frames
    → NetBecomes n e a (sending (record n { server = v }) frames)
flushed_becomes n v e number frames a is event can does fits word_is sent = becomes_sending n (record n { server = v }) e (Flushed number) frames a refl is.packets
    (server_moves n v e (Flushed number) (ReachesDisk number) (messages_of frames) does
    (λ w sh. let yes : can_flush w.server number ≡ true = ap (λ (x : Server). can_flush x number) sh.server ∙ can in ((event w sh).0, (event w sh).1 ∙ rw yes refl))) fits word_is sent

-- that says nothing new
pub nothing_to_flush : (n : NetState) (e : Event) (number : ℕ) (a : Answer) → FlushesTo n e number → can_flush (server_of n.server) number ≡ false → word_of a.word ≡ Nothing → a.sent ≡ [] → NetBecomes n e a n
nothing_to_flush n e number a event can word_is sent = nothing_becomes n e Nothing a
    (λ w sh. let not_so : can_flush w.server number ≡ false = ap (λ (x : Server). can_flush x number) sh.server ∙ can in ((event w sh).0, (event w sh).1 ∙ rw not_so refl)) word_is sent

-- which number an event flushes up to
pub flushes_to : (n : NetState) (number : ℕ) → FlushesTo n (FlushTo number) number
flushes_to n number = λ w sh. (tt, step_flush_to (limits_of n.world_clients.limits) on_cycle w number None)

pub flushes_all : (n : NetState) → FlushesTo n FlushAll (server_of n.server).store.last_commit
flushes_all n = λ w sh. (tt, step_flush_all (limits_of n.world_clients.limits) on_cycle w None ∙ ap (λ (x : Server). flush_up_to w FlushAll x.store.last_commit) sh.server)

-- nothing is said
pub silent_world_clients_become : (n : NetState) (s : WorldClientsState) (e : Event) (word : AnswerWord) (a : Answer) → IsNet n → Answers n.world_clients e word [] s → ((w : World) → EventChoiceAllowed (limits_of n.world_clients.limits) w e None)
    → word_of a.word ≡ word → a.sent ≡ [] → NetBecomes n e a (record n { world_clients = s })
silent_world_clients_become n s e word a is answers allowed word_is sent = subst (λ (sent : List (List ℕ)). NetBecomes n e a (record n { world_clients = s; packets = record n.packets { sent = sent } })) (append-nil n.packets.sent)
    (world_clients_become n s e word [] a is answers allowed tt word_is sent)

-- a kind's way is the protocol's
pub way : (b : Body) → goes_to_server (kind_of_body b) ≡ to_server (body_of b)
way (body.Short short.Hello) = refl
way (body.Short (short.AskRead txn page)) = refl
way (body.Short (short.AskWrite txn page grant)) = refl
way (body.Short (short.GiveBack page grant)) = refl
way (body.Short (short.InUse txn page grant)) = refl
way (body.Short (short.Drop txn)) = refl
way (body.Short short.Welcome) = refl
way (body.Short (short.MayWrite txn page grant)) = refl
way (body.Short (short.Callback page grant)) = refl
way (body.Short (short.Done txn number)) = refl
way (body.Short (short.AbortNow txn)) = refl
way (body.Short (short.Downgraded page grant txn)) = refl
way (body.Short (short.Downgrade page grant txn)) = refl
way (body.Commit txn writes) = refl
way (body.Granted page grant version bytes) = refl

-- what may be said once the frames were sent
pub with_sends : {E : Type 0} → (k : NetState) (w : Word) (fs frames : List Frame) (r : Result Answer E) (m : NetState) (P : Answer → NetState → Type 0) → fs ≡ frames
    → ((a : Answer) → word_of a.word ≡ word_of w → a.sent ≡ sent_as (length k.packets.sent) frames → P a (sending k frames))
    → IfOk r (λ a. Sends k w fs a m) → IfOk r (λ a. P a m)
with_sends k w fs frames r m P same step h = IfOk-weaker r (λ a. Sends k w fs a m) (λ a. P a m)
    (λ a s. subst (λ (x : NetState). P a x) (sym (s.becomes ∙ ap (λ (xs : List Frame). sending k xs) same)) (step a (ap word_of s.word) (s.sent ∙ ap (λ (xs : List Frame). sent_as (length k.packets.sent) xs) same))) h

-- the server's room is no part of the protocol
pub unchanged_becomes : (n : NetState) (v : ServerValue) (e : Event) (a : Answer) → IsUnchanged n.server v → NetBecomes n e a n → NetBecomes n e a (record n { server = v })
unchanged_becomes n v e a same b = record {
  limits = b.limits;
  opening = ap (λ (h : ServerState). h.commits.opening) same.rest;
  packets = record { sent = b.packets.sent; all = b.packets.all; counted = b.packets.counted; spelled = b.packets.spelled };
  by_event = λ w sh.
      let by = b.by_event w sh in (
        by.0,
        by.1,
        by.2,
        by.3,
        by.4,
        by.5,
        record { server = by.6.server ∙ sym same.server; world_clients = record { clients = by.6.world_clients.clients; incarnations = by.6.world_clients.incarnations }; packets = by.6.packets },
      );
}

-- the answer is no refusal
abbrev Accepts : StepResult → Type 0
Accepts r = is_refusal_word r.answer.word ≡ false

not_both : true ≡ false → ⊥
not_both e = cc

-- an accepted call is answered by no refusal
read_word : (k : Client) (page : ℕ) (content : Option Bytes) → is_refusal_word (read_page k page content).word ≡ false
read_word k page None = refl
read_word k page (Some bytes) = refl

want_word : (k : Client) (page : ℕ) (may : Bool) → k.cache.may_write page ≡ may → is_refusal_word (want_page k page).word ≡ false
want_word k page true e = rw e refl
want_word k page false e = rw e refl

peeked_word : (content : Option Bytes) → is_refusal_word (peek_word content) ≡ false
peeked_word None = refl
peeked_word (Some bytes) = refl

accepted_word : (L : Limits) (k : Client) (call : Call) → is_refusal_word (accept_call L k call).word ≡ false
accepted_word L k CallHello = refl
accepted_word L k CallBegin = refl
accepted_word L k (CallRead page) = read_word k page (k.cache.content page)
accepted_word L k (CallWant page) = want_word k page (k.cache.may_write page) refl
accepted_word L k (CallWrite page bytes) = refl
accepted_word L k CallFinish = refl
accepted_word L k CallDrop = refl
accepted_word L k CallAgain = refl
accepted_word L k (CallPeek page) = peeked_word (k.cache.content page)

accepted_step : (L : Limits) (w : World) (c : ℕ) (call : Call) (let_go : Option ℕ) → c < L.clients → call_fault L (w.client c) call ≡ None → Accepts (step L on_cycle w (ClientCalls c call) let_go)
accepted_step L w c call let_go h e =
    ap (λ (r : StepResult). is_refusal_word r.answer.word) (step_call L on_cycle w c call let_go h)
    ∙ (ap (λ (r : Reply). is_refusal_word r.word) (call_accepted L (w.client c) call e) ∙ accepted_word L (w.client c) call)

-- So a call that the table of its client accepts; `of` is the client, by what its transaction has done.
pub accepts_call : (n : NetState) (c : ℕ) (call : Call) (limits : Bounds) (of : List Operation → Client) → ((operations : List Operation) → call_fault (limits_of limits) (of operations) call ≡ None) → limits ≡ n.world_clients.limits
    → ((w : World) → RepresentsNet n w → w.client c ≡ of (w.client c).cache.operations) → c < n.world_clients.limits.clients → IsAccepted n (ClientCalls c call)
accepts_call n c call limits of accepts l k h = λ w sh let_go.
    let fault : call_fault (limits_of n.world_clients.limits) (w.client c) call ≡ None = (λ i. call_fault (limits_of (sym l i)) (k w sh i) call) ∙ accepts (w.client c).cache.operations in
    accepted_step (limits_of n.world_clients.limits) w c call let_go h fault

-- a refused call says nothing
refused_is_silent : (L : Limits) (w : World) (c : ℕ) (call : Call) (let_go : Option ℕ) → (Accepts (step L on_cycle w (ClientCalls c call) let_go) → ⊥) → (step L on_cycle w (ClientCalls c call) let_go).answer.sent ≡ []
refused_is_silent L w c call let_go refused = by (nat_lt c L.clients) refl
  where
    there : c < L.clients → (found : Option ClientFault) → call_fault L (w.client c) call ≡ found → (step L on_cycle w (ClientCalls c call) let_go).answer.sent ≡ []
    there h None e = absurd (refused (accepted_step L w c call let_go h e))
    there h (Some reason) e = ap (λ (r : StepResult). r.answer.sent) (step_call L on_cycle w c call let_go h)
        ∙ ap (λ (r : Reply). (client_does L w (ClientCalls c call) c r.word r.steps).answer.sent) (call_refused L (w.client c) call reason e)

    by : (x : Bool) → nat_lt c L.clients ≡ x → (step L on_cycle w (ClientCalls c call) let_go).answer.sent ≡ []
    by true e =
        let h : c < L.clients = grind (arith, nat_tests) in
        there h (call_fault L (w.client c) call) refl
    by false e = ap (λ (r : StepResult). r.answer.sent) (step_call_no_client L on_cycle w c call let_go e)

not_nothing : (first : Packet) (more : List Packet) → first ∷ more ≡ [] → ⊥
not_nothing first more e = cc

some_sent : (place : ℕ) (frames : List Frame) → 0 < length frames → numbered_from place (messages_of frames) ≡ [] → ⊥
some_sent place [] some e = omega (arith, some)
some_sent place (f ∷ fs) some e = not_nothing _ _ e

-- so a call at which frames are said was accepted
pub said_by_accepted : (n : NetState) (c : ℕ) (call : Call) (word : AnswerWord) (frames : List Frame) (s : WorldClientsState) → Answers n.world_clients (ClientCalls c call) word (messages_of frames) s → 0 < length frames → IsAccepted n (ClientCalls c call)
said_by_accepted n c call word frames s answers some = λ w sh let_go.
    by w sh let_go (is_refusal_word (step (limits_of n.world_clients.limits) on_cycle w (ClientCalls c call) let_go).answer.word) refl
  where
    by : (w : World) → RepresentsNet n w → (let_go : Option ℕ) → (x : Bool) → is_refusal_word (step (limits_of n.world_clients.limits) on_cycle w (ClientCalls c call) let_go).answer.word ≡ x
        → is_refusal_word (step (limits_of n.world_clients.limits) on_cycle w (ClientCalls c call) let_go).answer.word ≡ false
    by w sh let_go false e = e
    by w sh let_go true e =
        let made = answers.by_event w sh.world_clients let_go in
        let none : (step (limits_of n.world_clients.limits) on_cycle w (ClientCalls c call) let_go).answer.sent ≡ []
        = refused_is_silent (limits_of n.world_clients.limits) w c call let_go (λ accepts. not_both (sym e ∙ accepts)) in
        absurd (some_sent (length w.packets) frames some (sym (ap (λ (r : StepResult). r.answer.sent) made.1) ∙ none))

-- a client restarts that is there, and has an incarnation left
pub accepts_restart : (n : NetState) (c : ℕ) → c < n.world_clients.limits.clients → (client_at n.world_clients c).incarnation < max_number → IsAccepted n (Restart c)
accepts_restart n c h left = λ w sh let_go.
    let fewer : w.incarnation c < max_number = subst (λ (i : ℕ). i < max_number) (sym (sh.world_clients.incarnations c h)) left in
    ap (λ (r : StepResult). is_refusal_word r.answer.word) (step_restart (limits_of n.world_clients.limits) on_cycle w c let_go h) ∙ rw (below (w.incarnation c) fewer) refl
  where
    below : (i : ℕ) → i < max_number → nat_le max_number i ≡ false
    below i less = grind (arith, nat_tests)

-- a packet that is there is taken, or the server has no number left for it
taken_word : (L : Limits) (w : World) (k : ℕ) (m : Message) (let_go : Option ℕ) (goes lacks same : Bool) → to_server m.body ≡ goes → is_exhausted w.server m.client m.incarnation m.body ≡ lacks
    → (m.incarnation == w.incarnation m.client) ≡ same → Accepts (deliver L on_cycle w (TakePacket k) m let_go)
taken_word L w k m let_go true true same a b c = rw (a, b) refl
taken_word L w k m let_go true false same a b c = rw (a, b) refl
taken_word L w k m let_go false lacks true a b c = rw (a, c) refl
taken_word L w k m let_go false lacks false a b c = rw (a, c) refl

pub accepts_take : (n : NetState) (k : ℕ) → slice_get n.packets.sent k ≢ None → IsAccepted n (TakePacket k)
accepts_take n k there = λ w sh let_go.
    ap (λ (r : StepResult). is_refusal_word r.answer.word) (step_take (limits_of n.world_clients.limits) on_cycle w k let_go)
    ∙ by w let_go (slice_get n.packets.sent k) (packet_at w.packets k) there (spelled_at n.world_clients.limits n.packets.sent w.packets k sh.packets)
  where
    by : (w : World) (let_go : Option ℕ) (o : Option (List ℕ)) (m : Option Message) → o ≢ None → SpelledAt n.world_clients.limits o m → Accepts (take_packet (limits_of n.world_clients.limits) on_cycle w (TakePacket k) m let_go)
    by w let_go None m some e = absurd (some refl)
    by w let_go (Some bytes) None some e = absurd e
    by w let_go (Some bytes) (Some m) some e = taken_word (limits_of n.world_clients.limits) w k m let_go (to_server m.body) (is_exhausted w.server m.client m.incarnation m.body) (m.incarnation == w.incarnation m.client) refl refl refl

-- so a packet of which the frame is known
pub accepts_frame : (n : NetState) (k : ℕ) (f : Frame) → IsFrameAt n.packets k f → IsAccepted n (TakePacket k)
accepts_frame n k f at = accepts_take n k (λ none. apart at.bytes (sym at.is_sent ∙ none))
  where
    apart : (bytes : List ℕ) → Some bytes ≡ None → ⊥
    apart bytes e = cc

-- the server's own events
flush_accepted : (w : World) (e : Event) (number : ℕ) (can : Bool) → can_flush w.server number ≡ can → Accepts (flush_up_to w e number)
flush_accepted w e number true can = rw can refl
flush_accepted w e number false can = rw can refl

pub accepts_again : (n : NetState) → IsAccepted n ServerAgain
accepts_again n = λ w sh let_go. ap (λ (r : StepResult). is_refusal_word r.answer.word) (step_again (limits_of n.world_clients.limits) on_cycle w let_go)

pub accepts_flush : (n : NetState) → IsAccepted n FlushAll
accepts_flush n = λ w sh let_go.
    let last = w.server.store.last_commit in
    ap (λ (r : StepResult). is_refusal_word r.answer.word) (step_flush_all (limits_of n.world_clients.limits) on_cycle w let_go) ∙ flush_accepted w FlushAll last (can_flush w.server last) refl

pub accepts_flush_to : (n : NetState) (number : ℕ) → IsAccepted n (FlushTo number)
accepts_flush_to n number = λ w sh let_go.
    ap (λ (r : StepResult). is_refusal_word r.answer.word) (step_flush_to (limits_of n.world_clients.limits) on_cycle w number let_go) ∙ flush_accepted w (FlushTo number) number (can_flush w.server number) refl
