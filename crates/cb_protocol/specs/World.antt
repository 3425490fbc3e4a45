-- The world: a server, its clients, every packet that was ever sent, and what each event makes of
-- it.
use Rattle.std.specs.Prelude.{◌≡◌, ℕ, ◌+◌, nat_lt, nat_le, length, if◌then◌else◌, ◌==◌, List, []}
use Rattle.std.specs.Prelude.{◌∷◌, ◌++◌, Option, Some, None, zero, suc, ⊤}
use Rattle.cb_protocol.specs.Answers.{AnswerWord, AnsweredOk, Exhausted, Flushed, NoClient}
use Rattle.cb_protocol.specs.Answers.{NoPacket, Nothing, Refused, ServerExhausted, Taken}
use Rattle.cb_protocol.specs.Basics.{Bytes, Limits, max_number, update}
use Rattle.cb_protocol.specs.Client.{Client, ClientStep, bodies_said, client_after, new_client}
use Rattle.cb_protocol.specs.ClientCalls.{Call, client_call}
use Rattle.cb_protocol.specs.ClientMessages.{ChoiceAllowed, client_take}
use Rattle.cb_protocol.specs.Flush.{can_flush, server_flush}
use Rattle.cb_protocol.specs.Messages.{Body, Message, kind, to_server}
use Rattle.cb_protocol.specs.Resend.{server_again}
use Rattle.cb_protocol.specs.Server.{DeadlockTest, Send, Server, ServerStep, new_server}
use Rattle.cb_protocol.specs.Server.{server_after}
use Rattle.cb_protocol.specs.ServerMessages.{is_exhausted, server_take}
use Rattle.cb_protocol.specs.Session.{Store}

-- An event: what the environment makes happen
pub data Event : Type 0 where
  ClientCalls : (client : ℕ) → Call → Event
  -- a packet is taken by its addressee, any number of times and in any order
  TakePacket : (packet : ℕ) → Event
  Restart : (client : ℕ) → Event
  ServerAgain : Event  -- the server sends again
  FlushAll : Event  -- all commits are on disk
  FlushTo : (number : ℕ) → Event  -- the commits up to that one are

-- a packet that was sent: its number, kind and client
pub record SentPacket : Type 0 where
  pub number : ℕ
  pub kind : ℕ
  pub client : ℕ

-- what an event is answered: a word, and the packets sent by it, in order
pub record Answer : Type 0 where
  pub word : AnswerWord
  pub sent : List SentPacket

-- an event of the transcript and its word
pub record TranscriptEntry : Type 0 where
  pub event : Event
  pub word : AnswerWord

-- the server, the clients by their number, and what was sent and answered so far
pub record World : Type 0 where
  pub server : Server
  pub client : ℕ → Client  -- the present incarnation of each
  pub incarnation : ℕ → ℕ  -- its number
  -- every packet that was ever sent, in order, numbered from 0; one that is never taken is lost
  pub packets : List Message
  pub transcript : List TranscriptEntry  -- every event, the newest first

-- a store before the first commit: its pages, their versions, and the number of its last commit
pub record Opening : Type 0 where
  pub bytes : ℕ → Bytes
  pub version : ℕ → ℕ
  pub number : ℕ

-- it as the server's store
abbrev pub opening_store : Limits → Opening → Store
opening_store limits opening = record {
  holder = λ page. None;
  tag = λ page. 0;
  keep_write = limits.keep_write;
  version = opening.version;
  bytes = opening.bytes;
  last_commit = opening.number;
  commit_number = λ client incarnation txn. None;
}

-- every client is at incarnation 1 and not yet welcomed, and nothing was sent
abbrev pub new_world : Limits → Opening → World
new_world limits opening = record {
  server = new_server limits.clients limits.pages (opening_store limits opening);
  client = λ client. new_client;
  incarnation = λ client. 1;
  packets = [];
  transcript = [];
}

-- the packet of that number
abbrev pub packet_at : List Message → (packet : ℕ) → Option Message
packet_at [] packet = None
packet_at (message ∷ messages) zero = Some message
packet_at (message ∷ messages) (suc packet) = packet_at messages packet

-- what a client says, as messages
abbrev pub messages_said : (client incarnation : ℕ) → List Body → List Message
messages_said client incarnation [] = []
messages_said client incarnation (body ∷ bodies) =
    record { client = client; incarnation = incarnation; body = body }
    ∷ messages_said client incarnation bodies

-- what the server sends in its steps
abbrev pub messages_sent : List ServerStep → List Message
messages_sent [] = []
messages_sent (Send client incarnation body ∷ steps) =
    record { client = client; incarnation = incarnation; body = body } ∷ messages_sent steps
messages_sent (_ ∷ steps) = messages_sent steps

-- the messages as packets, numbered from there on
abbrev pub numbered_from : (packet : ℕ) → List Message → List SentPacket
numbered_from packet [] = []
numbered_from packet (message ∷ messages) =
    record { number = packet; kind = kind message.body; client = message.client }
    ∷ numbered_from (packet + 1) messages

-- an answer, and the world after it
pub record StepResult : Type 0 where
  pub answer : Answer
  pub world : World

-- the event is answered by a word, these messages are sent, and the world is `after` otherwise
abbrev pub answer_with : World → Event → AnswerWord → List Message → (after : World) → StepResult
answer_with before event word messages after = record {
  answer = record { word = word; sent = numbered_from (length before.packets) messages };
  world = record {
    server = after.server;
    client = after.client;
    incarnation = after.incarnation;
    packets = before.packets ++ messages;
    transcript = record { event = event; word = word } ∷ before.transcript;
  };
}

-- a client makes these steps
abbrev pub client_does : Limits → World → Event → (client : ℕ) → AnswerWord → List ClientStep
    → StepResult
client_does limits world event client word steps =
    answer_with world event word
    (messages_said client (world.incarnation client) (bodies_said steps))
    (record world {
      client = update world.client client
          (client_after limits.keep_write (world.client client) steps);
    })

-- the server makes these steps
abbrev pub server_does : World → Event → AnswerWord → List ServerStep → StepResult
server_does world event word steps =
    answer_with world event word (messages_sent steps)
    (record world { server = server_after world.server steps })

-- nothing but the answer
abbrev pub answer_only : World → Event → AnswerWord → StepResult
answer_only world event word = answer_with world event word [] world

-- A client takes a packet; one of another incarnation than its own is ignored. `let_go`: the page
-- that its pool lets go, should it take in a page.
abbrev pub deliver_to_client : Limits → World → Event → Message → (let_go : Option ℕ) → StepResult
deliver_to_client limits world event message let_go =
    if message.incarnation == world.incarnation message.client
    then client_does limits world event message.client Taken
    (client_take limits (world.client message.client) message.body let_go)
    else answer_only world event Taken

-- The server takes a packet, or refuses it where it has no number left.
abbrev pub deliver_to_server : DeadlockTest → World → Event → Message → StepResult
deliver_to_server cycle world event message =
    if is_exhausted world.server message.client message.incarnation message.body
    then answer_only world event ServerExhausted
    else server_does world event Taken
    (server_take cycle world.server message.client message.incarnation message.body)

-- A packet is taken by its addressee.
abbrev pub deliver : Limits → DeadlockTest → World → Event → Message → (let_go : Option ℕ)
    → StepResult
deliver limits cycle world event message let_go =
    if to_server message.body then deliver_to_server cycle world event message
    else deliver_to_client limits world event message let_go

-- the packet that the event names, if there is one
abbrev pub take_packet : Limits → DeadlockTest → World → Event → Option Message
    → (let_go : Option ℕ) → StepResult
take_packet limits cycle world event None let_go = answer_only world event NoPacket
take_packet limits cycle world event (Some message) let_go =
    deliver limits cycle world event message let_go

-- the client is new, with the next incarnation; packets and server stay as they are
abbrev pub restart_client : World → Event → (client : ℕ) → StepResult
restart_client world event client =
    if nat_le max_number (world.incarnation client) then answer_only world event (Refused Exhausted)
    else answer_with world event AnsweredOk [] (record world {
      client = update world.client client new_client;
      incarnation = update world.incarnation client (world.incarnation client + 1);
    })

-- the commits up to that number are on disk, if that says anything new
abbrev pub flush_up_to : World → Event → (number : ℕ) → StepResult
flush_up_to world event number =
    if can_flush world.server number
    then server_does world event (Flushed number) (server_flush world.server number)
    else answer_only world event Nothing

-- a client is called: it answers, and makes its steps
abbrev pub call_client : Limits → World → (client : ℕ) → Call → StepResult
call_client limits world client call =
    let reply = client_call limits (world.client client) call in
    client_does limits world (ClientCalls client call) client reply.word reply.steps

-- What a world answers to an event, and becomes by it. Proofs open it by the case lemmas of
-- proofs/Cases.
unfoldable pub step : Limits → DeadlockTest → World → Event → (let_go : Option ℕ) → StepResult
step limits cycle world (ClientCalls client call) let_go =
    if nat_lt client limits.clients then call_client limits world client call
    else answer_only world (ClientCalls client call) NoClient
step limits cycle world (TakePacket packet) let_go =
    take_packet limits cycle world (TakePacket packet) (packet_at world.packets packet) let_go
step limits cycle world (Restart client) let_go =
    if nat_lt client limits.clients then restart_client world (Restart client) client
    else answer_only world (Restart client) NoClient
step limits cycle world ServerAgain let_go =
    server_does world ServerAgain AnsweredOk (server_again world.server)
step limits cycle world FlushAll let_go =
    flush_up_to world FlushAll world.server.store.last_commit
step limits cycle world (FlushTo number) let_go = flush_up_to world (FlushTo number) number

-- the law of the pool's choice, where a client takes a packet of its incarnation
abbrev pub MessageChoiceAllowed : Limits → World → Option Message → (let_go : Option ℕ) → Type 0
MessageChoiceAllowed limits world None let_go = ⊤
MessageChoiceAllowed limits world (Some message) let_go =
    message.incarnation ≡ world.incarnation message.client
    → ChoiceAllowed limits (world.client message.client) message.body let_go

-- so at an event; where no packet is taken nothing is chosen
abbrev pub EventChoiceAllowed : Limits → World → Event → (let_go : Option ℕ) → Type 0
EventChoiceAllowed limits world (TakePacket packet) let_go =
    MessageChoiceAllowed limits world (packet_at world.packets packet) let_go
EventChoiceAllowed limits world _ let_go = ⊤

-- A world answers an event and becomes `after`. Only the page that a pool lets go is left open.
abbrev pub Becomes : Limits → DeadlockTest → World → Event → Answer → (after : World) → Type 0
Becomes limits cycle world event answer after =
    (let_go : Option ℕ) × EventChoiceAllowed limits world event let_go
    × (step limits cycle world event let_go ≡ record { answer = answer; world = after })

-- an event, its answer, and the world after it
pub record Moment : Type 0 where
  pub event : Event
  pub answer : Answer
  pub world : World

-- a run: each world is what the one before it becomes
abbrev pub Plays : Limits → DeadlockTest → World → List Moment → Type 0
Plays limits cycle world [] = ⊤
Plays limits cycle world (moment ∷ moments) =
    Becomes limits cycle world moment.event moment.answer moment.world
    × Plays limits cycle moment.world moments

-- the world after a run
abbrev pub world_after : World → List Moment → World
world_after world [] = world
world_after world (moment ∷ moments) = world_after moment.world moments

-- the world is reached from the opening world by some run
abbrev pub ReachedWorld : Limits → DeadlockTest → Opening → World → Type 0
ReachedWorld limits cycle opening world = (moments : List Moment)
    × Plays limits cycle (new_world limits opening) moments
    × (world_after (new_world limits opening) moments ≡ world)
