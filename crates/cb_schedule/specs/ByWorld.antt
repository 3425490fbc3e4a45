-- What the clients do at an event, by the protocol's world.
use Rattle.std.specs.Prelude.{◌≡◌, ℕ, List, [], ◌∷◌, Option}
use Rattle.cb_client.specs.ByTable.{Calls}
use Rattle.cb_client.specs.CallAnswers.{read_ask}
use Rattle.cb_client.specs.ClientState.{ClientState}
use Rattle.cb_cache.specs.CacheState.{limits_of}
use Rattle.cb_frame.specs.Grammar.{Fits}
use Rattle.cb_outbox.specs.Messages.{messages_of}
use Rattle.cb_protocol.specs.Answers.{AnswerWord, Taken}
use Rattle.cb_protocol.specs.ClientCalls.{Call}
use Rattle.cb_protocol.specs.ClientMessages.{ChoiceAllowed}
use Rattle.cb_protocol.specs.Messages.{Message}
use Rattle.cb_protocol.specs.Serial.{Operation}
use Rattle.cb_protocol.specs.WaitsFor.{on_cycle}
use Rattle.cb_protocol.specs.World.{Event, World, answer_with, deliver_to_client, step}
use Rattle.cb_transcript.specs.ProtocolEvents.{word_of}
use Rattle.cb_transcript.specs.declared.answer.AnswerWord.TheVariants as word
use Rattle.cb_schedule.specs.WorldClientsState.{Represents, WorldClientsState}
use Rattle.cb_schedule.specs.declared.reply.Reply.{Reply}
use Rattle.std.specs.List.{AllByRecursion}

-- The client answers the call by that reply, as the protocol's table of calls says.
pub record Replies (old : ClientState) (call : Call) (reply : Reply) (new : ClientState)
    : Type 0 where
  pub history : List Operation → List Operation
  pub calls : Calls old call (word_of reply.word) (messages_of reply.said.items) history new
  pub fits : AllByRecursion (Fits old.copies.limits) reply.said.items

-- The client's ask for the page is said.
pub record AsksFor (client : ClientState) (page : ℕ) (reply : Reply) : Type 0 where
  pub word : reply.word ≡ word.Asked
  pub said : messages_of reply.said.items ≡ read_ask client page ∷ []
  pub fits : AllByRecursion (Fits client.copies.limits) reply.said.items

-- It is the same incarnation of the same client, under the same limits.
pub record StaysOne (old new : ClientState) : Type 0 where
  pub no : new.no ≡ old.no
  pub incarnation : new.incarnation ≡ old.incarnation
  pub limits : new.copies.limits ≡ old.copies.limits

-- The event is answered by that word and those messages, by the protocol's step: whatever world
-- of the protocol has the old clients, after it the world has the new ones and the same server.
pub record Answers (old : WorldClientsState) (event : Event) (word : AnswerWord)
    (messages : List Message) (new : WorldClientsState) : Type 0 where
  pub limits : new.limits ≡ old.limits
  pub by_event : (world : World) → Represents old world → (let_go : Option ℕ) → (after : World)
      × (step (limits_of old.limits) on_cycle world event let_go
      ≡ answer_with world event word messages after)
      × (after.server ≡ world.server)
      × Represents new after

-- The message is taken by its addressee, which says those: so in whatever world of the protocol
-- has the old clients, by some choice of the page let go that the pool's law allows.
pub record Delivers (old : WorldClientsState) (message : Message) (messages : List Message)
    (new : WorldClientsState) : Type 0 where
  pub limits : new.limits ≡ old.limits
  pub by_event : (world : World) → Represents old world → (event : Event)
      → (let_go : Option ℕ) × (after : World)
      × (message.incarnation ≡ world.incarnation message.client
      → ChoiceAllowed (limits_of old.limits) (world.client message.client) message.body let_go)
      × (deliver_to_client (limits_of old.limits) world event message let_go
      ≡ answer_with world event Taken messages after)
      × (after.server ≡ world.server)
      × Represents new after
