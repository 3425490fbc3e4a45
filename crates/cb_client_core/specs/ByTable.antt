-- What a client does, by the protocol's tables.
use Rattle.std.specs.Prelude.{◌≡◌, ℕ, List, [], ◌∷◌, ◌++◌, map, Option, if◌then◌else◌}
use Rattle.cb_cache.specs.CacheState.{limits_of, references_at}
use Rattle.cb_twoq.specs.Calls.{References}
use Rattle.cb_protocol.specs.Answers as table
use Rattle.cb_protocol.specs.Basics.{Limits}
use Rattle.cb_protocol.specs.Client.{Client, ClientStep, bodies_said, client_after}
use Rattle.cb_protocol.specs.ClientCalls.{Call, CallRead, client_call}
use Rattle.cb_protocol.specs.ClientMessages.{ChoiceAllowed, client_take}
use Rattle.cb_protocol.specs.Messages.{Body, Granted, Message}
use Rattle.cb_protocol.specs.Serial.{Operation}
use Rattle.cb_client_core.specs.ClientState.{ClientState, client_of}
use Rattle.cb_client_core.specs.Room.{brings_in}

-- the protocol's limits of the client
abbrev pub limits_at : ClientState → Limits
limits_at client = limits_of client.copies.limits

-- the messages of this client with these bodies
abbrev pub messages_from : ClientState → List Body → List Message
messages_from client bodies =
    map (λ body. record { client = client.no; incarnation = client.incarnation; body = body })
    bodies

-- what becomes of the operations of a transaction: nothing; or it is over
abbrev pub as_before : List Operation → List Operation
as_before operations = operations

abbrev pub over : List Operation → List Operation
over operations = []

-- the references of the client since its incarnation began, in their order
abbrev pub references_of : ClientState → References
references_of client = references_at client.copies

-- these references and one more, to this page, while the client has its pages fixed so
abbrev pub with_reference_to : ClientState → (page : ℕ) → References → References
with_reference_to client page references = references ++ (page, client.copies.pool.fixed) ∷ []

-- the references once a call was answered so: a page that was read is one more
abbrev pub with_read : ClientState → table.AnswerWord → Call → References → References
with_read client (table.AnsweredBytes bytes) (CallRead page) references =
    with_reference_to client page references
with_read client _ _ references = references

-- the references once a message was taken: a page that it brings into the pool is one more
abbrev pub with_brought : ClientState → Body → References → References
with_brought client (Granted page grant version bytes) references =
    if brings_in client (Granted page grant version bytes)
    then with_reference_to client page references else references
with_brought client _ references = references

-- The client makes these steps, which say those messages, and becomes the new one, whatever
-- operations its transaction did; `history` is what becomes of these.
pub record Makes (old : ClientState) (steps : Client → List ClientStep) (messages : List Message)
    (history : List Operation → List Operation) (new : ClientState) : Type 0 where
  pub said : (operations : List Operation)
      → messages_from old (bodies_said (steps (client_of old operations))) ≡ messages
  pub after : (operations : List Operation)
      → client_after old.copies.limits.keep_write (client_of old operations)
      (steps (client_of old operations))
      ≡ client_of new (history operations)
  pub limits : new.copies.limits ≡ old.copies.limits
  pub no : new.no ≡ old.no
  pub incarnation : new.incarnation ≡ old.incarnation

-- To this call the client answers that word and does what the protocol's table of calls says. Only
-- a read that is answered with the page's bytes is a reference, to that page.
pub record Calls (old : ClientState) (call : Call) (answered : table.AnswerWord)
    (messages : List Message) (history : List Operation → List Operation) (new : ClientState)
    : Type 0 where
  pub word : (operations : List Operation)
      → (client_call (limits_at old) (client_of old operations) call).word ≡ answered
  pub makes : Makes old (λ client. (client_call (limits_at old) client call).steps) messages history
      new
  pub references : references_of new ≡ with_read old answered call (references_of old)

-- This message is taken as the protocol's table of messages says, at some page that its pool may
-- let go. Only one that brings a page into the pool is a reference, to that page.
pub record Takes (old : ClientState) (message : Body) (messages : List Message)
    (new : ClientState) : Type 0 where
  pub let_go : Option ℕ
  pub allowed : (operations : List Operation)
      → ChoiceAllowed (limits_at old) (client_of old operations) message let_go
  pub history : List Operation → List Operation
  pub makes : Makes old (λ client. client_take (limits_at old) client message let_go) messages
      history new
  pub references : references_of new ≡ with_brought old message (references_of old)

-- The call was answered, as `Calls` says; the answer, the messages and the history are those of the
-- table.
pub record Called (old : ClientState) (call : Call) (new : ClientState) : Type 0 where
  pub answered : table.AnswerWord
  pub messages : List Message
  pub history : List Operation → List Operation
  pub calls : Calls old call answered messages history new
