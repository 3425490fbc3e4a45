-- How asks leave their queues, whatever messages come: none is forgotten. This project's rule.
use Rattle.std.specs.Prelude.{◌≡◌, ◌⊎◌, ⊤, ℕ, List, [], ◌∷◌, Option, Some, None}
use Rattle.cb_protocol.specs.AnyMessages.{Input, input_steps}
use Rattle.cb_protocol.specs.Basics.{Bytes, IsIn}
use Rattle.cb_protocol.specs.Messages.{AbortNow, Body, Granted, MayWrite, Message}
use Rattle.cb_protocol.specs.Server.{ChangeSession, DeadlockTest, Server, ServerStep, WaitingAsk}
use Rattle.cb_protocol.specs.Server.{server_after}
use Rattle.cb_protocol.specs.Session.{Admit, ApplyCommit, BeginTransaction, DropTransaction}
use Rattle.cb_protocol.specs.Session.{SessionChange}
use Rattle.cb_protocol.specs.World.{messages_sent}

-- the client's ask, to write by that grant or to read, waits in the queue
abbrev pub WaitsIn : (client : ℕ) → (write_grant : Option ℕ) → List WaitingAsk → Type 0
WaitsIn client write_grant [] = ⊥
WaitsIn client write_grant (ask ∷ queue) =
    ((ask.client ≡ client) × (ask.write_grant ≡ write_grant)) ⊎ WaitsIn client write_grant queue

-- the client is told this, at its incarnation
abbrev pub IsTold : Server → (client : ℕ) → Body → List Message → Type 0
IsTold server client body messages =
    IsIn (record {
      client = client;
      incarnation = (server.session client).current;
      body = body;
    }) messages

-- the ask is met: the client gets a copy to read, or its transaction may write the copy it named
abbrev pub IsMet : Server → (page client : ℕ) → (write_grant : Option ℕ) → List Message → Type 0
IsMet server page client None messages = (grant version : ℕ) × ((bytes : Bytes)
    × IsTold server client (Granted page grant version bytes) messages)
IsMet server page client (Some grant) messages =
    IsTold server client (MayWrite (server.session client).txn page grant) messages

-- the change ends its client's transaction
abbrev pub EndsTransaction : SessionChange → Type 0
EndsTransaction (Admit incarnation) = ⊤
EndsTransaction (BeginTransaction txn) = ⊤
EndsTransaction (DropTransaction txn) = ⊤
EndsTransaction (ApplyCommit txn writes) = ⊤
EndsTransaction _ = ⊥

-- one of these steps ends the client's transaction
abbrev pub TransactionEnds : (client : ℕ) → List ServerStep → Type 0
TransactionEnds client steps =
    (change : SessionChange) × EndsTransaction change × IsIn (ChangeSession client change) steps

-- why the ask leaves: it is met, or its transaction is aborted or ends
abbrev pub IsAnswered : Server → (page client : ℕ) → (write_grant : Option ℕ) → List ServerStep
    → Type 0
IsAnswered server page client write_grant steps =
    IsMet server page client write_grant (messages_sent steps)
    ⊎ (IsTold server client (AbortNow (server.session client).txn) (messages_sent steps)
    ⊎ TransactionEnds client steps)

-- At any server, at every input, an ask that waits stays, or is answered.
abbrev pub AsksAreAnswered : Type 0
AsksAreAnswered = (cycle : DeadlockTest) (server : Server) (input : Input)
    (page client : ℕ) (write_grant : Option ℕ)
    → WaitsIn client write_grant (server.queue page)
    → let steps = input_steps cycle server input in
    WaitsIn client write_grant ((server_after server steps).queue page)
    ⊎ IsAnswered server page client write_grant steps
