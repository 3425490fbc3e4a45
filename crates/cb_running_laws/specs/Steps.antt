-- What threads do to a running program, one step after another. Each step is one call, told by a
-- record of what the contract of the call says.
use Rattle.std.specs.Prelude.{◌≡◌, ◌≢◌, ◌++◌, ℕ, true, List, [], ◌∷◌, Bool, ⊤}
use Rattle.std.specs.Prelude.{Some, None, Result, Ok}
use Rattle.cb_client.specs.ByTable.{Calls}
use Rattle.cb_client_core.specs.ClientState.{ClientState}
use Rattle.cb_hands.specs.Hands.{HandState}
use Rattle.cb_mailboxes.specs.Dispatching.{Everybody, Posts}
use Rattle.cb_outbox.specs.Messages.{messages_of}
use Rattle.cb_protocol.specs.AnyMessages.{ReachesDisk}
use Rattle.cb_protocol.specs.Answers as table
use Rattle.cb_protocol.specs.ClientCalls.{Call, CallRead, CallWrite}
use Rattle.cb_protocol.specs.Flush.{can_flush}
use Rattle.cb_protocol.specs.Messages.{Message}
use Rattle.cb_protocol.specs.Serial.{Operation, PerformedOperation, Put, Saw}
use Rattle.cb_station.specs.Entering.{Joined, Left, Restarted}
use Rattle.cb_station.specs.Stations.{IsUnchanged, forgot, mailbox_of, server_of}
use Rattle.cb_station.specs.Telling.{untold_in, with_untold}
use Rattle.cb_running_laws.specs.Programs.{IsSound, Program, limits_in}
use Rattle.cb_worker.specs.Committing.{CommitsAt}
use Rattle.cb_worker.specs.Moving.{new_worker}
use Rattle.cb_worker.specs.Turns as turning
use Rattle.cb_worker.specs.Workers.{WorkerState, last_txn}
use Rattle.cb_worker.specs.declared.worker_fault.WorkerFault.{WorkerFault}

-- every worker is as it was
abbrev pub WorkersStay : (old new : Program) → Type 0
WorkersStay old new = (client : ℕ) → new.worker client ≡ old.worker client

-- the workers of all other clients are as they were
abbrev pub OthersStay : (old : Program) → (client : ℕ) → (new : Program) → Type 0
OthersStay old client new = (other : ℕ) → other ≢ client → new.worker other ≡ old.worker other

-- The client's worker becomes another; those of all other clients stay.
pub record Becomes (old : Program) (client : ℕ) (worker next : WorkerState) (new : Program)
    : Type 0 where
  pub was : old.worker client ≡ Some worker
  pub becomes : new.worker client ≡ Some next
  pub others : OthersStay old client new

-- no page is read or written
abbrev pub IsSilent : (old new : Program) → Type 0
IsSilent old new = new.performed ≡ old.performed

-- The client joins, and a worker with the station's limits is made of its hand.
pub record Joins (old : Program) (client : ℕ) (new : Program) : Type 0 where
  pub absent : old.worker client ≡ None
  pub hand : HandState
  pub joined : Joined old.station client (Ok hand) new.station
  pub becomes : new.worker client ≡ Some (new_worker hand (limits_in old))
  pub others : OthersStay old client new
  pub silent : IsSilent old new

-- The client begins another incarnation, and a worker is made of its new hand.
pub record Restarts (old : Program) (client incarnation : ℕ) (new : Program) : Type 0 where
  pub worker : WorkerState
  pub hand : HandState
  pub restarted : Restarted old.station worker.hand incarnation (Ok hand) new.station
  pub becomes : Becomes old client worker (new_worker hand (limits_in old)) new
  pub silent : IsSilent old new

-- The client leaves, with its worker.
pub record Leaves (old : Program) (client : ℕ) (new : Program) : Type 0 where
  pub worker : WorkerState
  pub was : old.worker client ≡ Some worker
  pub left : Left old.station worker.hand (Ok tt) new.station
  pub gone : new.worker client ≡ None
  pub others : OthersStay old client new
  pub silent : IsSilent old new

-- The worker is abandoned: it does nothing more, and what is stored of its hand stays.
pub record Abandons (old : Program) (client : ℕ) (new : Program) : Type 0 where
  pub worker : WorkerState
  pub was : old.worker client ≡ Some worker
  pub station : new.station ≡ old.station
  pub gone : new.worker client ≡ None
  pub others : OthersStay old client new
  pub silent : IsSilent old new

-- The worker makes a turn: it hands in the oldest frame that it kept, or collects and takes one.
pub record Turns (old : Program) (client : ℕ) (new : Program) : Type 0 where
  pub worker : WorkerState
  pub next : WorkerState
  pub result : Result Bool WorkerFault
  pub turns : turning.Turns worker old.station result next new.station
  pub becomes : Becomes old client worker next new
  pub silent : IsSilent old new

-- The worker's transaction is handed in to commit, or that is refused.
pub record Commits (old : Program) (client : ℕ) (new : Program) : Type 0 where
  pub worker : WorkerState
  pub next : WorkerState
  pub result : Result ℕ WorkerFault
  pub commits : CommitsAt worker old.station result next new.station
  pub becomes : Becomes old client worker next new
  pub silent : IsSilent old new

-- one operation more, of the client's last transaction
abbrev pub operation_of : ClientState → Operation → List PerformedOperation
    → List PerformedOperation
operation_of client operation performed = record {
  client = client.no;
  incarnation = client.incarnation;
  txn = last_txn client;
  operation = operation;
} ∷ performed

-- what is performed once a call was answered so: a read that was answered with bytes, or a write
-- that was accepted, is one operation more
abbrev pub performs : ClientState → Call → table.AnswerWord → List PerformedOperation
    → List PerformedOperation
performs client (CallRead page) (table.AnsweredBytes bytes) performed =
    operation_of client (Saw page bytes) performed
performs client (CallWrite page bytes) table.AnsweredOk performed =
    operation_of client (Put page bytes) performed
performs client _ _ performed = performed

-- The worker's client is called, without the station. What it says is kept behind what was kept.
pub record CallsClient (old : Program) (client : ℕ) (call : Call) (new : Program) : Type 0 where
  pub worker : WorkerState
  pub next : WorkerState
  pub word : table.AnswerWord
  pub messages : List Message
  pub history : List Operation → List Operation
  pub calls : Calls worker.client call word messages history next.client
  pub said : messages_of next.said ≡ messages_of worker.said ++ messages
  pub rest : next ≡ record worker { client = next.client; said = next.said }
  pub station : new.station ≡ old.station
  pub becomes : Becomes old client worker next new
  pub performed : new.performed ≡ performs worker.client call word old.performed

-- The commits up to that number are on disk, which the station didn't know; it says Dones of them.
pub record Flushes (old : Program) (number : ℕ) (new : Program) : Type 0 where
  pub can : can_flush (server_of old.station) number ≡ true
  pub posts : Posts old.station.dispatcher (ReachesDisk number) (mailbox_of old.station) Everybody
      new.station.dispatcher
  pub hands : new.station.hands ≡ old.station.hands
  pub workers : WorkersStay old new
  pub silent : IsSilent old new

-- The commits up to that number are forgotten.
pub record Forgets (old : Program) (number : ℕ) (new : Program) : Type 0 where
  pub station : new.station ≡ forgot old.station number
  pub workers : WorkersStay old new
  pub silent : IsSilent old new

-- What threads tell each other changes, and who is to be told; nothing else does.
pub record Tells (old new : Program) : Type 0 where
  pub station : new.station
      ≡ with_untold (record old.station { flags = new.station.flags }) (untold_in new.station)
  pub workers : WorkersStay old new
  pub silent : IsSilent old new

-- A call of the station is refused: nothing changes but room.
pub record Refuses (old new : Program) : Type 0 where
  pub unchanged : IsUnchanged old.station new.station
  pub workers : WorkersStay old new
  pub silent : IsSilent old new

-- one step of some thread
pub data Step : Type 0 where
  Join : (client : ℕ) → Step
  Restart : (client incarnation : ℕ) → Step
  Leave : (client : ℕ) → Step
  Abandon : (client : ℕ) → Step
  Turn : (client : ℕ) → Step
  Commit : (client : ℕ) → Step
  CallClient : (client : ℕ) → Call → Step
  Flush : (number : ℕ) → Step
  Forget : (number : ℕ) → Step
  Tell : Step
  Refuse : Step

-- what that step makes of a program
abbrev pub Does : (old : Program) → Step → (new : Program) → Type 0
Does old (Join client) new = Joins old client new
Does old (Restart client incarnation) new = Restarts old client incarnation new
Does old (Leave client) new = Leaves old client new
Does old (Abandon client) new = Abandons old client new
Does old (Turn client) new = Turns old client new
Does old (Commit client) new = Commits old client new
Does old (CallClient client call) new = CallsClient old client call new
Does old (Flush number) new = Flushes old number new
Does old (Forget number) new = Forgets old number new
Does old Tell new = Tells old new
Does old Refuse new = Refuses old new

-- a step, and the program after it
pub record Moment : Type 0 where
  pub step : Step
  pub program : Program

-- a run: each program is what the step makes of the one before it, and sound
abbrev pub Runs : Program → List Moment → Type 0
Runs program [] = ⊤
Runs program (moment ∷ moments) = Does program moment.step moment.program
    × IsSound moment.program × Runs moment.program moments

-- the program after a run
abbrev pub program_after : Program → List Moment → Program
program_after program [] = program
program_after program (moment ∷ moments) = program_after moment.program moments
