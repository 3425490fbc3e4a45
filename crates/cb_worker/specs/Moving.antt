-- How a worker moves: by turns and commits at a station, and by calls of its client alone.
use Rattle.std.specs.Prelude.{◌≡◌, ◌++◌, ◌∷◌, ℕ, Bool, List, [], None, Result, Ok}
use Rattle.cb_client.specs.ByTable.{Calls}
use Rattle.cb_client_core.specs.ClientState.{new_state}
use Rattle.cb_hands.specs.Hands.{HandState}
use Rattle.cb_outbox.specs.Messages.{messages_of}
use Rattle.cb_page.specs.Bounds.{Bounds}
use Rattle.cb_protocol.specs.Answers as table
use Rattle.cb_protocol.specs.ClientCalls.{Call}
use Rattle.cb_protocol.specs.Messages.{Message}
use Rattle.cb_protocol.specs.Serial.{Operation}
use Rattle.cb_station.specs.Stations.{StationState}
use Rattle.cb_worker.specs.Committing.{CommitsAt}
use Rattle.cb_worker.specs.Entering.{JoinsSome, RestartsSome}
use Rattle.cb_worker.specs.Keeping.{KeepsFixed}
use Rattle.cb_worker.specs.Turns.{Turns}
use Rattle.cb_worker.specs.Workers.{ReadsAtHand, WorkerState, last_txn, seen_by}
use Rattle.cb_worker.specs.declared.worker_fault.WorkerFault.{WorkerFault}

-- The client was called, without a station. What it says is kept behind what was kept, and all else
-- of the worker stays.
pub record IsCalled (old : WorkerState) (call : Call) (new : WorkerState) : Type 0 where
  pub word : table.AnswerWord
  pub messages : List Message
  pub history : List Operation → List Operation
  pub calls : Calls old.client call word messages history new.client
  pub said : messages_of new.said ≡ messages_of old.said ++ messages
  pub rest : new ≡ record old { client = new.client; said = new.said }

-- one move: a turn or a commit at a station, with its answer and the station after it; a page that
-- is read at hand; another call of the client
pub data Move : Type 0 where
  Turn : (before : StationState) → Result Bool WorkerFault → (after : StationState) → Move
  Commit : (before : StationState) → Result ℕ WorkerFault → (after : StationState) → Move
  ReadAtHand : (page : ℕ) → Move
  CallClient : Call → Move

-- what it makes of the worker
abbrev pub Moves : (old : WorkerState) → Move → (new : WorkerState) → Type 0
Moves old (Turn before result after) new = Turns old before result new after
Moves old (Commit before result after) new = CommitsAt old before result new after
Moves old (ReadAtHand page) new = ReadsAtHand old page new
Moves old (CallClient call) new = IsCalled old call new

-- a move, and the worker after it
pub record Moved : Type 0 where
  pub move : Move
  pub worker : WorkerState

-- it came there by these moves, the first one first
abbrev pub MovesBy : (old : WorkerState) → List Moved → (new : WorkerState) → Type 0
MovesBy old [] new = new ≡ old
MovesBy old (moved ∷ moves) new = Moves old moved.move moved.worker
    × MovesBy moved.worker moves new

-- It is still the same one: of the same incarnation of the same client, with the same limits, and
-- so is its hand; no transaction began; while none is over, each page that it wants to write or
-- wrote keeps its bytes; and it came there by such moves, and by nothing else.
pub record IsStill (old new : WorkerState) : Type 0 where
  pub no : new.client.no ≡ old.client.no
  pub incarnation : new.client.incarnation ≡ old.client.incarnation
  pub limits : new.client.copies.limits ≡ old.client.copies.limits
  pub txn : last_txn new.client ≡ last_txn old.client
  pub hand : new.hand.client ≡ old.hand.client
  pub hand_incarnation : new.hand.incarnation ≡ old.hand.incarnation
  pub keeps : KeepsFixed (seen_by old) (seen_by new)
  pub moves : List Moved
  pub moved : MovesBy old moves new

-- the worker of a hand that the station has just given out: its client was not called yet
abbrev pub new_worker : HandState → Bounds → WorkerState
new_worker hand limits = record {
  client = new_state hand.client hand.incarnation limits;
  hand = hand;
  collected = None;
  said = [];
}

-- The client joined so, at a station with these limits; the worker is what that of its hand became.
pub record HasJoined (limits : Bounds) (client : ℕ) (worker : WorkerState) : Type 0 where
  pub hand : HandState
  pub joins : JoinsSome limits client (Ok hand)
  pub still : IsStill (new_worker hand limits) worker

-- The worker's client began that incarnation so; the next worker is what that of its new hand
-- became.
pub record HasRestarted (old : WorkerState) (incarnation : ℕ) (new : WorkerState) : Type 0 where
  pub hand : HandState
  pub restarts : RestartsSome old.hand incarnation (Ok hand)
  pub still : IsStill (new_worker hand old.client.copies.limits) new
