-- What a worker's moves make of the program that it works in. Each public call of a worker tells by
-- its contract by which moves the worker came (`IsStill` of `cb_worker`).
use Rattle.std.specs.Prelude.{◌≡◌, ◌++◌, ◌∷◌, ℕ, List, [], Some, ⊤}
use Rattle.cb_client.specs.CallAnswers.{bytes_at}
use Rattle.cb_client_core.specs.ClientState.{IsClient}
use Rattle.cb_protocol.specs.Basics.{update}
use Rattle.cb_protocol.specs.ClientCalls.{CallRead}
use Rattle.cb_protocol.specs.Serial.{PerformedOperation, Saw}
use Rattle.cb_station.specs.Stations.{StationState}
use Rattle.cb_running_laws.specs.Programs.{IsSound, Program}
use Rattle.cb_running_laws.specs.Steps.{CallClient, Commit, Does, Moment, Runs, Step, Turn}
use Rattle.cb_running_laws.specs.Steps.{operation_of, performs, program_after}
use Rattle.cb_worker.specs.Moving as moving
use Rattle.cb_worker.specs.Moving.{Move, Moved, Moves, MovesBy}
use Rattle.cb_worker.specs.Workers.{WorkerState}

-- the step that a move of that client's worker is
abbrev pub step_of : (client : ℕ) → Move → Step
step_of client (moving.Turn before result after) = Turn client
step_of client (moving.Commit before result after) = Commit client
step_of client (moving.ReadAtHand page) = CallClient client (CallRead page)
step_of client (moving.CallClient call) = CallClient client call

-- the move is made at the program's station; one without a station is made at any
abbrev pub IsMadeAt : Program → Move → Type 0
IsMadeAt program (moving.Turn before result after) = program.station ≡ before
IsMadeAt program (moving.Commit before result after) = program.station ≡ before
IsMadeAt program _ = ⊤

-- the station after it
abbrev pub station_after : StationState → Move → StationState
station_after station (moving.Turn before result after) = after
station_after station (moving.Commit before result after) = after
station_after station _ = station

-- what is performed once the worker has moved so
abbrev pub performed_by : (worker : WorkerState) (move : Move) (next : WorkerState)
    → Moves worker move next → List PerformedOperation → List PerformedOperation
performed_by worker (moving.ReadAtHand page) next moves performed =
    operation_of worker.client (Saw page (bytes_at worker.client page)) performed
performed_by worker (moving.CallClient call) next moves performed =
    performs worker.client call moves.word performed
performed_by worker _ next moves performed = performed

-- the program once its worker has moved so
abbrev pub moved_program : (program : Program) → (client : ℕ) → (worker : WorkerState)
    → (move : Move) → (next : WorkerState) → Moves worker move next → Program
moved_program program client worker move next moves = record {
  station = station_after program.station move;
  worker = update program.worker client (Some next);
  performed = performed_by worker move next moves program.performed;
}

-- the worker's move is a step of each program in which it works, and whose station the move names
abbrev pub IsStep : (client : ℕ) → (worker : WorkerState) → Move → (next : WorkerState) → Type 0
IsStep client worker move next = (program : Program) → program.worker client ≡ Some worker
    → IsClient worker.client → IsMadeAt program move → (moves : Moves worker move next)
    → Does program (step_of client move) (moved_program program client worker move next moves)

-- so is each of these moves, one after another
abbrev pub AreSteps : (client : ℕ) → WorkerState → List Moved → Type 0
AreSteps client worker [] = ⊤
AreSteps client worker (moved ∷ moves) =
    IsStep client worker moved.move moved.worker × AreSteps client moved.worker moves

-- these steps lead from the one program to the other
abbrev pub DoesAll : (old : Program) → List Step → (new : Program) → Type 0
DoesAll old [] new = new ≡ old
DoesAll old (step ∷ steps) new =
    (next : Program) × Does old step next × DoesAll next steps new

-- the program once others have made these steps, and then the worker has moved so
abbrev pub moved_after : (program : Program) → List Moment → (client : ℕ) → (worker : WorkerState)
    → (moved : Moved) → Moves worker moved.move moved.worker → Program
moved_after program others client worker moved moves =
    moved_program (program_after program others) client worker moved.move moved.worker moves

-- The moments of a call by these moves. Before each of them others make steps: these lists, one for
-- each move.
abbrev pub moments_of : (program : Program) (client : ℕ) (worker : WorkerState)
    (moves : List Moved) (last : WorkerState) → MovesBy worker moves last → List (List Moment)
    → List Moment
moments_of program client worker [] last made others = []
moments_of program client worker (moved ∷ moves) last made [] = []
moments_of program client worker (moved ∷ moves) last made (these ∷ others) = these
    ++ record {
      step = step_of client moved.move;
      program = moved_after program these client worker moved made.0;
    }
    ∷ moments_of (moved_after program these client worker moved made.0) client moved.worker moves
    last made.1 others

-- Others' steps are runs that leave the worker as it is, and after them the station lies there that
-- the next move names. What the move leaves is sound.
abbrev pub GoesOn : (program : Program) (client : ℕ) (worker : WorkerState) (moves : List Moved)
    (last : WorkerState) → MovesBy worker moves last → List (List Moment) → Type 0
GoesOn program client worker [] last made others = ⊤
GoesOn program client worker (moved ∷ moves) last made [] = ⊥
GoesOn program client worker (moved ∷ moves) last made (these ∷ others) =
    Runs program these × ((program_after program these).worker client ≡ Some worker)
    × IsMadeAt (program_after program these) moved.move
    × IsSound (moved_after program these client worker moved made.0)
    × GoesOn (moved_after program these client worker moved made.0) client moved.worker moves last
    made.1 others
