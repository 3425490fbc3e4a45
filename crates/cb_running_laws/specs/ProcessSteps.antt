-- What a service and its clients do, one step after another, whatever happens to the frames between
-- them.
use Rattle.std.specs.Prelude.{◌≡◌, ◌≢◌, ◌<◌, ◌≤◌, ◌⊎◌, ◌++◌, ℕ, true, false, List, [], ◌∷◌, Option}
use Rattle.std.specs.Prelude.{Some, None, IfSome, ⊤}
use Rattle.std.specs.List.{AllByRecursion}
use Rattle.sqlite.specs.Store.{Ghosts}
use Rattle.cb_client.specs.ByTable.{Calls}
use Rattle.cb_client.specs.FramesTaken.{TakesFrame}
use Rattle.cb_client_core.specs.ClientState.{ClientState, new_state}
use Rattle.cb_commit.specs.Batches.{BatchState}
use Rattle.cb_frame.specs.declared.frame.Frame.{Frame}
use Rattle.cb_outbox.specs.Messages.{body_of, message_of, messages_of}
use Rattle.cb_page.specs.Bounds.{Bounds}
use Rattle.cb_protocol.specs.AnyMessages.{Input, MessageComes, ReachesDisk, input_steps}
use Rattle.cb_protocol.specs.Answers.{AnswerWord}
use Rattle.cb_protocol.specs.Basics.{IsIn, max_number}
use Rattle.cb_protocol.specs.ClientCalls.{Call}
use Rattle.cb_protocol.specs.Flush.{next_batch}
use Rattle.cb_protocol.specs.Messages.{Message, to_server}
use Rattle.cb_protocol.specs.Serial.{Operation}
use Rattle.cb_protocol.specs.Server.{Server, server_after}
use Rattle.cb_protocol.specs.ServerMessages.{is_exhausted}
use Rattle.cb_protocol.specs.WaitsFor.{on_cycle}
use Rattle.cb_server_state.specs.Commits.{batch_of}
use Rattle.cb_serve.specs.Answering.{after_inputs, inputs_in, said_to}
use Rattle.cb_serve.specs.Living.{IsRoundOfLife}
use Rattle.cb_serve.specs.Rounds.{IsRound, Round, SaysDones, Standing}
use Rattle.cb_serve.specs.Streams.{IsPart, IsPiece, Piece, comes}
use Rattle.cb_running_laws.specs.Processes.{Processes}
use Rattle.cb_running_laws.specs.Steps.{performs}

-- A frame was said that goes to the server, or to clients: it may come there now, for the first
-- time or again, whatever was said before it or behind it.
abbrev pub IsOnItsWay : {S : Type 0} → Processes S → Frame → Type 0
IsOnItsWay processes frame = IsIn frame processes.said × (to_server (body_of frame.body) ≡ true)

abbrev pub IsOnItsWayBack : {S : Type 0} → Processes S → Frame → Type 0
IsOnItsWayBack processes frame =
    IsIn frame processes.said × (to_server (body_of frame.body) ≡ false)

-- What may come to the service: a frame that is on its way, or one of an incarnation below the
-- floor, as clients of former lives said. Whatever isn't taken as a frame may come as it likes.
abbrev pub MayCome : {S : Type 0} → Processes S → Piece → Type 0
MayCome processes (comes frame bytes) =
    IsOnItsWay processes frame ⊎ (frame.incarnation < processes.life.floor)
MayCome processes _ = ⊤

-- the server has a number left for what it is called with
abbrev pub HasNumber : Server → Input → Type 0
HasNumber server (MessageComes client incarnation body) =
    is_exhausted server client incarnation body ≡ false
HasNumber server _ = ⊤

-- it has one each time, as it stands then
abbrev pub HasNumbers : Server → List Input → Type 0
HasNumbers server [] = ⊤
HasNumbers server (input ∷ inputs) = HasNumber server input
    × HasNumbers (server_after server (input_steps on_cycle server input)) inputs

-- the frames of the Dones
abbrev pub done_frames : (limits : Bounds) (server : Server) (bytes : List ℕ)
    (batch : Option BatchState) → SaysDones limits server batch bytes → List Frame
done_frames limits server bytes None says = []
done_frames limits server bytes (Some batch) says = says.frames

-- all frames that a round puts out, in order
abbrev pub frames_put : {S : Type 0} {g : Ghosts S} {limits : Bounds} {round : Round}
    {old new : Standing S} → IsRound g limits round old new → List Frame
frames_put {limits = limits} {round = round} {old = old} is = is.answers.frames
    ++ done_frames limits (after_inputs old.server (inputs_in round.pieces)) round.dones round.batch
    is.dones

-- what the server says once a batch is on disk
abbrev pub dones_said : Server → Option BatchState → List Message
dones_said server None = []
dones_said server (Some batch) = said_to server (ReachesDisk batch.number ∷ [])

-- the processes of all other clients are as they were
abbrev pub OthersStay : {S : Type 0} → (old : Processes S) → (client : ℕ) → (new : Processes S)
    → Type 0
OthersStay old client new = (other : ℕ) → other ≢ client → new.client other ≡ old.client other

-- the service does nothing
abbrev pub ServiceStays : {S : Type 0} → (old new : Processes S) → Type 0
ServiceStays old new =
    (new.service ≡ old.service) × (new.life ≡ old.life) × (new.runs ≡ old.runs)

-- The client's process becomes another; those of all other clients and the service stay.
pub record Becomes {S : Type 0} (old : Processes S) (client : ℕ) (state next : ClientState)
    (new : Processes S) : Type 0 where
  pub was : old.client client ≡ Some state
  pub becomes : new.client client ≡ Some next
  pub others : OthersStay old client new
  pub service : ServiceStays old new

-- an incarnation above the floor, and above that of the client's process, if there is one
abbrev pub IsNext : Option ClientState → (floor incarnation : ℕ) → Type 0
IsNext None floor incarnation = floor < incarnation
IsNext (Some state) floor incarnation = state.incarnation < incarnation

-- A process of the client begins this incarnation, with the service's limits. The one before it, if
-- there was one, does nothing more.
pub record Begins {S : Type 0} (limits : Bounds) (old : Processes S) (client incarnation : ℕ)
    (new : Processes S) : Type 0 where
  pub there : client < limits.clients
  pub next : IsNext (old.client client) old.life.floor incarnation
  pub number : incarnation ≤ max_number
  pub becomes : new.client client ≡ Some (new_state client incarnation limits)
  pub others : OthersStay old client new
  pub service : ServiceStays old new
  pub said : new.said ≡ old.said
  pub performed : new.performed ≡ old.performed

-- A client is called, and answers by the contract of that call. The frames of what it says are on
-- their way.
pub record CallsClient {S : Type 0} (old : Processes S) (client : ℕ) (call : Call)
    (new : Processes S) : Type 0 where
  pub state : ClientState
  pub next : ClientState
  pub word : AnswerWord
  pub frames : List Frame
  pub history : List Operation → List Operation
  pub calls : Calls state call word (messages_of frames) history next
  pub becomes : Becomes old client state next new
  pub said : new.said ≡ old.said ++ frames
  pub performed : new.performed ≡ performs state call word old.performed

-- A client takes a frame that is on its way back, by the contract of `take`: one that is for it by
-- the table, another it ignores.
pub record TakesOne {S : Type 0} (old : Processes S) (client : ℕ) (frame : Frame)
    (new : Processes S) : Type 0 where
  pub way : IsOnItsWayBack old frame
  pub state : ClientState
  pub next : ClientState
  pub frames : List Frame
  pub takes : TakesFrame state frame (messages_of frames) next
  pub becomes : Becomes old client state next new
  pub said : new.said ≡ old.said ++ frames
  pub performed : new.performed ≡ old.performed

-- one step of a process
pub data Step : Type 0 where
  Serve : Round → Step
  Stop : List Piece → Option BatchState → Step
  Begin : (client incarnation : ℕ) → Step
  CallClient : (client : ℕ) → Call → Step
  Take : (client : ℕ) → Frame → Step

module _ {S : Type 0} (g : Ghosts S) (limits : Bounds) where
  -- The service does a round of its life, behind less than a whole piece: each frame that comes to
  -- it may come, and it has a number for each. What it puts out is on its way.
  pub record DoesRound (old : Processes S) (round : Round) (new : Processes S) : Type 0 where
    pub ran : old.runs ≡ true
    pub runs : new.runs ≡ true
    pub begins : IsPart limits old.service.waiting
    pub is : IsRoundOfLife g limits round old.service new.service old.life new.life
    pub come : AllByRecursion (MayCome old) round.pieces
    pub numbers : HasNumbers old.service.server (inputs_in round.pieces)
    pub clients : (client : ℕ) → new.client client ≡ old.client client
    pub said : new.said ≡ old.said ++ frames_put is.is
    pub performed : new.performed ≡ old.performed

  -- The service stops, between two rounds or within one, and does nothing more. It took these
  -- pieces as a round does, and wrote this batch, if it came to one. What went out of it are whole
  -- frames of what the server says to the pieces, and Dones of the batch alone.
  pub record StopsAmid (old : Processes S) (pieces : List Piece) (batch : Option BatchState)
      (new : Processes S) : Type 0 where
    pub ran : old.runs ≡ true
    pub stopped : new.runs ≡ false
    pub are : AllByRecursion (IsPiece limits) pieces
    pub come : AllByRecursion (MayCome old) pieces
    pub numbers : HasNumbers old.service.server (inputs_in pieces)
    pub next : IfSome batch (λ b.
        next_batch (after_inputs old.service.server (inputs_in pieces)) ≡ Some (batch_of b))
    pub frames : List Frame
    pub among : (frame : Frame) → IsIn frame frames
        → IsIn (message_of frame) (said_to old.service.server (inputs_in pieces)
        ++ dones_said (after_inputs old.service.server (inputs_in pieces)) batch)
    pub said : new.said ≡ old.said ++ frames
    pub life : new.life.floor ≡ old.life.floor
    pub clients : (client : ℕ) → new.client client ≡ old.client client
    pub performed : new.performed ≡ old.performed

  -- what a step makes of the processes
  abbrev pub Does : (old : Processes S) → Step → (new : Processes S) → Type 0
  Does old (Serve round) new = DoesRound old round new
  Does old (Stop pieces batch) new = StopsAmid old pieces batch new
  Does old (Begin client incarnation) new = Begins limits old client incarnation new
  Does old (CallClient client call) new = CallsClient old client call new
  Does old (Take client frame) new = TakesOne old client frame new

-- a step, and the processes after it
pub record Moment (S : Type 0) : Type 0 where
  pub step : Step
  pub processes : Processes S

-- a run: each is what the step makes of the one before it
abbrev pub Runs : {S : Type 0} → Ghosts S → Bounds → Processes S → List (Moment S) → Type 0
Runs g limits processes [] = ⊤
Runs g limits processes (moment ∷ moments) = Does g limits processes moment.step moment.processes
    × Runs g limits moment.processes moments

-- the processes after a run
abbrev pub processes_after : {S : Type 0} → Processes S → List (Moment S) → Processes S
processes_after processes [] = processes
processes_after processes (moment ∷ moments) = processes_after moment.processes moments
