-- What the protocol's server says to pieces of a stream, and the bytes of that.
use Rattle.std.specs.Prelude.{◌≡◌, ◌≤◌, ℕ, List, [], ◌∷◌, ◌++◌, length, take, true, if◌then◌else◌}
use Rattle.std.specs.List.{AllByRecursion, flat_map}
use Rattle.cb_frame.specs.Grammar.{Fits, IsFrameInSome}
use Rattle.cb_frame.specs.Spelling.{spelling}
use Rattle.cb_frame.specs.declared.frame.Frame.{Frame}
use Rattle.cb_outbox.specs.Messages.{body_of, messages_of}
use Rattle.cb_page.specs.Bounds.{Bounds}
use Rattle.cb_protocol.specs.AnyMessages.{Input, SendsAgain, input_steps}
use Rattle.cb_protocol.specs.Messages.{Message}
use Rattle.cb_protocol.specs.Server.{Server, server_after}
use Rattle.cb_protocol.specs.ServerMessages.{is_exhausted}
use Rattle.cb_protocol.specs.WaitsFor.{on_cycle}
use Rattle.cb_protocol.specs.World.{messages_sent}
use Rattle.cb_server.specs.ServerValue.{ServerValue, commits_of, server_of}
use Rattle.cb_server.specs.Taking.{input_of}
use Rattle.cb_serve.specs.Streams.{IsPiece, Piece, bytes_of, asks_again, comes, let_go}
use Rattle.cb_serve.specs.Streams.{greets_from, passed_over}

-- the server once it was called with these, the first one first
abbrev pub after_inputs : Server → List Input → Server
after_inputs server [] = server
after_inputs server (input ∷ inputs) =
    after_inputs (server_after server (input_steps on_cycle server input)) inputs

-- all that it says to them, in order
abbrev pub said_to : Server → List Input → List Message
said_to server [] = []
said_to server (input ∷ inputs) = messages_sent (input_steps on_cycle server input)
    ++ said_to (server_after server (input_steps on_cycle server input)) inputs

-- what a piece calls the server with, and what pieces do, in order
abbrev pub inputs_of : Piece → List Input
inputs_of (comes frame bytes) = input_of frame ∷ []
inputs_of asks_again = SendsAgain ∷ []
inputs_of (passed_over bytes) = []
inputs_of (let_go frame bytes) = []

-- what a frame calls the server with in a life that takes no Hello from that incarnation on
abbrev pub heard : (end : ℕ) → Frame → List Input
heard end frame = if greets_from end frame then [] else input_of frame ∷ []

abbrev pub inputs_in : List Piece → List Input
inputs_in pieces = flat_map inputs_of pieces

-- The bytes are the spellings of frames that carry these messages, in order.
pub record Spells (limits : Bounds) (messages : List Message) (bytes : List ℕ) : Type 0 where
  pub frames : List Frame
  pub fit : AllByRecursion (Fits limits) frames
  pub carry : messages_of frames ≡ messages
  pub spelled : bytes ≡ flat_map spelling frames

-- The bytes begin with a frame for which no number is left to the server.
pub record LacksNumber (limits : Bounds) (server : Server) (bytes : List ℕ) : Type 0 where
  pub frame : Frame
  pub used : ℕ
  pub within : used ≤ length bytes
  pub read : IsFrameInSome limits frame (take used bytes)
  pub lacks : is_exhausted server frame.client frame.incarnation (body_of frame.body) ≡ true

-- The server was called with these, and the bytes are all that it says to them. Its limits and its
-- opening store are as before.
pub record Answers (old : ServerValue) (inputs : List Input) (bytes : List ℕ) (new : ServerValue)
    : Type 0 where
  pub says : Spells old.limits (said_to (server_of old) inputs) bytes
  pub becomes : server_of new ≡ after_inputs (server_of old) inputs
  pub limits : new.limits ≡ old.limits
  pub opening : (commits_of new).opening ≡ (commits_of old).opening

-- So many of the first bytes are these pieces, and the server was called with what they are.
pub record TakesPieces (old : ServerValue) (bytes : List ℕ) (pieces : List Piece) (used : ℕ)
    (said : List ℕ) (new : ServerValue) : Type 0 where
  pub are : AllByRecursion (IsPiece old.limits) pieces
  pub within : used ≤ length bytes
  pub cut : take used bytes ≡ flat_map bytes_of pieces
  pub answers : Answers old (inputs_in pieces) said new
