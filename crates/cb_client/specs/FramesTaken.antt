-- What a client does at a frame.
use Rattle.std.specs.Prelude.{if◌then◌else◌, ◌≡◌, ◌==◌, ◌<◌, ◌≤◌, ◌⊎◌, ℕ, Bool, true, false, ◌&&◌}
use Rattle.std.specs.Prelude.{List, [], length, take}
use Rattle.cb_page.specs.Bounds.{Bounds}
use Rattle.cb_page.specs.Faults.{first_fault}
use Rattle.cb_frame.specs.Checks.{causes, fault_in_bytes}
use Rattle.cb_frame.specs.declared.fault.BytesFault.{BytesFault}
use Rattle.cb_frame.specs.declared.fault.BytesFault.TheVariants as reading
use Rattle.cb_frame.specs.Grammar.{IsFrameInSome}
use Rattle.cb_frame.specs.declared.frame.Frame.{Frame}
use Rattle.cb_outbox.specs.Messages.{body_of}
use Rattle.cb_protocol.specs.Messages.{Message}
use Rattle.cb_client.specs.ByTable.{Takes}
use Rattle.cb_client_core.specs.ClientState.{ClientState}
use Rattle.cb_client_core.specs.Room.{brings_in, room_at}
use Rattle.cb_client.specs.declared.client_fault.ClientFault.{ClientFault}
use Rattle.cb_client.specs.declared.client_fault.ClientFault.TheVariants as faults

-- the frame is for this incarnation of this client
abbrev pub is_for : ClientState → Frame → Bool
is_for client frame = (frame.client == client.no) && (frame.incarnation == client.incarnation)

-- One that is for it is taken as the protocol's table says; another is ignored.
pub record TakesFrame (old : ClientState) (frame : Frame) (messages : List Message)
    (new : ClientState) : Type 0 where
  pub own : is_for old frame ≡ true → Takes old (body_of frame.body) messages new
  pub ignored : is_for old frame ≡ false → messages ≡ []
  pub unchanged : is_for old frame ≡ false → new ≡ old

-- how many frames it makes room for at a frame
abbrev pub room_to_take : ClientState → Frame → ℕ
room_to_take client frame =
    if is_for client frame then room_at client (body_of frame.body) else 0

-- it brings a page into the client's pool
abbrev pub brings_page : ClientState → Frame → Bool
brings_page client frame = is_for client frame && brings_in client (body_of frame.body)

-- the first of the bytes, as many as that, are the frame as it is decoded
pub record BeginWith (limits : Bounds) (bytes : List ℕ) (frame : Frame) (used : ℕ) : Type 0 where
  pub within : used ≤ length bytes
  pub read : IsFrameInSome limits frame (take used bytes)

-- The bytes begin with a frame, of that many bytes, which is taken, with room for its answers.
pub record TakesBytes (old : ClientState) (bytes : List ℕ) (used : ℕ) (messages : List Message)
    (capacity : ℕ) (new : ClientState) : Type 0 where
  pub frame : Frame
  pub begin : BeginWith old.copies.limits bytes frame used
  pub takes : TakesFrame old frame messages new
  pub room : capacity ≡ room_to_take old frame

-- A growth was refused for the frame that the bytes begin with, which is for this client and needs
-- room for a frame, or brings a page into the pool.
pub record LacksMemoryFor (old : ClientState) (bytes : List ℕ) (found : ClientFault) : Type 0 where
  pub memory : found ≡ faults.Memory
  pub frame : Frame
  pub used : ℕ
  pub begin : BeginWith old.copies.limits bytes frame used
  pub own : is_for old frame ≡ true
  pub needed : (0 < room_at old (body_of frame.body))
      ⊎ (brings_in old (body_of frame.body) ≡ true)

-- the bytes begin with no frame, for that cause; or a growth was refused for the frame
abbrev pub IsBytesFault : (old : ClientState) → List ℕ → BytesFault ClientFault → Type 0
IsBytesFault old bytes (reading.Frame found) =
    first_fault (causes old.copies.limits bytes) ≡ fault_in_bytes found
IsBytesFault old bytes (reading.Taker found) = LacksMemoryFor old bytes found
