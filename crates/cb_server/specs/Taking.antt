-- What a server answers and does, by the protocol's tables.
use Rattle.std.specs.Prelude.{◌≡◌, ◌≢◌, ◌≤◌, ◌==◌, ◌&&◌, ◌||◌, nat_le, nat_lt, ℕ, Bool, true, false}
use Rattle.std.specs.Prelude.{List, [], length, take}
use Rattle.cb_asks.specs.Asks.{asks_below}
use Rattle.cb_frame.specs.Checks.{causes, fault_in_bytes}
use Rattle.cb_frame.specs.declared.fault.BytesFault.{BytesFault}
use Rattle.cb_frame.specs.declared.fault.BytesFault.TheVariants as reading
use Rattle.cb_frame.specs.Grammar.{IsFrameInSome}
use Rattle.cb_frame.specs.declared.frame.Frame.{Frame}
use Rattle.cb_outbox.specs.Messages.{body_of}
use Rattle.cb_page.specs.Faults.{first_fault}
use Rattle.cb_protocol.specs.AnyMessages.{Input, MessageComes, SendsAgain, input_steps}
use Rattle.cb_protocol.specs.Messages as protocol
use Rattle.cb_protocol.specs.Messages.{Message, to_server}
use Rattle.cb_protocol.specs.Server.{Server, server_after}
use Rattle.cb_protocol.specs.ServerMessages.{is_exhausted}
use Rattle.cb_protocol.specs.WaitsFor.{on_cycle}
use Rattle.cb_protocol.specs.World.{messages_sent}
use Rattle.cb_server.specs.ServerValue.{ServerValue, commits_of, server_of}
use Rattle.cb_server.specs.declared.server_fault.ServerFault.{ServerFault}
use Rattle.cb_server.specs.declared.server_fault.ServerFault.TheVariants as fault

-- It does what the protocol's server does at the input, and these messages are all that is sent, in
-- order. Its limits and its opening store are as before, and it forgets no commit.
pub record Does (old : ServerValue) (input : Input) (messages : List Message) (new : ServerValue)
    : Type 0 where
  pub sends : messages ≡ messages_sent (input_steps on_cycle (server_of old) input)
  pub becomes : server_of new
      ≡ server_after (server_of old) (input_steps on_cycle (server_of old) input)
  pub limits : new.limits ≡ old.limits
  pub opening : (commits_of new).opening ≡ (commits_of old).opening
  pub forgotten : (commits_of new).forgotten ≡ (commits_of old).forgotten

-- It takes a Hello of that incarnation of the client, and what it says is let go.
abbrev pub Greets : ServerValue → (client incarnation : ℕ) → ServerValue → Type 0
Greets old client incarnation new = (messages : List Message)
    × Does old (MessageComes client incarnation protocol.Hello) messages new

-- `again` would send a message.
abbrev pub HasToSayAgain : ServerValue → Type 0
HasToSayAgain state = messages_sent (input_steps on_cycle (server_of state) SendsAgain) ≢ []

-- what comes by a frame
abbrev pub input_of : Frame → Input
input_of frame = MessageComes frame.client frame.incarnation (body_of frame.body)

-- no number is left for it
abbrev pub lacks_number_for : ServerValue → Frame → Bool
lacks_number_for state frame =
    is_exhausted (server_of state) frame.client frame.incarnation (body_of frame.body)

-- The frame is taken as the protocol's table of messages says: no number is lacking for it.
pub record Takes (old : ServerValue) (frame : Frame) (messages : List Message)
    (new : ServerValue) : Type 0 where
  pub taken : lacks_number_for old frame ≡ false
  pub does : Does old (input_of frame) messages new

-- the fault is want of a number, and not of memory
abbrev pub is_exhaustion : ServerFault → Bool
is_exhaustion fault.Exhausted = true
is_exhaustion fault.Memory = false

-- some ask waits
abbrev pub somebody_waits : Server → Bool
somebody_waits server = nat_lt 0 (asks_below server server.pages)

-- A message that its client may hear an answer to, at once or once its ask is met, or whose pages
-- are kept. No other says anything, where nobody waits.
abbrev pub may_be_answered : protocol.Body → Bool
may_be_answered protocol.Hello = true
may_be_answered (protocol.AskRead txn page) = true
may_be_answered (protocol.AskWrite txn page grant) = true
may_be_answered (protocol.Commit txn writes) = true
may_be_answered _ = false

-- Memory may be wanted for a message of the current incarnation: for one to a server that may be
-- answered, or where some ask waits (this project's rule).
abbrev pub may_want_room : Server → protocol.Body → Bool
may_want_room server body = to_server body && (may_be_answered body || somebody_waits server)

-- Memory may be wanted for it: for a Hello that isn't stale, or for another message of the current
-- incarnation, as said above. For nothing else: what is stale, or of a kind for clients, is let go,
-- and where no ask waits a GiveBack, InUse, Drop or Downgraded is obeyed without (this project's
-- rule).
abbrev pub may_want_memory : Server → (client incarnation : ℕ) → protocol.Body → Bool
may_want_memory server client incarnation protocol.Hello =
    nat_le (server.session client).current incarnation
may_want_memory server client incarnation body =
    (incarnation == (server.session client).current) && may_want_room server body

-- A frame for which memory may be wanted.
abbrev pub MayWantMemory : ServerValue → Frame → Type 0
MayWantMemory state frame =
    may_want_memory (server_of state) frame.client frame.incarnation (body_of frame.body) ≡ true

-- A frame is refused as exhausted exactly where a number is lacking for it.
abbrev pub Refuses : ServerValue → Frame → ServerFault → Type 0
Refuses state frame refused = lacks_number_for state frame ≡ is_exhaustion refused

-- The bytes begin with a frame, of that many bytes, which is taken.
pub record TakesBytes (old : ServerValue) (bytes : List ℕ) (used : ℕ) (messages : List Message)
    (new : ServerValue) : Type 0 where
  pub frame : Frame
  pub read : IsFrameInSome old.limits frame (take used bytes)
  pub within : used ≤ length bytes
  pub takes : Takes old frame messages new

-- The bytes begin with a frame, for which memory may be wanted, and which is refused.
pub record RefusesBytes (state : ServerValue) (bytes : List ℕ) (refused : ServerFault)
    : Type 0 where
  pub frame : Frame
  pub used : ℕ
  pub within : used ≤ length bytes
  pub read : IsFrameInSome state.limits frame (take used bytes)
  pub refuses : Refuses state frame refused
  pub needed : MayWantMemory state frame

-- No frame was read: the bytes begin with none, for that cause, or memory was refused for the one
-- that they begin with. Or the frame was read, and is refused.
abbrev pub IsBytesFault : ServerValue → List ℕ → BytesFault ServerFault → Type 0
IsBytesFault state bytes (reading.Frame found) =
    first_fault (causes state.limits bytes) ≡ fault_in_bytes found
IsBytesFault state bytes (reading.Taker refused) = RefusesBytes state bytes refused
