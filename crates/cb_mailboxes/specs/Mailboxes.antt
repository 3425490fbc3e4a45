-- What is to be sent to each client.
use Rattle.std.specs.Prelude.{◌≡◌, ◌<◌, ℕ, Bool, true, false, ◌&&◌, ◌==◌, List, [], ◌∷◌, ◌++◌}
use Rattle.std.specs.Prelude.{length, reverse, slice_index_or}
use Rattle.std.specs.List.{filter, list_any}
use Rattle.cb_frame.specs.declared.frame.Frame.{Frame}
use Rattle.cb_page.specs.Clients.{Clients, has}
use Rattle.cb_protocol.specs.Server.{Server}

-- the incarnation of each client that is current
abbrev pub current_in : Server → ℕ → ℕ
current_in server client = (server.session client).current

-- the frame is for that client, at its current incarnation
abbrev pub is_for : (current : ℕ → ℕ) → (client : ℕ) → Frame → Bool
is_for current client frame = (frame.client == client) && (frame.incarnation == current client)

-- what of these frames is for it
abbrev pub addressed : (current : ℕ → ℕ) → (client : ℕ) → List Frame → List Frame
addressed current client frames = filter (is_for current client) frames

-- something of these frames is for the client, at whatever incarnation
abbrev pub is_said_to : (client : ℕ) → List Frame → Bool
is_said_to client frames = list_any (λ frame. frame.client == client) frames

-- mailboxes by client, the oldest frame first; what was said last, the newest first; and who is to
-- be told that there is something for it
pub record MailboxesState : Type 0 where
  pub boxes : List (List Frame)
  pub late : List Frame
  pub untold : Clients

-- nobody is in the set
abbrev pub IsNobody : Clients → Type 0
IsNobody clients = (client : ℕ) → has clients client ≡ false

-- what is to be sent to a client
abbrev pub mailbox_in : (current : ℕ → ℕ) → MailboxesState → (client : ℕ) → List Frame
mailbox_in current mailboxes client =
    slice_index_or mailboxes.boxes client [] ++ addressed current client (reverse mailboxes.late)

-- The same is to be sent to each client, and the same ones are to be told.
pub record AsBefore (current : ℕ → ℕ) (old new : MailboxesState) : Type 0 where
  pub mailbox : (client : ℕ) → mailbox_in current new client ≡ mailbox_in current old client
  pub clients : length new.boxes ≡ length old.boxes
  pub untold : new.untold ≡ old.untold

-- the last of these frames goes behind those
pub record Moves (late box new_late new_box : List Frame) : Type 0 where
  pub frame : Frame
  pub taken : late ≡ new_late ++ frame ∷ []
  pub put : new_box ≡ box ++ frame ∷ []

-- one frame fewer is late, or none was
abbrev pub Places : (late new_late : List Frame) → Bool → Type 0
Places late new_late true = length new_late < length late
Places late new_late false = new_late ≡ []
