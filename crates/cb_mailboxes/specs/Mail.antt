-- Where the frames in the mailboxes come from, and what they bring.
use Rattle.std.specs.Prelude.{◌≡◌, ◌⊎◌, ℕ, List}
use Rattle.cb_frame.specs.declared.frame.Frame.{Frame}
use Rattle.cb_laws.specs.RowVersions.{HasRow, IsAsStored, WroteSince}
use Rattle.cb_mailboxes.specs.Dispatching.{DispatcherState, mailbox_of, server_of}
use Rattle.cb_outbox.specs.Messages.{body_of, message_of}
use Rattle.cb_protocol.specs.Basics.{Bytes, IsIn}
use Rattle.cb_protocol.specs.Messages.{Granted, Message}
use Rattle.cb_protocol.specs.Server.{Server}
use Rattle.cb_server.specs.Said.{HasSaid}

-- A copy of the client's row. The frame is for the client's current incarnation, and it has the
-- store's bytes and version, save where the client itself wrote the page since, by the row's grant.
pub record IsCopyOfRow (server : Server) (client : ℕ) (frame : Frame)
    (page grant version : ℕ) (bytes : Bytes) : Type 0 where
  pub current : frame.incarnation ≡ (server.session client).current
  pub stored : IsAsStored server page version bytes ⊎ WroteSince server client page grant version

-- A frame for that client. A Granted by the grant of a row that stands is a copy of that row.
pub record IsMailFor (server : Server) (client : ℕ) (frame : Frame) : Type 0 where
  pub addressed : frame.client ≡ client
  pub copy : (page grant version : ℕ) (bytes : Bytes)
      → body_of frame.body ≡ Granted page grant version bytes → HasRow server client page grant
      → IsCopyOfRow server client frame page grant version bytes

-- There is a list of all that the server's calls answered since it was made, whatever came. Each
-- frame in a mailbox is in that list, and is mail for the mailbox's client.
pub record HasMail (state : DispatcherState) : Type 0 where
  pub sent : List Message
  pub by_server : HasSaid state.server sent
  pub said : (client : ℕ) (frame : Frame) → IsIn frame (mailbox_of state client)
      → IsIn (message_of frame) sent
  pub mail : (client : ℕ) (frame : Frame) → IsIn frame (mailbox_of state client)
      → IsMailFor (server_of state) client frame
