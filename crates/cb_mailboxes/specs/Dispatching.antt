-- A server with mailboxes as its callers see it, and what its steps put into them.
use Rattle.std.specs.Prelude.{◌≡◌, ◌≢◌, ℕ, ◌==◌, ◌||◌, if◌then◌else◌, List, [], ◌++◌, drop}
use Rattle.cb_mailboxes.specs.Mailboxes.{MailboxesState, addressed, current_in, is_said_to}
use Rattle.cb_mailboxes.specs.Mailboxes.{mailbox_in}
use Rattle.cb_frame.specs.declared.frame.Frame.{Frame}
use Rattle.cb_page.specs.Clients.{Clients, has}
use Rattle.cb_outbox.specs.Messages.{messages_of}
use Rattle.cb_protocol.specs.AnyMessages.{Input}
use Rattle.cb_protocol.specs.Server.{Server}
use Rattle.cb_server.specs.ServerValue as server
use Rattle.cb_server.specs.ServerValue.{ServerValue}
use Rattle.cb_server.specs.Taking.{Does}

-- a server, and what is to be sent to its clients
pub record DispatcherState : Type 0 where
  pub server : ServerValue
  pub mailboxes : MailboxesState

-- the protocol's server that it has
abbrev pub server_of : DispatcherState → Server
server_of state = server.server_of state.server

-- the commits up to a number are forgotten
abbrev pub forgot : DispatcherState → ℕ → DispatcherState
forgot state number = record state { server = server.forgot state.server number }

-- who is to be told that there is something for it
abbrev pub untold_in : DispatcherState → Clients
untold_in state = state.mailboxes.untold

-- only who is to be told changes
abbrev pub with_untold : DispatcherState → Clients → DispatcherState
with_untold state clients =
    record state { mailboxes = record state.mailboxes { untold = clients } }

-- what is to be sent to a client, the oldest frame first
abbrev pub mailbox_of : DispatcherState → (client : ℕ) → List Frame
mailbox_of state client = mailbox_in (current_in (server_of state)) state.mailboxes client

-- Nothing changes but room.
pub record IsUnchanged (old new : DispatcherState) : Type 0 where
  pub server : server.IsUnchanged old.server new.server
  pub mailbox : (client : ℕ) → mailbox_of new client ≡ mailbox_of old client
  pub untold : untold_in new ≡ untold_in old

-- The server does what the protocol's does at the input. To each client that hears of it is to be
-- sent what was to be sent before, and then what the server says to its current incarnation, in
-- order; and to be told is, beside who was before, each to whom the server says something.
pub record Posts (old : DispatcherState) (input : Input) (before : ℕ → List Frame)
    (Hears : ℕ → Type 0) (new : DispatcherState) : Type 0 where
  pub said : List Frame
  pub does : Does old.server input (messages_of said) new.server
  pub mailbox : (client : ℕ) → Hears client → mailbox_of new client
      ≡ before client ++ addressed (current_in (server_of new)) client said
  pub untold : (client : ℕ) → Hears client
      → has (untold_in new) client ≡ (has (untold_in old) client || is_said_to client said)

-- everybody hears; everybody else does
abbrev pub Everybody : ℕ → Type 0
Everybody client = Unit {0}

abbrev pub Others : (client : ℕ) → ℕ → Type 0
Others client other = other ≢ client

-- what is to be sent, but nothing to that client
abbrev pub emptied : (ℕ → List Frame) → (client : ℕ) → ℕ → List Frame
emptied before client other = if other == client then [] else before other

-- what is to be sent once that client has collected its oldest frame
abbrev pub without_oldest : (ℕ → List Frame) → (client : ℕ) → ℕ → List Frame
without_oldest before client other =
    if other == client then drop 1 (before client) else before other
