-- Those in the way of a first ask.
use Rattle.std.specs.Prelude.{◌≡◌, ℕ, Bool, true, false, ◌||◌, ◌==◌, if◌then◌else◌, List, []}
use Rattle.std.specs.Prelude.{◌∷◌, Some}
use Rattle.cb_server_state.specs.States.{HasClient, server_of}
use Rattle.cb_server_state.specs.declared.server_state.ServerState.{ServerState}
use Rattle.cb_protocol.specs.Messages.{AbortNow}
use Rattle.cb_protocol.specs.Server.{Send, Server, ServerStep}
use Rattle.cb_protocol.specs.Settling.{keeps_permission, send_callback, send_to}

-- a Callback to a client, if it is another than the asker, isn't left out and has a copy
abbrev pub callback_to : Server → (left_out : ℕ → Bool) → (page asker client : ℕ) → List ServerStep
callback_to server left_out page asker client =
    if (client == asker) || left_out client then []
    else send_callback server client page ((server.session client).row page)

-- the client has the page's write permission and merely keeps it
pub record IsKeeper (state : ServerState) (page asker client : ℕ) : Type 0 where
  pub holds : (server_of state).store.holder page ≡ Some client
  pub keeps : keeps_permission (server_of state) page asker (Some client) ≡ true
  pub known : HasClient state client

-- AbortNow to a client whose transaction is doomed
abbrev pub abort_to : Server → (client : ℕ) → List ServerStep
abort_to server client =
    if server.doomed client
    then send_to server client (AbortNow (server.session client).txn) ∷ [] else []

-- one of the steps sends a message
abbrev pub sends_any : List ServerStep → Bool
sends_any [] = false
sends_any (Send client incarnation body ∷ steps) = true
sends_any (_ ∷ steps) = sends_any steps
