-- What holds at each turn of the loops of `ServerState::aborts_again`.
use Rattle.std.proofs.Common.{◌≡◌, false}
use Rattle.cb_server_state.specs.Asking.{abort_to, sends_any}
use Rattle.cb_server_state.specs.States.{server_of}
use Rattle.cb_server_state.proofs.Walks.{up_to}
use Rattle.cb_server_state.proofs.server_state.ServerState.aborts_again.Given as goal

-- nobody before the client is doomed
abbrev pub invariant-loop-client : goal.invariant-loop-client
invariant-loop-client l = sends_any (up_to (abort_to (server_of l.self)) l.client) ≡ false
