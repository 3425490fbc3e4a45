-- What holds at each turn of the loops of `ServerState::again_doomed`.
use Rattle.cb_outbox.specs.Saying.{Says}
use Rattle.cb_server_state.specs.Asking.{abort_to}
use Rattle.cb_server_state.specs.States.{server_of}
use Rattle.cb_server_state.proofs.Walks.{up_to}
use Rattle.cb_server_state.proofs.server_state.ServerState.again_doomed.Given as goal

-- it was sent to the doomed before the client
abbrev pub invariant-loop-client : goal.invariant-loop-client
invariant-loop-client l = Says (server_of l.self) (λ server. up_to (abort_to (server_of l.self)) l.client) (server_of l.self) l.initial.outbox l.outbox
