-- What holds at each turn of the loops of `ServerState::call_back`.
use Rattle.std.proofs.Common.{◌≤◌, ◌-◌}
use Rattle.cb_page.specs.Clients.{has}
use Rattle.cb_outbox.specs.Saying.{Says}
use Rattle.cb_server_state.specs.Asking.{callback_to}
use Rattle.cb_server_state.specs.States.{server_of}
use Rattle.cb_server_state.proofs.Walks.{up_to}
use Rattle.cb_server_state.proofs.server_state.ServerState.call_back.Given as goal

-- those before `from` were called
abbrev pub invariant-loop-client : goal.invariant-loop-client
invariant-loop-client l = record {
  says : Says (server_of l.self) (λ server. up_to (callback_to (server_of l.self) (has l.left_out) l.page l.asker) l.from) (server_of l.self) l.initial.outbox l.outbox;
  within : l.from ≤ (server_of l.self).clients;
}

abbrev pub decreases-loop-client : goal.decreases-loop-client
decreases-loop-client l = 32 - l.from
