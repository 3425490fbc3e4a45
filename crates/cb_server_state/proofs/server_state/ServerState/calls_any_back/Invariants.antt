-- What holds at each turn of the loops of `ServerState::calls_any_back`.
use Rattle.std.proofs.Common.{◌≡◌, ◌≤◌, ◌-◌, false}
use Rattle.cb_page.specs.Clients.{has}
use Rattle.cb_server_state.specs.Asking.{callback_to, sends_any}
use Rattle.cb_server_state.specs.States.{server_of}
use Rattle.cb_server_state.proofs.Walks.{up_to}
use Rattle.cb_server_state.proofs.server_state.ServerState.calls_any_back.Given as goal

-- none before `from` is called back
abbrev pub invariant-loop-client : goal.invariant-loop-client
invariant-loop-client l = record {
  none : sends_any (up_to (callback_to (server_of l.self) (has l.left_out) l.page l.asker) l.from) ≡ false;
  within : l.from ≤ (server_of l.self).clients;
}

abbrev pub decreases-loop-client : goal.decreases-loop-client
decreases-loop-client l = 32 - l.from
