-- What holds at each turn of the loops of `ServerState::asks_again`.
use Rattle.std.proofs.Common.{◌≡◌, ◌≤◌, ◌-◌, false}
use Rattle.cb_server_state.specs.Asking.{sends_any}
use Rattle.cb_server_state.specs.States.{server_of}
use Rattle.cb_server_state.proofs.Again.{page_again}
use Rattle.cb_server_state.proofs.Walks.{up_to}
use Rattle.cb_server_state.proofs.server_state.ServerState.asks_again.Given as goal

-- nothing is sent for the pages before `from`
abbrev pub invariant-loop-page : goal.invariant-loop-page
invariant-loop-page l = record {
  none : sends_any (up_to (page_again (server_of l.self)) l.from) ≡ false;
  within : l.from ≤ (server_of l.self).pages;
}

abbrev pub decreases-loop-page : goal.decreases-loop-page
decreases-loop-page l = (server_of l.self).pages - l.from
