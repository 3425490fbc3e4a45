-- What holds at each turn of the loops of `ServerState::again_pages`.
use Rattle.std.proofs.Common.{◌≤◌, ◌-◌}
use Rattle.cb_outbox.specs.Saying.{Says}
use Rattle.cb_server_state.specs.States.{server_of}
use Rattle.cb_server_state.proofs.Again.{page_again}
use Rattle.cb_server_state.proofs.Walks.{up_to}
use Rattle.cb_server_state.proofs.server_state.ServerState.again_pages.Given as goal

-- it was sent again for the pages before `from`
abbrev pub invariant-loop-page : goal.invariant-loop-page
invariant-loop-page l = record {
  says : Says (server_of l.self) (λ server. up_to (page_again (server_of l.self)) l.from) (server_of l.self) l.initial.outbox l.outbox;
  within : l.from ≤ (server_of l.self).pages;
}

abbrev pub decreases-loop-page : goal.decreases-loop-page
decreases-loop-page l = (server_of l.self).pages - l.from
