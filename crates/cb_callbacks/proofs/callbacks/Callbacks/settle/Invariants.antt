-- What holds at each turn of the loops of `Callbacks::settle`.
use Rattle.std.proofs.Common.{◌≤◌, ◌-◌, ◌+◌}
use Rattle.cb_server_state.specs.States.{server_of}
use Rattle.cb_server_state.specs.Waits.{Waits}
use Rattle.cb_server_state.specs.States.{Stays}
use Rattle.cb_outbox.specs.Saying.{Says}
use Rattle.cb_protocol.specs.Basics.{max_number}
use Rattle.cb_protocol.specs.Numbers.{first_free_grant}
use Rattle.cb_protocol.specs.Settling.{settle_pages}
use Rattle.cb_protocol.specs.WaitsFor.{on_cycle}
use Rattle.cb_callbacks.proofs.callbacks.Callbacks.settle.Given as goal

-- the pages before `from` are settled
abbrev pub invariant-loop-page : goal.invariant-loop-page
invariant-loop-page l = record {
  says : Says (server_of l.initial.self.state) (λ server. settle_pages on_cycle server l.from) (server_of l.self.state) l.initial.outbox l.outbox;
  within : l.from ≤ (server_of l.self.state).pages;
  left : first_free_grant (server_of l.self.state) ≤ max_number + 1;
  waits : Waits (server_of l.initial.self.state);
  stays : Stays l.initial.self.state l.self.state;
}

abbrev pub decreases-loop-page : goal.decreases-loop-page
decreases-loop-page l = (server_of l.self.state).pages - l.from
