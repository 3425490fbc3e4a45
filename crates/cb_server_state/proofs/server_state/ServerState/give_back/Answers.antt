-- Goals of `ServerState::give_back`.
use Rattle.cb_server_state.proofs.Steps.{removes_both}
use Rattle.cb_server_state.proofs.server_state.ServerState.give_back.Goals as goal

pub returns-then-self-clause-does : goal.returns-then-self-clause-does
returns-then-self-clause-does c = removes_both _ _ _ _ _ c.if-self.true c.give_back.ensures c.clear_writer_if.ensures
