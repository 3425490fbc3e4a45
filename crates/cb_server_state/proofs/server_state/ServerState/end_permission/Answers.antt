-- Goals of `ServerState::end_permission`.
use Rattle.cb_server_state.proofs.Steps.{ends_permission}
use Rattle.cb_server_state.proofs.server_state.ServerState.end_permission.Goals as goal

pub returns-clause-does : goal.returns-clause-does
returns-clause-does c = ends_permission _ _ _ _ c.clear_writer_if.ensures
