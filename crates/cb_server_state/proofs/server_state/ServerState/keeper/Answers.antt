-- Goals of `ServerState::keeper`.
use Rattle.std.proofs.Common.{rules}
use Rattle.cb_server_state.proofs.server_state.ServerState.keeper.Goals as goal

pub returns : goal.returns
returns c = search rules
