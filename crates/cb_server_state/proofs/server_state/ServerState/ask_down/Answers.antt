-- Goals of `ServerState::ask_down`.
use Rattle.std.proofs.Common.{rules}
use Rattle.cb_server_state.proofs.server_state.ServerState.ask_down.Goals as goal

pub returns : goal.returns
returns c = search rules
