-- Goals of `ServerState::again_page`.
use Rattle.std.proofs.Common.{rules}
use Rattle.cb_server_state.proofs.server_state.ServerState.again_page.Goals as goal

pub call_back-requires-clause-room : goal.call_back-requires-clause-room
call_back-requires-clause-room c = search rules

pub returns-then-is_some : goal.returns-then-is_some
returns-then-is_some c = search rules
