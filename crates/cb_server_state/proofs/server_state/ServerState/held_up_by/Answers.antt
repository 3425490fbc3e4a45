-- Goals of `ServerState::held_up_by`.
use Rattle.std.proofs.Common.{rules}
use Rattle.cb_server_state.proofs.server_state.ServerState.held_up_by.Goals as goal

pub returns-in-Some-holder_in_use-clause-first : goal.returns-in-Some-holder_in_use-clause-first
returns-in-Some-holder_in_use-clause-first c = search rules
