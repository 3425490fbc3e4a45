-- Goals of `ServerState::standing`.
use Rattle.cb_server_state.proofs.Steps.{last_if_live}
use Rattle.cb_server_state.proofs.server_state.ServerState.standing.Goals as goal

pub returns-clause-last : goal.returns-clause-last
returns-clause-last c = rw c.standing.ensures (last_if_live _ c.args.client c.args.txn c.requires.agree)
