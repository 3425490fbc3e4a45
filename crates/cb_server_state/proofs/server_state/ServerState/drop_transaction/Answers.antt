-- Goals of `ServerState::drop_transaction`.
use Rattle.cb_server_state.proofs.Steps.{drops}
use Rattle.cb_server_state.proofs.server_state.ServerState.drop_transaction.Goals as goal

pub returns-clause-does : goal.returns-clause-does
returns-clause-does c =
    rw c.end.ensures
    (drops c.args.self.now c.args.client _ _ _ c.requires.client c.requires.agree c.requires.live c.clear_writers.ensures
    (record { removed = c.forget.ensures.asks; cleared = c.forget.ensures.marks }))
