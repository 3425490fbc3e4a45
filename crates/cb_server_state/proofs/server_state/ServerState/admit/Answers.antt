-- Goals of `ServerState::admit`.
use Rattle.cb_server_state.proofs.Steps.{admits}
use Rattle.cb_server_state.proofs.server_state.ServerState.admit.Goals as goal

pub returns-clause-does : goal.returns-clause-does
returns-clause-does c =
    rw c.hello.ensures
    (admits _ c.args.client c.args.incarnation _ _ _ c.requires.client c.forget_client.ensures
    (record { removed = c.forget.ensures.asks; cleared = c.forget.ensures.marks }))
