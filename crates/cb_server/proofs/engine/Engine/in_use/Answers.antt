-- Goals of `Engine::in_use`.
use Rattle.cb_server.proofs.Beginning.{stands_in}
use Rattle.cb_server.proofs.engine.Engine.in_use.Goals as goal

pub begin-requires-clause-stands : goal.begin-requires-clause-stands
begin-requires-clause-stands c =
    stands_in c.args.self.now c.state.result.now c.args.client c.args.txn c.standing-standing.result c.state.ensures.value c.standing-standing.ensures.value c.standing-standing.ensures.last
