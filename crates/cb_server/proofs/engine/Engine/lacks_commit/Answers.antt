-- Goals of `Engine::lacks_commit`.
use Rattle.cb_outbox.specs.Messages.{page_writes}
use Rattle.cb_server.proofs.Beginning.{stands_in}
use Rattle.cb_server.proofs.engine.Engine.lacks_commit.Goals as goal

pub is_applied-is_applied-requires-clause-stands : goal.is_applied-is_applied-requires-clause-stands
is_applied-is_applied-requires-clause-stands c =
    stands_in c.args.self.now c.state.result.now c.args.client c.args.txn c.standing-standing.result c.state.ensures.value c.standing-standing.ensures.value c.standing-standing.ensures.last

pub returns : goal.returns
returns c = c.lacks_number_if_applied.ensures (page_writes c.args.writes.now) c.is_applied-is_applied.ensures
