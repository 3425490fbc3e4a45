-- Goals of `Engine::apply`.
use Rattle.cb_outbox.specs.Messages.{page_writes}
use Rattle.cb_protocol.specs.Messages.{Commit}
use Rattle.cb_server.proofs.Making.{takes}
use Rattle.cb_server.proofs.Rooms.{settles_after_answer}
use Rattle.cb_server.proofs.engine.Engine.apply.Goals as goal

pub settle-requires : goal.settle-requires
settle-requires c =
    settles_after_answer c.args.self.now c.commit.new.self c.args.client (Commit c.args.txn (page_writes c.args.writes)) c.requires.waits.room c.requires.waits.number c.in_ok-commit.ensures.ok

pub returns-clause-ok : goal.returns-clause-ok
returns-clause-ok c =
    takes c.args.self.now c.commit.new.self c.settle.new.self c.args.client (Commit c.args.txn (page_writes c.args.writes)) c.in_ok-commit.ensures.ok c.settle.ensures
