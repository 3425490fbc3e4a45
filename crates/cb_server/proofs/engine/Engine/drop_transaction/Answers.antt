-- Goals of `Engine::drop_transaction`.
use Rattle.std.proofs.Common.{◌≡◌, ◌∙◌, true, refl}
use Rattle.cb_protocol.specs.Server.{has_not_ended}
use Rattle.cb_server.specs.Answering.{server_in}
use Rattle.cb_server.proofs.Beginning.{stands_in}
use Rattle.cb_server.proofs.DirectAnswers.{drops, lives_or_not}
use Rattle.cb_server.proofs.engine.Engine.drop_transaction.Goals as goal

pub returns-then-lives : goal.returns-then-lives
returns-then-lives c =
    let e : has_not_ended (server_in c.begin.new.self) c.args.client c.args.txn ≡ true =
    c.lives.ensures (server_in c.begin.new.self) c.args.client c.args.txn c.begin.ensures.stands ∙ c.if-lives.true in
    drops c.args.self.now c.begin.new.self (record { callbacks = c.drop_transaction.new.self; outbox = c.begin.new.self.outbox }) c.args.client c.args.txn c.begin.ensures.begins e
    (lives_or_not c.begin.result (server_in c.begin.new.self) c.args.client c.args.txn c.begin.ensures.stands e).0 c.drop_transaction.ensures refl

pub begin-requires-clause-stands : goal.begin-requires-clause-stands
begin-requires-clause-stands c =
    stands_in c.args.self.now c.state.result.now c.args.client c.args.txn c.standing-standing.result c.state.ensures.value c.standing-standing.ensures.value c.standing-standing.ensures.last
