-- Goals of `Engine::give_back`.
use Rattle.std.proofs.Common.{rules, ◌≡◌, true, refl}
use Rattle.cb_protocol.specs.Server.{has_row}
use Rattle.cb_server.specs.Answering.{server_in}
use Rattle.cb_server.proofs.DirectAnswers.{gives_back}
use Rattle.cb_server.proofs.engine.Engine.give_back.Goals as goal

pub returns-then-has_row : goal.returns-then-has_row
returns-then-has_row c =
    let e : has_row (server_in c.args.self.now) c.args.client c.args.page c.args.grant ≡ true = search rules in
    gives_back c.args.self.now (record { callbacks = c.give_back.new.self; outbox = c.args.self.now.outbox }) c.args.client c.args.page c.args.grant e
    (c.give_back.ensures c.args.grant) refl
