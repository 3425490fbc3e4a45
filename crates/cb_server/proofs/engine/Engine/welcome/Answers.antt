-- Goals of `Engine::welcome`.
use Rattle.std.proofs.Common.{◌++◌, ◌∷◌, [], ◌∙◌, ap, refl, arith}
use Rattle.cb_outbox.specs.Saying.{OutboxState}
use Rattle.cb_protocol.specs.Messages.{Welcome}
use Rattle.cb_server.proofs.Making.{if_err, stays_same}
use Rattle.cb_server.proofs.engine.Engine.welcome.Goals as goal

pub returns-clause-ok : goal.returns-clause-ok
returns-clause-ok c = record {
  becomes = refl;
  sends = ap (λ (x : OutboxState). x.sent) c.say.ensures ∙ ap (λ l. l ++ record { client = c.args.client; incarnation = c.args.incarnation; body = Welcome } ∷ []) c.in_ok-reserve.ensures.sent;
  stays = stays_same c.args.self.now.callbacks.state;
  page_size = ap (λ (x : OutboxState). x.page_size) c.say.ensures ∙ c.in_ok-reserve.ensures.page_size;
  few = λ few. let same = ap (λ (x : OutboxState). x.spare) c.say.ensures in let most = c.in_ok-reserve.ensures.most in omega (arith, few, same, most);
  room = λ little. let same = ap (λ (x : OutboxState). x.room) c.say.ensures in let most = c.in_ok-reserve.ensures.most_room in omega (arith, little, same, most);
}

pub returns-in_err-reserve-clause-left : goal.returns-in_err-reserve-clause-left
returns-in_err-reserve-clause-left c = if_err c.from_residual.result (record {
  server = refl;
  rest = refl;
  sent = c.reserve.ensures.sent;
  page_size = c.reserve.ensures.page_size;
  few = λ few. let most = c.reserve.ensures.most in omega (arith, few, most);
  room = λ little. let most = c.reserve.ensures.most_room in omega (arith, little, most);
})
