-- Goals of `Engine::again`.
use Rattle.std.proofs.Common.{◌≤◌, length, refl, sym, ap, ◌∙◌, arith}
use Rattle.cb_protocol.specs.Resend.{server_again}
use Rattle.cb_server_state.proofs.Lost.{none_sent, some_sent}
use Rattle.cb_server.specs.Answering.{HasLittleRoom, most_room, server_in}
use Rattle.cb_server.specs.declared.engine.Engine.{Engine}
use Rattle.cb_server.proofs.Making.{if_err, serves, serves_again, stays_same}
use Rattle.cb_server.proofs.engine.Engine.again.Goals as goal

pub returns-then-not-says-clause-ok : goal.returns-then-not-says-clause-ok
returns-then-not-says-clause-ok c =
    serves_again c.args.self.now (none_sent (server_again (server_in c.args.self.now)) (sym c.sends_again-says.ensures ∙ c.if-not-says.true))

pub returns-in_err-reserve-clause-needed : goal.returns-in_err-reserve-clause-needed
returns-in_err-reserve-clause-needed c =
    if_err c.from_residual.result (some_sent (server_again (server_in c.args.self.now)) (sym c.sends_again-says.ensures ∙ c.if-not-says.false))

pub again-requires-clause-room : goal.again-requires-clause-room
again-requires-clause-room c =
    let more = c.in_ok-reserve.ensures.room in let same = ap length c.reserve.ensures.sent in
    let few = c.messages_to_settle.ensures.messages in let clients = c.clients.ensures.value ∙ sym c.requires.of.clients in
    c.resending_is_bounded.ensures.by_kind c.reserve.new.self (omega (arith, more, same, few, clients))

pub returns-clause-ok : goal.returns-clause-ok
returns-clause-ok c =
    serves c.args.self.now middle (record { callbacks = c.args.self.now.callbacks; outbox = c.again.new.outbox }) server_again
    (record { server = refl; rest = refl; sent = c.reserve.ensures.sent; page_size = c.reserve.ensures.page_size; few = λ few. let most = c.reserve.ensures.most in omega (arith, few, most); room = little })
    (record { says = c.again.ensures; stays = stays_same c.args.self.now.callbacks.state })
  where
    middle : Engine
    middle = record { callbacks = c.args.self.now.callbacks; outbox = c.reserve.new.self }

    little : HasLittleRoom c.args.self.now → middle.outbox.room ≤ most_room c.args.self.now
    little few = let most = c.reserve.ensures.most_room in let asks = c.messages_to_settle.ensures.messages in let clients = c.clients.ensures.in_range.clients in let value = c.clients.ensures.value in omega (arith, few, most, asks, clients, value)

pub returns-in_err-reserve-clause-left : goal.returns-in_err-reserve-clause-left
returns-in_err-reserve-clause-left c = if_err c.from_residual.result (record {
  server = refl;
  rest = refl;
  sent = c.reserve.ensures.sent;
  page_size = c.reserve.ensures.page_size;
  few = λ few. let most = c.reserve.ensures.most in omega (arith, few, most);
  room = λ little. let most = c.reserve.ensures.most_room in let asks = c.messages_to_settle.ensures.messages in let clients = c.clients.ensures.in_range.clients in let value = c.clients.ensures.value in omega (arith, little, most, asks, clients, value);
})
