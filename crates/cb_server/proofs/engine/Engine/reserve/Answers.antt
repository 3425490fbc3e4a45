-- Goals of `Engine::reserve`.
use Rattle.std.proofs.Common.{◌≡◌, ◌+◌, ℕ, length, refl, ap, arith}
use Rattle.cb_protocol.specs.Server.{Server}
use Rattle.cb_server.specs.Answering.{asks_in_all, server_in}
use Rattle.cb_server.proofs.Making.{if_err}
use Rattle.cb_server.proofs.Rooms.{no_messages_below, no_reads_below, nobody_by, some_asked}
use Rattle.cb_server.proofs.engine.Engine.reserve.Goals as goal

pub returns-clause-left : goal.returns-clause-left
returns-clause-left c = record {
  server = refl;
  rest = refl;
  sent = c.reserve.ensures.sent;
  page_size = c.reserve.ensures.page_size;
  few = λ few. let most = c.reserve.ensures.most in let reads = c.read_asks.ensures.few in let more = c.requires.one in omega (arith, few, most, reads, more);
  room = λ little. let most = c.reserve.ensures.most_room in let asks = c.messages_to_settle.ensures.messages in let more = c.requires.few in omega (arith, little, most, asks, more);
}

pub returns-clause-most : goal.returns-clause-most
returns-clause-most c = let most = c.reserve.ensures.most in let reads = c.read_asks.ensures.reads in omega (arith, most, reads)

pub returns-clause-most_room : goal.returns-clause-most_room
returns-clause-most_room c = let most = c.reserve.ensures.most_room in let asks = c.messages_to_settle.ensures.messages in omega (arith, most, asks)

pub returns-clause-nobody : goal.returns-clause-nobody
returns-clause-nobody c =
    nobody_by (server_in c.args.self.now) (c.messages_to_settle.result + c.args.messages) c.args.messages
    (ap (λ (most : ℕ). most + c.args.messages) c.messages_to_settle.ensures.messages)

pub returns-in_err-reserve-clause-left : goal.returns-in_err-reserve-clause-left
returns-in_err-reserve-clause-left c = record {
  server = refl;
  rest = refl;
  sent = c.reserve.ensures.sent;
  page_size = c.reserve.ensures.page_size;
  few = λ few. let most = c.reserve.ensures.most in let reads = c.read_asks.ensures.few in let more = c.requires.one in omega (arith, few, most, reads, more);
  room = λ little. let most = c.reserve.ensures.most_room in let asks = c.messages_to_settle.ensures.messages in let more = c.requires.few in omega (arith, little, most, asks, more);
}

pub returns-in_err-reserve-clause-most : goal.returns-in_err-reserve-clause-most
returns-in_err-reserve-clause-most c = let most = c.reserve.ensures.most in let reads = c.read_asks.ensures.reads in omega (arith, most, reads)

pub returns-in_err-reserve-clause-most_room : goal.returns-in_err-reserve-clause-most_room
returns-in_err-reserve-clause-most_room c = let most = c.reserve.ensures.most_room in let asks = c.messages_to_settle.ensures.messages in omega (arith, most, asks)

pub returns-in_err-reserve-clause-needed : goal.returns-in_err-reserve-clause-needed
returns-in_err-reserve-clause-needed c =
    if_err c.from_residual.result (some_asked (c.args.messages + c.args.copies + asks_in_all c.args.self.now) (λ none.
    let nobody : asks_in_all c.args.self.now ≡ 0 = omega (arith, none) in
    let sent = ap length c.requires.ready.sent in
    let asks = c.messages_to_settle.ensures.messages in let reads = c.read_asks.ensures.reads in
    let no_asks = no_messages_below s s.pages nobody in let no_reads = no_reads_below s s.pages nobody in
    c.in_err-reserve.ensures.succeeds (omega (arith, none, sent, asks, no_asks)) (omega (arith, none, reads, no_reads))))
  where
    s : Server
    s = server_in c.args.self.now
