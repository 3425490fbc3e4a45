-- Goals of `Engine::serve_other`.
use Rattle.std.proofs.Common.{rules, ◌≡◌, [], true}
use Rattle.cb_outbox.specs.Messages.{short_of}
use Rattle.cb_protocol.specs.Messages.{to_server}
use Rattle.cb_protocol.specs.Server.{server_after}
use Rattle.cb_protocol.specs.ServerMessages.{begin_transaction, named_txn, take_current}
use Rattle.cb_protocol.specs.WaitsFor.{on_cycle}
use Rattle.cb_server.specs.Answering.{server_in}
use Rattle.cb_server.proofs.Greeting.{answered_may_want, ignored, lacks_none_other, no_copies, room_may_want}
use Rattle.cb_server.proofs.Making.{if_err, left_then, serves, serves_as, serves_nothing, takes}
use Rattle.cb_server.proofs.Rooms.{can_answer, can_say_to, settles_after_answer}
use Rattle.cb_server.proofs.engine.Engine.serve_other.Goals as goal

pub answer-requires-clause-room : goal.answer-requires-clause-room
answer-requires-clause-room c =
    can_say_to c.reserve.new.self (short_of c.args.body.now)
    (can_answer c.args.self.now c.reserve.new.self c.args.limits.now (short_of c.args.body.now) c.messages_for_body.result 0 c.requires.of c.in_ok-reserve.ensures.left.server
    c.messages_for_body.ensures.messages (no_copies (short_of c.args.body.now) c.requires.other) c.in_ok-reserve.ensures.ok)

pub returns-then-not-is_for_server-clause-ok : goal.returns-then-not-is_for_server-clause-ok
returns-then-not-is_for_server-clause-ok c =
    serves_as c.args.self.now c.args.self.now (λ s. take_current on_cycle s c.args.client (short_of c.args.body.now)) (λ s. [])
    (ignored (server_in c.args.self.now) c.args.client (short_of c.args.body.now) (search rules) c.requires.ready.settled) (serves_nothing c.args.self.now)

pub settle-requires : goal.settle-requires
settle-requires c =
    settles_after_answer c.reserve.new.self c.answer.new.self c.args.client (short_of c.args.body.now)
    (can_answer c.args.self.now c.reserve.new.self c.args.limits.now (short_of c.args.body.now) c.messages_for_body.result 0 c.requires.of c.in_ok-reserve.ensures.left.server
    c.messages_for_body.ensures.messages (no_copies (short_of c.args.body.now) c.requires.other) c.in_ok-reserve.ensures.ok)
    (lacks_none_other c.args.body.now
    (server_after (server_in c.reserve.new.self) (begin_transaction (server_in c.reserve.new.self) c.args.client (named_txn (short_of c.args.body.now)))) c.args.client c.requires.other)
    c.in_ok-answer.ensures.ok

pub returns-clause-ok : goal.returns-clause-ok
returns-clause-ok c =
    serves c.args.self.now c.reserve.new.self c.settle.new.self (λ s. take_current on_cycle s c.args.client (short_of c.args.body.now)) c.in_ok-reserve.ensures.left
    (takes c.reserve.new.self c.answer.new.self c.settle.new.self c.args.client (short_of c.args.body.now) c.in_ok-answer.ensures.ok c.settle.ensures)

pub returns-in_err-reserve-clause-needed : goal.returns-in_err-reserve-clause-needed
returns-in_err-reserve-clause-needed c =
    let way : to_server (short_of c.args.body.now) ≡ true = search rules in
    if_err c.from_residual.result
    (room_may_want (server_in c.args.self.now) (short_of c.args.body.now) c.args.limits.now.clients c.messages_for_body.result 0 way
    c.messages_for_body.ensures.messages (no_copies (short_of c.args.body.now) c.requires.other) c.in_err-reserve.ensures.needed)

pub returns-in_err-answer-clause-needed : goal.returns-in_err-answer-clause-needed
returns-in_err-answer-clause-needed c =
    if_err c.from_residual-in_err-answer.result (answered_may_want (server_in c.args.self.now) (short_of c.args.body.now) c.in_err-answer.ensures.needed)

pub returns-in_err-answer-clause-left : goal.returns-in_err-answer-clause-left
returns-in_err-answer-clause-left c =
    if_err c.from_residual-in_err-answer.result (left_then c.args.self.now c.reserve.new.self c.answer.new.self c.in_ok-reserve.ensures.left c.in_err-answer.ensures.left)
