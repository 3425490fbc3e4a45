-- Goals of `Engine::ask_read`.
use Rattle.std.proofs.Common.{◌∷◌, [], refl}
use Rattle.cb_protocol.specs.Messages.{AbortNow, AskRead}
use Rattle.cb_protocol.specs.ServerMessages.{direct_answer, take_ask_read}
use Rattle.cb_protocol.specs.Settling.{send_to}
use Rattle.cb_protocol.specs.WaitsFor.{on_cycle}
use Rattle.cb_server.specs.Answering.{server_in}
use Rattle.cb_server.proofs.Beginning.{current_begun, current_reserved, row_begun, row_left, stands_left}
use Rattle.cb_server.proofs.DirectAnswers.{doomed_answer, ended_answer, live_answer}
use Rattle.cb_server.proofs.Making.{answers_reserved, makes_as, makes_nothing, reserved}
use Rattle.cb_server.proofs.engine.Engine.ask_read.Goals as goal

pub begin_or_abort-requires-clause-current : goal.begin_or_abort-requires-clause-current
begin_or_abort-requires-clause-current c =
    current_reserved c.args.self.now (record { callbacks = c.reserve_ask.new.self; outbox = c.args.self.now.outbox }) c.args.client c.args.incarnation c.in_ok-reserve_ask.ensures.changes.becomes c.requires.current

pub ask_to_read-requires-clause-current : goal.ask_to_read-requires-clause-current
ask_to_read-requires-clause-current c =
    current_begun (record { callbacks = c.reserve_ask.new.self; outbox = c.args.self.now.outbox }) c.begin_or_abort.new.self c.args.client c.args.txn c.args.incarnation c.in-Live.ensures.begins
    (current_reserved c.args.self.now (record { callbacks = c.reserve_ask.new.self; outbox = c.args.self.now.outbox }) c.args.client c.args.incarnation c.in_ok-reserve_ask.ensures.changes.becomes c.requires.current)

pub returns-in-Live-clause-ok : goal.returns-in-Live-clause-ok
returns-in-Live-clause-ok c =
    answers_reserved c.args.self.now (record { callbacks = c.reserve_ask.new.self; outbox = c.args.self.now.outbox }) c.begin_or_abort.new.self c.ask_to_read.new.self c.args.client c.args.txn (AskRead c.args.txn c.args.page) refl
    (reserved c.args.self.now (record { callbacks = c.reserve_ask.new.self; outbox = c.args.self.now.outbox }) c.in_ok-reserve_ask.ensures.changes refl) c.in-Live.ensures.begins
    (makes_as c.begin_or_abort.new.self c.ask_to_read.new.self (λ s. direct_answer on_cycle s c.args.client (AskRead c.args.txn c.args.page)) (λ s. take_ask_read on_cycle s c.args.client c.args.page ((s.session c.args.client).row c.args.page))
    (live_answer (server_in c.begin_or_abort.new.self) c.args.client c.args.txn _ c.in-Live.ensures.stands) c.ask_to_read.ensures)

pub returns-in-Doomed-clause-ok : goal.returns-in-Doomed-clause-ok
returns-in-Doomed-clause-ok c =
    let doomed = c.in-Doomed.ensures in
    answers_reserved c.args.self.now (record { callbacks = c.reserve_ask.new.self; outbox = c.args.self.now.outbox }) doomed.between c.begin_or_abort.new.self c.args.client c.args.txn (AskRead c.args.txn c.args.page) refl
    (reserved c.args.self.now (record { callbacks = c.reserve_ask.new.self; outbox = c.args.self.now.outbox }) c.in_ok-reserve_ask.ensures.changes refl) doomed.has.begins
    (makes_as doomed.between c.begin_or_abort.new.self (λ s. direct_answer on_cycle s c.args.client (AskRead c.args.txn c.args.page)) (λ s. send_to s c.args.client (AbortNow c.args.txn) ∷ [])
    (doomed_answer (server_in doomed.between) c.args.client c.args.txn _ doomed.has.stands) doomed.told)

pub returns-in-Ended-clause-ok : goal.returns-in-Ended-clause-ok
returns-in-Ended-clause-ok c =
    answers_reserved c.args.self.now (record { callbacks = c.reserve_ask.new.self; outbox = c.args.self.now.outbox }) c.begin_or_abort.new.self c.begin_or_abort.new.self c.args.client c.args.txn (AskRead c.args.txn c.args.page) refl
    (reserved c.args.self.now (record { callbacks = c.reserve_ask.new.self; outbox = c.args.self.now.outbox }) c.in_ok-reserve_ask.ensures.changes refl) c.in-Ended.ensures.begins
    (makes_as c.begin_or_abort.new.self c.begin_or_abort.new.self (λ s. direct_answer on_cycle s c.args.client (AskRead c.args.txn c.args.page)) (λ s. [])
    (ended_answer (server_in c.begin_or_abort.new.self) c.args.client c.args.txn _ c.in-Ended.ensures.stands) (makes_nothing c.begin_or_abort.new.self))

pub begin_or_abort-requires-clause-stands : goal.begin_or_abort-requires-clause-stands
begin_or_abort-requires-clause-stands c =
    stands_left c.args.self.now (record { callbacks = c.reserve_ask.new.self; outbox = c.args.self.now.outbox }) c.args.client c.args.txn c.args.standing
    c.in_ok-reserve_ask.ensures.changes.becomes c.requires.stands

pub ask_to_read-requires-clause-row : goal.ask_to_read-requires-clause-row
ask_to_read-requires-clause-row c =
    row_begun (record { callbacks = c.reserve_ask.new.self; outbox = c.args.self.now.outbox }) c.begin_or_abort.new.self c.args.client c.args.txn c.args.page c.args.row c.in-Live.ensures.begins
    (row_left c.args.self.now (record { callbacks = c.reserve_ask.new.self; outbox = c.args.self.now.outbox }) c.args.client c.args.page c.args.row c.in_ok-reserve_ask.ensures.changes.becomes c.requires.row)
