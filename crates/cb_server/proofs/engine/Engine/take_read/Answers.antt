-- Goals of `Engine::take_read`.
use Rattle.std.proofs.Common.{rules, ◌∙◌, ◌==◌, false, sym, ap, subst}
use Rattle.std.specs.Option.{is_some}
use Rattle.cb_asks.specs.Asks.{asks_below}
use Rattle.cb_callbacks.specs.Numbers as numbers
use Rattle.cb_protocol.specs.Messages.{AskRead}
use Rattle.cb_protocol.specs.Server.{Server}
use Rattle.cb_protocol.specs.ServerMessages.{take_current}
use Rattle.cb_protocol.specs.WaitsFor.{on_cycle}
use Rattle.cb_server.proofs.Beginning.{current_reserved, row_in, row_left, stands_in, stands_left}
use Rattle.cb_server.proofs.FreePages.{number_by}
use Rattle.cb_server.proofs.Making.{if_err, left_then, serves, takes}
use Rattle.cb_server.proofs.Rooms.{can_say_to, settles_after_answer}
use Rattle.cb_server.proofs.engine.Engine.take_read.Goals as goal

pub ask_read-requires-clause-current : goal.ask_read-requires-clause-current
ask_read-requires-clause-current c = current_reserved c.args.self.now c.reserve.new.self c.args.client c.args.incarnation c.in_ok-nobody_waits.ensures.left.server c.requires.current

pub ask_read-requires-clause-stands : goal.ask_read-requires-clause-stands
ask_read-requires-clause-stands c =
    stands_left c.args.self.now c.reserve.new.self c.args.client c.args.txn c.standing-standing.result c.in_ok-nobody_waits.ensures.left.server
    (stands_in c.args.self.now c.state-state.result.now c.args.client c.args.txn c.standing-standing.result c.state-state.ensures.value c.standing-standing.ensures.value c.standing-standing.ensures.last)

pub ask_read-requires-clause-row : goal.ask_read-requires-clause-row
ask_read-requires-clause-row c =
    row_left c.args.self.now c.reserve.new.self c.args.client c.args.page c.row-row.result c.in_ok-nobody_waits.ensures.left.server
    (row_in c.args.self.now c.state-state.result.now c.args.client c.args.page c.row-row.result c.state-state.ensures.value c.row-row.ensures.value)

pub ask_read-requires-clause-room : goal.ask_read-requires-clause-room
ask_read-requires-clause-room c = can_say_to c.reserve.new.self (AskRead c.args.txn c.args.page) c.in_ok-nobody_waits.ensures.ok

pub settle-requires : goal.settle-requires
settle-requires c =
    settles_after_answer c.reserve.new.self c.ask_read.new.self c.args.client (AskRead c.args.txn c.args.page) c.in_ok-nobody_waits.ensures.ok
    (subst (λ (s : Server). numbers.LacksNumber s c.args.client (AskRead c.args.txn c.args.page) false) (sym c.in_ok-nobody_waits.ensures.left.server)
    (c.lacks_grant.ensures c.args.txn c.args.page
    (stands_in c.args.self.now c.state-state.result.now c.args.client c.args.txn c.standing-standing.result c.state-state.ensures.value c.standing-standing.ensures.value c.standing-standing.ensures.last)
    (c.is_some.ensures ∙ ap is_some (row_in c.args.self.now c.state-state.result.now c.args.client c.args.page c.row-row.result c.state-state.ensures.value c.row-row.ensures.value))
    ∙ c.if-lacks_grant.false))
    c.in_ok-ask_read.ensures.ok

pub returns-clause-ok : goal.returns-clause-ok
returns-clause-ok c =
    serves c.args.self.now c.reserve.new.self c.settle.new.self (λ s. take_current on_cycle s c.args.client (AskRead c.args.txn c.args.page)) c.in_ok-nobody_waits.ensures.left
    (takes c.reserve.new.self c.ask_read.new.self c.settle.new.self c.args.client (AskRead c.args.txn c.args.page) c.in_ok-ask_read.ensures.ok c.settle.ensures)

pub returns-clause-taken : goal.returns-clause-taken
returns-clause-taken c =
    c.lacks_grant.ensures c.args.txn c.args.page
    (stands_in c.args.self.now c.state-state.result.now c.args.client c.args.txn c.standing-standing.result c.state-state.ensures.value c.standing-standing.ensures.value c.standing-standing.ensures.last)
    (c.is_some.ensures ∙ ap is_some (row_in c.args.self.now c.state-state.result.now c.args.client c.args.page c.row-row.result c.state-state.ensures.value c.row-row.ensures.value))
    ∙ c.if-lacks_grant.false

pub returns-then-lacks_grant-clause-err : goal.returns-then-lacks_grant-clause-err
returns-then-lacks_grant-clause-err c =
    c.lacks_grant.ensures c.args.txn c.args.page
    (stands_in c.args.self.now c.state-state.result.now c.args.client c.args.txn c.standing-standing.result c.state-state.ensures.value c.standing-standing.ensures.value c.standing-standing.ensures.last)
    (c.is_some.ensures ∙ ap is_some (row_in c.args.self.now c.state-state.result.now c.args.client c.args.page c.row-row.result c.state-state.ensures.value c.row-row.ensures.value))
    ∙ c.if-lacks_grant.true

pub returns-in_err-nobody_waits-clause-err : goal.returns-in_err-nobody_waits-clause-err
returns-in_err-nobody_waits-clause-err c =
    let none = c.lacks_grant.ensures c.args.txn c.args.page
    (stands_in c.args.self.now c.state-state.result.now c.args.client c.args.txn c.standing-standing.result c.state-state.ensures.value c.standing-standing.ensures.value c.standing-standing.ensures.last)
    (c.is_some.ensures ∙ ap is_some (row_in c.args.self.now c.state-state.result.now c.args.client c.args.page c.row-row.result c.state-state.ensures.value c.row-row.ensures.value))
    ∙ c.if-lacks_grant.false in
    search rules

pub returns-in_err-ask_read-clause-err : goal.returns-in_err-ask_read-clause-err
returns-in_err-ask_read-clause-err c =
    let none = c.lacks_grant.ensures c.args.txn c.args.page
    (stands_in c.args.self.now c.state-state.result.now c.args.client c.args.txn c.standing-standing.result c.state-state.ensures.value c.standing-standing.ensures.value c.standing-standing.ensures.last)
    (c.is_some.ensures ∙ ap is_some (row_in c.args.self.now c.state-state.result.now c.args.client c.args.page c.row-row.result c.state-state.ensures.value c.row-row.ensures.value))
    ∙ c.if-lacks_grant.false in
    search rules

pub returns-in_err-ask_read-clause-left : goal.returns-in_err-ask_read-clause-left
returns-in_err-ask_read-clause-left c =
    if_err c.from_residual-in_err-ask_read.result (left_then c.args.self.now c.reserve.new.self c.ask_read.new.self c.in_ok-nobody_waits.ensures.left c.in_err-ask_read.ensures.left)

pub is_free-at_once-requires-clause-row : goal.is_free-at_once-requires-clause-row
is_free-at_once-requires-clause-row c =
    row_left c.args.self.now c.reserve.new.self c.args.client c.args.page c.row-row.result c.in_ok-nobody_waits.ensures.left.server
    (row_in c.args.self.now c.state-state.result.now c.args.client c.args.page c.row-row.result c.state-state.ensures.value c.row-row.ensures.value)

pub is_free-at_once-requires-clause-nobody : goal.is_free-at_once-requires-clause-nobody
is_free-at_once-requires-clause-nobody c =
    c.in_ok-nobody_waits.ensures.nobody ∙ sym (ap (λ (s : Server). asks_below s s.pages == 0) c.in_ok-nobody_waits.ensures.left.server)

pub grant_free-requires-clause-current : goal.grant_free-requires-clause-current
grant_free-requires-clause-current c = current_reserved c.args.self.now c.reserve.new.self c.args.client c.args.incarnation c.in_ok-nobody_waits.ensures.left.server c.requires.current

pub grant_free-requires-clause-stands : goal.grant_free-requires-clause-stands
grant_free-requires-clause-stands c =
    stands_left c.args.self.now c.reserve.new.self c.args.client c.args.txn c.standing-standing.result c.in_ok-nobody_waits.ensures.left.server
    (stands_in c.args.self.now c.state-state.result.now c.args.client c.args.txn c.standing-standing.result c.state-state.ensures.value c.standing-standing.ensures.value c.standing-standing.ensures.last)

pub grant_free-requires-clause-number : goal.grant_free-requires-clause-number
grant_free-requires-clause-number c =
    number_by c.args.self.now c.reserve.new.self c.args.client c.args.txn c.args.page c.in_ok-nobody_waits.ensures.left.server
    (c.lacks_grant.ensures c.args.txn c.args.page
    (stands_in c.args.self.now c.state-state.result.now c.args.client c.args.txn c.standing-standing.result c.state-state.ensures.value c.standing-standing.ensures.value c.standing-standing.ensures.last)
    (c.is_some.ensures ∙ ap is_some (row_in c.args.self.now c.state-state.result.now c.args.client c.args.page c.row-row.result c.state-state.ensures.value c.row-row.ensures.value))
    ∙ c.if-lacks_grant.false)

pub grant_free-requires-clause-free : goal.grant_free-requires-clause-free
grant_free-requires-clause-free c = sym c.is_free-at_once.ensures ∙ c.if-at_once.true

pub grant_free-requires-clause-room : goal.grant_free-requires-clause-room
grant_free-requires-clause-room c = can_say_to c.reserve.new.self (AskRead c.args.txn c.args.page) c.in_ok-nobody_waits.ensures.ok

pub returns-then-at_once-clause-ok : goal.returns-then-at_once-clause-ok
returns-then-at_once-clause-ok c =
    serves c.args.self.now c.reserve.new.self c.grant_free.new.self (λ s. take_current on_cycle s c.args.client (AskRead c.args.txn c.args.page)) c.in_ok-nobody_waits.ensures.left c.grant_free.ensures

pub returns-then-at_once-clause-taken : goal.returns-then-at_once-clause-taken
returns-then-at_once-clause-taken c =
    c.lacks_grant.ensures c.args.txn c.args.page
    (stands_in c.args.self.now c.state-state.result.now c.args.client c.args.txn c.standing-standing.result c.state-state.ensures.value c.standing-standing.ensures.value c.standing-standing.ensures.last)
    (c.is_some.ensures ∙ ap is_some (row_in c.args.self.now c.state-state.result.now c.args.client c.args.page c.row-row.result c.state-state.ensures.value c.row-row.ensures.value))
    ∙ c.if-lacks_grant.false
