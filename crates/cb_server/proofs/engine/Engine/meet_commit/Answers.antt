-- Goals of `Engine::meet_commit`.
use Rattle.std.proofs.Common.{rules, ◌≡◌, ◌∙◌, false, sym, subst}
use Rattle.cb_outbox.specs.Messages.{page_writes}
use Rattle.cb_protocol.specs.Messages.{Commit}
use Rattle.cb_protocol.specs.Server.{Server}
use Rattle.cb_protocol.specs.ServerMessages.{take_current}
use Rattle.cb_protocol.specs.WaitsFor.{on_cycle}
use Rattle.cb_callbacks.specs.Numbers as numbers
use Rattle.cb_server.specs.Answering.{applies}
use Rattle.cb_server.proofs.Beginning.{current_reserved, stands_in, stands_left}
use Rattle.cb_server.proofs.Making.{serves, takes}
use Rattle.cb_server.proofs.PuttingOff.{puts_off}
use Rattle.cb_server.proofs.Rooms.{can_say_to, settles_after_answer}
use Rattle.cb_server.proofs.engine.Engine.meet_commit.Goals as goal

pub is_applied-is_applied-requires-clause-stands : goal.is_applied-is_applied-requires-clause-stands
is_applied-is_applied-requires-clause-stands c =
    stands_in c.args.self.now c.state.result.now c.args.client c.args.txn c.standing-standing.result c.state.ensures.value c.standing-standing.ensures.value c.standing-standing.ensures.last

pub pass_over-requires-clause-current : goal.pass_over-requires-clause-current
pass_over-requires-clause-current c = current_reserved c.args.self.now c.reserve.new.self c.args.client c.args.incarnation c.in_ok-reserve.ensures.left.server c.requires.current

pub pass_over-requires-clause-stands : goal.pass_over-requires-clause-stands
pass_over-requires-clause-stands c =
    stands_left c.args.self.now c.reserve.new.self c.args.client c.args.txn c.standing-standing.result c.in_ok-reserve.ensures.left.server
    (stands_in c.args.self.now c.state.result.now c.args.client c.args.txn c.standing-standing.result c.state.ensures.value c.standing-standing.ensures.value c.standing-standing.ensures.last)

pub pass_over-requires-clause-room : goal.pass_over-requires-clause-room
pass_over-requires-clause-room c = can_say_to c.reserve.new.self (Commit c.args.txn (page_writes c.args.writes.now)) c.in_ok-reserve.ensures.ok

pub settle-requires : goal.settle-requires
settle-requires c =
    settles_after_answer c.reserve.new.self c.pass_over.new.self c.args.client (Commit c.args.txn (page_writes c.args.writes.now)) c.in_ok-reserve.ensures.ok
    (subst (λ (s : Server). numbers.LacksNumber s c.args.client (Commit c.args.txn (page_writes c.args.writes.now)) false) (sym c.in_ok-reserve.ensures.left.server)
    (c.lacks_number_if_applied.ensures (page_writes c.args.writes.now) c.is_applied-is_applied.ensures ∙ c.if-lacks_number_if_applied.false))
    (c.pass_over.ensures (page_writes c.args.writes.now)
    (subst (λ (s : Server). applies s c.args.client c.args.txn (page_writes c.args.writes.now) ≡ false) (sym c.in_ok-reserve.ensures.left.server)
    (sym c.is_applied-is_applied.ensures ∙ c.if-is_applied.false)))

pub returns-clause-ok : goal.returns-clause-ok
returns-clause-ok c =
    serves c.args.self.now c.reserve.new.self c.settle.new.self (λ s. take_current on_cycle s c.args.client (Commit c.args.txn (page_writes c.args.writes.now))) c.in_ok-reserve.ensures.left
    (takes c.reserve.new.self c.pass_over.new.self c.settle.new.self c.args.client (Commit c.args.txn (page_writes c.args.writes.now))
    (c.pass_over.ensures (page_writes c.args.writes.now)
    (subst (λ (s : Server). applies s c.args.client c.args.txn (page_writes c.args.writes.now) ≡ false) (sym c.in_ok-reserve.ensures.left.server)
    (sym c.is_applied-is_applied.ensures ∙ c.if-is_applied.false)))
    c.settle.ensures)

pub returns-clause-taken : goal.returns-clause-taken
returns-clause-taken c = c.lacks_number_if_applied.ensures (page_writes c.args.writes.now) c.is_applied-is_applied.ensures ∙ c.if-lacks_number_if_applied.false

pub returns-then-lacks_number_if_applied-clause-err : goal.returns-then-lacks_number_if_applied-clause-err
returns-then-lacks_number_if_applied-clause-err c = c.lacks_number_if_applied.ensures (page_writes c.args.writes.now) c.is_applied-is_applied.ensures ∙ c.if-lacks_number_if_applied.true

pub returns-in_err-reserve-clause-err : goal.returns-in_err-reserve-clause-err
returns-in_err-reserve-clause-err c =
    let none = c.lacks_number_if_applied.ensures (page_writes c.args.writes.now) c.is_applied-is_applied.ensures ∙ c.if-lacks_number_if_applied.false in
    search rules

pub returns-then-is_applied-clause-ok : goal.returns-then-is_applied-clause-ok
returns-then-is_applied-clause-ok c =
    puts_off c.args.self.now c.reserve.new.self c.args.client c.args.incarnation c.args.txn c.standing-standing.result (page_writes c.args.writes.now) c.in_ok-reserve.ensures.left
    c.in_ok-reserve.ensures.callbacks c.requires.current c.in_ok-reserve.ensures.ok
    (stands_in c.args.self.now c.state.result.now c.args.client c.args.txn c.standing-standing.result c.state.ensures.value c.standing-standing.ensures.value c.standing-standing.ensures.last)
    (c.lacks_number_if_applied.ensures (page_writes c.args.writes.now) c.is_applied-is_applied.ensures ∙ c.if-lacks_number_if_applied.false)
    (sym c.is_applied-is_applied.ensures ∙ c.if-is_applied.true)

pub returns-then-is_applied-clause-taken : goal.returns-then-is_applied-clause-taken
returns-then-is_applied-clause-taken c = c.lacks_number_if_applied.ensures (page_writes c.args.writes.now) c.is_applied-is_applied.ensures ∙ c.if-lacks_number_if_applied.false
