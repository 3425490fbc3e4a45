-- Goals of `Callbacks::decide_write`.
use Rattle.std.proofs.Common.{◌≡◌, ◌∙◌, sym, subst, true, false}
use Rattle.cb_asks.specs.Queues.{waiting_ask}
use Rattle.cb_protocol.specs.Server.{has_row}
use Rattle.cb_protocol.specs.Settling.{call_back_once, no_other_holder, sole_row}
use Rattle.cb_protocol.specs.WaitsFor.{on_cycle}
use Rattle.cb_callbacks.specs.Callbacks.{CallbacksState}
use Rattle.cb_callbacks.specs.Deciding.{IsFirst}
use Rattle.cb_server_state.specs.States.{server_of}
use Rattle.cb_callbacks.proofs.Deciding.{may_write, not_all, room_permitted, room_tested, room_told, room_write_waits, writes_permitted, writes_wait}
use Rattle.cb_callbacks.proofs.Kept.{first_known}
use Rattle.cb_callbacks.proofs.callbacks.Callbacks.decide_write.Goals as goal

pub has_row-has_copy-requires-clause-client : goal.has_row-has_copy-requires-clause-client
has_row-has_copy-requires-clause-client c =
    first_known c.self.inside.state c.args.page (waiting_ask c.args.first) c.self.invariant.waits
    (subst (λ (v : CallbacksState). IsFirst v.state c.args.page (waiting_ask c.args.first)) (sym c.self.view_is) c.requires.first)

pub permit_first-requires-clause-sole : goal.permit_first-requires-clause-sole
permit_first-requires-clause-sole c =
    subst (λ (v : CallbacksState). sole_row (server_of v.state) c.args.page c.args.first.client (server_of v.state).clients ≡ true) c.self.view_is
    (sym c.sole_row-is_alone.ensures ∙ c.if-is_alone.true)

pub permit_first-requires-clause-room : goal.permit_first-requires-clause-room
permit_first-requires-clause-room c =
    let free = subst (λ (v : CallbacksState). no_other_holder ((server_of v.state).store.holder c.args.page) c.args.first.client ≡ true) c.self.view_is
    (sym c.no_other_holder-is_free.ensures ∙ c.if-is_free.true) in
    let copy = subst (λ (v : CallbacksState). has_row (server_of v.state) c.args.first.client c.args.page c.args.grant ≡ true) c.self.view_is
    (sym c.has_row-has_copy.ensures ∙ c.if-has_copy.true) in
    let sole = subst (λ (v : CallbacksState). sole_row (server_of v.state) c.args.page c.args.first.client (server_of v.state).clients ≡ true) c.self.view_is
    (sym c.sole_row-is_alone.ensures ∙ c.if-is_alone.true) in
    room_permitted on_cycle (server_of c.args.self.now.state) c.args.page (waiting_ask c.args.first) c.args.grant c.args.outbox.now free copy sole c.requires.room

pub call_back_once-requires-clause-room : goal.call_back_once-requires-clause-room
call_back_once-requires-clause-room c =
    let some_not = not_all c.no_other_holder-is_free.result c.has_row-has_copy.result c.sole_row-is_alone.result c.else-is_free.either in
    let none : may_write (server_of c.args.self.now.state) c.args.page (waiting_ask c.args.first) c.args.grant ≡ false =
    subst (λ (v : CallbacksState). may_write (server_of v.state) c.args.page (waiting_ask c.args.first) c.args.grant ≡ false) c.self.view_is
    (rw (← c.no_other_holder-is_free.ensures, ← c.has_row-has_copy.ensures, ← c.sole_row-is_alone.ensures) some_not) in
    room_told on_cycle (server_of c.args.self.now.state) c.args.first.client
    (call_back_once (server_of c.args.self.now.state) c.args.page (waiting_ask c.args.first)) c.args.outbox.now
    (room_write_waits on_cycle (server_of c.args.self.now.state) c.args.page (waiting_ask c.args.first) c.args.grant c.args.outbox.now none c.requires.room)

pub wait_or_doom-requires-clause-room : goal.wait_or_doom-requires-clause-room
wait_or_doom-requires-clause-room c =
    let some_not = not_all c.no_other_holder-is_free.result c.has_row-has_copy.result c.sole_row-is_alone.result c.else-is_free.either in
    let none : may_write (server_of c.args.self.now.state) c.args.page (waiting_ask c.args.first) c.args.grant ≡ false =
    subst (λ (v : CallbacksState). may_write (server_of v.state) c.args.page (waiting_ask c.args.first) c.args.grant ≡ false) c.self.view_is
    (rw (← c.no_other_holder-is_free.ensures, ← c.has_row-has_copy.ensures, ← c.sole_row-is_alone.ensures) some_not) in
    room_tested on_cycle (server_of c.args.self.now.state) (server_of c.call_back_once.new.self.state) c.args.first.client
    (λ server. call_back_once server c.args.page (waiting_ask c.args.first)) c.args.outbox.now c.call_back_once.new.outbox
    (room_write_waits on_cycle (server_of c.args.self.now.state) c.args.page (waiting_ask c.args.first) c.args.grant c.args.outbox.now none c.requires.room)
    c.call_back_once.ensures.says

pub returns-then-is_alone-clause-decides : goal.returns-then-is_alone-clause-decides
returns-then-is_alone-clause-decides c =
    let free = subst (λ (v : CallbacksState). no_other_holder ((server_of v.state).store.holder c.args.page) c.args.first.client ≡ true) c.self.view_is
    (sym c.no_other_holder-is_free.ensures ∙ c.if-is_free.true) in
    let copy = subst (λ (v : CallbacksState). has_row (server_of v.state) c.args.first.client c.args.page c.args.grant ≡ true) c.self.view_is
    (sym c.has_row-has_copy.ensures ∙ c.if-has_copy.true) in
    let sole = subst (λ (v : CallbacksState). sole_row (server_of v.state) c.args.page c.args.first.client (server_of v.state).clients ≡ true) c.self.view_is
    (sym c.sole_row-is_alone.ensures ∙ c.if-is_alone.true) in
    writes_permitted on_cycle (server_of c.args.self.now.state) (server_of c.permit_first.new.self.state) c.args.page (waiting_ask c.args.first) c.args.grant
    c.args.outbox.now c.permit_first.new.outbox free copy sole c.permit_first.ensures.says

pub returns-else-is_free-clause-decides : goal.returns-else-is_free-clause-decides
returns-else-is_free-clause-decides c =
    let some_not = not_all c.no_other_holder-is_free.result c.has_row-has_copy.result c.sole_row-is_alone.result c.else-is_free.either in
    let none : may_write (server_of c.args.self.now.state) c.args.page (waiting_ask c.args.first) c.args.grant ≡ false =
    subst (λ (v : CallbacksState). may_write (server_of v.state) c.args.page (waiting_ask c.args.first) c.args.grant ≡ false) c.self.view_is
    (rw (← c.no_other_holder-is_free.ensures, ← c.has_row-has_copy.ensures, ← c.sole_row-is_alone.ensures) some_not) in
    writes_wait on_cycle (server_of c.args.self.now.state) (server_of c.call_back_once.new.self.state) (server_of c.wait_or_doom.new.self.state) c.args.page
    (waiting_ask c.args.first) c.args.grant c.wait_or_doom.result c.args.outbox.now c.call_back_once.new.outbox c.wait_or_doom.new.outbox none
    c.call_back_once.ensures.says c.wait_or_doom.ensures.decides
