-- Goals of `Callbacks::decide_read`.
use Rattle.std.proofs.Common.{◌≡◌, ◌∙◌, ◌<◌, ◌&&◌, ℕ, sym, subst, ap, false, rules, Bool}
use Rattle.cb_asks.specs.Queues.{waiting_ask}
use Rattle.cb_protocol.specs.Basics.{is_none}
use Rattle.cb_protocol.specs.Settling.{downgrade_once, no_other_holder}
use Rattle.cb_protocol.specs.WaitsFor.{on_cycle}
use Rattle.cb_callbacks.specs.Callbacks.{CallbacksState}
use Rattle.cb_callbacks.specs.Deciding.{IsFirst}
use Rattle.cb_server_state.specs.States.{server_of}
use Rattle.cb_callbacks.proofs.Deciding.{may_read, not_both, reads_wait, room_read_waits, room_tested}
use Rattle.cb_callbacks.proofs.Kept.{first_known}
use Rattle.cb_callbacks.proofs.Queues.{left_for}
use Rattle.cb_callbacks.proofs.callbacks.Callbacks.decide_read.Goals as goal

pub row-requires-clause-client : goal.row-requires-clause-client
row-requires-clause-client c =
    subst (λ (n : ℕ). c.args.first.client < n) (sym c.self.invariant.agree.clients)
    (first_known c.self.inside.state c.args.page (waiting_ask c.args.first) c.self.invariant.waits
    (subst (λ (v : CallbacksState). IsFirst v.state c.args.page (waiting_ask c.args.first)) (sym c.self.view_is) c.requires.first))

pub grant_first-requires-clause-left : goal.grant_first-requires-clause-left
grant_first-requires-clause-left c =
    left_for (server_of c.args.self.now.state) c.args.page (waiting_ask c.args.first) _ c.requires.page c.requires.first c.requires.reads c.requires.left

pub returns-else-is_free-clause-decides : goal.returns-else-is_free-clause-decides
returns-else-is_free-clause-decides c =
    let neither = not_both c.no_other_holder-is_free.result c.is_none-has_none.result c.else-is_free.either in
    let free = c.no_other_holder-is_free.ensures in
    let none : c.is_none-has_none.result ≡ is_none (((server_of c.self.inside.state).session c.args.first.client).row c.args.page) = search rules in
    let both : may_read (server_of c.args.self.now.state) c.args.page (waiting_ask c.args.first) ≡ false =
    subst (λ (v : CallbacksState). may_read (server_of v.state) c.args.page (waiting_ask c.args.first) ≡ false) c.self.view_is
    (sym (ap (λ (b : Bool). b && c.is_none-has_none.result) free
    ∙ ap (λ (b : Bool). no_other_holder ((server_of c.self.inside.state).store.holder c.args.page) c.args.first.client && b) none) ∙ neither) in
    reads_wait on_cycle (server_of c.args.self.now.state) (server_of c.downgrade_once.new.self.state) (server_of c.wait_or_doom.new.self.state) c.args.page
    (waiting_ask c.args.first) c.wait_or_doom.result c.args.outbox.now c.downgrade_once.new.outbox c.wait_or_doom.new.outbox both
    c.downgrade_once.ensures.says c.wait_or_doom.ensures.decides

pub wait_or_doom-requires-clause-room : goal.wait_or_doom-requires-clause-room
wait_or_doom-requires-clause-room c =
    let neither = not_both c.no_other_holder-is_free.result c.is_none-has_none.result c.else-is_free.either in
    let free = c.no_other_holder-is_free.ensures in
    let none : c.is_none-has_none.result ≡ is_none (((server_of c.self.inside.state).session c.args.first.client).row c.args.page) = search rules in
    let both : may_read (server_of c.args.self.now.state) c.args.page (waiting_ask c.args.first) ≡ false =
    subst (λ (v : CallbacksState). may_read (server_of v.state) c.args.page (waiting_ask c.args.first) ≡ false) c.self.view_is
    (sym (ap (λ (b : Bool). b && c.is_none-has_none.result) free
    ∙ ap (λ (b : Bool). no_other_holder ((server_of c.self.inside.state).store.holder c.args.page) c.args.first.client && b) none) ∙ neither) in
    room_tested on_cycle (server_of c.args.self.now.state) (server_of c.downgrade_once.new.self.state) c.args.first.client
    (λ server. downgrade_once server c.args.page (waiting_ask c.args.first)) c.args.outbox.now c.downgrade_once.new.outbox
    (room_read_waits on_cycle (server_of c.args.self.now.state) c.args.page (waiting_ask c.args.first) c.args.outbox.now both c.requires.room)
    c.downgrade_once.ensures.says
