-- Goals of `Callbacks::settling_is_bounded`.
use Rattle.std.proofs.Common.{rules, ◌≤◌, ◌+◌, ◌*◌, length, subst}
use Rattle.cb_asks.specs.Asks.{asks_below}
use Rattle.cb_outbox.specs.Saying.{HasRoomFor, OutboxState}
use Rattle.cb_callbacks.specs.Callbacks.{CallbacksState}
use Rattle.cb_server_state.specs.States.{server_of}
use Rattle.cb_callbacks.proofs.Bounds.{settling_bounded, settling_by_kind}
use Rattle.cb_protocol.specs.Numbers.{messages_for_pages}
use Rattle.cb_protocol.specs.ServerMessages.{read_asks_below}
use Rattle.cb_protocol.specs.Settling.{settle_pages}
use Rattle.cb_protocol.specs.WaitsFor.{on_cycle}
use Rattle.cb_callbacks.proofs.callbacks.Callbacks.settling_is_bounded.Goals as goal

pub returns-clause-by_kind : goal.returns-clause-by_kind
returns-clause-by_kind c = subst (λ (v : CallbacksState). (outbox : OutboxState) → length outbox.sent + messages_for_pages (server_of v.state) (server_of v.state).pages ≤ outbox.room
    → read_asks_below (server_of v.state) (server_of v.state).pages ≤ outbox.spare
    → HasRoomFor (settle_pages on_cycle (server_of v.state) (server_of v.state).pages) outbox) c.self.view_is
    (λ outbox room spare. settling_by_kind (server_of c.self.inside.state) outbox room spare)

pub returns-clause-room : goal.returns-clause-room
returns-clause-room c = subst (λ (v : CallbacksState). (outbox : OutboxState) → length outbox.sent + 33 * asks_below (server_of v.state) (server_of v.state).pages ≤ outbox.room
    → read_asks_below (server_of v.state) (server_of v.state).pages ≤ outbox.spare
    → HasRoomFor (settle_pages on_cycle (server_of v.state) (server_of v.state).pages) outbox) c.self.view_is
    (λ outbox room spare. settling_bounded (server_of c.self.inside.state) outbox c.self.invariant.few room spare)

pub returns-clause-few : goal.returns-clause-few
returns-clause-few c = search rules
