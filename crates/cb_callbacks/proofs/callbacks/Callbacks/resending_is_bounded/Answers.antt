-- Goals of `Callbacks::resending_is_bounded`.
use Rattle.std.proofs.Common.{◌≤◌, ◌+◌, ◌*◌, length, subst}
use Rattle.cb_asks.specs.Asks.{asks_below}
use Rattle.cb_outbox.specs.Saying.{HasRoomFor, OutboxState}
use Rattle.cb_callbacks.specs.Callbacks.{CallbacksState}
use Rattle.cb_server_state.specs.States.{server_of}
use Rattle.cb_callbacks.proofs.Bounds.{resending_bounded, resending_by_kind}
use Rattle.cb_protocol.specs.Numbers.{messages_for_pages}
use Rattle.cb_protocol.specs.Resend.{server_again}
use Rattle.cb_callbacks.proofs.callbacks.Callbacks.resending_is_bounded.Goals as goal

pub returns-clause-by_kind : goal.returns-clause-by_kind
returns-clause-by_kind c = subst (λ (v : CallbacksState). (outbox : OutboxState) → length outbox.sent + (messages_for_pages (server_of v.state) (server_of v.state).pages + (server_of v.state).clients) ≤ outbox.room
    → HasRoomFor (server_again (server_of v.state)) outbox) c.self.view_is
    (λ outbox room. resending_by_kind (server_of c.self.inside.state) outbox room)

pub returns-clause-room : goal.returns-clause-room
returns-clause-room c = subst (λ (v : CallbacksState). (outbox : OutboxState) → length outbox.sent + (33 * asks_below (server_of v.state) (server_of v.state).pages + (server_of v.state).clients) ≤ outbox.room
    → HasRoomFor (server_again (server_of v.state)) outbox) c.self.view_is
    (λ outbox room. resending_bounded (server_of c.self.inside.state) outbox c.self.invariant.few room)
