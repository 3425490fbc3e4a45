-- Goals of `ServerState::grant_first`.
use Rattle.std.proofs.Common.{[], ◌∷◌, ◌≡◌, Some, slice_get, subst}
use Rattle.std.specs.Option.{option_map}
use Rattle.cb_asks.specs.Asks.{AsksState, queue_at}
use Rattle.cb_asks.specs.Queues.{asked}
use Rattle.cb_outbox.proofs.Saying.{says_then}
use Rattle.cb_protocol.specs.Server.{LeaveQueue}
use Rattle.cb_server_state.specs.Granting.{grant_copy}
use Rattle.cb_server_state.specs.States.{server_of}
use Rattle.cb_server_state.proofs.Changes.{leaves_first}
use Rattle.cb_server_state.proofs.Spending.{granted_first}
use Rattle.cb_server_state.proofs.server_state.ServerState.grant_first.Goals as goal

pub returns-clause-says : goal.returns-clause-says
returns-clause-says c =
    says_then (server_of c.args.self.now) (server_of c.grant.new.self) _
    (λ server. grant_copy server c.args.page c.args.client) (λ server. LeaveQueue c.args.page ∷ [])
    c.args.outbox.now c.grant.new.outbox c.grant.new.outbox c.grant.ensures.says
    (leaves_first c.grant.new.self c.leave.new.self c.args.page c.grant.new.outbox c.leave.ensures.leaves)

pub returns-clause-fate : goal.returns-clause-fate
returns-clause-fate c =
    granted_first (slice_get (queue_at c.args.self.now.asks c.args.page) 0) c.leave.result c.granted.result
    (subst (λ (asks : AsksState). option_map asked (slice_get (queue_at asks c.args.page) 0) ≡ Some c.leave.result) c.grant.ensures.asks c.leave.ensures.ask)
    c.granted.ensures
