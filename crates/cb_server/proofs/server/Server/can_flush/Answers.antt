-- Goals of `Server::can_flush`.
use Rattle.std.proofs.Common.{◌∙◌, ap}
use Rattle.cb_protocol.specs.Flush.{can_flush}
use Rattle.cb_server_state.specs.States as states
use Rattle.cb_server_state.specs.declared.server_state.ServerState.{ServerState}
use Rattle.cb_server.specs.ServerValue.{ServerValue, server_of}
use Rattle.cb_server.proofs.Flushing.{can_flush_test}
use Rattle.cb_server.proofs.server.Server.can_flush.Goals as goal

pub returns : goal.returns
returns c =
    can_flush_test c.can_flush.result c.state.result.now c.args.number c.can_flush.ensures
    ∙ ap (λ (v : ServerState). can_flush (states.server_of v) c.args.number) c.state.ensures.value
    ∙ ap (λ (v : ServerValue). can_flush (server_of v) c.args.number) c.self.view_is
