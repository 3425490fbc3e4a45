-- Goals of `Server::batch`.
use Rattle.std.proofs.Common.{◌≡◌, ◌∙◌, Option, ap, subst, true, IfSome}
use Rattle.std.proofs.lemmas.Result.{IfOk-weaker}
use Rattle.std.specs.Option.{option_map}
use Rattle.cb_commit.specs.Batches.{BatchState}
use Rattle.cb_protocol.specs.Flush.{can_flush, next_batch}
use Rattle.cb_server_state.proofs.Committed.{batches}
use Rattle.cb_server_state.specs.Commits.{batch_of}
use Rattle.cb_server_state.specs.States as states
use Rattle.cb_server_state.specs.declared.server_state.ServerState.{ServerState}
use Rattle.cb_server.specs.ServerValue.{ServerValue, server_of}
use Rattle.cb_server.proofs.Flushing.{batch_can_be_flushed}
use Rattle.cb_server.proofs.server.Server.batch.Goals as goal

pub returns-clause-batch : goal.returns-clause-batch
returns-clause-batch c =
    IfOk-weaker c.batch.result _ _
    (λ (batch : Option BatchState) is.
    ap (option_map batch_of) is ∙ batches c.state.result.now
    ∙ ap (λ (v : ServerState). next_batch (states.server_of v)) c.state.ensures.value
    ∙ ap (λ (v : ServerValue). next_batch (server_of v)) c.self.view_is)
    c.batch.ensures.batch

pub returns-clause-can_flush : goal.returns-clause-can_flush
returns-clause-can_flush c =
    IfOk-weaker c.batch.result _ _
    (λ (batch : Option BatchState) can.
    subst (λ (v : ServerValue). IfSome batch (λ b. can_flush (server_of v) b.number ≡ true)) c.self.view_is
    (subst (λ (v : ServerState). IfSome batch (λ b. can_flush (states.server_of v) b.number ≡ true)) c.state.ensures.value
    (batch_can_be_flushed c.state.result.now batch can)))
    c.batch.ensures.can_flush
