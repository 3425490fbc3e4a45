-- What holds at each turn of the loops of `ServerState::commit_allowed`.
use Rattle.std.proofs.Common.{◌≡◌, drop}
use Rattle.cb_server_state.specs.States.{server_of}
use Rattle.cb_outbox.specs.Messages.{page_writes}
use Rattle.cb_protocol.specs.ServerMessages.{commit_allowed}
use Rattle.cb_server_state.proofs.server_state.ServerState.commit_allowed.Given as goal

-- what is left decides
abbrev pub invariant-loop-write : goal.invariant-loop-write
invariant-loop-write l =
    commit_allowed (server_of l.self) l.client (page_writes (drop l.write-index l.writes))
    ≡ commit_allowed (server_of l.self) l.client (page_writes l.writes)
