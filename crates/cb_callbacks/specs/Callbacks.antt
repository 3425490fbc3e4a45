-- What a server has, and the view of who waits for whom.
use Rattle.std.specs.Prelude.{◌≤◌}
use Rattle.cb_server_state.specs.States.{PartsAgree, server_of}
use Rattle.cb_server_state.specs.Waits.{Waits}
use Rattle.cb_server_state.specs.declared.server_state.ServerState.{ServerState}
use Rattle.cb_waits.specs.Follows.{Follows}
use Rattle.cb_waits.specs.Graph.{Edges}

pub record CallbacksState : Type 0 where
  pub state : ServerState
  pub view : Edges

-- the parts of the state agree, of at most 32 clients, and the view has exactly the edges of the
-- protocol's server
pub record AreCallbacks (callbacks : CallbacksState) : Type 0 where
  pub agree : PartsAgree callbacks.state
  pub waits : Waits (server_of callbacks.state)
  pub follows : Follows callbacks.view (server_of callbacks.state)
  pub few : (server_of callbacks.state).clients ≤ 32
