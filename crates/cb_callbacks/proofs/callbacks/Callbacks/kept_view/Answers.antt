-- Goals of `Callbacks::kept_view`.
use Rattle.std.proofs.Common.{subst}
use Rattle.cb_callbacks.specs.Callbacks.{CallbacksState}
use Rattle.cb_server_state.specs.States.{server_of}
use Rattle.cb_waits.specs.Follows.{Follows}
use Rattle.cb_callbacks.proofs.callbacks.Callbacks.kept_view.Goals as goal

pub returns : goal.returns
returns c = subst (λ (v : CallbacksState). Follows c.self.inside.view (server_of v.state)) c.self.view_is c.self.invariant.follows
