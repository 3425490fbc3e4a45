-- Goals of `Callbacks::view`.
use Rattle.std.proofs.Common.{subst}
use Rattle.cb_callbacks.specs.Callbacks.{CallbacksState}
use Rattle.cb_server_state.specs.States.{server_of}
use Rattle.cb_callbacks.proofs.Anew.{follows_anew}
use Rattle.cb_waits.specs.Follows.{Follows}
use Rattle.cb_callbacks.proofs.callbacks.Callbacks.view.Goals as goal

pub returns : goal.returns
returns c = subst (λ (v : CallbacksState). Follows c.follow_pages.new.view (server_of v.state)) c.self.view_is
    (follows_anew (server_of c.self.inside.state) _ c.follow_pages.new.view c.self.invariant.waits c.nobody-view.ensures c.follow_pages.ensures)
