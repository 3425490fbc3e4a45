-- Goals of `Callbacks::doom`.
use Rattle.std.proofs.Common.{◌≡◌, sym, subst, true}
use Rattle.cb_protocol.specs.Server.{has_ask}
use Rattle.cb_protocol.specs.Settling.{doom_client}
use Rattle.cb_callbacks.specs.Callbacks.{CallbacksState}
use Rattle.cb_server_state.specs.States.{server_of}
use Rattle.cb_callbacks.proofs.Left.{dooms_left}
use Rattle.cb_callbacks.proofs.Kept.{kept_left}
use Rattle.cb_callbacks.proofs.callbacks.Callbacks.doom.Goals as goal

pub invariant_of-self : goal.invariant_of-self
invariant_of-self c =
    kept_left c.self.inside.state c.self.inside.view c.doom.new.self c.follow_left.new.view c.args.client c.args.page (doom_client (server_of c.self.inside.state) c.args.client) c.self.invariant
    here c.doom.ensures.agree c.doom.ensures.says.becomes (dooms_left c.args.client c.args.page _ c.self.invariant.waits here) c.follow_left.ensures
  where
    here : has_ask c.args.client ((server_of c.self.inside.state).queue c.args.page) ≡ true
    here = subst (λ (v : CallbacksState). has_ask c.args.client ((server_of v.state).queue c.args.page) ≡ true) (sym c.self.view_is) c.requires.here
