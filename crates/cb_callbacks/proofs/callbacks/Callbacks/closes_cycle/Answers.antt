-- Goals of `Callbacks::closes_cycle`.
use Rattle.std.proofs.Common.{◌≡◌, subst}
use Rattle.cb_protocol.specs.WaitsFor.{on_cycle}
use Rattle.cb_callbacks.specs.Callbacks.{CallbacksState}
use Rattle.cb_server_state.specs.States.{server_of}
use Rattle.cb_callbacks.proofs.callbacks.Callbacks.closes_cycle.Goals as goal

pub returns : goal.returns
returns c = subst (λ (v : CallbacksState). c.closes_cycle.result ≡ on_cycle (server_of v.state) c.args.client) c.self.view_is
    (c.waits_by_place.ensures.test c.self.inside.view (server_of c.self.inside.state) c.self.invariant.waits.in_range c.self.invariant.follows
    c.args.client c.closes_cycle.result c.closes_cycle.ensures)
