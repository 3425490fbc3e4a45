-- Goals of `Callbacks::read_asks_of_others`.
use Rattle.std.proofs.Common.{◌≡◌, refl, subst, sym}
use Rattle.cb_callbacks.specs.Callbacks.{CallbacksState}
use Rattle.cb_server_state.specs.States.{server_of}
use Rattle.cb_protocol.specs.Server.{ForgetTransaction, after_server_step}
use Rattle.cb_protocol.specs.ServerMessages.{read_asks_below}
use Rattle.cb_callbacks.proofs.callbacks.Callbacks.read_asks_of_others.Goals as goal

pub returns : goal.returns
returns c = subst (λ (v : CallbacksState). c.read_asks_of_others.result ≡ read_asks_below (after_server_step (server_of v.state) (ForgetTransaction c.args.client)) (server_of v.state).pages) c.self.view_is
    (sym (c.read_asks_of_others.ensures (server_of c.self.inside.state) (record { queues = λ page. refl; pages = sym c.self.invariant.agree.queues })))
