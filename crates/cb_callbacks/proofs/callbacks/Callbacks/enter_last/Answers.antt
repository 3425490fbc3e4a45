-- Goals of `Callbacks::enter_last`.
use Rattle.std.proofs.Common.{◌≡◌, ◌∷◌, [], sym, subst, true, false}
use Rattle.cb_callbacks.specs.Callbacks.{CallbacksState}
use Rattle.cb_server_state.specs.States.{HasClient, HasPage, server_of}
use Rattle.cb_server_state.specs.Waits.{IsGreeted}
use Rattle.cb_server_state.proofs.Changes.{agree_asks}
use Rattle.cb_callbacks.proofs.Entering.{enters_at, enters_becomes, none_asks}
use Rattle.cb_callbacks.proofs.Page.{kept_page}
use Rattle.cb_protocol.specs.Server.{EnterQueue}
use Rattle.cb_protocol.specs.ServerMessages.{has_waiting_ask, new_ask}
use Rattle.cb_protocol.specs.Session.{has_live_txn}
use Rattle.cb_callbacks.proofs.callbacks.Callbacks.enter_last.Goals as goal

pub enter-requires-clause-new : goal.enter-requires-clause-new
enter-requires-clause-new c = none_asks (server_of c.self.inside.state) c.args.client c.self.invariant.waits
    (subst (λ (v : CallbacksState). has_waiting_ask (server_of v.state) c.args.client (server_of v.state).pages ≡ false) (sym c.self.view_is) c.requires.new)

pub follow_page-requires-clause-agree : goal.follow_page-requires-clause-agree
follow_page-requires-clause-agree c = agree_asks c.self.inside.state c.enter.new.self c.self.invariant.agree c.enter.ensures.has.pages

pub invariant_of-self : goal.invariant_of-self
invariant_of-self c =
    kept_page c.self.inside.state c.self.inside.view _ c.follow_page.new.view c.args.page (EnterQueue c.args.page (new_ask c.args.client c.args.write_grant) ∷ []) c.self.invariant
    page
    (agree_asks c.self.inside.state c.enter.new.self c.self.invariant.agree c.enter.ensures.has.pages)
    (enters_becomes c.self.inside.state c.enter.new.self c.args.client c.args.page c.args.write_grant c.enter.ensures)
    (enters_at (server_of c.self.inside.state) c.args.page (new_ask c.args.client c.args.write_grant) c.self.invariant.waits page
    (subst (λ (v : CallbacksState). HasClient v.state c.args.client) (sym c.self.view_is) c.requires.client)
    (subst (λ (v : CallbacksState). IsGreeted (server_of v.state) c.args.client) (sym c.self.view_is) c.requires.greeted)
    (subst (λ (v : CallbacksState). has_live_txn ((server_of v.state).session c.args.client) ≡ true) (sym c.self.view_is) c.requires.live)
    (subst (λ (v : CallbacksState). has_waiting_ask (server_of v.state) c.args.client (server_of v.state).pages ≡ false) (sym c.self.view_is) c.requires.new))
    c.follow_page.ensures
  where
    page : HasPage c.self.inside.state c.args.page
    page = subst (λ (v : CallbacksState). HasPage v.state c.args.page) (sym c.self.view_is) c.requires.page
