-- Goals of `Callbacks::grant`.
use Rattle.std.proofs.Common.{◌≡◌, ◌∙◌, [], ap, sym, subst}
use Rattle.cb_asks.specs.Asks.{AsksState, queue_at}
use Rattle.cb_callbacks.specs.Callbacks.{CallbacksState}
use Rattle.cb_server_state.specs.Granting.{grant_copy}
use Rattle.cb_server_state.specs.States.{HasClient, HasPage, server_of}
use Rattle.cb_server_state.specs.Waits.{IsGreeted}
use Rattle.cb_callbacks.proofs.Page.{follows_nobody, grants_at, kept_page}
use Rattle.cb_callbacks.proofs.callbacks.Callbacks.grant.Goals as goal

pub invariant_of-self : goal.invariant_of-self
invariant_of-self c =
    kept_page c.self.inside.state c.self.inside.view c.grant.new.self c.self.inside.view c.args.page
    (grant_copy (server_of c.self.inside.state) c.args.page c.args.client) c.self.invariant
    (subst (λ (v : CallbacksState). HasPage v.state c.args.page) (sym c.self.view_is) c.requires.page)
    c.grant.ensures.agree c.grant.ensures.says.becomes
    (grants_at c.args.client c.args.page (server_of c.self.inside.state) c.self.invariant.waits
    (subst (λ (v : CallbacksState). HasClient v.state c.args.client) (sym c.self.view_is) c.requires.client)
    (subst (λ (v : CallbacksState). IsGreeted (server_of v.state) c.args.client) (sym c.self.view_is) c.requires.greeted))
    (follows_nobody (server_of c.grant.new.self) c.args.page c.self.inside.view
    (ap (λ (asks : AsksState). queue_at asks c.args.page) c.grant.ensures.asks
    ∙ subst (λ (v : CallbacksState). (server_of v.state).queue c.args.page ≡ []) (sym c.self.view_is) c.requires.nobody))
